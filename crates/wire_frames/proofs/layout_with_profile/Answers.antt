use Rattle.std.proofs.Common.{ap, ◌∙◌}
use Rattle.std.specs.Prelude.{Err}
use Rattle.wire_attributes.proofs.Loops.{exit-is, there, none-there}
use Rattle.wire_frames.specs.declared.IkeHeader.{IkeHeader}
use Rattle.wire_frames.specs.Exchange.{reads_fresh}
use Rattle.wire_frames.proofs.HeaderLaws.{header_is, header-not}
use Rattle.wire_frames.proofs.PayloadLaws.{frame_is, frame-broken}
use Rattle.wire_frames.proofs.LayoutNumbers.{laid}
use Rattle.wire_frames.proofs.layout_with_profile.Goals as goal

pub returns-in_err-header : goal.returns-in_err-header
returns-in_err-header c =
    let a = c.args in
    let n = none-there c.read_header.result (record { at = 0 }) c.in_err-header.field-0.0 c.in_err-header.ensures.value in
    laid a.profile a.s.now _
    (exit-is _ _ c.from_residual.ensures.1 ∙ ap Err n.1 ∙ frame-broken a.profile a.s.now (header-not a.s.now (n.0 ∙ c.read_header.ensures)))

pub returns : goal.returns
returns c =
    let a = c.args in
    let h = c.in_ok-header.header in
    let p = header_is a.s.now h (there c.read_header.result _ h c.in_ok-header.ensures.value ∙ c.read_header.ensures) in
    laid a.profile a.s.now _
    (frame_is a.profile a.s.now p.0 _
    (c.reads_fresh-fresh.ensures ∙ ap (λ (x : IkeHeader). reads_fresh a.profile x.exchange) p.1) _ (ap (λ (x : IkeHeader). x.first) p.1) _
    c.payloads_layout.ensures)
