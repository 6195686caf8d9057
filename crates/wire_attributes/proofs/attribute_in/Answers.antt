use Rattle.std.proofs.Common.{◌-◌, ap, ◌∙◌}
use Rattle.std.specs.Prelude.{Err}
use Rattle.wire_attributes.specs.Place.{format_fits}
use Rattle.wire_attributes.specs.declared.tables.Meaning.{Meaning}
use Rattle.wire_attributes.proofs.Loops.{exit-is, there, none-there}
use Rattle.wire_attributes.proofs.AttributeLaws.{read_is, cut-is, cut_in, formed-in, not-formed}
use Rattle.wire_attributes.proofs.attribute_in.Goals as goal

pub returns-in_err-a : goal.returns-in_err-a
returns-in_err-a c =
    let a = c.args in
    let n = none-there c.read_attribute.result (record { at = a.base }) c.in_err-a.field-0.0 c.in_err-a.ensures.value in
    exit-is _ _ c.from_residual.ensures.1 ∙ ap Err n.1 ∙ cut_in a.place a.base a.s.now (cut-is a.s.now (n.0 ∙ c.read_attribute.ensures))

pub returns-then-not-is_formed : goal.returns-then-not-is_formed
returns-then-not-is_formed c =
    let a = c.args in
    let h = c.in_ok-a.a in
    let r = read_is a.s.now h (there c.read_attribute.result _ h c.in_ok-a.ensures.value ∙ c.read_attribute.ensures) in
    not-formed a.place a.base a.s.now h.short h.kind h.start h.end r _
    (c.is_formed.ensures ∙ ap (λ (m : Meaning). format_fits m h.short (h.end - h.start)) c.meaning_in.ensures) c.if-not-is_formed.true

pub returns : goal.returns
returns c =
    let a = c.args in
    let h = c.in_ok-a.a in
    let r = read_is a.s.now h (there c.read_attribute.result _ h c.in_ok-a.ensures.value ∙ c.read_attribute.ensures) in
    formed-in a.place a.base a.s.now h.short h.kind h.start h.end r _
    (c.is_formed.ensures ∙ ap (λ (m : Meaning). format_fits m h.short (h.end - h.start)) c.meaning_in.ensures) c.if-not-is_formed.false
