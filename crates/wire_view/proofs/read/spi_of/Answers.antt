use Rattle.std.proofs.Common.{ap, ◌∙◌, ℕ, ◌+◌, arith}
use Rattle.octets.specs.Walk.{part}
use Rattle.wire_view.proofs.KindLaws.{of-sa}
use Rattle.wire_view.proofs.read.spi_of.Goals as goal

pub slice_bounds-result-end : goal.slice_bounds-result-end
slice_bounds-result-end c =
    let f = of-sa c.args.s.now c.in-Some-GroupSa.p (rw c.in-Some-GroupSa.field-0-is at c.in-Some-GroupSa.ensures).0 in
    omega (arith, f.head, c.spi_size-e.ensures.0)

pub returns-in-Some-GroupSa : goal.returns-in-Some-GroupSa
returns-in-Some-GroupSa c =
    let a = c.args in
    let s = a.s.now in
    let f = of-sa s c.in-Some-GroupSa.p (rw c.in-Some-GroupSa.field-0-is at c.in-Some-GroupSa.ensures).0 in (
      ap (λ (n : ℕ). part s 4 (4 + n)) c.spi_size-e.ensures.0 ∙ f.spi,
      ap (λ (n : ℕ). (a.s.ref_ptr.0, n + a.s.ref_ptr.1)) f.there,
    )
