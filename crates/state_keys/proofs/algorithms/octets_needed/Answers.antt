use native.Mathlib.Omega.{arith}
use mathlib.Core.Path.{sym, refl, ◌∙◌}
use Rattle.state_keys.specs.Algorithms.{algorithms, needed_by}
use Rattle.state_keys.proofs.Sizes.{needed_here, needed-next, needed-end, blank_row}
use Rattle.state_keys.proofs.algorithms.octets_needed.Goals as goal

pub returns-then-is_row : goal.returns-then-is_row
unfolding needed_by
returns-then-is_row c =
    let l = c.loop-r in
    let a = c.args in
    sym (l.invariant ∙ needed_here a.kind a.id a.bits algorithms l.r-index blank_row c.loop-r-test.true
    (sym c.if-is_row.true ∙ c.is_row.ensures))

pub loop-r-init : goal.loop-r-init
loop-r-init c = refl

pub loop-r-preserved : goal.loop-r-preserved
loop-r-preserved c =
    let l = c.loop-r in
    let a = c.args in
    l.invariant ∙ needed-next a.kind a.id a.bits algorithms l.r-index blank_row c.loop-r-test.true
    (sym c.if-is_row.false ∙ c.is_row.ensures)

pub returns : goal.returns
unfolding needed_by
returns c =
    let l = c.loop-r in
    let a = c.args in
    sym (l.invariant ∙ needed-end a.kind a.id a.bits algorithms l.r-index (omega (arith, c.loop-r-test.false)))
