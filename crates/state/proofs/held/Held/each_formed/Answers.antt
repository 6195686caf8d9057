use Rattle.std.proofs.Common.{arith, sym, ◌∙◌}
use Rattle.state.specs.Held.{key_formed}
use Rattle.state.proofs.Laws.{each-yes, each-no, each-end}
use Rattle.state.proofs.held.Held.each_formed.Goals as goal

pub returns-then-not-is_formed : goal.returns-then-not-is_formed
returns-then-not-is_formed c =
    sym (c.loop-k.invariant ∙ each-no key_formed _ c.loop-k.k-index _ c.loop-k-test.true (sym c.if-not-is_formed.true ∙ c.is_formed.ensures))

pub loop-k-preserved : goal.loop-k-preserved
loop-k-preserved c =
    c.loop-k.invariant ∙ each-yes key_formed _ c.loop-k.k-index _ c.loop-k-test.true (sym c.if-not-is_formed.false ∙ c.is_formed.ensures)

pub returns : goal.returns
returns c = sym (c.loop-k.invariant ∙ each-end key_formed _ c.loop-k.k-index (omega (arith, c.loop-k-test.false)))
