use Rattle.std.proofs.Common.{arith, sym, ◌∙◌}
use Rattle.state_keys.specs.Limits.{limits}
use Rattle.state_sa.specs.Entry.{named}
use Rattle.state_table.specs.Table.{found_sa}
use Rattle.state_table.proofs.Laws.{found_in, found-out, one-here, one-next, one_end}
use Rattle.state_table.proofs.Table.find.Goals as goal

pub returns-then-self-gt-SAS : goal.returns-then-self-gt-SAS
unfolding found_sa
returns-then-self-gt-SAS c = let a = c.args in sym (found-out limits (named a.protocol a.spi.now) a.self c.if-self-gt-SAS.true)

pub returns-then-is_named : goal.returns-then-is_named
unfolding found_sa
returns-then-is_named c =
    let a = c.args in
    sym (found_in limits (named a.protocol a.spi.now) a.self c.if-self-gt-SAS.false ∙ c.loop-s.invariant
    ∙ one-here (named a.protocol a.spi.now) _ c.loop-s.s-index _ c.loop-s-test.true (sym c.if-is_named.true ∙ c.is_named.ensures))

pub loop-s-preserved : goal.loop-s-preserved
loop-s-preserved c =
    let a = c.args in
    c.loop-s.invariant ∙ one-next (named a.protocol a.spi.now) _ c.loop-s.s-index _ c.loop-s-test.true (sym c.if-is_named.false ∙ c.is_named.ensures)

pub returns : goal.returns
unfolding found_sa
returns c =
    let a = c.args in
    sym (found_in limits (named a.protocol a.spi.now) a.self c.if-self-gt-SAS.false ∙ c.loop-s.invariant
    ∙ one_end (named a.protocol a.spi.now) _ c.loop-s.s-index (omega (arith, c.loop-s-test.false)))
