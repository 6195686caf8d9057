use Rattle.std.proofs.Common.{arith, sym, ◌∙◌}
use Rattle.state_keys.specs.Limits.{limits}
use Rattle.state_sa.specs.Entry.{live_rekey}
use Rattle.state_table.specs.Table.{found_rekey}
use Rattle.state_table.proofs.Laws.{found_in, found-out, one-here, one-next, one_end}
use Rattle.state_table.proofs.Table.live_rekey.Goals as goal

pub returns-then-self-gt-SAS : goal.returns-then-self-gt-SAS
unfolding found_rekey
returns-then-self-gt-SAS c = let a = c.args in sym (found-out limits live_rekey a.self c.if-self-gt-SAS.true)

pub returns-then-is_live_rekey : goal.returns-then-is_live_rekey
unfolding found_rekey
returns-then-is_live_rekey c =
    let a = c.args in
    sym (found_in limits live_rekey a.self c.if-self-gt-SAS.false ∙ c.loop-s.invariant
    ∙ one-here live_rekey _ c.loop-s.s-index _ c.loop-s-test.true (sym c.if-is_live_rekey.true ∙ c.is_live_rekey.ensures))

pub loop-s-preserved : goal.loop-s-preserved
loop-s-preserved c =
    let a = c.args in
    c.loop-s.invariant ∙ one-next live_rekey _ c.loop-s.s-index _ c.loop-s-test.true (sym c.if-is_live_rekey.false ∙ c.is_live_rekey.ensures)

pub returns : goal.returns
unfolding found_rekey
returns c =
    let a = c.args in
    sym (found_in limits live_rekey a.self c.if-self-gt-SAS.false ∙ c.loop-s.invariant
    ∙ one_end live_rekey _ c.loop-s.s-index (omega (arith, c.loop-s-test.false)))
