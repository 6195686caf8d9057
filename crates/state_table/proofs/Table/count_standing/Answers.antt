use Rattle.std.proofs.Common.{arith, ap, sym, ◌∙◌, not}
use Rattle.state_keys.specs.Limits.{limits}
use Rattle.state_table.specs.Table.{stays}
use Rattle.state_table.proofs.Laws.{standing-in, standing-out, counted-yes, counted-no, counted-all}
use Rattle.state_table.proofs.Table.count_standing.Goals as goal
use Rattle.state_table.proofs.Table.count_standing.Goals.{then-not-due, else-not-due}

pub returns-then-n-gt-SAS : goal.returns-then-n-gt-SAS
returns-then-n-gt-SAS c = standing-out limits c.args.tick c.args.self c.if-n-gt-SAS.true

pub loop-s-preserved : goal.loop-s-preserved
loop-s-preserved c =
    let l = c.loop-s in
    let p = stays c.args.tick in
    elim c.if-not-due.branch [
      | then-not-due w ↦
          rw w.k-is (omega arith, counted-yes p _ l.s-index l.k l.invariant.1 _ c.loop-s-test.true (ap not (sym w.if-not-due.true ∙ c.due.ensures)))
      | else-not-due w ↦
          rw w.k-is (omega arith, counted-no p _ l.s-index l.k l.invariant.1 _ c.loop-s-test.true (ap not (sym w.if-not-due.false ∙ c.due.ensures)))
    ]

pub returns : goal.returns
returns c =
    let l = c.loop-s in
    let a = c.args in
    standing-in limits a.tick a.self l.k c.if-n-gt-SAS.false
    (counted-all (stays a.tick) _ l.s-index l.k l.invariant.1 (omega (arith, c.loop-s-test.false)))
