use Rattle.std.proofs.Common.{◌≤◌, length, ap, sym, ◌∙◌, not, arith, length-take}
use Rattle.state_keys.specs.Limits.{limits}
use Rattle.state_sa.specs.Entry.{blank_sa}
use Rattle.state_sa.specs.declared.entry.Sa.{Sa}
use Rattle.state_table.specs.Table.{sas_of, stays, retired_if}
use Rattle.state_table.proofs.Laws.{table-made}
use Rattle.apply.specs.inner.Tables.{outdated}
use Rattle.apply.proofs.Renewed.{renewed-start, renewed-no, renewed-yes, renewed-end}
use Rattle.apply.proofs.standing.keep_standing.Goals as goal
use Rattle.apply.proofs.standing.keep_standing.Goals.{then-not-due, else-not-due}

pub loop-a-init : goal.loop-a-init
loop-a-init c =
    let a = c.args in
    renewed-start limits.sas blank_sa (stays a.tick) (retired_if (outdated a.new) a.tick a.delay) (sas_of a.t) _ c.blank-out.ensures

pub loop-a-preserved : goal.loop-a-preserved
loop-a-preserved c =
    let l = c.loop-a in
    let a = c.args in
    let s = sas_of a.t in
    let g = retired_if (outdated a.new) a.tick a.delay in
    let few : length s ≤ limits.sas = omega (arith, length-take {A = Sa}) in
    elim c.if-not-due.branch [
      | then-not-due w ↦ rw (w.out-is, w.k-is) (renewed-yes limits.sas blank_sa (stays a.tick) g s few l.out l.k l.a-index l.invariant _
          c.loop-a-test.true (ap not (sym w.if-not-due.true ∙ c.due.ensures)) _ w.retire_old.ensures)
      | else-not-due w ↦ rw (w.out-is, w.k-is) (renewed-no limits.sas blank_sa (stays a.tick) g s few l.out l.k l.a-index l.invariant _
          c.loop-a-test.true (ap not (sym w.if-not-due.false ∙ c.due.ensures)))
    ]

pub returns : goal.returns
returns c =
    let l = c.loop-a in
    let a = c.args in
    let s = sas_of a.t in
    let few : length s ≤ limits.sas = omega (arith, length-take {A = Sa}) in
    let w = l.invariant.few in
    table-made limits l.out _ l.k l.invariant.filled (omega arith)
    (renewed-end limits.sas blank_sa (stays a.tick) (retired_if (outdated a.new) a.tick a.delay) s few l.out l.k l.a-index l.invariant
    c.loop-a-test.false)
