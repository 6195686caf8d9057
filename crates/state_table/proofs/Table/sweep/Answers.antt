use native.Mathlib.Omega.{arith}
use mathlib.Core.Path.{◌≡◌, sym, ◌∙◌, ap}
use mathlib.Core.Bool.{not}
use lib.ListN.{length}
use Rattle.state_keys.specs.Limits.{limits}
use Rattle.lists.proofs.Lists.{length-of-map}
use Rattle.lists.proofs.Sift.{keeping_start, keeping-no, keeping-yes, keeping-count, keeping_all}
use Rattle.state_sa.specs.Entry.{blank_sa}
use Rattle.state_table.specs.Table.{swept, not_due, stays}
use Rattle.state_table.proofs.Laws.{changed-made, changed-out}
use borrow.Author.Rules.{rules}
use Rattle.state_table.proofs.Table.sweep.Goals as goal
use Rattle.state_table.proofs.Table.sweep.Goals.{then-not-due, else-not-due}

pub returns-then-n-gt-SAS : goal.returns-then-n-gt-SAS
unfolding swept
returns-then-n-gt-SAS c = sym (changed-out limits c.args.self (not_due c.args.tick) c.if-n-gt-SAS.true)

pub loop-i-init : goal.loop-i-init
loop-i-init c =
    let e : length c.args.self.sas ≡ limits.sas = search (rules, length-of-map) in (
      c.if-n-gt-SAS.false,
      e,
      search rules,
      keeping_start limits.sas blank_sa (stays c.args.tick)
          c.args.self.sas c.args.self.count _ c.blank-out.ensures,
    )

pub offset_bounds-out-k : goal.offset_bounds-out-k
offset_bounds-out-k c = let f = c.loop-i.invariant.3.few in search rules

pub bounds-out-k : goal.bounds-out-k
bounds-out-k c =
    let v = c.loop-i.invariant in
    let g = v.3.filled.long in
    let f = v.3.few in
    omega arith

pub overflow_add-k : goal.overflow_add-k
overflow_add-k c = let f = c.loop-i.invariant.3.few in search rules

pub loop-i-preserved : goal.loop-i-preserved
loop-i-preserved c =
    let l = c.loop-i in
    let t = c.args.self in
    let n = c.args.tick in
    let v = l.invariant in
    let f = c.due.ensures in
    elim c.if-not-due.branch [
      | then-not-due w ↦
          rw (w.out-is, w.k-is) (
            v.0,
            v.1,
            omega arith,
            keeping-yes limits.sas blank_sa (stays n) t.sas t.count (omega arith) v.0 l.out l.k l.i
                v.3 _ (omega arith) (ap not (sym w.if-not-due.true ∙ f)),
          )
      | else-not-due w ↦
          rw (w.out-is, w.k-is) (
            v.0,
            v.1,
            omega arith,
            keeping-no limits.sas blank_sa (stays n) t.sas t.count (omega arith)
                v.0 l.out l.k l.i v.3 _ (omega arith) (ap not (sym w.if-not-due.false ∙ f)),
          )
    ]

pub returns : goal.returns
unfolding swept
returns c =
    let l = c.loop-i in
    let t = c.args.self in
    let n = c.args.tick in
    let v = l.invariant in
    let e : t.count ≡ l.i = omega arith in
    changed-made limits t (not_due n) _ _ v.0 (keeping_all limits.sas blank_sa (stays n) t.sas t.count (omega arith) v.0
    l.out l.k l.i v.3 e) (keeping-count limits.sas blank_sa (stays n) t.sas t.count (omega arith) v.0 l.out
    l.k l.i v.3 e)
