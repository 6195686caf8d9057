use native.Mathlib.Omega.{arith}
use mathlib.Core.Path.{◌≡◌, refl, sym, ◌∙◌}
use Prim.Native.Nat.{◌+◌}
use mathlib.Core.Bool.{Bool, true, false, cond}
use lib.ListN.{length}
use Rattle.state_keys.specs.Limits.{limits}
use Rattle.lists.proofs.Lists.{length-of-map}
use Rattle.state_table.proofs.Laws.{formed-over, testing-start, testing-not}
use Rattle.state_table.proofs.Laws.{testing-falls, testing-next, testing-last, testing-end}
use borrow.Author.Rules.{rules}
use Rattle.state_table.proofs.Table.is_formed.Goals as goal
use Rattle.state_table.proofs.Table.is_formed.Goals.{else-j-n-via-then-j-n+else-not-before, else-j-n-via-else-j-n}
use Rattle.state_table.proofs.Table.is_formed.Goals.{then-is_live_rekey, else-is_live_rekey}

pub returns-then-n-gt-SAS : goal.returns-then-n-gt-SAS
returns-then-n-gt-SAS c = formed-over limits c.args.self c.if-n-gt-SAS.true

pub loop-i-init : goal.loop-i-init
loop-i-init c =
    let e : length c.args.self.sas ≡ limits.sas = search (rules, length-of-map) in
    (refl, omega arith, c.if-n-gt-SAS.false, e, testing-start limits c.args.self c.if-n-gt-SAS.false e)

pub returns-then-not-is_formed : goal.returns-then-not-is_formed
returns-then-not-is_formed c =
    let l = c.loop-i in
    let v = l.invariant in
    testing-not limits c.args.self v.2 v.3 l.k l.i v.4 _ (omega arith)
    (sym c.if-not-is_formed.true ∙ c.is_formed.ensures)

pub returns-then-not-before : goal.returns-then-not-before
returns-then-not-before c =
    let l = c.loop-i in
    let v = l.invariant in
    testing-falls limits c.args.self v.2 v.3
    l.k l.i v.4 _ (omega arith) c.if-j-n.true
    (sym c.if-not-before.true ∙ c.before-then-j-n.ensures)

pub overflow_add-k : goal.overflow_add-k
overflow_add-k c = let l = c.loop-i in let f = l.invariant.4.few in
    record { fits = omega arith }

pub loop-i-preserved : goal.loop-i-preserved
loop-i-preserved c =
    let l = c.loop-i in
    let v = l.invariant in
    let t = c.args.self in
    let e = sym c.if-not-is_formed.false ∙ c.is_formed.ensures in
    let m = elim c.if-is_live_rekey.branch as (λ w. (b : Bool) × (b ≡ c.is_live_rekey.result) × (c.if-is_live_rekey.k ≡ cond b (l.k + 1) l.k)) [
      | then-is_live_rekey w ↦ (true, sym w.if-is_live_rekey.true, w.k-is)
      | else-is_live_rekey w ↦ (false, sym w.if-is_live_rekey.false, w.k-is)
    ] in
    let b = m.1 ∙ c.is_live_rekey.ensures in (
      refl,
      omega arith,
      v.2,
      v.3,
      elim c.else-j-n.branch [
        | else-j-n-via-then-j-n+else-not-before w ↦
            testing-next limits t v.2 v.3 l.k l.i v.4 _ (omega arith) e m.0 b w.if-j-n.true
            (sym w.if-not-before.false ∙ w.before-then-j-n.ensures) _ m.2
        | else-j-n-via-else-j-n w ↦ testing-last limits t v.2 v.3 l.k l.i v.4 _ (omega arith) e m.0 b w.if-j-n.false _ m.2
      ],
    )

pub returns : goal.returns
returns c =
    let l = c.loop-i in
    let v = l.invariant in
    testing-end limits c.args.self v.2 v.3 l.k l.i v.4 c.loop-i-test.false
