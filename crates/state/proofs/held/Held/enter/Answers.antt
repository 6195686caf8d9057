use native.Mathlib.Omega.{arith}
use mathlib.Core.Path.{◌≡◌, sym, ◌∙◌, ap}
use mathlib.Core.Logic.{⊎_elim}
use Prim.Native.Nat.{ℕ, ◌+◌}
use lib.ListN.{length, set}
use Rattle.state_keys.specs.Limits.{limits}
use Rattle.lists.proofs.Lists.{length-of-map}
use Rattle.lists.proofs.Place.{placing-start, placing-ahead, placing-behind, placing-count, placing-all}
use Rattle.state.specs.Held.{blank_key}
use Rattle.state.specs.inner.Entering.{id_before}
use Rattle.state.proofs.Laws.{entered-in, entered-out}
use borrow.Author.Rules.{rules}
use Rattle.state.proofs.held.Held.enter.Goals as goal

pub returns-then-n-ge-HELD_KEYS : goal.returns-then-n-ge-HELD_KEYS
returns-then-n-ge-HELD_KEYS c = entered-out limits c.args.a c.args.self c.if-n-ge-HELD_KEYS.true

pub loop-i-init : goal.loop-i-init
loop-i-init c =
    let e : length c.args.self.keys ≡ limits.held_keys = search (rules, length-of-map) in (
      c.if-n-ge-HELD_KEYS.false,
      e,
      search rules,
      placing-start id_before limits.held_keys blank_key c.args.self.keys
          c.args.self.count c.args.a _ c.blank-out.ensures,
    )

pub bounds-out-i : goal.bounds-out-i
bounds-out-i c = let g = c.loop-i.invariant.3.filled.long in omega arith

pub bounds-out-i-else-goes_ahead : goal.bounds-out-i-else-goes_ahead
bounds-out-i-else-goes_ahead c = let g = c.loop-i.invariant.3.filled.long in omega arith

pub loop-i-preserved : goal.loop-i-preserved
loop-i-preserved c =
    let l = c.loop-i in
    let t = c.args.self in
    let a = c.args.a in
    let v = l.invariant in
    let f = c.goes_ahead.ensures in
    ⊎_elim (λ w. rw (w.out-is, w.carried-is, w.placed-is) (
      v.0,
      v.1,
      omega arith,
      placing-ahead id_before limits.held_keys blank_key t.keys
          t.count a (omega arith) l.out l.carried l.placed l.i v.3 v.0 _ (omega arith) (sym w.if-goes_ahead.true ∙ f),
    ))
    (λ w. rw (w.out-is, w.carried-is, w.placed-is) (
      v.0,
      v.1,
      omega arith,
      placing-behind id_before limits.held_keys blank_key t.keys
          t.count a (omega arith) l.out l.carried l.placed l.i v.3 v.0 _ (omega arith)
          (sym w.if-goes_ahead.false ∙ f),
    )) c.if-goes_ahead.branch-raw

pub bounds-out-n : goal.bounds-out-n
bounds-out-n c = let g = c.loop-i.invariant.3.filled.long in omega arith

pub returns : goal.returns
returns c =
    let l = c.loop-i in
    let t = c.args.self in
    let a = c.args.a in
    let v = l.invariant in
    let e : t.count ≡ l.i = omega arith in
    ap (λ (i : ℕ). record { keys = set l.out i l.carried; count = t.count + 1 }) e
    ∙ entered-in limits a t _ _ v.0 (placing-all id_before limits.held_keys blank_key t.keys t.count a (omega arith) l.out
    l.carried l.placed l.i v.3 v.0 e) (placing-count id_before limits.held_keys blank_key t.keys t.count a
    (omega arith) l.out l.carried l.placed l.i v.3 v.0 e)
