use native.Mathlib.Omega.{arith}
use Prim.Native.Nat.{ℕ, ◌<◌}
use mathlib.Core.Path.{◌≡◌, sym, subst, ◌∙◌}
use mathlib.Core.Bool.{true}
use lib.ListN.{length, take, get_or}
use lib.Seq.{get_or-take, length-take-le}
use Rattle.state_keys.specs.Limits.{limits}
use Rattle.state_keys.specs.Algorithms.{is_wrapping_size}
use Rattle.state_keys.proofs.Sizes.{wrapping-le}
use Rattle.lists.proofs.Lists.{length-of-map}
use Rattle.state.specs.Held.{blank_key, held_formed}
use Rattle.state.specs.declared.held.HeldKey.{HeldKey}
use Rattle.state.specs.declared.held.Held.{Held}
use Rattle.unwrap_lending.proofs.HeldLaws.{get_d_any, held-within, held-size}
use Rattle.unwrap_lending.proofs.Filling.{filled_none, filled_more, filled-all}
use borrow.Author.Rules.{rules}
use Rattle.unwrap_lending.proofs.lend_keys.Goals as goal

-- `unwrap_lending::lend_keys` meets its contract.

pub slice_bounds-k-items-end : goal.slice_bounds-k-items-end
slice_bounds-k-items-end c =
    let e : length c.args.held.now.keys ≡ limits.held_keys = search (rules, length-of-map) in
    let n = held-within c.args.held.now c.requires.held_value in
    sym (length-take-le c.args.held.now.count c.args.held.now.keys (omega arith))

pub loop-i-init : goal.loop-i-init
loop-i-init c =
    let e : length c.args.held.now.keys ≡ limits.held_keys = search (rules, length-of-map) in
    (e, filled_none _ _ _ c.requires.rooms)

-- as many keys as the list counts
long : (h : Held) → held_formed limits h ≡ true → length h.keys ≡ limits.held_keys → length (take h.count h.keys) ≡ h.count
long h f e = let n = held-within h f in length-take-le h.count h.keys (omega arith)

-- the key at place i, as the code reads it
module _ (h : Held) (f : held_formed limits h ≡ true) (e : length h.keys ≡ limits.held_keys) (i : ℕ) (d : HeldKey) (g : i < h.count) where
  key-is : get_or h.keys i blank_key ≡ get_or (take h.count h.keys) i d
  key-is =
      let n = held-within h f in get_d_any h.keys i blank_key d (omega arith) ∙ sym (get_or-take h.count h.keys i d g)

  key-sized : is_wrapping_size (get_or (take h.count h.keys) i d).key.count ≡ true
  key-sized = subst (λ (k : HeldKey). is_wrapping_size k.key.count ≡ true) key-is (held-size h f e i blank_key g)

pub put-requires-clause-count_le_key_octets : goal.put-requires-clause-count_le_key_octets
put-requires-clause-count_le_key_octets c =
    let l = c.loop-i in
    let h = c.args.held.now in
    let m = long h c.requires.held_value l.invariant.0 in
    wrapping-le _
    (key-sized h c.requires.held_value l.invariant.0 l.i _ (let t : l.i < length (take h.count h.keys) = c.loop-i-test.true in omega arith))

pub loop-i-preserved : goal.loop-i-preserved
loop-i-preserved c =
    let h = c.args.held.now in
    let l = c.loop-i in
    let e = l.invariant.0 in
    let f = c.requires.held_value in
    let n = held-within h f in
    let m = long h f e in
    let t : l.i < h.count = omega arith in (
      e,
      filled_more h.keys l.ids l.block l.i l.invariant.1 (omega arith) (omega arith) _ (key-is h f e l.i _ t)
          (key-sized h f e l.i _ t) _ c.put.ensures,
    )

pub returns : goal.returns
returns c =
    let h = c.args.held.now in
    let l = c.loop-i in
    let e = l.invariant.0 in
    let n = held-within h c.requires.held_value in
    let m = long h c.requires.held_value e in
    filled-all h l.ids l.block l.i c.requires.held_value (omega arith) n (omega arith) (omega arith) l.invariant.1
