-- What a frame whose keys are opened gives, by the member's held list, key 0 and whether fresh tree keys are read.
use native.Mathlib.Omega.{arith}
use Prim.Native.Nat.{ℕ, ◌*◌, ◌≤◌}
use mathlib.Core.Path.{◌≡◌, refl, ap, sym, subst}
use mathlib.Core.Bool.{Bool, true, false, cond}
use mathlib.Core.List.{List, []}
use lib.ListN.{length, take}
use lib.Seq.{length-take-le}
use Rattle.wire_bags.specs.Bag.{bags}
use Rattle.wire_frames.specs.Frame.{Frame}
use Rattle.wire_frames.specs.declared.exchanges.Exchange.{Exchange}
use Rattle.wire_readers.specs.inner.Values.{is_whole}
use Rattle.wire_readers.specs.declared.Stretch.{Stretch}
use Rattle.state_keys.specs.Limits.{limits}
use Rattle.state_keys.specs.Kinds.{value_of}
use Rattle.state_keys.specs.declared.kinds.WrappingKey.{WrappingKey}
use Rattle.state.specs.Held.{keys_of, held_of, held_formed}
use Rattle.state.specs.declared.State.{State}
use Rattle.state.specs.declared.held.HeldKey.{HeldKey}
use Rattle.state.specs.declared.held.Held.{Held}
use Rattle.state.proofs.Kept.{no-key-formed, keys-of-held}
use Rattle.rules_chains.specs.Chain.{Root}
use Rattle.rules_outcome.specs.Roots.{roots_of, entries_of, wrapping_size}
use Rattle.rules_outcome.specs.Holding.{new_rekey, rekey_copies, held_before}
use Rattle.std.specs.Prelude.{Option}
use Rattle.wire_attributes.specs.Tree.{WrapKey}
use Rattle.unwrap_search.specs.inner.Search.{roots_with, Nonzero}
use Rattle.unwrap_lending.specs.inner.Lending.{place_octets, lent_block, Lends, LendsHeld, LendsFirst}
use Rattle.unwrap_paths.specs.declared.held.PathHeld.{PathHeld}
use Rattle.unwrap_tree.specs.inner.Source.{Sourced, EntriesOf, EntriesStand}
use Rattle.unwrap_tree.specs.declared.source.Source.{Source}
use Rattle.unwrap_tree.specs.inner.Reached.{TreeAnswers}
use Rattle.unwrap_tree.specs.declared.held.ReachedKeys.{ReachedKeys}
use Rattle.unwrap_sas.specs.inner.Keyed.{ChecksPassed}
use Rattle.receive.specs.inner.Passing.{HeldTold}
use Rattle.receive.specs.inner.Opening.{Openable, NextTold}
use Rattle.receive.proofs.EntryLaws.{sourced, checked, own-formed, roots-are, entries-nonzero}
use Rattle.receive.proofs.AfterLaws.{told-after}

-- the held keys that a KWK ID can name in an exchange with the row e
abbrev pub named_of : Exchange → Held → Held
named_of e held = cond e.names_held_keys held (held_of limits [])

-- ---- those of them that are lent
none_lent : Lends [] [] []
unfolding lent_block
none_lent = record { fit = λ i h. absurd (omega arith); ids-are = refl; block-is = refl }

module _ (b : Bool) (held : Held) {ids block : List ℕ} {n : ℕ} (e : n ≡ cond b held.count 0) (f : LendsFirst held ids block) where
  pub named-few : n ≤ limits.held_keys
  named-few = by b e
    where
      by : (y : Bool) → n ≡ cond y held.count 0 → n ≤ limits.held_keys
      by true q = let h = f.most in omega arith
      by false q = omega arith

  pub named-ids : n ≤ length ids
  named-ids = omega (arith, named-few, f.rooms.ids-length)

  pub named-ids-count : n ≡ length (take n ids)
  named-ids-count = sym (length-take-le n ids named-ids)

  pub named-block : place_octets * n ≤ length block
  named-block = omega (arith, named-few, f.rooms.block-length)

  pub named-block-count : place_octets * n ≡ length (take (place_octets * n) block)
  named-block-count = sym (length-take-le (place_octets * n) block named-block)

  pub named-lent : LendsHeld (cond b held (held_of limits [])) (take n ids) (take (place_octets * n) block)
  named-lent = by b e
    where
      by : (y : Bool) → n ≡ cond y held.count 0 →
          LendsHeld (cond y held (held_of limits [])) (take n ids) (take (place_octets * n) block)
      by true q = subst (λ (k : ℕ). LendsHeld held (take k ids) (take (place_octets * k) block)) (sym q) f.lends
      by false q =
          subst (λ (k : ℕ). LendsHeld (held_of limits []) (take k ids) (take (place_octets * k) block)) (sym q)
          (record {
            formed = no-key-formed limits;
            lends = subst (λ (l : List HeldKey). Lends l [] []) (sym (keys-of-held limits [])) none_lent;
          })

-- ---- what numbers 2 to 7 say of the frame
module _ {e : Exchange} {m : State} {now : ℕ} {lent g k : List ℕ} {bag : Stretch} {held : Held} {zero : WrappingKey} {reads : Bool}
    {f : Frame} (o : Openable e m now lent g k bag held zero reads f) where
  pub sourced-by : Sourced e.registers reads f g k bag
  sourced-by = subst (λ (x : Bool). Sourced e.registers x f g k bag) o.fresh (sourced o.bagged)

  pub laid_by : is_whole (bags reads 0 k) ≡ true
  laid_by = subst (λ (x : Bool). is_whole (bags x 0 k) ≡ true) o.fresh o.bagged.laid

  pub checked-by : ChecksPassed reads f g k
  checked-by = subst (λ (x : Bool). ChecksPassed x f g k) o.fresh (checked o.bagged)

  pub formed-by : held_formed limits held ≡ true
  formed-by = subst (λ (x : Held). held_formed limits x ≡ true) o.list (own-formed o.bagged)

  -- what the entries reach, from the roots of the frame
  pub opened-tree : (r : ReachedKeys) →
      TreeAnswers (roots_with (value_of zero) (entries_of f) (keys_of (named_of e held))) (entries_of f) zero.count zero
      (keys_of (named_of e held)) r →
      TreeAnswers (roots_of limits m now lent f) (entries_of f) (wrapping_size limits m now lent f) zero (keys_of (named_of e held)) r
  opened-tree r t =
      let named : named_of e held ≡ named_of e m.held = ap (named_of e) (sym o.list) in
      subst (λ (x : ℕ). TreeAnswers (roots_of limits m now lent f) (entries_of f) x zero (keys_of (named_of e held)) r) o.key.size
      (subst (λ (x : List Root). TreeAnswers x (entries_of f) zero.count zero (keys_of (named_of e held)) r)
      (roots-are o.bagged (named_of e held) named zero o.key) t)

  -- by what the calls before answer
  pub reached-by : (source : Option Source) (ids block : List ℕ) → EntriesStand k f source → LendsHeld (named_of e held) ids block →
      (r : ReachedKeys) → ((l : List WrapKey) (h : Held) → EntriesOf k source l → Nonzero l → LendsHeld h ids block →
      TreeAnswers (roots_with (value_of zero) l (keys_of h)) l zero.count zero (keys_of h) r) →
      TreeAnswers (roots_of limits m now lent f) (entries_of f) (wrapping_size limits m now lent f) zero (keys_of (named_of e held)) r
  reached-by source ids block stand lends r told =
      opened-tree r (told (entries_of f) (named_of e held) stand (entries-nonzero o.bagged) lends)

  -- what is said of the list that follows the member's own
  pub told-by : (r : PathHeld) →
      NextTold (roots_of limits m now lent f) (entries_of f) (wrapping_size limits m now lent f) (new_rekey f) (rekey_copies f)
      (held_before limits e.registers held) r → HeldTold m now lent f r.over r.held
  told-by r t =
      told-after m now lent f e.registers (ap (λ (y : Exchange). y.registers) o.bagged.row) r
      (subst
      (λ (x : Held). NextTold (roots_of limits m now lent f) (entries_of f) (wrapping_size limits m now lent f) (new_rekey f) (rekey_copies f)
      (held_before limits e.registers x) r) (sym o.list) t)
