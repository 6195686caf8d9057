-- Where number 8 does not hold of the entries, the keys of the cells that are done are the held list.
use native.Mathlib.Omega.{arith}
use Prim.Native.Nat.{ℕ, ◌<◌}
use mathlib.Core.Path.{◌≡◌, ap, sym, ◌∙◌, subst}
use mathlib.Core.Bool.{true}
use mathlib.Core.List.{List}
use borrow.Author.Tests.{ne_eqb}
use lib.ListN.{length}
use Rattle.wire_attributes.specs.Tree.{WrapKey}
use Rattle.rules_chains.specs.Chain.{In, Root, Reached}
use Rattle.rules_chains.specs.Refusals.{EntriesConflict, Value}
use Rattle.rules_chains.proofs.Determined.{one_value}
use Rattle.state_keys.specs.Algorithms.{is_wrapping_size}
use Rattle.state_keys.specs.declared.kinds.WrappingKey.{WrappingKey}
use Rattle.state_keys.specs.Limits.{limits}
use Rattle.state.specs.Held.{key_formed, held_formed}
use Rattle.state.proofs.Kept.{held-formed, rising-distinct}
use Rattle.state.specs.declared.held.HeldKey.{HeldKey}
use Rattle.state.specs.declared.held.Held.{Held}
use Rattle.unwrap_search.specs.declared.open.Entry.{Entry}
use Rattle.unwrap_search.specs.declared.open.Cell.{Cell}
use Rattle.unwrap_search.specs.inner.Entries.{Lists}
use Rattle.state_keys.specs.Kinds.{wrapping_of, value_of}
use Rattle.unwrap_search.specs.inner.Search.{key_at, ChainGives, Searched, FoundIn, Nonzero}
use Rattle.unwrap_conflicts.proofs.ConflictLaws.{conflict-wrong, conflict-clash, found}
use Rattle.unwrap_tree.specs.inner.AllReached.{HoldsKey, HeldAre}
use Rattle.rules_chains.proofs.Members.{member-in, in-member}
use Rattle.unwrap_tree.proofs.Membership.{all-members, held_key_of}
use Rattle.unwrap_tree.proofs.Entering.{DoneAt, Entered}

formed-of : (k : HeldKey) → (k.id ≡ 0 → ⊥) → is_wrapping_size k.key.count ≡ true → key_formed k ≡ true
unfolding key_formed
formed-of k n e = rw (ne_eqb k.id 0 n) e

module _ (frame : List ℕ) (places : List Entry) (n : ℕ) (cells : List Cell) (roots : List Root) (l : List WrapKey) (size : ℕ)
    (lists : Lists frame places n l) (s : Searched roots l size cells) (nonzero : Nonzero l) (fit : is_wrapping_size size ≡ true)
    (none : EntriesConflict roots l size → ⊥) (held : Held) (x : Entered places cells n held) where
  in-l : (i : ℕ) → i < n → i < length l
  in-l i h = omega (arith, lists.count)

  gives_at : (k : HeldKey) (d : DoneAt places cells n k) → ChainGives roots l size (key_at l d.place) k.key
  gives_at k d =
      subst (ChainGives roots l size (key_at l d.place)) d.key-is (s.gives d.place (in-l d.place d.inside) d.done)

  id-at : (k : HeldKey) (d : DoneAt places cells n k) → (key_at l d.place).key_id ≡ k.id
  id-at k d = sym (lists.at d.place d.inside).id ∙ d.id-is

  reached-at : (k : HeldKey) → DoneAt places cells n k → Reached roots l size k.id (value_of k.key)
  reached-at k d =
      let g = gives_at k d in
      subst (λ (i : ℕ). Reached roots l size i (value_of k.key)) (id-at k d)
      (record { last = key_at l d.place; before = g.passed; chain = g.chain })

  is-reached : (k : HeldKey) → DoneAt places cells n k → HoldsKey roots l size k
  is-reached k d =
      let r = reached-at k d in
      record {
        x = value_of k.key;
        key-is = (gives_at k d).is;
        value = record { reached = r; every = λ y q. one_value roots l size none k.id y (value_of k.key) q r };
      }

  key-formed : (k : HeldKey) → DoneAt places cells n k → key_formed k ≡ true
  key-formed k d =
      let g = gives_at k d in
      formed-of k (λ e. nonzero d.place (in-l d.place d.inside) (id-at k d ∙ e))
      (ap (λ (m : ℕ). is_wrapping_size m) (ap (λ (a : WrappingKey). a.count) g.is ∙ g.fits) ∙ fit)

  -- the key that stands there with a Key ID has the value that every chain gives
  same_key : (i : ℕ) (y : List ℕ) → Value roots l size i y → (k : HeldKey) → k.id ≡ i → HoldsKey roots l size k → k ≡ held_key_of i y
  same_key i y v k e r =
      let w : r.x ≡ y = v.every r.x (subst (λ (a : ℕ). Reached roots l size a r.x) e r.value.reached) in
      let q = r.key-is ∙ ap wrapping_of w in
      λ t. record { id = e t; key = q t }

  found_at : (i : ℕ) (y : List ℕ) → Value roots l size i y → FoundIn roots l size cells i y
  found_at i y v =
      found frame places n cells roots l size lists s (λ w. none (conflict-wrong frame places n cells roots l size lists s w))
      (λ w. none (conflict-clash frame places n cells roots l size lists s w)) nonzero i y v.reached

  stands_by : (i : ℕ) (y : List ℕ) → Value roots l size i y → FoundIn roots l size cells i y → In (held_key_of i y) x.keys
  stands_by i y v f =
      let j : f.place < n = omega (arith, f.inside, lists.count) in
      let h = x.each f.place j f.done in
      let e : h.key.id ≡ i = h.id-is ∙ (lists.at f.place j).id ∙ f.id-is in
      subst (λ (a : HeldKey). In a x.keys) (same_key i y v h.key e (is-reached h.key (x.from h.key h.member)))
      (member-in h.key x.keys h.member)

  pub held-are : HeldAre roots l size limits held
  held-are = record {
    keys = x.keys;
    is = x.is;
    rise = x.rises;
    each = λ k m. is-reached k (x.from k (in-member k x.keys m));
    all = λ i y v. stands_by i y v (found_at i y v);
  }

  -- the list is as a member's must be
  pub are-formed : held_formed limits held ≡ true
  are-formed =
      ap (held_formed limits) x.is
      ∙ held-formed limits x.keys (omega (arith, x.few, lists.within))
      (all-members key_formed x.keys (λ k m. key-formed k (x.from k m))) (rising-distinct x.keys x.rises)
