-- Chains from key 0 and from held keys that no entry carries end exactly on these, and on the keys of the list of reached keys.
use native.Mathlib.Omega.{arith}
use Prim.Native.Nat.{ℕ, suc, ◌-◌, ◌≤◌, ◌<◌}
use mathlib.Core.Path.{◌≡◌, refl, ap, ap₂, sym, ◌∙◌, subst}
use mathlib.Core.Bool.{true, false, false≢true}
use mathlib.Core.Logic.{◌⊎◌, inl, inr}
use mathlib.Core.List.{List, [], ◌∷◌, Memᴰ}
use borrow.Author.Tests.{eqb-true}
use lib.Dec.{eqb}
use lib.ListN.{length, take, get_or, replicate}
use lib.Seq.{take-append_seam, length-take-le}
use Rattle.wire_attributes.specs.Tree.{WrapKey}
use Rattle.rules_chains.specs.Chain.{Root, Reached, ChainEnds, root}
use Rattle.rules_chains.specs.Refusals.{EntriesConflict, Value}
use Rattle.rules_chains.specs.Path.{key_ids}
use Rattle.rules_chains.proofs.Determined.{one_value, AtRoot, ends_by, last_entry}
use Rattle.rules_chains.proofs.Laws.{entries_fit}
use Rattle.rules_chains.proofs.Members.{in-member, member-in}
use Rattle.state_keys.specs.Limits.{limits}
use Rattle.lists.specs.Lists.{any}
use Rattle.state_keys.specs.Algorithms.{size_of, is_wrapping_size}
use Rattle.state_keys.specs.Kinds.{wrapping_of, value_of}
use Rattle.state_keys.specs.declared.kinds.WrappingKey.{WrappingKey}
use Rattle.lists.proofs.Cases.{bool_cases}
use Rattle.state_keys.proofs.Sizes.{wrapping-le}
use Rattle.state.specs.Held.{blank_key, keys_of, key_with, held_formed, held_key, ids_of, has}
use Rattle.state.specs.declared.held.HeldKey.{HeldKey}
use Rattle.state.specs.declared.held.Held.{Held}
use Rattle.state.proofs.Kept.{keys-of-held, rising-distinct, distinct-found}
use Rattle.state.proofs.Laws.{key_in}
use Rattle.unwrap_lending.specs.inner.Lending.{LendsHeld, named_keys}
use Rattle.unwrap_lending.specs.inner.Named.{octets_named, value_named}
use Rattle.unwrap_lending.proofs.HeldLaws.{get_d_any, held-within, held-distinct, held-formed, all-member, key-size, not-zero}
use Rattle.unwrap_copies.specs.inner.Known.{Known, key-zero, named, Agrees}
use Rattle.unwrap_paths.specs.inner.Kept.{GivesReached}
use Rattle.unwrap_search.specs.inner.Entries.{no_wrap_key}
use Rattle.unwrap_search.specs.inner.Search.{key_at, Nonzero, carried_by, roots_with, held_roots}
use Rattle.unwrap_search.proofs.Starting.{carried-at, held-root, root-member}
use Rattle.unwrap_search.proofs.RootsFitting.{root-cases}
use Rattle.unwrap_tree.specs.inner.AllReached.{HeldAre}
use Rattle.unwrap_tree.proofs.Membership.{held_key_of}
use Rattle.std.specs.Prelude.{Option}
use Rattle.state_keys.specs.Kinds.{key_or_blank}

pub value-of : (x : List ℕ) → value_of (wrapping_of x) ≡ x
value-of x = take-append_seam x (replicate (32 - length x) 0)

size-some : (n : ℕ) → is_wrapping_size n ≡ true → n ≡ 0 → ⊥
unfolding size_of any
size-some n e z = false≢true (subst (λ (m : ℕ). is_wrapping_size m ≡ true) z e)

-- ---- the Key IDs of the entries, as an array has them
pub ids-are : (l : List WrapKey) (ids : List ℕ) (n : ℕ) → length l ≡ n → n ≤ length ids →
    ((i : ℕ) → i < n → get_or ids i 0 ≡ (key_at l i).key_id) → take n ids ≡ key_ids l
ids-are [] ids n e h f = ap (λ (m : ℕ). take m ids) (sym e)
ids-are (w ∷ l) [] n e h f = absurd (omega arith)
ids-are (w ∷ l) (a ∷ ids) n e h f =
    ap (λ (m : ℕ). take m (a ∷ ids)) (sym e)
    ∙ ap₂ (λ (i : ℕ) (m : List ℕ). i ∷ m) (f 0 (omega arith)) (ids-are l ids (length l) refl (omega arith) (λ i g. f (suc i) (omega arith)))

-- ---- the keys of the reached list, by the Key IDs of the entries
module _ (reached : Held) where
  carried-has : (id : ℕ) (l : List WrapKey) → has id (ids_of (named_keys reached (key_ids l))) ≡ carried_by l id
  unfolding any
  carried-has id [] = refl
  carried-has id (e ∷ l) =
      bool_cases (eqb e.key_id id) (λ g. rw g refl) (λ g. rw g (carried-has id l))

  named-key : (id : ℕ) (l : List WrapKey) → carried_by l id ≡ true
      → key_or_blank (key_with id (named_keys reached (key_ids l))) ≡ key_or_blank (held_key limits id reached)
  unfolding any key_with
  named-key id [] e = absurd (false≢true e)
  named-key id (a ∷ l) e =
      bool_cases (eqb a.key_id id)
      (λ g. rw g (ap (λ (i : ℕ). key_or_blank (held_key limits i reached)) (eqb-true a.key_id id g)))
      (λ g. rw g (named-key id l (rw g at e)))

  octets-carried : (id : ℕ) (l : List WrapKey) (keys : List HeldKey) → carried_by l id ≡ true →
      octets_named id (named_keys reached (key_ids l)) keys ≡ value_of (key_or_blank (held_key limits id reached))
  octets-carried id l keys e = rw (carried-has id l, e) (ap value_of (named-key id l e))

  octets-held : (id : ℕ) (l : List WrapKey) (keys : List HeldKey) → carried_by l id ≡ false →
      octets_named id (named_keys reached (key_ids l)) keys ≡ value_named id keys
  octets-held id l keys e = rw (carried-has id l, e) refl

-- ---- a key that is found stands in the list
pub record Stands (id : ℕ) (l : List HeldKey) : Type 0 where
  pub one : HeldKey
  pub member : Memᴰ one l
  pub id-is : one.id ≡ id
  pub is : key_or_blank (key_with id l) ≡ one.key

found-stands : (id : ℕ) (l : List HeldKey) → (length (value_named id l) ≡ 0 → ⊥) → Stands id l
unfolding key_with
found-stands id [] f = absurd (f refl)
found-stands id (k ∷ l) f =
    bool_cases (eqb k.id id)
    (λ g. record { one = k; member = Memᴰ.head refl; id-is = eqb-true k.id id g; is = rw g refl })
    (λ g.
    let r = found-stands id l (rw g at f) in
    record { one = r.one; member = Memᴰ.tail r.member; id-is = r.id-is; is = rw g r.is })

module _ (zero : WrappingKey) (l : List WrapKey) (size : ℕ) (held : Held) (ids block : List ℕ) (lends : LendsHeld held ids block)
    (reached : Held) (nonzero : Nonzero l) (sized : is_wrapping_size size ≡ true) where
  abbrev keys : List HeldKey
  keys = keys_of held

  abbrev roots : List Root
  roots = roots_with (value_of zero) l keys

  abbrev fresh : List HeldKey
  fresh = named_keys reached (key_ids l)

  module _ (none : EntriesConflict roots l size → ⊥) (are : HeldAre roots l size limits reached)
      (formed : held_formed limits reached ≡ true) where
    keys-are : keys_of reached ≡ are.keys
    keys-are = ap keys_of are.is ∙ keys-of-held limits are.keys

    -- the list gives each key that is reached
    pub held_gives : GivesReached roots l size reached
    held_gives i x v =
        let few : reached.count ≤ limits.held_keys = held-within reached formed in
        let k = held_key_of i x in
        key_in limits reached i few ∙ ap (key_with i) keys-are
        ∙ distinct-found k are.keys (rising-distinct are.keys are.rise) (in-member k are.keys (are.all i x v))

    -- ---- what is named ends a chain
    reached-ends : (id : ℕ) → (length (value_of (key_or_blank (held_key limits id reached))) ≡ 0 → ⊥) →
        ChainEnds roots l size id (value_of (key_or_blank (held_key limits id reached)))
    reached-ends id f =
        let w : held_key limits id reached ≡ key_with id (keys_of reached) = key_in limits reached id (held-within reached formed) in
        let s = found-stands id (keys_of reached)
        (λ z. f (ap (λ (m : Option WrappingKey). length (value_of (key_or_blank m))) w ∙ z)) in
        let h = are.each s.one (member-in s.one are.keys (subst (Memᴰ s.one) keys-are s.member)) in
        let g = h.value.reached in
        let e : key_or_blank (held_key limits id reached) ≡ wrapping_of h.x =
        ap key_or_blank w ∙ s.is ∙ h.key-is in
        subst (λ (i : ℕ). ChainEnds roots l size i (value_of (key_or_blank (held_key limits id reached)))) s.id-is
        (subst (ChainEnds roots l size s.one.id) (sym (ap value_of e ∙ value-of h.x))
        (record { passed = g.last ∷ g.before; chain = g.chain }))

    held-ends : (id : ℕ) → carried_by l id ≡ false → (length (value_named id keys) ≡ 0 → ⊥) → ChainEnds roots l size id (value_named id keys)
    held-ends id c f =
        let s = found-stands id keys f in
        let i = member-in s.one keys s.member in
        let q : get_or keys i.place blank_key ≡ s.one = get_d_any keys i.place blank_key s.one i.inside ∙ i.is in
        let r : Root = record { id = s.one.id; value = value_of s.one.key } in
        let m = root-member l keys i.place i.inside
        (ap (λ (k : HeldKey). carried_by l k.id) q ∙ ap (carried_by l) s.id-is ∙ c) in
        let n = subst (λ (k : HeldKey). Memᴰ (record { id = k.id; value = value_of k.key }) (held_roots l keys)) q m in
        subst (λ (j : ℕ). ChainEnds roots l size j (value_named id keys)) s.id-is
        (subst (ChainEnds roots l size s.one.id) (sym (ap value_of s.is))
        (record { passed = []; chain = root r (member-in r roots (Memᴰ.tail n)) }))

    known-ends : (k : ℕ) (v : List ℕ) → Known zero fresh keys k v → ChainEnds roots l size k v
    known-ends _ _ key-zero = record {
      passed = [];
      chain = root (record { id = 0; value = value_of zero }) (record { place = 0; inside = omega arith; is = refl });
    }
    known-ends _ _ (named id z f) =
        bool_cases (carried_by l id)
        (λ c.
        let e = octets-carried reached id l keys c in
        subst (ChainEnds roots l size id) (sym e) (reached-ends id (λ y. f (ap length e ∙ y))))
        (λ c.
        let e = octets-held reached id l keys c in
        subst (ChainEnds roots l size id) (sym e) (held-ends id c (λ y. f (ap length e ∙ y))))

    -- ---- where a chain ends is named
    name-is : (k : ℕ) (v : List ℕ) → (k ≡ 0 → ⊥) → octets_named k fresh keys ≡ v → (length v ≡ 0 → ⊥) → Known zero fresh keys k v
    name-is k v z e f = subst (Known zero fresh keys k) e (named k z (λ y. f (ap length (sym e) ∙ y)))

    root-known : (r : Root) → (r ≡ record { id = 0; value = value_of zero }) ⊎ Memᴰ r (held_roots l keys) →
        Known zero fresh keys r.id r.value
    root-known r (inl e) = subst (λ (a : Root). Known zero fresh keys a.id a.value) (sym e) key-zero
    root-known r (inr m) =
        let g = held-root l keys r m in
        let k = g.0 in
        let i = member-in k keys g.1 in
        let q : get_or keys i.place blank_key ≡ k = get_d_any keys i.place blank_key k i.inside ∙ i.is in
        let a = subst (λ (x : HeldKey). length x.key.octets ≡ 32) q (lends.lends.fit i.place i.inside).array in
        let s = key-size k (all-member k keys (held-formed held lends.formed) g.1) in
        let w = wrapping-le k.key.count s in
        let n : length (value_of k.key) ≡ k.key.count = length-take-le k.key.count k.key.octets (omega arith) in
        let d = distinct-found k keys (held-distinct held lends.formed) g.1 in
        subst (λ (x : Root). Known zero fresh keys x.id x.value) g.2
        (name-is k.id (value_of k.key) (not-zero held lends.formed k g.1)
        (octets-held reached k.id l keys g.3 ∙ ap (λ (m : Option WrappingKey). value_of (key_or_blank m)) d)
        (λ y. size-some k.key.count s (sym n ∙ y)))

    known_at : (k : ℕ) (v : List ℕ) → AtRoot roots l size k v ⊎ Reached roots l size k v → Known zero fresh keys k v
    known_at k v (inl a) =
        subst (Known zero fresh keys k) a.value-is
        (subst (λ (i : ℕ). Known zero fresh keys i a.key.value) a.id-is
        (root-known a.key (root-cases (value_of zero) l keys a.key a.stands)))
    known_at k v (inr r) =
        let x : Value roots l size k v = record { reached = r; every = λ y q. one_value roots l size none k y v q r } in
        let a = last_entry roots l size k v r in
        let q : key_at l a.0.place ≡ r.last = get_d_any l a.0.place no_wrap_key r.last a.0.inside ∙ a.0.is in
        let e : (key_at l a.0.place).key_id ≡ k = ap (λ (b : WrapKey). b.key_id) q ∙ a.1 in
        let n = entries_fit roots l size none k v r in
        name-is k v (λ z. nonzero a.0.place a.0.inside (e ∙ z))
        (octets-carried reached k l keys (carried-at l k a.0.place a.0.inside e)
        ∙ ap (λ (m : Option WrappingKey). value_of (key_or_blank m)) (held_gives k v x) ∙ value-of v)
        (λ y. size-some size sized (sym n ∙ y))

    pub held-agrees : Agrees roots l size zero fresh keys
    held-agrees =
        record { ends = known-ends; known = λ k v e. known_at k v (ends_by roots l size e.passed k v e.chain) }
