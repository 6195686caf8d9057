-- The roots of a search: key 0, and the lent keys that no entry carries anew.
use native.Mathlib.Omega.{arith}
use Prim.Native.Nat.{ℕ, zero, suc, ◌-◌, ◌≤◌, ◌<◌}
use mathlib.Core.Path.{◌≡◌, refl, ap, sym, ◌∙◌}
use mathlib.Core.Bool.{Bool, true, false, not, false≢true}
use mathlib.Core.Logic.{⊎_elim}
use mathlib.Core.List.Memᴰ
use mathlib.Core.List.{List, [], ◌∷◌, map, Memᴰ}
use Rattle.std.specs.Bool.{MatchBool}
use Rattle.std.specs.List.{HoldsAt, AllWithin}
use borrow.Author.Tests.{eq-eqb, ne_eqb, eqb-true}
use lib.Dec.{eqb}
use lib.ListN.{length, drop, get_or, replicate, drop_of_length-le}
use lib.Seq.{drop-cons, length-take-le, take-append_seam}
use Rattle.wire_attributes.specs.Tree.{WrapKey}
use Rattle.rules_chains.specs.Chain.{Root}
use Rattle.lists.specs.Lists.{any, keep}
use Rattle.state_keys.specs.Algorithms.{is_wrapping_size}
use Rattle.state_keys.specs.Kinds.{wrapping_of, wrapping_key, value_of}
use Rattle.state_keys.specs.declared.kinds.WrappingKey.{WrappingKey}
use Rattle.state_keys.proofs.Sizes.{wrapping-le}
use Rattle.lists.proofs.Cases.{bool_cases}
use Rattle.lists.proofs.Members.{kept-member}
use Rattle.state.specs.Held.{blank_key}
use Rattle.state.specs.declared.held.HeldKey.{HeldKey}
use Rattle.unwrap_search.specs.declared.open.Entry.{Entry}
use Rattle.unwrap_search.specs.inner.Entries.{no_entry, Lists}
use Rattle.unwrap_lending.specs.inner.Lending.{Lends}
use Rattle.unwrap_search.specs.inner.Search.{key_at, carried_by, root_of, held_roots, KeyFrom}
use Rattle.std.specs.Prelude.{Option}
use Rattle.state_keys.specs.Kinds.{key_or_blank}

-- ---- a Key ID that one of the entries has
pub carried-at : (l : List WrapKey) (id i : ℕ) → i < length l → (key_at l i).key_id ≡ id → carried_by l id ≡ true
unfolding any
carried-at [] id i h e = absurd (omega arith)
carried-at (a ∷ l) id zero h e = rw (eq-eqb a.key_id id e)
carried-at (a ∷ l) id (suc i) h e =
    bool_cases (eqb a.key_id id) (λ g. rw g) (λ g. rw g (carried-at l id i (omega arith) e))

pub carried_some : (l : List WrapKey) (id : ℕ) → carried_by l id ≡ true → (i : ℕ) × (i < length l) × ((key_at l i).key_id ≡ id)
unfolding any
carried_some [] id e = absurd (false≢true e)
carried_some (a ∷ l) id e =
    bool_cases (eqb a.key_id id) (λ g. (0, omega arith, eqb-true a.key_id id g))
    (λ g. let f = carried_some l id (rw g at e) in let h = f.1 in (suc f.0, omega arith, f.2))

pub carried_none : (l : List WrapKey) (id : ℕ) → ((i : ℕ) → i < length l → (key_at l i).key_id ≡ id → ⊥) → carried_by l id ≡ false
unfolding any
carried_none [] id f = refl
carried_none (a ∷ l) id f =
    rw (ne_eqb a.key_id id (f 0 (omega arith))) (carried_none l id (λ i h. f (suc i) (omega arith)))

module _ (frame : List ℕ) (places : List Entry) (n : ℕ) (l : List WrapKey) (lists : Lists frame places n l) (id : ℕ) where
  pub some-carries : (i : ℕ) → i < n → (get_or places i no_entry).id ≡ id → true ≡ carried_by l id
  some-carries i h e = sym (carried-at l id i (let z = lists.count in omega arith) (sym (lists.at i h).id ∙ e))

  pub none-carries : ((i : ℕ) → i < n → (get_or places i no_entry).id ≡ id → ⊥) → false ≡ carried_by l id
  none-carries f =
      sym (carried_none l id (λ i h e. let z : i < n = let y = lists.count in omega arith in f i z ((lists.at i z).id ∙ e)))

-- the answer of a search over the entries for this Key ID
pub carried-told : (frame : List ℕ) (places : List Entry) (id : ℕ) (r : Bool) →
    MatchBool r ((k : ℕ) × (k < length places) × HoldsAt (λ (e : Entry). e.id ≡ id) places k)
    (AllWithin (λ (e : Entry). e.id ≡ id → ⊥) places 0 (length places)) →
    (l : List WrapKey) → Lists frame places (length places) l → r ≡ carried_by l id
carried-told frame places id true h l lists = some-carries frame places (length places) l lists id h.0 h.1 (h.2 no_entry)
carried-told frame places id false f l lists =
    none-carries frame places (length places) l lists id (λ i h e. f i no_entry (omega arith) h e)

-- ---- a key made of a lent one
pub key-from : (keys : List HeldKey) (ids block : List ℕ) → Lends keys ids block → (i : ℕ) → i < length keys →
    is_wrapping_size (get_or keys i blank_key).key.count ≡ true → (made : Option WrappingKey) →
    made ≡ wrapping_key (value_of (get_or keys i blank_key).key) → KeyFrom (get_or keys i blank_key).key (key_or_blank made)
unfolding wrapping_key
key-from keys ids block lends i h size made is =
    let k = (get_or keys i blank_key).key in
    let a = (lends.fit i h).array in
    let m = wrapping-le k.count size in
    let n : length (value_of k) ≡ k.count = length-take-le k.count k.octets (omega arith) in
    let e : is_wrapping_size (length (value_of k)) ≡ true = ap is_wrapping_size n ∙ size in
    let q : key_or_blank made ≡ wrapping_of (value_of k) = ap key_or_blank is ∙ rw e refl in
    record {
      value = ap value_of q ∙ take-append_seam (value_of k) (replicate (32 - length (value_of k)) 0);
      size = ap (λ (x : WrappingKey). is_wrapping_size x.count) q ∙ e;
    }

-- ---- the roots from a place on
pub root-member : (l : List WrapKey) (keys : List HeldKey) (j : ℕ) → j < length keys → carried_by l (get_or keys j blank_key).id ≡ false →
    Memᴰ (root_of (get_or keys j blank_key)) (held_roots l keys)
unfolding held_roots keep
root-member l [] j h e = absurd (omega arith)
root-member l (k ∷ keys) zero h e = rw e (Memᴰ.head refl)
root-member l (k ∷ keys) (suc j) h e =
    let d = root-member l keys j (omega arith) e in
    bool_cases (carried_by l k.id) (λ g. rw g d) (λ g. rw g (Memᴰ.tail d))

module _ (l : List WrapKey) (keys : List HeldKey) where
  pub root-passed : (j : ℕ) → j < length keys → carried_by l (get_or keys j blank_key).id ≡ true →
      held_roots l (drop j keys) ≡ held_roots l (drop (suc j) keys)
  unfolding held_roots keep
  root-passed j h e = rw (drop-cons keys j blank_key h, e) refl

  pub root-first : (j : ℕ) → j < length keys → carried_by l (get_or keys j blank_key).id ≡ false →
      held_roots l (drop j keys) ≡ root_of (get_or keys j blank_key) ∷ held_roots l (drop (suc j) keys)
  unfolding held_roots keep
  root-first j h e = rw (drop-cons keys j blank_key h, e) refl

  pub root_none : (j : ℕ) → length keys ≤ j → held_roots l (drop j keys) ≡ []
  unfolding held_roots keep
  root_none j h = rw (drop_of_length-le keys h) refl

-- ---- each root is key 0 or one of the held keys, which no entry carries
member-of-map : (r : Root) (keys : List HeldKey) → Memᴰ r (map root_of keys) → (k : HeldKey) × Memᴰ k keys × (root_of k ≡ r)
member-of-map r [] m = absurd (Memᴰ.not-nil m)
member-of-map r (k ∷ l) m =
    ⊎_elim (λ e. (k, Memᴰ.head refl, sym e)) (λ d. let g = member-of-map r l d in (g.0, Memᴰ.tail g.1, g.2))
    (Memᴰ.cases_cons m)

pub held-root : (l : List WrapKey) (keys : List HeldKey) (r : Root) → Memᴰ r (held_roots l keys) →
    (k : HeldKey) × Memᴰ k keys × (root_of k ≡ r) × (carried_by l k.id ≡ false)
unfolding held_roots
held-root l keys r m =
    let p : HeldKey → Bool = λ (k : HeldKey). not (carried_by l k.id) in
    let g = member-of-map r (keep p keys) m in
    let h = kept-member p g.0 keys g.1 in
    (g.0, h.0, g.2, not-true (carried_by l g.0.id) h.1)
  where
    not-true : (b : Bool) → not b ≡ true → b ≡ false
    not-true true e = absurd (false≢true e)
    not-true false e = refl
