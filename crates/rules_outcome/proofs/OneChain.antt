-- Entries of which no two have one Key ID, in a registration: the chain to a key is one, so that it is the path.
use native.Mathlib.Omega.{arith}
use Prim.Native.Nat.{ℕ}
use mathlib.Core.Path.{◌≡◌, refl, ap, ap₂, sym, ◌∙◌, subst}
use mathlib.Core.Bool.{true, false}
use mathlib.Core.Logic.{inr, ⊎_elim}
use mathlib.Core.List.Memᴰ
use mathlib.Core.List.{List, [], ◌∷◌, Memᴰ}
use borrow.Author.Tests.{eq-eqb, eqb-false}
use lib.Dec.{eqb}
use lib.ListN.{length}
use Rattle.rfc5649.specs.Opens.{Opens}
use Rattle.lists.specs.Lists.{any}
use Rattle.lists.proofs.Cases.{never}
use Rattle.wire_attributes.specs.Tree.{WrapKey, SaKey}
use Rattle.state.specs.Held.{has, distinct}
use Rattle.state.proofs.Kept.{distinct-parts}
use Rattle.rules_chains.specs.Chain.{In, Root, Chain, root, step}
use Rattle.rules_chains.specs.Path.{key_ids, start_id, NotAfter, Opener, KeyPath}
use Rattle.rules_chains.proofs.Members.{in-member}
use Rattle.rules_outcome.proofs.Members.{in_head}
use Rattle.rules_outcome.proofs.RunsLists.{none_passes}
use Rattle.rules_outcome.proofs.SamplesChains.{one_entry, zero_root}

none-same : (i : ℕ) (l : List WrapKey) → has i (key_ids l) ≡ false → (d : WrapKey) → Memᴰ d l → d.key_id ≡ i → ⊥
none-same i l h d m =
    eqb-false d.key_id i (none_passes (λ (b : ℕ). eqb b i) (key_ids l) h d.key_id (Memᴰ.map (λ (e : WrapKey). e.key_id) m))

-- an entry is known by its Key ID
by-id : (l : List WrapKey) → distinct (key_ids l) ≡ true → (e d : WrapKey) → Memᴰ e l → Memᴰ d l → e.key_id ≡ d.key_id → e ≡ d
by-id [] h e d m n q = absurd (Memᴰ.not-nil m)
by-id (a ∷ l) h e d m n q =
    let p = distinct-parts a.key_id (key_ids l) h in
    let other = none-same a.key_id l p.0 in
    ⊎_elim
    (λ x.
    ⊎_elim (λ y. x ∙ sym y) (λ y. absurd (other d y (sym q ∙ ap (λ (w : WrapKey). w.key_id) x))) (Memᴰ.cases_cons n))
    (λ x.
    ⊎_elim (λ y. absurd (other e x (q ∙ ap (λ (w : WrapKey). w.key_id) y))) (λ y. by-id l p.1 e d x y q) (Memᴰ.cases_cons n))
    (Memᴰ.cases_cons m)

pub itself : (l : List ℕ) → NotAfter l l
itself [] = tt
itself (a ∷ l) = inr (refl, itself l)

module _ (lent : List ℕ) (l : List WrapKey) (once : distinct (key_ids l) ≡ true)
    (no_zero : any (λ (k : WrapKey). eqb k.key_id 0) l ≡ false) where
  abbrev R : List Root
  R = zero_root lent ∷ []

  abbrev size : ℕ
  size = length lent

  not-zero : (r : Root) → In r R → (e : WrapKey) → In e l → r.id ≡ e.key_id → ⊥
  not-zero r m e n q =
      let z : r.id ≡ 0 = ap (λ (x : Root). x.id) (one_entry r (zero_root lent) m) in
      never (eqb e.key_id 0) (eq-eqb e.key_id 0 (sym q ∙ z))
      (none_passes (λ (k : WrapKey). eqb k.key_id 0) l no_zero e (in-member e l n))

  one-chain : (p : List WrapKey) (k : ℕ) (v : List ℕ) → Chain R l size p k v → (q : List WrapKey) (j : ℕ) (w : List ℕ) →
      Chain R l size q j w → k ≡ j → p ≡ q
  one-chain _ _ _ (root r m) _ _ _ (root s n) i = refl
  one-chain _ _ _ (root r m) _ _ _ (step e c t h) i = absurd (not-zero r m e h.entry i)
  one-chain _ _ _ (step e c t h) _ _ _ (root r m) i = absurd (not-zero r m e h.entry (sym i))
  one-chain _ _ _ (step {passed = p} {k = k} {v = v} e c t h) _ _ _ (step {passed = q} {k = j} {v = w} d b u g) i =
      let s = by-id l once e d (in-member e l h.entry) (in-member d l g.entry) i in
      ap₂ (λ (x : WrapKey) (y : List WrapKey). x ∷ y) s
      (one-chain p k v c q j w b (sym h.names ∙ ap (λ (x : WrapKey). x.kwk_id) s ∙ g.names))

  module _ (a : SaKey) (p : List WrapKey) (v x : List ℕ) (c : Chain R l size p a.kwk_id v) (o : Opens v a.wrapped x) where
    same_entries : (q : List WrapKey) → Opener R l size (a ∷ []) q → p ≡ q
    same_entries q y =
        one-chain p a.kwk_id v c q y.copy.kwk_id y.value y.chain
        (ap (λ (b : SaKey). b.kwk_id) (sym (one_entry y.copy a y.stands)))

    same_start : (q : List WrapKey) (y : Opener R l size (a ∷ []) q) → start_id a.kwk_id p ≡ start_id y.copy.kwk_id q
    same_start q y =
        ap (start_id a.kwk_id) (same_entries q y)
        ∙ ap (λ (b : SaKey). start_id b.kwk_id q) (sym (one_entry y.copy a y.stands))

    pub only-path : KeyPath R l size (a ∷ []) (key_ids p) (start_id a.kwk_id p)
    only-path = record {
      passed = p;
      opener = record { copy = a; stands = in_head a a [] refl; value = v; chain = c; octets = x; opens = o };
      written = refl;
      ends = refl;
      fewest = λ q y. let e : length p ≡ length q = ap length (same_entries q y) in omega (arith, e);
      smallest = λ q y e. subst (λ (z : List WrapKey). NotAfter (key_ids p) (key_ids z)) (same_entries q y) (itself (key_ids p));
      lowest = λ q y e. let z = same_start q y in omega (arith, z);
    }
