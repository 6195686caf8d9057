-- The samples' entries that go round and those that give two values.
use native.Mathlib.Omega.{arith}
use Prim.Native.Nat.{ℕ}
use mathlib.Core.Path.{◌≡◌, refl, ap, sym, subst}
use mathlib.Core.Logic.{◌⊎◌, inl, inr, ⊎_elim}
use mathlib.Core.List.Memᴰ
use mathlib.Core.List.{List, [], ◌∷◌}
use lib.ListN.{length}
use Rattle.fips197.specs.Key.{Key}
use Rattle.rfc5649.specs.Wrap.{wrap_of}
use Rattle.rfc5649.specs.Opens.{Opens}
use Rattle.lists.specs.Lists.{any}
use Rattle.wire_attributes.specs.Tree.{WrapKey}
use Rattle.rules_chains.specs.Chain.{In, Root, Chain, root, step, Reached, ChainEnds}
use Rattle.rules_chains.specs.Refusals.{EntriesConflict, wrong_size, two-values}
use Rattle.rules_chains.proofs.Determined.{last_entry}
use Rattle.rules_outcome.specs.SampleFrames.{entry, FitKey}
use Rattle.rules_outcome.specs.Samples.{circle, Says}
use Rattle.rules_outcome.specs.Samples as samples
use Rattle.rules_chains.proofs.Members.{in-member}
use Rattle.rules_outcome.proofs.SamplesChains.{each-chain, wraps, zero_root}
use Rattle.rules_outcome.proofs.SamplesTaken.{registers-8}
use Rattle.rules_outcome.proofs.SamplesCreated.{created-9}

one_of_two : {A : Type 0} (a b c : A) → In a (b ∷ c ∷ []) → (a ≡ b) ⊎ (a ≡ c)
one_of_two a b c m =
    ⊎_elim inl (λ k. inr (Memᴰ.eq_of_singleton k)) (Memᴰ.cases_cons (in-member a (b ∷ c ∷ []) m))

-- ---- (5 under 9), (9 under 5): no chain has an entry
module _ (lent a b : List ℕ) where
  abbrev around : List WrapKey
  around = entry 5 9 a ∷ entry 9 5 b ∷ []

  abbrev Stays : WrapKey → Type 0
  Stays e = (v y : List ℕ) → e.kwk_id ≡ 0 → Opens v e.wrapped y → e.key_id ≡ 0

  none-goes : (e : WrapKey) → In e around → Stays e
  none-goes e m =
      ⊎_elim (λ i. subst Stays (sym i) (λ v y g o. absurd (omega arith))) (λ i. subst Stays (sym i) (λ v y g o. absurd (omega arith)))
      (one_of_two e (entry 5 9 a) (entry 9 5 b) m)

  -- so that each chain ends on key 0
  ends-0 : (k : ℕ) (y : List ℕ) → ChainEnds (zero_root lent ∷ []) around (length lent) k y → k ≡ 0
  ends-0 k y n =
      let R = zero_root lent ∷ [] in
      each-chain R around (length lent) (λ (i : ℕ) (v : List ℕ). i ≡ 0)
      (λ q m. ap (λ (w : Root). w.id) (Memᴰ.eq_of_singleton (in-member q R m))) none-goes n.passed k y n.chain

  none-reached : (k : ℕ) (y : List ℕ) → Reached (zero_root lent ∷ []) around (length lent) k y → ⊥
  none-reached k y r =
      let R = zero_root lent ∷ [] in
      let z = ends-0 k y (record { passed = r.last ∷ r.before; chain = r.chain }) in
      let e = last_entry R around (length lent) k y r in
      ⊎_elim (λ i. let n : r.last.key_id ≡ 5 = ap (λ (w : WrapKey). w.key_id) i in let q = e.1 in omega arith)
      (λ i. let n : r.last.key_id ≡ 9 = ap (λ (w : WrapKey). w.key_id) i in let q = e.1 in omega arith)
      (one_of_two r.last (entry 5 9 a) (entry 9 5 b) e.0)

  no-fault-around : EntriesConflict (zero_root lent ∷ []) around (length lent) → ⊥
  no-fault-around (wrong_size k y r n) = none-reached k y r
  no-fault-around (two-values k y z r q n) = none-reached k y r

  unnamed : (y : List ℕ) → ChainEnds (zero_root lent ∷ []) around (length lent) 5 y → ⊥
  unnamed y n = let z = ends-0 5 y n in omega arith

pub circle-holds : Says circle
unfolding any
circle-holds r now lent x v₅ a b octets g =
    created-9 r now lent x 5 v₅ (entry 5 9 a ∷ entry 9 5 b ∷ []) octets g refl refl (omega arith) (unnamed lent a b)
    (no-fault-around lent a b)

-- ---- (5 under 0) and (5 under 9), (9 under 0), two values for 5
module _ (lent v w v₉ : List ℕ) (key : Key lent) (kv : FitKey lent v) (kw : FitKey lent w) (k₉ : FitKey lent v₉) where
  abbrev twice : List WrapKey
  twice = entry 5 0 (wrap_of lent v) ∷ entry 5 9 (wrap_of v₉ w) ∷ entry 9 0 (wrap_of lent v₉) ∷ []

  at_once : Chain (zero_root lent ∷ []) twice (length lent) (entry 5 0 (wrap_of lent v) ∷ []) 5 v
  at_once =
      step (entry 5 0 (wrap_of lent v)) (root (zero_root lent) (record { place = 0; inside = omega arith; is = refl })) tt
      (record {
        entry = record { place = 0; inside = omega arith; is = refl };
        names = refl;
        opens = wraps lent v key kv.key;
      })

  by-9 : Chain (zero_root lent ∷ []) twice (length lent) (entry 9 0 (wrap_of lent v₉) ∷ []) 9 v₉
  by-9 =
      step (entry 9 0 (wrap_of lent v₉)) (root (zero_root lent) (record { place = 0; inside = omega arith; is = refl })) tt
      (record {
        entry = record { place = 2; inside = omega arith; is = refl };
        names = refl;
        opens = wraps lent v₉ key k₉.key;
      })

  then-5 : Chain (zero_root lent ∷ []) twice (length lent) (entry 5 9 (wrap_of v₉ w) ∷ entry 9 0 (wrap_of lent v₉) ∷ []) 5 w
  then-5 =
      step (entry 5 9 (wrap_of v₉ w)) by-9 k₉.size
      (record {
        entry = record { place = 1; inside = omega arith; is = refl };
        names = refl;
        opens = wraps v₉ w k₉.key kw.key;
      })

  faulty : (v ≡ w → ⊥) → EntriesConflict (zero_root lent ∷ []) twice (length lent)
  faulty d =
      two-values 5 v w (record { last = entry 5 0 (wrap_of lent v); before = []; chain = at_once })
      (record { last = entry 5 9 (wrap_of v₉ w); before = entry 9 0 (wrap_of lent v₉) ∷ []; chain = then-5 }) d

pub two-values-holds : Says samples.two-values
unfolding any
two-values-holds r now lent x v w v₉ octets kv kw k₉ d g =
    registers-8 r now lent x octets (entry 5 0 (wrap_of lent v) ∷ entry 5 9 (wrap_of v₉ w) ∷ entry 9 0 (wrap_of lent v₉) ∷ []) g.key
    g.keying g.reads refl refl (omega arith) (faulty lent v w v₉ g.key kv kw k₉ d)
