-- RFC 9838, Appendix A.4: the chains of fresh keys by which the member E, who holds 2, 5 and 11, gets the key of a new Rekey SA. No chain
-- leads to the keys 1 and 6, so that one path is left: 15, 16, and it ends on 11.
use native.Mathlib.Omega.{arith}
use Prim.Native.Nat.{ℕ, ◌≤◌}
use mathlib.Core.Path.{◌≡◌, refl, ap, sym, ◌∙◌, subst}
use mathlib.Core.Logic.{◌⊎◌, inl, inr, ⊎_elim}
use mathlib.Core.List.{List, [], ◌∷◌}
use lib.ListN.{length}
use Rattle.octets.specs.Octets.{Octets}
use Rattle.fips197.specs.Key.{Key}
use Rattle.rfc5649.specs.Wrap.{wrap_of}
use Rattle.rfc5649.specs.Opens.{Opens}
use Rattle.wire_attributes.specs.Tree.{SaKey, WrapKey}
use Rattle.rules_chains.specs.Chain.{In, Root, Chain, root, step, Reached, CopyOpens}
use Rattle.rules_chains.specs.Refusals.{Announced, EntriesConflict, CopiesConflict, wrong_size, two-values, KeyConflict, of-entries}
use Rattle.rules_chains.specs.Refusals.{of-copies, KeyMissing, KeyOf}
use Rattle.rules_chains.specs.Path.{key_ids, start_id, NotAfter, Opener, KeyPath, Keys, no_key, one_more}
use Rattle.rules_outcome.specs.SampleFrames.{entry, copy_under}
use Rattle.rules_outcome.proofs.Members.{in-cases}
use Rattle.rules_outcome.proofs.OneChain.{itself}
use Rattle.rules_outcome.proofs.SamplesChains.{one_entry, opens-own, opens-only, wraps, wraps-only}

-- what stands in a list of two, of three
two_cases : {A : Type 0} (a b c : A) → In a (b ∷ c ∷ []) → (a ≡ b) ⊎ (a ≡ c)
two_cases a b c m = ⊎_elim inl (λ k. inr (one_entry a c k)) (in-cases a b (c ∷ []) m)

three-cases : {A : Type 0} (a b c d : A) → In a (b ∷ c ∷ d ∷ []) → (a ≡ b) ⊎ ((a ≡ c) ⊎ (a ≡ d))
three-cases a b c d m = ⊎_elim inl (λ k. inr (two_cases a c d k)) (in-cases a b (c ∷ d ∷ []) m)

module _ (own v₂ v₅ v₁₁ v₁₅ v₁₆ w₁ w₆ x : List ℕ) (k₁₁ : Key v₁₁) (k₁₅ : Key v₁₅) (k₁₆ : Key v₁₆) (size : ℕ)
    (fit₁₅ : length v₁₅ ≡ size) (fit₁₆ : length v₁₆ ≡ size) (small : Octets x) (long : length x ≡ 36) where
  -- key 0 and the held keys
  abbrev zero-key : Root
  zero-key = record { id = 0; value = own }

  abbrev held₂ : Root
  held₂ = record { id = 2; value = v₂ }

  abbrev held₅ : Root
  held₅ = record { id = 5; value = v₅ }

  abbrev held₁₁ : Root
  held₁₁ = record { id = 11; value = v₁₁ }

  abbrev pub anew_roots : List Root
  anew_roots = zero-key ∷ held₂ ∷ held₅ ∷ held₁₁ ∷ []

  -- 15 under 6, 15 under 16, 16 under 11
  abbrev unopened : WrapKey
  unopened = entry 15 6 w₆

  abbrev e₁₅ : WrapKey
  e₁₅ = entry 15 16 (wrap_of v₁₆ v₁₅)

  abbrev e₁₆ : WrapKey
  e₁₆ = entry 16 11 (wrap_of v₁₁ v₁₆)

  abbrev pub anew_entries : List WrapKey
  anew_entries = unopened ∷ e₁₅ ∷ e₁₆ ∷ []

  -- under 1 and under 15
  abbrev c₁₅ : SaKey
  c₁₅ = copy_under 15 (wrap_of v₁₅ x)

  abbrev pub anew_copies : List SaKey
  anew_copies = copy_under 1 w₁ ∷ c₁₅ ∷ []

  abbrev pub anew_sa : Announced
  anew_sa = record { copies = anew_copies; need = 36 }

  -- ---- what a chain ends on: a key that chains start with, 16 or 15
  data Way (p : List WrapKey) (k : ℕ) (v : List ℕ) : Type 0 where
    at-another : p ≡ [] → k ≤ 5 → (k ≡ 1 → ⊥) → Way p k v
    at-11 : p ≡ [] → k ≡ 11 → v ≡ v₁₁ → Way p k v
    at-16 : p ≡ e₁₆ ∷ [] → k ≡ 16 → v ≡ v₁₆ → Way p k v
    at-15 : p ≡ e₁₅ ∷ e₁₆ ∷ [] → k ≡ 15 → v ≡ v₁₅ → Way p k v

  at-root : (r : Root) → In r anew_roots → Way [] r.id r.value
  at-root r m =
      let of : (a : Root) → r ≡ a → r.id ≡ a.id = λ a e. ap (λ (b : Root). b.id) e in
      ⊎_elim (λ e. let i = of zero-key e in at-another refl (omega (arith, i)) (λ n. omega (arith, i, n)))
      (λ k.
      ⊎_elim (λ e. let i = of held₂ e in at-another refl (omega (arith, i)) (λ n. omega (arith, i, n)))
      (⊎_elim (λ e. let i = of held₅ e in at-another refl (omega (arith, i)) (λ n. omega (arith, i, n)))
      (λ e. at-11 refl (of held₁₁ e) (ap (λ (b : Root). b.value) e)))
      (three-cases r held₂ held₅ held₁₁ k))
      (in-cases r zero-key (held₂ ∷ held₅ ∷ held₁₁ ∷ []) m)

  module _ (p : List WrapKey) (k : ℕ) (v : List ℕ) where
    no-6 : Way p k v → k ≡ 6 → ⊥
    no-6 (at-another q n d) e = omega arith
    no-6 (at-11 q n d) e = omega arith
    no-6 (at-16 q n d) e = omega arith
    no-6 (at-15 q n d) e = omega arith

    no-1 : Way p k v → k ≡ 1 → ⊥
    no-1 (at-another q n d) e = d e
    no-1 (at-11 q n d) e = omega arith
    no-1 (at-16 q n d) e = omega arith
    no-1 (at-15 q n d) e = omega arith

    on-11 : Way p k v → k ≡ 11 → (p ≡ []) × (v ≡ v₁₁)
    on-11 (at-another q n d) e = absurd (omega arith)
    on-11 (at-11 q n d) e = (q, d)
    on-11 (at-16 q n d) e = absurd (omega arith)
    on-11 (at-15 q n d) e = absurd (omega arith)

    on-16 : Way p k v → k ≡ 16 → (p ≡ e₁₆ ∷ []) × (v ≡ v₁₆)
    on-16 (at-another q n d) e = absurd (omega arith)
    on-16 (at-11 q n d) e = absurd (omega arith)
    on-16 (at-16 q n d) e = (q, d)
    on-16 (at-15 q n d) e = absurd (omega arith)

    on-15 : Way p k v → k ≡ 15 → (p ≡ e₁₅ ∷ e₁₆ ∷ []) × (v ≡ v₁₅)
    on-15 (at-another q n d) e = absurd (omega arith)
    on-15 (at-11 q n d) e = absurd (omega arith)
    on-15 (at-16 q n d) e = absurd (omega arith)
    on-15 (at-15 q n d) e = (q, d)

  -- one entry more
  by-16 : (p : List WrapKey) (v y : List ℕ) → (p ≡ []) × (v ≡ v₁₁) → Opens v (wrap_of v₁₁ v₁₆) y → Way (e₁₆ ∷ p) 16 y
  by-16 p v y q o =
      at-16 (ap (λ (u : List WrapKey). e₁₆ ∷ u) q.0) refl
      (wraps-only v₁₁ v₁₆ k₁₁ k₁₆ y (subst (λ (u : List ℕ). Opens u (wrap_of v₁₁ v₁₆) y) q.1 o))

  by-15 : (p : List WrapKey) (v y : List ℕ) → (p ≡ e₁₆ ∷ []) × (v ≡ v₁₆) → Opens v (wrap_of v₁₆ v₁₅) y → Way (e₁₅ ∷ p) 15 y
  by-15 p v y q o =
      at-15 (ap (λ (u : List WrapKey). e₁₅ ∷ u) q.0) refl
      (wraps-only v₁₆ v₁₅ k₁₆ k₁₅ y (subst (λ (u : List ℕ). Opens u (wrap_of v₁₆ v₁₅) y) q.1 o))

  stepped : (p : List WrapKey) (k : ℕ) (v : List ℕ) → Way p k v → (e : WrapKey) → In e anew_entries → e.kwk_id ≡ k → (y : List ℕ) →
      Opens v e.wrapped y → Way (e ∷ p) e.key_id y
  stepped p k v w e m n y o =
      ⊎_elim (λ q. absurd (no-6 p k v w (sym n ∙ ap (λ (a : WrapKey). a.kwk_id) q)))
      (⊎_elim
      (λ q.
      subst (λ (a : WrapKey). Way (a ∷ p) a.key_id y) (sym q)
      (by-15 p v y (on-16 p k v w (sym n ∙ ap (λ (a : WrapKey). a.kwk_id) q)) (subst (λ (a : WrapKey). Opens v a.wrapped y) q o)))
      (λ q.
      subst (λ (a : WrapKey). Way (a ∷ p) a.key_id y) (sym q)
      (by-16 p v y (on-11 p k v w (sym n ∙ ap (λ (a : WrapKey). a.kwk_id) q)) (subst (λ (a : WrapKey). Opens v a.wrapped y) q o))))
      (three-cases e unopened e₁₅ e₁₆ m)

  each_way : (p : List WrapKey) (k : ℕ) (v : List ℕ) → Chain anew_roots anew_entries size p k v → Way p k v
  each_way _ _ _ (root r m) = at-root r m
  each_way _ _ _ (step {passed = p} {k = k} {v = v} {x = y} e c t l) =
      stepped p k v (each_way p k v c) e l.entry l.names y l.opens

  -- ---- what is reached has one value, of the size of key 0
  reached-by : (e : WrapKey) (p : List WrapKey) (k : ℕ) (y : List ℕ) → Way (e ∷ p) k y →
      ((k ≡ 15) × (y ≡ v₁₅)) ⊎ ((k ≡ 16) × (y ≡ v₁₆))
  reached-by e p k y (at-another q n d) = let z : length (e ∷ p) ≡ 0 = ap length q in absurd (omega arith)
  reached-by e p k y (at-11 q n d) = let z : length (e ∷ p) ≡ 0 = ap length q in absurd (omega arith)
  reached-by e p k y (at-16 q n d) = inr (n, d)
  reached-by e p k y (at-15 q n d) = inl (n, d)

  is-reached : (k : ℕ) (y : List ℕ) → Reached anew_roots anew_entries size k y → ((k ≡ 15) × (y ≡ v₁₅)) ⊎ ((k ≡ 16) × (y ≡ v₁₆))
  is-reached k y r = reached-by r.last r.before k y (each_way (r.last ∷ r.before) k y r.chain)

  one_of : (k : ℕ) (y z : List ℕ) → Reached anew_roots anew_entries size k y → Reached anew_roots anew_entries size k z → y ≡ z
  one_of k y z a b =
      ⊎_elim
      (λ p. ⊎_elim (λ q. p.1 ∙ sym q.1) (λ q. absurd (omega (arith, p.0, q.0))) (is-reached k z b))
      (λ p. ⊎_elim (λ q. absurd (omega (arith, p.0, q.0))) (λ q. p.1 ∙ sym q.1) (is-reached k z b)) (is-reached k y a)

  pub anew-fit : EntriesConflict anew_roots anew_entries size → ⊥
  anew-fit (wrong_size k y r n) =
      ⊎_elim (λ p. n (ap length p.1 ∙ fit₁₅)) (λ p. n (ap length p.1 ∙ fit₁₆)) (is-reached k y r)
  anew-fit (two-values k y z r q n) = n (one_of k y z r q)

  -- ---- the path
  chain-16 : Chain anew_roots anew_entries size (e₁₆ ∷ []) 16 v₁₆
  chain-16 =
      step e₁₆ (root held₁₁ (record { place = 3; inside = omega arith; is = refl })) tt
      (record { entry = record { place = 2; inside = omega arith; is = refl }; names = refl; opens = wraps v₁₁ v₁₆ k₁₁ k₁₆ })

  chain-15 : Chain anew_roots anew_entries size (e₁₅ ∷ e₁₆ ∷ []) 15 v₁₅
  chain-15 =
      step e₁₅ chain-16 fit₁₆
      (record { entry = record { place = 1; inside = omega arith; is = refl }; names = refl; opens = wraps v₁₆ v₁₅ k₁₆ k₁₅ })

  opens-x : Opens v₁₅ (wrap_of v₁₅ x) x
  opens-x = opens-own v₁₅ x k₁₅ small (omega arith) (omega arith)

  -- a copy under a key that a chain ends on is the one under 15
  the_copy : (c : SaKey) → In c anew_copies → (p : List WrapKey) (v : List ℕ) → Chain anew_roots anew_entries size p c.kwk_id v →
      (c ≡ c₁₅) × (p ≡ e₁₅ ∷ e₁₆ ∷ []) × (v ≡ v₁₅)
  the_copy c m p v h =
      let w = each_way p c.kwk_id v h in
      ⊎_elim (λ q. absurd (no-1 p c.kwk_id v w (ap (λ (a : SaKey). a.kwk_id) q)))
      (λ q. let r = on-15 p c.kwk_id v w (ap (λ (a : SaKey). a.kwk_id) q) in (q, r.0, r.1))
      (two_cases c (copy_under 1 w₁) c₁₅ m)

  the-opener : (p : List WrapKey) (o : Opener anew_roots anew_entries size anew_copies p) → (o.copy ≡ c₁₅) × (p ≡ e₁₅ ∷ e₁₆ ∷ [])
  the-opener p o = let r = the_copy o.copy o.stands p o.value o.chain in (r.0, r.1)

  pub anew-path : KeyPath anew_roots anew_entries size anew_copies (15 ∷ 16 ∷ []) 11
  anew-path = record {
    passed = e₁₅ ∷ e₁₆ ∷ [];
    opener = record {
      copy = c₁₅;
      stands = record { place = 1; inside = omega arith; is = refl };
      value = v₁₅;
      chain = chain-15;
      octets = x;
      opens = opens-x;
    };
    written = refl;
    ends = refl;
    fewest = λ p o. let n : length p ≡ 2 = ap length (the-opener p o).1 in omega (arith, n);
    smallest = λ p o e.
        subst (λ (q : List WrapKey). NotAfter (15 ∷ 16 ∷ []) (key_ids q)) (sym (the-opener p o).1) (itself (15 ∷ 16 ∷ []));
    lowest = λ p o e.
        let r = the-opener p o in
        let n : start_id o.copy.kwk_id p ≡ 11 =
        ap (λ (c : SaKey). start_id c.kwk_id p) r.0 ∙ ap (start_id 15) r.1 in
        omega (arith, n);
  }

  pub anew-keys : Keys anew_roots anew_entries size (15 ∷ 16 ∷ []) (record { id = 15; value = v₁₅ } ∷ record { id = 16; value = v₁₆ } ∷ [])
  anew-keys =
      one_more
      (record {
        reached = record { last = e₁₅; before = e₁₆ ∷ []; chain = chain-15 };
        every = λ y r. one_of 15 y v₁₅ r (record { last = e₁₅; before = e₁₆ ∷ []; chain = chain-15 });
      })
      (one_more
      (record {
        reached = record { last = e₁₆; before = []; chain = chain-16 };
        every = λ y r. one_of 16 y v₁₆ r (record { last = e₁₆; before = []; chain = chain-16 });
      }) no_key)

  -- ---- the SA's key
  opens-to : (y : List ℕ) → CopyOpens anew_roots anew_entries size anew_copies y → y ≡ x
  opens-to y h =
      let r = the_copy h.copy h.stands h.named.passed h.value h.named.chain in
      opens-only v₁₅ x k₁₅ small (omega arith) (omega arith) y
      (subst (λ (c : SaKey). Opens v₁₅ c.wrapped y) r.0 (subst (λ (v : List ℕ). Opens v h.copy.wrapped y) r.2 h.opens))

  pub anew-key : KeyOf anew_roots anew_entries size anew_sa x
  anew-key = record {
    opens = record {
      copy = c₁₅;
      stands = record { place = 1; inside = omega arith; is = refl };
      value = v₁₅;
      named = record { passed = e₁₅ ∷ e₁₆ ∷ []; chain = chain-15 };
      opens = opens-x;
    };
    every = opens-to;
  }

  no_copies : CopiesConflict anew_roots anew_entries size anew_sa → ⊥
  no_copies (wrong_size y h d) = d (ap length (opens-to y h) ∙ long)
  no_copies (two-values y z h k d) = d (opens-to y h ∙ sym (opens-to z k))

  pub anew-8 : KeyConflict anew_roots anew_entries size (anew_sa ∷ []) → ⊥
  anew-8 (of-entries h) = anew-fit h
  anew-8 (of-copies a m h) = no_copies (subst (CopiesConflict anew_roots anew_entries size) (one_entry a anew_sa m) h)

  pub anew-9 : KeyMissing anew_roots anew_entries size (anew_sa ∷ []) → ⊥
  anew-9 h =
      let e = one_entry h.sa anew_sa h.stands in
      h.none x (subst (λ (a : Announced). CopyOpens anew_roots anew_entries size a.copies x) (sym e) anew-key.opens)
