-- FROM LEVELS TO THE PATH. Where number 8 does not hold of the entries, chains and walks over the entries that opened are the same, and
-- what is read off the levels back from the key that a copy names is the path of document 02, T-04 and T-11.
use native.Mathlib.Omega.{arith}
use Prim.Native.Nat.{ℕ, zero, suc, ◌≤◌, ◌<◌}
use mathlib.Core.Path.{◌≡◌, refl, ap, ap₂, sym, ◌∙◌, subst}
use mathlib.Core.Bool.{Bool, true}
use mathlib.Core.Logic.{inl, inr}
use mathlib.Core.List.{List, [], ◌∷◌, ◌++◌, map}
use lib.ListN.{length, get_or, length-map}
use Rattle.rfc5649.specs.Opens.{Opens}
use Rattle.wire_attributes.specs.Tree.{WrapKey, SaKey}
use Rattle.rules_chains.specs.Chain.{In, Root, Extended, Chain, root, step}
use Rattle.rules_chains.specs.Path.{NotAfter, key_ids, start_id, Opener, KeyPath}
use Rattle.unwrap_search.specs.inner.Entries.{no_wrap_key}
use Rattle.unwrap_search.specs.inner.Search.{key_at}
use Rattle.unwrap_search.proofs.Statuses.{get_d_any, eq-cases}
use Rattle.unwrap_paths.specs.inner.Levels.{Walk, starts, goes, Levelled, Best}
use Rattle.unwrap_paths.proofs.Best.{best-walk, best-length, best-trail, best-smallest}
use Rattle.unwrap_paths.proofs.Trails.{front-order, last-order}

module _ (roots : List Root) (entries : List WrapKey) (size n : ℕ) (id kwk : ℕ → ℕ) (done is_root : ℕ → Bool) where
  abbrev pub E : ℕ → WrapKey
  E i = key_at entries i

  abbrev W : List ℕ → ℕ → Type 0
  W = Walk n id kwk done is_root

  abbrev C : List WrapKey → ℕ → List ℕ → Type 0
  C = Chain roots entries size

  -- what the search says of an entry: a chain leads to the key that it names, and it opens under that chain's value
  pub record Leading (i : ℕ) : Type 0 where
    pub passed : List WrapKey
    pub value : List ℕ
    pub chain : C passed (E i).kwk_id value
    pub opened : List ℕ
    pub opens : Opens value (E i).wrapped opened

  -- what is known once the search has ended and number 8 does not hold of the entries
  pub record Known : Type 0 where
    pub count : length entries ≡ n
    pub id-is : (i : ℕ) → i < n → id i ≡ (E i).key_id
    pub kwk-is : (i : ℕ) → i < n → kwk i ≡ (E i).kwk_id
    pub leads : (i : ℕ) → i < n → done i ≡ true → Leading i
    pub all : (i : ℕ) → i < n → (p : List WrapKey) (v x : List ℕ) → C p (E i).kwk_id v → Opens v (E i).wrapped x → done i ≡ true
    pub one : (p q : List WrapKey) (k : ℕ) (v w : List ℕ) → C p k v → C q k w → v ≡ w
    pub fits : (e : WrapKey) (p : List WrapKey) (k : ℕ) (x : List ℕ) → C (e ∷ p) k x → length x ≡ size
    pub root_is : (r : Root) → In r roots → is_root r.id ≡ true
    pub is-root : (k : ℕ) → is_root k ≡ true → (r : Root) × In r roots × (r.id ≡ k)

  module _ (known : Known) where
    -- ---- a chain is a walk
    pub record Walked (passed : List WrapKey) (k : ℕ) : Type 0 where
      pub places : List ℕ
      pub walk : W places k
      pub is : map E places ≡ passed

    pub chain-walk : (passed : List WrapKey) (k : ℕ) (v : List ℕ) → C passed k v → Walked passed k
    chain-walk _ _ _ (root r m) = record { places = []; walk = starts r.id (known.root_is r m); is = refl }
    chain-walk _ _ x (step {passed = p} {k = j} {v = v} e c t l) =
        let i = l.entry.place in
        let h : i < n = omega (arith, known.count, l.entry.inside) in
        let q : E i ≡ e = get_d_any entries i no_wrap_key e l.entry.inside ∙ l.entry.is in
        let names : (E i).kwk_id ≡ j = ap (λ (a : WrapKey). a.kwk_id) q ∙ l.names in
        let o = known.all i h p v x (subst (λ (a : ℕ). C p a v) (sym names) c)
        (subst (λ (a : WrapKey). Opens v a.wrapped x) (sym q) l.opens) in
        let w = chain-walk p j v c in
        record {
          places = i ∷ w.places;
          walk = goes i h o (known.id-is i h ∙ ap (λ (a : WrapKey). a.key_id) q)
              (subst (W w.places) (sym (known.kwk-is i h ∙ names)) w.walk);
          is = (λ a. q a ∷ w.is a);
        }

    -- ---- a walk is a chain
    pub record Chained (p : List ℕ) (k : ℕ) : Type 0 where
      pub value : List ℕ
      pub chain : C (map E p) k value
      pub goes_on : Extended roots entries size (map E p) value

    pub walk-chain : (p : List ℕ) (k : ℕ) → W p k → Chained p k
    walk-chain _ k (starts _ r) =
        let b = known.is-root k r in
        subst (Chained []) b.2 (record { value = b.0.value; chain = root b.0 b.1; goes_on = tt })
    walk-chain _ k (goes {p = p} i h o e w) =
        let c = walk-chain p (kwk i) w in
        let d = subst (λ (a : ℕ). C (map E p) a c.value) (known.kwk-is i h) c.chain in
        let l = known.leads i h o in
        let s = known.one l.passed (map E p) (E i).kwk_id l.value c.value l.chain d in
        let g : i < length entries = omega (arith, known.count, h) in
        let here : In (E i) entries = record { place = i; inside = g; is = get_d_any entries i (E i) no_wrap_key g } in
        let x = step (E i) d c.goes_on
        (record { entry = here; names = refl; opens = subst (λ (y : List ℕ). Opens y (E i).wrapped l.opened) s l.opens }) in
        subst (Chained (i ∷ p)) (sym (known.id-is i h) ∙ e)
        (record { value = l.opened; chain = x; goes_on = known.fits (E i) (map E p) (E i).key_id l.opened x })

    -- ---- trails: key k and the KWK IDs that a walk to it goes by are its Key IDs and the key that it starts with
    trail_is : (p : List ℕ) (k : ℕ) → W p k → k ∷ map kwk p ≡ key_ids (map E p) ++ (start_id k (map E p) ∷ [])
    trail_is _ k (starts _ r) = refl
    trail_is _ k (goes {p = p} i h o e w) =
        ap₂ (λ (a : ℕ) (m : List ℕ). a ∷ m) (sym e ∙ known.id-is i h)
        (trail_is p (kwk i) w ∙ ap (λ (a : ℕ). key_ids (map E p) ++ (start_id a (map E p) ∷ [])) (known.kwk-is i h))

    -- the key that it starts with is the one that its last entry names
    pub start-last : (p : List ℕ) (k m : ℕ) → W p k → length p ≡ suc m → start_id k (map E p) ≡ kwk (get_or p m 0)
    start-last [] k m w e = absurd (omega arith)
    start-last (i ∷ []) k zero (goes _ h o f w) e = sym (known.kwk-is i h)
    start-last (i ∷ []) k (suc m) w e = absurd (omega arith)
    start-last (i ∷ j ∷ p) k zero w e = absurd (omega arith)
    start-last (i ∷ j ∷ p) k (suc m) (goes _ h o f w) e =
        ap (λ (a : ℕ). start_id a (map E (j ∷ p))) (sym (known.kwk-is i h)) ∙ start-last (j ∷ p) (kwk i) m w (omega arith)

    -- ---- THE PATH: of a copy that opens under the key that it names, where the walks to the keys that other copies name are no shorter,
    -- and those of its length are to a key with no lower Key ID
    module _ (L : ℕ → ℕ) (is : Levelled n id kwk done is_root L) (copies : List SaKey) (copy : SaKey) (stands : In copy copies) (d : ℕ)
        (p t : List ℕ) (best : Best n id kwk done is_root L copy.kwk_id d p t) (x : List ℕ)
        (opens : (v : List ℕ) → C (map E p) copy.kwk_id v → Opens v copy.wrapped x)
        (first : (q : List WrapKey) (o : Opener roots entries size copies q) (r : List ℕ) → W r o.copy.kwk_id →
        (d ≤ length r) × (length r ≡ d → copy.kwk_id ≤ o.copy.kwk_id)) where
      abbrev k : ℕ
      k = copy.kwk_id

      abbrev O : List WrapKey → Type 0
      O = Opener roots entries size copies

      my-walk : W p k
      my-walk = best-walk n id kwk done is_root L is k d p t best

      abbrev my-opener : O (map E p)
      my-opener =
          let c = walk-chain p k my-walk in
          record { copy = copy; stands = stands; value = c.value; chain = c.chain; octets = x; opens = opens c.value c.chain }

      my-length : length (map E p) ≡ d
      my-length = length-map p E ∙ best-length n id kwk done is_root L is k d p t best

      module _ (q : List WrapKey) (o : O q) where
        r : Walked q o.copy.kwk_id
        r = chain-walk q o.copy.kwk_id o.value o.chain

        as_long : length q ≡ length r.places
        as_long = ap length (sym r.is) ∙ length-map r.places E

        shorter : length (map E p) ≤ length q
        shorter = let a = (first q o r.places r.walk).0 in omega (arith, a, my-length, as_long)

        trails : length q ≡ length (map E p) → NotAfter (k ∷ map kwk p) (o.copy.kwk_id ∷ map kwk r.places)
        trails s =
            let u : length r.places ≡ d = omega (arith, s, my-length, as_long) in
            let f = (first q o r.places r.walk).1 u in
            let v = best-trail n id kwk done is_root L is k d p t best in
            eq-cases k o.copy.kwk_id
            (λ e.
            inr (
              e,
              subst (λ (l : List ℕ). NotAfter l (map kwk r.places)) (sym v)
                  (best-smallest n id kwk done is_root L is k d p t best r.places (subst (W r.places) (sym e) r.walk) u),
            ))
            (λ e. inl (lower k o.copy.kwk_id f e))
          where
            lower : (a b : ℕ) → a ≤ b → (a ≡ b → ⊥) → a < b
            lower a b u f = omega arith

        in_order : length q ≡ length (map E p) →
            NotAfter (key_ids (map E p) ++ (start_id k (map E p) ∷ [])) (key_ids q ++ (start_id o.copy.kwk_id q ∷ []))
        in_order s =
            let j = o.copy.kwk_id in
            let e = trail_is r.places j r.walk ∙ ap (λ (m : List WrapKey). key_ids m ++ (start_id j m ∷ [])) r.is in
            subst (λ (m : List ℕ). NotAfter (key_ids (map E p) ++ (start_id k (map E p) ∷ [])) m) e
            (subst (λ (m : List ℕ). NotAfter m (j ∷ map kwk r.places)) (trail_is p k my-walk) (trails s))

        ids-long : (m : List WrapKey) → length (key_ids m) ≡ length m
        ids-long m = length-map m (λ (e : WrapKey). e.key_id)

        smaller : length q ≡ length (map E p) → NotAfter (key_ids (map E p)) (key_ids q)
        smaller s =
            let a = ids-long (map E p) in
            let b = ids-long q in
            let e : length (key_ids (map E p)) ≡ length (key_ids q) = omega (arith, a, b, s) in
            front-order (key_ids (map E p)) (key_ids q) (start_id k (map E p)) (start_id o.copy.kwk_id q) e (in_order s)

        lower-end : key_ids q ≡ key_ids (map E p) → start_id k (map E p) ≤ start_id o.copy.kwk_id q
        lower-end e =
            let s : length q ≡ length (map E p) = sym (ids-long q) ∙ ap length e ∙ ids-long (map E p) in
            last-order (key_ids (map E p)) (start_id k (map E p)) (start_id o.copy.kwk_id q)
            (subst (λ (m : List ℕ).
            NotAfter (key_ids (map E p) ++ (start_id k (map E p) ∷ [])) (m ++ (start_id o.copy.kwk_id q ∷ []))) e (in_order s))

      pub path-is : KeyPath roots entries size copies (key_ids (map E p)) (start_id k (map E p))
      path-is =
          record {
            passed = map E p;
            opener = my-opener;
            written = refl;
            ends = refl;
            fewest = shorter;
            smallest = smaller;
            lowest = lower-end;
          }
