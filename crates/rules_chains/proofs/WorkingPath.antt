-- THE KEYS OF THE PATH, where number 8 does not hold of the entries: each has one value, none has Key ID 0, "Key IDs are then distinct",
-- and there are at most as many as entries, so that the held list of a registration has room for all of them. It ends on a key that chains
-- start with, in a registration on key 0.
use native.Mathlib.Omega.{arith}
use native.Mathlib.Decide.{ℕ_discrete}
use Prim.Native.Nat.{ℕ, suc, ◌≤◌, ◌<◌}
use mathlib.Core.Path.{◌≡◌, refl, ap, sym, ◌∙◌, subst}
use mathlib.Core.Logic.{◌⊎◌, inl, inr, ⊎_elim, by_cases}
use mathlib.Core.List.Memᴰ
use mathlib.Core.List.{List, [], ◌∷◌, Memᴰ}
use lib.ListN.{length, length-map}
use Rattle.wire_attributes.specs.Tree.{WrapKey, SaKey}
use Rattle.rules_chains.specs.Chain.{In, Root, Extended, Chain, root, step, Reached}
use Rattle.rules_chains.specs.Refusals.{EntriesConflict}
use Rattle.rules_chains.specs.Path.{key_ids, start_id, KeyPath, Keys, no_key, one_more}
use Rattle.rules_chains.proofs.Determined.{one_value}
use Rattle.rules_chains.proofs.Laws.{entries_fit}
use Rattle.rules_chains.proofs.Members.{in-member}

-- ---- lists of numbers
-- no number stands twice
abbrev pub Distinct : List ℕ → Type 0
Distinct [] = Unit {0}
Distinct (a ∷ l) = (Memᴰ a l → ⊥) × Distinct l

member-cases : (a : ℕ) (l : List ℕ) → Memᴰ a l ⊎ (Memᴰ a l → ⊥)
member-cases a [] = inr (λ m. Memᴰ.not-nil m)
member-cases a (b ∷ l) =
    by_cases (ℕ_discrete a b) (λ e. inl (Memᴰ.head e))
    (λ f.
    ⊎_elim (λ m. inl (Memᴰ.tail m)) (λ g. inr (λ m. ⊎_elim f g (Memᴰ.cases_cons m)))
    (member-cases a l))

-- the others of a list in which a stands
record Others (a : ℕ) (m : List ℕ) : Type 0 where
  others : List ℕ
  count : length m ≡ suc (length others)
  kept : (b : ℕ) → Memᴰ b m → (b ≡ a → ⊥) → Memᴰ b others

without : (a : ℕ) (m : List ℕ) → Memᴰ a m → Others a m
without a [] i = absurd (Memᴰ.not-nil i)
without a (b ∷ m) i =
    ⊎_elim
    (λ e.
    record {
      others = m;
      count = refl;
      kept = λ c j f. ⊎_elim (λ q. absurd (f (q ∙ sym e))) (λ k. k) (Memᴰ.cases_cons j);
    })
    (λ k.
    let r = without a m k in
    record {
      others = b ∷ r.others;
      count = ap suc r.count;
      kept = λ c j f. ⊎_elim (λ q. Memᴰ.head q) (λ h. Memᴰ.tail (r.kept c h f)) (Memᴰ.cases_cons j);
    })
    (Memᴰ.cases_cons i)

-- distinct numbers of a list are at most as many as it has
fewer : (l m : List ℕ) → Distinct l → ((a : ℕ) → Memᴰ a l → Memᴰ a m) → length l ≤ length m
fewer [] m d f = omega arith
fewer (a ∷ l) m d f =
    let r = without a m (f a (Memᴰ.head refl)) in
    let h = fewer l r.others d.1 (λ b i. r.kept b (f b (Memᴰ.tail i)) (λ e. d.0 (Memᴰ.cast (sym e) i))) in
    let n = r.count in omega arith

module _ (roots : List Root) (entries : List WrapKey) (size : ℕ) where
  -- each Key ID of a chain is an entry's
  record Given (i : ℕ) : Type 0 where
    entry : WrapKey
    stands : In entry entries
    is : entry.key_id ≡ i

  given : (p : List WrapKey) (k : ℕ) (v : List ℕ) → Chain roots entries size p k v → (i : ℕ) → Memᴰ i (key_ids p) → Given i
  given _ _ _ (root r s) i m = absurd (Memᴰ.not-nil m)
  given _ _ _ (step {passed = p} {k = k} {v = v} e c t l) i m =
      ⊎_elim (λ q. record { entry = e; stands = l.entry; is = sym q }) (λ n. given p k v c i n) (Memᴰ.cases_cons m)

  -- "none 0", since number 6 leaves no entry with Key ID 0
  pub path-nonzero : (copies : List SaKey) (ids : List ℕ) (end : ℕ) → KeyPath roots entries size copies ids end →
      ((e : WrapKey) → In e entries → e.key_id ≡ 0 → ⊥) → Memᴰ 0 ids → ⊥
  path-nonzero copies ids end p nonzero m =
      let o = p.opener in
      let g = given p.passed o.copy.kwk_id o.value o.chain 0 (subst (Memᴰ 0) (sym p.written) m) in
      nonzero g.entry g.stands g.is

  -- ---- what it ends on is a key that chains start with
  pub record Ends (i : ℕ) : Type 0 where
    pub key : Root
    pub stands : In key roots
    pub is : key.id ≡ i

  chain-starts : (p : List WrapKey) (k : ℕ) (v : List ℕ) → Chain roots entries size p k v → Ends (start_id k p)
  chain-starts _ _ _ (root r i) = record { key = r; stands = i; is = refl }
  chain-starts _ _ _ (step {passed = p} {k = k} {v = v} e c t l) =
      subst (λ (j : ℕ). Ends (start_id j p)) (sym l.names) (chain-starts p k v c)

  pub path-ends : (copies : List SaKey) (ids : List ℕ) (end : ℕ) → KeyPath roots entries size copies ids end → Ends end
  path-ends copies ids end p =
      let o = p.opener in subst Ends p.ends (chain-starts p.passed o.copy.kwk_id o.value o.chain)

  -- where there is no entry the path is empty
  none_passed : (p : List WrapKey) (k : ℕ) (v : List ℕ) → Chain roots entries size p k v → entries ≡ [] → key_ids p ≡ []
  none_passed _ _ _ (root r i) e = refl
  none_passed _ _ _ (step d c t l) e = absurd (Memᴰ.not-nil (subst (Memᴰ d) e (in-member d entries l.entry)))

  pub path-of-none : (copies : List SaKey) (ids : List ℕ) (end : ℕ) → KeyPath roots entries size copies ids end → entries ≡ [] → ids ≡ []
  path-of-none copies ids end p e =
      let o = p.opener in sym p.written ∙ none_passed p.passed o.copy.kwk_id o.value o.chain e

  module _ (none : EntriesConflict roots entries size → ⊥) where
    -- ---- each key has one value
    pub record Valued (ids : List ℕ) : Type 0 where
      pub keys : List Root
      pub are : Keys roots entries size ids keys

    chain-keys : (p : List WrapKey) (k : ℕ) (v : List ℕ) → Chain roots entries size p k v → Valued (key_ids p)
    chain-keys _ _ _ (root r i) = record { keys = []; are = no_key }
    chain-keys _ _ x (step {passed = p} {k = j} {v = v} e c t l) =
        let r : Reached roots entries size e.key_id x = record { last = e; before = p; chain = step e c t l } in
        let m = chain-keys p j v c in
        record {
          keys = record { id = e.key_id; value = x } ∷ m.keys;
          are = one_more (record { reached = r; every = λ y s. one_value roots entries size none e.key_id y x s r }) m.are;
        }

    pub keys-exist : (copies : List SaKey) (ids : List ℕ) (end : ℕ) → KeyPath roots entries size copies ids end → Valued ids
    keys-exist copies ids end p =
        let o = p.opener in subst Valued p.written (chain-keys p.passed o.copy.kwk_id o.value o.chain)

    -- ---- a chain that comes back to a key can be cut short
    record Shorter (n k : ℕ) (v : List ℕ) : Type 0 where
      passed : List WrapKey
      chain : Chain roots entries size passed k v
      less : length passed < n

    may-go-on : (p : List WrapKey) (k : ℕ) (v : List ℕ) → Chain roots entries size p k v → Extended roots entries size p v
    may-go-on _ _ _ (root r i) = tt
    may-go-on _ k x (step {passed = p} e c t l) =
        entries_fit roots entries size none k x (record { last = e; before = p; chain = step e c t l })

    -- where a Key ID stands among those of a chain, a part of the chain ends on it
    part-to : (p : List WrapKey) (k : ℕ) (v : List ℕ) → Chain roots entries size p k v → (i : ℕ) → Memᴰ i (key_ids p) → (x : List ℕ) →
        Reached roots entries size i x → Shorter (suc (length p)) i x
    part-to _ _ _ (root r s) i m x q = absurd (Memᴰ.not-nil m)
    part-to _ _ y (step {passed = p} {k = k} {v = v} e c t l) i m x q =
        ⊎_elim
        (λ h. at_last p k v y e (step e c t l) i x q (sym h))
        (λ n. let s = part-to p k v c i n x q in let b = s.less in record { passed = s.passed; chain = s.chain; less = omega arith })
        (Memᴰ.cases_cons m)
      where
        at_last : (p : List WrapKey) (k : ℕ) (v y : List ℕ) (e : WrapKey) → Chain roots entries size (e ∷ p) e.key_id y → (i : ℕ)
            (x : List ℕ) → Reached roots entries size i x → e.key_id ≡ i → Shorter (suc (suc (length p))) i x
        at_last p k v y e c i x q h =
            let d : Chain roots entries size (e ∷ p) i y = subst (λ (j : ℕ). Chain roots entries size (e ∷ p) j y) h c in
            let z = one_value roots entries size none i y x (record { last = e; before = p; chain = d }) q in
            record { passed = e ∷ p; chain = subst (Chain roots entries size (e ∷ p) i) z d; less = omega arith }

    cut : (p : List WrapKey) (k : ℕ) (v : List ℕ) → Chain roots entries size p k v → Distinct (key_ids p) ⊎ Shorter (length p) k v
    cut _ _ _ (root r i) = inl tt
    cut _ _ x (step {passed = p} {k = k} {v = v} e c t l) =
        ⊎_elim
        (λ d.
        ⊎_elim (λ m. inr (part-to p k v c e.key_id m x (record { last = e; before = p; chain = step e c t l })))
        (λ f. inl (f, d)) (member-cases e.key_id (key_ids p)))
        (λ s.
        let b = s.less in
        inr
        (record {
          passed = e ∷ s.passed;
          chain = step e s.chain (may-go-on s.passed k v s.chain) l;
          less = omega arith;
        }))
        (cut p k v c)

    -- "A member's Key IDs are then distinct"
    pub path-distinct : (copies : List SaKey) (ids : List ℕ) (end : ℕ) → KeyPath roots entries size copies ids end → Distinct ids
    path-distinct copies ids end p =
        let o = p.opener in
        ⊎_elim (λ d. subst Distinct p.written d)
        (λ s.
        let b = s.less in
        let f = p.fewest s.passed
        (record {
          copy = o.copy;
          stands = o.stands;
          value = o.value;
          chain = s.chain;
          octets = o.octets;
          opens = o.opens;
        }) in absurd (omega arith))
        (cut p.passed o.copy.kwk_id o.value o.chain)

    -- the path has at most as many keys as there are entries
    pub path-fits : (copies : List SaKey) (ids : List ℕ) (end : ℕ) → KeyPath roots entries size copies ids end → length ids ≤ length entries
    path-fits copies ids end p =
        let o = p.opener in
        let h = fewer ids (key_ids entries) (path-distinct copies ids end p)
        (λ i m.
        let g = given p.passed o.copy.kwk_id o.value o.chain i (subst (Memᴰ i) (sym p.written) m) in
        Memᴰ.cast (sym g.is) (Memᴰ.map (λ (e : WrapKey). e.key_id) (in-member g.entry entries g.stands))) in
        let n : length (key_ids entries) ≡ length entries = length-map entries (λ (e : WrapKey). e.key_id) in omega arith
