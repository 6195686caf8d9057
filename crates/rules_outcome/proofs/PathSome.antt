-- WHERE A CHAIN OPENS A COPY THERE CANNOT BE NO PATH, whatever the keys are. `path-exists` (rules_chains/proofs/SomePath.antt) finds the
-- path, where the keys are octets; here none is looked for.
use native.Mathlib.Omega.{arith}
use Prim.Native.Nat.{ℕ, zero, suc, ◌≤◌}
use mathlib.Core.Path.{◌≡◌, refl, ap, sym, ◌∙◌, subst}
use mathlib.Core.Logic.{inl, inr}
use mathlib.Core.List.{List, [], ◌∷◌}
use lib.ListN.{length, length-map}
use Rattle.lists.proofs.Cases.{lt-cases}
use Rattle.wire_attributes.specs.Tree.{WrapKey, SaKey}
use Rattle.rules_chains.specs.Chain.{Root}
use Rattle.rules_chains.specs.Path.{key_ids, start_id, NotAfter, Opener, KeyPath}

-- one of P has the least measure
least-some : {A : Type 0} (P : A → Type 0) (m : A → ℕ) (n : ℕ) (a : A) → P a → m a ≤ n →
    ((b : A) → P b → ((c : A) → P c → m b ≤ m c) → ⊥) → ⊥
least-some P m zero a p h none = none a p (λ c q. omega arith)
least-some P m (suc n) a p h none =
    none a p (λ c q. lt-cases (m c) (m a) (λ g. absurd (least-some P m n c q (omega arith) none)) (λ g. g))

-- ---- of lists of one length, one is before all others
abbrev first : List ℕ → ℕ
first [] = 0
first (a ∷ l) = a

module _ (n : ℕ) (P : List ℕ → Type 0) (long : (l : List ℕ) → P l → length l ≡ suc n) where
  not_after : (a : ℕ) (m : List ℕ) → ((c : List ℕ) → P c → a ≤ first c) → ((o : List ℕ) → P (a ∷ o) → NotAfter m o) → (o : List ℕ) →
      P o → NotAfter (a ∷ m) o
  not_after a m low least [] q = let e = long [] q in absurd (omega arith)
  not_after a m low least (b ∷ o) q =
      let h = low (b ∷ o) q in
      lt-cases a b (λ g. inl g)
      (λ g. let e : a ≡ b = omega arith in inr (e, least o (subst (λ (x : ℕ). P (x ∷ o)) (sym e) q)))

  -- of those with the least first number, by what is known of the others
  by_first : (b : List ℕ) → P b → ((c : List ℕ) → P c → first b ≤ first c) →
      ((l : List ℕ) → P (first b ∷ l) → ((m : List ℕ) → P (first b ∷ m) → ((o : List ℕ) → P (first b ∷ o) → NotAfter m o) → ⊥) → ⊥) →
      ((m : List ℕ) → P m → ((o : List ℕ) → P o → NotAfter m o) → ⊥) → ⊥
  by_first [] q low rest none = let e = long [] q in absurd (omega arith)
  by_first (a ∷ l) q low rest none = rest l q (λ m r least. none (a ∷ m) r (not_after a m low least))

least-list : (n : ℕ) (P : List ℕ → Type 0) → ((l : List ℕ) → P l → length l ≡ n) → (l : List ℕ) → P l →
    ((m : List ℕ) → P m → ((o : List ℕ) → P o → NotAfter m o) → ⊥) → ⊥
least-list zero P long [] p none = none [] p (λ o q. tt)
least-list zero P long (a ∷ l) p none = let e = long (a ∷ l) p in absurd (omega arith)
least-list (suc n) P long l p none =
    least-some P first (first l) l p (omega arith) (λ b q low.
    by_first n P long b q low
    (λ t r. least-list n (λ (u : List ℕ). P (first b ∷ u)) (λ u s. let e = long (first b ∷ u) s in omega arith) t r) none)

module _ (roots : List Root) (entries : List WrapKey) (size : ℕ) (copies : List SaKey) where
  -- an opener with so many entries and this list of Key IDs
  record Written (n : ℕ) (ids : List ℕ) : Type 0 where
    passed : List WrapKey
    opener : Opener roots entries size copies passed
    written : key_ids passed ≡ ids
    count : length passed ≡ n

  as_long : (n : ℕ) (ids : List ℕ) → Written n ids → length ids ≡ n
  as_long n ids w = ap length (sym w.written) ∙ length-map w.passed (λ (e : WrapKey). e.key_id) ∙ w.count

  -- the key that such an opener started with
  abbrev end_of : (n : ℕ) (ids : List ℕ) → Written n ids → ℕ
  end_of n ids w = start_id w.opener.copy.kwk_id w.passed

  pub path-some : (q : List WrapKey) → Opener roots entries size copies q →
      ((ids : List ℕ) (end : ℕ) → KeyPath roots entries size copies ids end → ⊥) → ⊥
  path-some q o none =
      least-some (Opener roots entries size copies) (λ (l : List WrapKey). length l) (length q) q o (omega arith) (λ p r few.
      least-list (length p) (Written (length p)) (as_long (length p)) (key_ids p)
      (record { passed = p; opener = r; written = refl; count = refl }) (λ ids v small.
      least-some (λ (w : Written (length p) ids). Unit {0}) (end_of (length p) ids) (end_of (length p) ids v) v tt (omega arith) (λ w u low.
      none ids (end_of (length p) ids w)
      (record {
        passed = w.passed;
        opener = w.opener;
        written = w.written;
        ends = refl;
        fewest = λ other x. let c = w.count in let f = few other x in omega (arith, c, f);
        smallest = λ other x e. small (key_ids other) (record { passed = other; opener = x; written = refl; count = e ∙ w.count });
        lowest = λ other x e.
            let n = length-map other (λ (d : WrapKey). d.key_id) in
            let m = as_long (length p) ids w in
            let k : length (key_ids other) ≡ length ids = ap length e in
            low (record { passed = other; opener = x; written = e; count = omega (arith, n, m, k) }) tt;
      }))))
