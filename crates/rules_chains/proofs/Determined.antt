-- What the definitions determine: with no two values, the value of a key that is reached, by its Key ID; and the key of an SA.
use native.Mathlib.Omega.{arith}
use Prim.Native.Nat.{ℕ, suc}
use mathlib.Core.Path.{◌≡◌, refl, ap, ap₂}
use mathlib.Core.Logic.{◌⊎◌, inl, inr, ⊎_elim}
use mathlib.Core.List.{List, [], ◌∷◌}
use lib.Dec.{eqb}
use lib.ListN.{length, get_or}
use borrow.Author.Tests.{eqb-true, eqb-false}
use Rattle.lists.proofs.Cases.{bool_cases}
use Rattle.wire_attributes.specs.Tree.{WrapKey}
use Rattle.rules_chains.specs.Chain.{In, Root, Chain, root, step, Reached, CopyOpens}
use Rattle.rules_chains.specs.Refusals.{Announced, EntriesConflict, CopiesConflict, Value, KeyOf}
use Rattle.rules_chains.specs.Refusals as refusals

-- ---- lists of numbers are equal or not
tails : (m n : ℕ) (x y : List ℕ) → m ∷ x ≡ n ∷ y → x ≡ y
tails m n x y e = ap rest e
  where
    rest : List ℕ → List ℕ
    rest [] = []
    rest (a ∷ l) = l

heads-join : (m n : ℕ) (x y : List ℕ) → (x ≡ y) ⊎ (x ≡ y → ⊥) → (m ∷ x ≡ n ∷ y) ⊎ (m ∷ x ≡ n ∷ y → ⊥)
heads-join m n x y (inr f) = inr (λ e. f (tails m n x y e))
heads-join m n x y (inl e) =
    bool_cases (eqb m n) (λ b. inl (ap₂ (λ (a : ℕ) (l : List ℕ). a ∷ l) (eqb-true m n b) e))
    (λ b. inr (λ q. eqb-false m n b (ap (λ (l : List ℕ). get_or l 0 0) q)))

pub lists-equal : (x y : List ℕ) → (x ≡ y) ⊎ (x ≡ y → ⊥)
lists-equal [] [] = inl refl
lists-equal [] (n ∷ y) = inr (λ e. let z : 0 ≡ suc (length y) = ap length e in omega arith)
lists-equal (m ∷ x) [] = inr (λ e. let z : suc (length x) ≡ 0 = ap length e in omega arith)
lists-equal (m ∷ x) (n ∷ y) = heads-join m n x y (lists-equal x y)

module _ (roots : List Root) (entries : List WrapKey) (size : ℕ) where
  -- reached wrappings give a key one value
  abbrev pub OneValue : Type 0
  OneValue = (k : ℕ) (x y : List ℕ) → Reached roots entries size k x → Reached roots entries size k y → x ≡ y

  -- where number 8 does not hold of the entries, they do
  pub one_value : (EntriesConflict roots entries size → ⊥) → OneValue
  one_value none k x y p q = ⊎_elim (λ e. e) (λ f. absurd (none (refusals.two-values k x y p q f))) (lists-equal x y)

  -- a chain ends on a root, or what it gives is reached
  pub record AtRoot (k : ℕ) (v : List ℕ) : Type 0 where
    pub key : Root
    pub stands : In key roots
    pub id-is : key.id ≡ k
    pub value-is : key.value ≡ v

  pub ends_by : (passed : List WrapKey) (k : ℕ) (v : List ℕ) → Chain roots entries size passed k v →
      AtRoot k v ⊎ Reached roots entries size k v
  ends_by _ _ _ (root r m) = inl (record { key = r; stands = m; id-is = refl; value-is = refl })
  ends_by _ _ _ (step {passed = p} e c t l) = inr (record { last = e; before = p; chain = step e c t l })

  -- what is reached is the key of an entry
  Last : List WrapKey → ℕ → Type 0
  Last [] k = Unit {0}
  Last (e ∷ passed) k = In e entries × (e.key_id ≡ k)

  last : (passed : List WrapKey) (k : ℕ) (v : List ℕ) → Chain roots entries size passed k v → Last passed k
  unfolding Last
  last _ _ _ (root r m) = tt
  last _ _ _ (step {passed = p} e c t l) = (l.entry, refl)

  pub last_entry : (k : ℕ) (x : List ℕ) (r : Reached roots entries size k x) → In r.last entries × (r.last.key_id ≡ k)
  unfolding Last
  last_entry k x r = last (r.last ∷ r.before) k x r.chain

  -- where number 8 does not hold of an SA's copies, each that opens gives the same octets
  pub copies-one : (a : Announced) → (CopiesConflict roots entries size a → ⊥) → (x y : List ℕ) →
      CopyOpens roots entries size a.copies x → CopyOpens roots entries size a.copies y → x ≡ y
  copies-one a none x y p q = ⊎_elim (λ e. e) (λ f. absurd (none (refusals.two-values x y p q f))) (lists-equal x y)

  -- "the value that every chain ending on it gives" is one, and so are "the octets that every such copy opens to"
  pub value-one : (k : ℕ) (x y : List ℕ) → Value roots entries size k x → Value roots entries size k y → x ≡ y
  value-one k x y p q = q.every x p.reached

  pub key_one : (a : Announced) (x y : List ℕ) → KeyOf roots entries size a x → KeyOf roots entries size a y → x ≡ y
  key_one a x y p q = q.every x p.opens
