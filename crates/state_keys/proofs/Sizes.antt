-- The octet counts of each kind of key.
use native.Mathlib.Omega.{arith}
use native.Mathlib.Numerals.{add-one}
use Prim.Native.Nat.{ℕ, ◌+◌, ◌≤◌, ◌<◌}
use mathlib.Core.Path.{◌≡◌, refl, sym, ◌∙◌}
use mathlib.Core.Bool.{Bool, true, false, not, ◌&&◌, ◌||◌, false≢true}
use mathlib.Core.Logic.{◌⊎◌, inl, inr}
use mathlib.Core.List.{List, [], ◌∷◌}
use borrow.Author.Tests.{eq-eqb, ne_eqb, eqb-true}
use lib.Dec.{eqb}
use lib.ListN.{length, drop, get_or, drop_of_length-le}
use lib.Seq.{drop-cons}
use Rattle.state_keys.specs.declared.algorithms.AlgorithmRow.{AlgorithmRow}
use Rattle.std.specs.Prelude.{Some, None}
use Rattle.std.specs.List.{list_any}
use Rattle.lists.specs.Lists.{any}
use Rattle.state_keys.specs.Algorithms.{algorithms, size_of, is_row_of, needed_in, needed_by, is_wrapping_size, is_encryption_size}
use Rattle.state_keys.specs.Kinds.{rekey_sizes}
use Rattle.lists.proofs.Cases.{bool_cases, and_parts}

-- one of three counts
abbrev pub among : ℕ → ℕ → ℕ → ℕ → Bool
among a b c n = eqb n a || (eqb n b || (eqb n c || false))

pub wrapping-size : (n : ℕ) → is_wrapping_size n ≡ among 16 24 32 n
unfolding size_of any
wrapping-size n = refl

pub encryption-size : (n : ℕ) → is_encryption_size n ≡ among 20 28 36 n
unfolding size_of any
encryption-size n = refl

eqb_flip : (m n : ℕ) → eqb m n ≡ eqb n m
eqb_flip m n =
    bool_cases (eqb m n) (λ e. e ∙ sym (eq-eqb n m (sym (eqb-true m n e))))
    (λ e. e ∙ sym (ne_eqb n m (λ q. false≢true (sym e ∙ eq-eqb m n (sym q)))))

module _ (a b c n : ℕ) where
  pub among-list : list_any (λ (m : ℕ). eqb m n) (a ∷ b ∷ c ∷ []) ≡ among a b c n
  among-list i = eqb_flip a n i || (eqb_flip b n i || (eqb_flip c n i || false))

  pub among-is : among a b c n ≡ true → (n ≡ a) ⊎ ((n ≡ b) ⊎ (n ≡ c))
  among-is e =
      bool_cases (eqb n a) (λ p. inl (eqb-true n a p))
      (λ p.
      bool_cases (eqb n b) (λ q. inr (inl (eqb-true n b q)))
      (λ q. bool_cases (eqb n c) (λ r. inr (inr (eqb-true n c r))) (λ r. absurd (false≢true (sym (simp (p, q, r)) ∙ e)))))

  among-le : (m : ℕ) → a ≤ m → b ≤ m → c ≤ m → (n ≡ a) ⊎ ((n ≡ b) ⊎ (n ≡ c)) → n ≤ m
  among-le m x y z (inl e) = omega arith
  among-le m x y z (inr (inl e)) = omega arith
  among-le m x y z (inr (inr e)) = omega arith

  among-ge : (m : ℕ) → m ≤ a → m ≤ b → m ≤ c → (n ≡ a) ⊎ ((n ≡ b) ⊎ (n ≡ c)) → m ≤ n
  among-ge m x y z (inl e) = omega arith
  among-ge m x y z (inr (inl e)) = omega arith
  among-ge m x y z (inr (inr e)) = omega arith

pub wrapping-le : (n : ℕ) → is_wrapping_size n ≡ true → n ≤ 32
wrapping-le n e = among-le 16 24 32 n 32 (omega arith) (omega arith) (omega arith) (among-is 16 24 32 n (sym (wrapping-size n) ∙ e))

pub encryption-le : (n : ℕ) → is_encryption_size n ≡ true → n ≤ 36
encryption-le n e = among-le 20 28 36 n 36 (omega arith) (omega arith) (omega arith) (among-is 20 28 36 n (sym (encryption-size n) ∙ e))

-- the two parts of a Rekey SA's keying octets
pub rekey-parts : (e w : ℕ) → rekey_sizes e w ≡ true → (is_encryption_size e ≡ true) × (is_wrapping_size w ≡ true)
unfolding rekey_sizes
rekey-parts e w p = and_parts (is_encryption_size e) (is_wrapping_size w) p

pub rekey-le : (e w : ℕ) → rekey_sizes e w ≡ true → (e ≤ 36) × (w ≤ 32)
rekey-le e w p = let q = rekey-parts e w p in (encryption-le e q.0, wrapping-le w q.1)

-- ---- the tests of a row, and the search of one
pub row_is : (k i b : ℕ) (r : AlgorithmRow) → r.kind ≡ k → r.id ≡ i → k ≡ 1 → eqb r.bits b ≡ is_row_of k i b r
unfolding is_row_of
row_is k i b r p q e = rw (eq-eqb r.kind k p, eq-eqb r.id i q, eq-eqb k 1 e)

abbrev pub blank_row : AlgorithmRow
blank_row = record { kind = 0; id = 0; bits = 0; octets = 0 }

module _ (k i b : ℕ) (l : List AlgorithmRow) (j : ℕ) (d : AlgorithmRow) (h : j < length l) where
  pub needed_here : true ≡ is_row_of k i b (get_or l j d) → needed_in k i b (drop j l) ≡ Some (get_or l j d).octets
  unfolding needed_in
  needed_here e = rw (drop-cons l j d, ← e)

  pub needed-next : false ≡ is_row_of k i b (get_or l j d) → needed_in k i b (drop j l) ≡ needed_in k i b (drop (j + 1) l)
  unfolding needed_in
  needed-next e = rw (drop-cons l j d, ← e, add-one)

pub needed-end : (k i b : ℕ) (l : List AlgorithmRow) (j : ℕ) → length l ≤ j → needed_in k i b (drop j l) ≡ None
unfolding needed_in
needed-end k i b l j h = rw (drop_of_length-le l h)

-- what a row needs is a size of its transform type
needed-any : (k i b n : ℕ) (l : List AlgorithmRow) → needed_in k i b l ≡ Some n →
    any (λ (r : AlgorithmRow). eqb r.kind k && eqb n r.octets) l ≡ true
unfolding needed_in any is_row_of
needed-any k i b n [] e = let z : ◌≡◌ {A = ℕ} 0 1 = cc in absurd (omega arith)
needed-any k i b n (r ∷ l) e =
    bool_cases (eqb r.kind k && (eqb r.id i && (not (eqb k 1) || eqb r.bits b)))
    (λ g.
    let p = (and_parts (eqb r.kind k) (eqb r.id i && (not (eqb k 1) || eqb r.bits b)) g).0 in
    let q : Some r.octets ≡ Some n = rw g at e in
    let m : n ≡ r.octets = cc in
    rw (p, eq-eqb n r.octets m))
    (λ g.
    let h = needed-any k i b n l (rw g at e) in
    bool_cases (eqb r.kind k && eqb n r.octets) (λ f. rw f) (λ f. rw f h))

pub needed-size : (k i b n : ℕ) → needed_by k i b ≡ Some n → size_of k n ≡ true
unfolding needed_by size_of
needed-size k i b n e = needed-any k i b n algorithms e
