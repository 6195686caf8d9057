-- All rounds over words are a cipher over octets: any whose table, box and round keys are lent.
use mathlib.Core.Path.{◌≡◌, refl, ap, ◌∙◌}
use mathlib.Core.List.{List, [], ◌∷◌}
use Prim.Native.Nat.{ℕ, zero, suc, ◌+◌, ◌*◌, ◌-◌, ◌≤◌}
use native.Mathlib.Omega.{arith}
use lib.ListN.{get_or}
use Rattle.octets.specs.Octets.{Octets}
use Rattle.fips197.specs.Steps.{substitute, shift_rows, mix_by, add_round_key}
use Rattle.aes.specs.declared.AesState.{AesState}
use Rattle.aes.specs.inner.Tables.{Boxed}
use Rattle.aes.specs.inner.Rounds.{state_octets, round_key_of, add_first_key, round_of, last_round_of, rounds_up_to, run_of}
use Rattle.aes.proofs.Bytes.{Bytes, own, bytes-xor, Mixing, column, last-column}

-- a round of the matrix p q r t and the box, with a round key; rounds 1 to n; and all of them
abbrev pub round_by : ℕ → ℕ → ℕ → ℕ → List ℕ → List ℕ → List ℕ → List ℕ
round_by p q r t box k s = add_round_key (mix_by p q r t (shift_rows (substitute box s))) k

abbrev pub rounds_by : ℕ → ℕ → ℕ → ℕ → List ℕ → (ℕ → List ℕ) → ℕ → List ℕ → List ℕ
rounds_by p q r t box keys zero s = s
rounds_by p q r t box keys (suc n) s = round_by p q r t box (keys (suc n)) (rounds_by p q r t box keys n s)

abbrev pub cipher_by : ℕ → ℕ → ℕ → ℕ → List ℕ → (ℕ → List ℕ) → ℕ → List ℕ → List ℕ
cipher_by p q r t box keys n s =
    add_round_key (shift_rows (substitute box (rounds_by p q r t box keys (n - 1) (add_round_key s (keys 0))))) (keys n)

-- what is lent: the table and the box w, and the n + 1 round keys k
pub record Lent (p q r t : ℕ) (box : List ℕ) (keys : ℕ → List ℕ) (n : ℕ) (w k : List ℕ) : Type 0 where
  pub mixes : Mixing p q r t box w
  pub boxed : Boxed box w 256
  pub small : Octets box
  pub count : get_or k 60 0 ≡ n
  pub least : 1 ≤ n
  pub key : (i : ℕ) → i ≤ n → state_octets (round_key_of k i) ≡ keys i

-- four words whose octets are known
pub state : {x y z w p0 p1 p2 p3 q0 q1 q2 q3 r0 r1 r2 r3 t0 t1 t2 t3 : ℕ} → Bytes x p0 p1 p2 p3 → Bytes y q0 q1 q2 q3
    → Bytes z r0 r1 r2 r3 → Bytes w t0 t1 t2 t3
    → state_octets (record { a = x; b = y; c = z; d = w })
    ≡ p0 ∷ p1 ∷ p2 ∷ p3 ∷ q0 ∷ q1 ∷ q2 ∷ q3 ∷ r0 ∷ r1 ∷ r2 ∷ r3 ∷ t0 ∷ t1 ∷ t2 ∷ t3 ∷ []
state x y z w =
    λ i. x.at0 i ∷ x.at1 i ∷ x.at2 i ∷ x.at3 i ∷ y.at0 i ∷ y.at1 i ∷ y.at2 i ∷ y.at3 i
    ∷ z.at0 i ∷ z.at1 i ∷ z.at2 i ∷ z.at3 i ∷ w.at0 i ∷ w.at1 i ∷ w.at2 i ∷ w.at3 i ∷ []

module _ {p q r t : ℕ} {box : List ℕ} {keys : ℕ → List ℕ} {n : ℕ} {w k : List ℕ} (l : Lent p q r t box keys n w k) where
  round_is : (i : ℕ) (s : AesState) → i ≤ n → state_octets (round_of w k i s) ≡ round_by p q r t box (keys i) (state_octets s)
  unfolding round_of
  round_is i s h =
      state
      (column p q r t box w l.mixes l.small s.a s.b s.c s.d (get_or k (4 * i) 0))
      (column p q r t box w l.mixes l.small s.b s.c s.d s.a (get_or k (4 * i + 1) 0))
      (column p q r t box w l.mixes l.small s.c s.d s.a s.b (get_or k (4 * i + 2) 0))
      (column p q r t box w l.mixes l.small s.d s.a s.b s.c (get_or k (4 * i + 3) 0))
      ∙ ap (λ (x : List ℕ). round_by p q r t box x (state_octets s)) (l.key i h)

  last-is : (i : ℕ) (s : AesState) → i ≤ n →
      state_octets (last_round_of w k i s) ≡ add_round_key (shift_rows (substitute box (state_octets s))) (keys i)
  unfolding last_round_of
  last-is i s h =
      state
      (last-column box w 256 l.small l.boxed s.a s.b s.c s.d (get_or k (4 * i) 0))
      (last-column box w 256 l.small l.boxed s.b s.c s.d s.a (get_or k (4 * i + 1) 0))
      (last-column box w 256 l.small l.boxed s.c s.d s.a s.b (get_or k (4 * i + 2) 0))
      (last-column box w 256 l.small l.boxed s.d s.a s.b s.c (get_or k (4 * i + 3) 0))
      ∙ ap (add_round_key (shift_rows (substitute box (state_octets s)))) (l.key i h)

  start_is : (s : AesState) → state_octets (add_first_key k s) ≡ add_round_key (state_octets s) (keys 0)
  unfolding add_first_key
  start_is s =
      state
      (bytes-xor (own s.a) (own (get_or k 0 0))) (bytes-xor (own s.b) (own (get_or k 1 0)))
      (bytes-xor (own s.c) (own (get_or k 2 0))) (bytes-xor (own s.d) (own (get_or k 3 0)))
      ∙ ap (add_round_key (state_octets s)) (l.key 0 (omega arith))

  rounds-are : (i : ℕ) (s : AesState) → i ≤ n → state_octets (rounds_up_to w k i s) ≡ rounds_by p q r t box keys i (state_octets s)
  rounds-are zero s h = refl
  rounds-are (suc i) s h =
      round_is (suc i) (rounds_up_to w k i s) h ∙ ap (round_by p q r t box (keys (suc i))) (rounds-are i s (omega arith))

  pub run_is : (s : AesState) → state_octets (run_of w k s) ≡ cipher_by p q r t box keys n (state_octets s)
  unfolding run_of
  run_is s =
      ap (λ (m : ℕ). state_octets (last_round_of w k m (rounds_up_to w k (m - 1) (add_first_key k s)))) l.count
      ∙ last-is n (rounds_up_to w k (n - 1) (add_first_key k s)) (omega arith)
      ∙ ap (λ (x : List ℕ). add_round_key (shift_rows (substitute box x)) (keys n))
      (rounds-are (n - 1) (add_first_key k s) (omega arith) ∙ ap (rounds_by p q r t box keys (n - 1)) (start_is s))
