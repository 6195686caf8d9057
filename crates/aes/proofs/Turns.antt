-- A turn of the loop over the rounds.
use mathlib.Core.Path.{◌≡◌, ap, ◌∙◌}
use mathlib.Core.List.{List}
use Prim.Native.Nat.{ℕ, suc, ◌+◌, ◌-◌, ◌≤◌}
use native.Mathlib.Omega.{arith}
use lib.ListN.{get_or}
use Rattle.aes.specs.declared.AesState.{AesState}
use Rattle.aes.specs.inner.Rounds.{add_first_key, round_of, last_round_of, rounds_up_to, run_of}

module _ (t k : List ℕ) where
  pub turned : (x₀ : AesState) (r : ℕ) → 1 ≤ r → {x y : AesState} → x ≡ rounds_up_to t k (r - 1) x₀ → y ≡ round_of t k r x
      → y ≡ rounds_up_to t k (r + 1 - 1) x₀
  turned x₀ r l a b =
      b ∙ ap (round_of t k r) a
      ∙ ap (λ (n : ℕ). round_of t k n (rounds_up_to t k (r - 1) x₀)) (let z : r ≡ suc (r - 1) = omega arith in z)
      ∙ ap (λ (n : ℕ). rounds_up_to t k n x₀) (let z : suc (r - 1) ≡ r + 1 - 1 = omega arith in z)

  pub ran : (s : AesState) (r : ℕ) {x₀ x y : AesState} → x₀ ≡ add_first_key k s → x ≡ rounds_up_to t k (r - 1) x₀ → r ≡ get_or k 60 0
      → y ≡ last_round_of t k (get_or k 60 0) x → y ≡ run_of t k s
  unfolding run_of
  ran s r {x₀} a b q d =
      let m : ℕ = get_or k 60 0 in
      d ∙ ap (last_round_of t k m) (b ∙ ap (λ (j : ℕ). rounds_up_to t k (j - 1) x₀) q ∙ ap (rounds_up_to t k (m - 1)) a)
