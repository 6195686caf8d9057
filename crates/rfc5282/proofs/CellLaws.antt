-- A stretch of octets, octet by octet, so that what is taken of it computes.
use mathlib.Core.Path.{◌≡◌, sym, ap₂, ◌∙◌}
use mathlib.Core.List.{List, ◌∷◌, ◌++◌}
use Prim.Native.Nat.{ℕ, ◌+◌, ◌<◌, ◌≤◌}
use native.Mathlib.Omega.{arith}
use lib.ListN.{length, take, drop, length-drop}
use lib.Seq.{ext_get_or, length-take-le, get_or-take, get_or-drop}
use Rattle.octets.specs.Numbers.{oct, octets_of}
use Rattle.octets.specs.Generate.{gen}
use Rattle.octets.proofs.Generate.{length-gen, get_d-gen}
use Rattle.rfc5282.specs.SealedFrame.{header_with}

module _ (s : List ℕ) where
  pub cells : (a n : ℕ) → a + n ≤ length s → take n (drop a s) ≡ gen (oct s) a n
  cells a n h =
      ext_get_or 0 (take n (drop a s)) (gen (oct s) a n) (size ∙ sym (length-gen n a (oct s)))
      (λ k b. let q : k < n = omega (arith, size, b) in
      get_or-take n (drop a s) k 0 q ∙ get_or-drop a s k 0 ∙ sym (get_d-gen n a k (oct s) q))
    where
      size : length (take n (drop a s)) ≡ n
      size = length-take-le n (drop a s) (omega (arith, length-drop a s))

  -- a header with another next payload and length, octet by octet
  abbrev pub head_cells : ℕ → ℕ → List ℕ
  head_cells next size = gen (oct s) 0 16 ++ ((next ∷ gen (oct s) 17 7) ++ octets_of 4 size)

  pub header-cells : 28 ≤ length s → (next size : ℕ) → header_with next size s ≡ head_cells next size
  unfolding header_with
  header-cells h next size =
      ap₂ (λ (p q : List ℕ). p ++ ((next ∷ q) ++ octets_of 4 size)) (cells 0 16 (omega arith)) (cells 17 7 (omega arith))
