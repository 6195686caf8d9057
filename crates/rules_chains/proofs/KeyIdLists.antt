-- Key ID lists on samples, in a file that is checked before the laws on paths: a list written the other way round and a wrong order of
-- lists are refused here.
use native.Mathlib.Omega.{arith}
use Prim.Native.Nat.{ℕ}
use mathlib.Core.Path.{◌≡◌, refl}
use mathlib.Core.Logic.{inl, inr, ⊎_elim}
use mathlib.Core.List.{List, [], ◌∷◌}
use Rattle.wire_attributes.specs.Tree.{WrapKey}
use Rattle.rules_chains.specs.Path.{NotAfter, key_ids}

-- RFC 9838, Appendix A.2: "the GM A will construct the Key Path K_sa1->1->3->7->GSK_w. .. it will use all the WRAP_KEY attributes present
-- in the path as its Working Key Path: 1->3->7."
abbrev pub entry : ℕ → ℕ → List ℕ → WrapKey
entry k j w = record { key_id = k; kwk_id = j; wrapped = w }

pub written_back : (x y z : List ℕ) → key_ids (entry 1 3 x ∷ entry 3 7 y ∷ entry 7 0 z ∷ []) ≡ 1 ∷ 3 ∷ 7 ∷ []
written_back x y z = refl

-- "the smallest when their Key ID lists are compared number by number": 1, 3 comes before 1, 7
pub smaller : NotAfter (1 ∷ 3 ∷ []) (1 ∷ 7 ∷ []) × (NotAfter (1 ∷ 7 ∷ []) (1 ∷ 3 ∷ []) → ⊥)
smaller = (
  inr (refl, inl (omega arith)),
  ⊎_elim (λ h. omega arith) (λ h. ⊎_elim (λ g. omega arith) (λ g. let e = g.0 in omega arith) h.1),
)

-- and the first number that differs decides, whatever stands behind it: 1, 2, 7 comes before 1, 4, 3
pub first-decides : NotAfter (1 ∷ 2 ∷ 7 ∷ []) (1 ∷ 4 ∷ 3 ∷ []) × (NotAfter (1 ∷ 4 ∷ 3 ∷ []) (1 ∷ 2 ∷ 7 ∷ []) → ⊥)
first-decides = (
  inr (refl, inl (omega arith)),
  ⊎_elim (λ h. omega arith) (λ h. ⊎_elim (λ g. omega arith) (λ g. let e = g.0 in omega arith) h.1),
)
