-- The algorithm table row by row, and transforms that are none of its rows. The numbers stand here once more, as the papers print them,
-- so that a slip made alike in the table and in the code does not pass.
use Prim.Native.Nat.{ℕ}
use mathlib.Core.Path.{◌≡◌, refl}
use mathlib.Core.List.{List, [], ◌∷◌, map}
use Rattle.std.specs.Prelude.{Option, Some, None}
use Rattle.state_keys.specs.Algorithms.{is_row_of, needed_in, needed_by}

-- transform type, transform ID, Key Length, and what the transform needs
pub record Line : Type 0 where
  pub kind : ℕ
  pub id : ℕ
  pub bits : ℕ
  pub needs : Option ℕ

abbrev line : ℕ → ℕ → ℕ → Option ℕ → Line
line k i b n = record { kind = k; id = i; bits = b; needs = n }

abbrev lines : List Line
lines =
    -- ENCR_AES_GCM_16 by its Key Length
    line 1 20 128 (Some 20) ∷
    line 1 20 192 (Some 28) ∷
    line 1 20 256 (Some 36) ∷
    -- RFC 9838, section 9.1, Transform Type 13: 1 is KW_5649_128, 2 KW_5649_192, 3 KW_5649_256; no Key Length counts there
    line 13 1 0 (Some 16) ∷
    line 13 2 0 (Some 24) ∷
    line 13 3 0 (Some 32) ∷
    line 13 1 256 (Some 16) ∷
    -- other Key Lengths, other IDs, other types
    line 1 20 0 None ∷
    line 1 20 64 None ∷
    line 1 20 129 None ∷
    line 1 20 512 None ∷
    line 1 19 128 None ∷
    line 1 21 128 None ∷
    line 1 1 128 None ∷
    line 13 0 128 None ∷
    line 13 4 256 None ∷
    line 13 20 128 None ∷
    line 5 0 0 None ∷
    line 5 20 128 None ∷
    line 3 1 128 None ∷
    line 14 1 0 None ∷
    line 0 20 128 None ∷
    []

pub table-lines : map (λ (l : Line). needed_by l.kind l.id l.bits) lines ≡ map (λ (l : Line). l.needs) lines
unfolding needed_by needed_in is_row_of
table-lines = refl
