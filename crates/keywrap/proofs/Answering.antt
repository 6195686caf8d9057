-- Answers, from what is known of the results.
use mathlib.Core.Path.{◌≡◌, sym, subst, ◌∙◌}
use mathlib.Core.Bool.{Bool, true, false}
use mathlib.Core.List.{List}
use Prim.Native.Nat.{ℕ}
use lib.Dec.{T}
use Rattle.std.specs.Prelude.{Option, None, Some}
use Rattle.keywrap.specs.Answers.{Answers}

-- the same results under another name
pub answers-map : (P Q : List ℕ → Type 0) (room : List ℕ) → ((x : List ℕ) → P x → Q x) → ((x : List ℕ) → Q x → P x)
    → (a : Option ℕ) (after : List ℕ) → Answers P room a after → Answers Q room a after
answers-map P Q room to from None after h = record { none = λ x q. h.none x (from x q); room-is = h.room-is }
answers-map P Q room to from (Some n) after h =
    record { x = h.x; result = to h.x h.result; count = h.count; room-is = h.room-is }

-- a test's answer, and what it is the test of
pub is-so : {b t : Bool} → b ≡ t → b ≡ true → T t
is-so e h = subst T (sym h ∙ e) tt

pub is-not-so : {b t : Bool} → b ≡ t → b ≡ false → T t → ⊥
is-not-so e h u = subst T (sym e ∙ h) u
