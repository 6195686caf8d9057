-- The promises of `wrap` and `open` determine the answer and the room.
use mathlib.Core.Path.{◌≡◌, refl, sym, ap, ◌∙◌}
use mathlib.Core.List.{List}
use Prim.Native.Nat.{ℕ}
use lib.ListN.{length}
use Rattle.octets.specs.Octets.{Octets}
use Rattle.rfc5649.proofs.Determined.{opens_one}
use Rattle.std.specs.Prelude.{Option, None, Some}
use Rattle.keywrap.specs.Answers.{written, Answers, Wrapping, Opening, WrapAnswers, OpenAnswers}

-- an answer and the room after it, given that one result at most is to be written
module _ (Result : List ℕ → Type 0) (one : (x y : List ℕ) → Result x → Result y → x ≡ y) (room : List ℕ) where
  pub determined : (a b : Option ℕ) (r s : List ℕ) → Answers Result room a r → Answers Result room b s → (a ≡ b) × (r ≡ s)
  determined (Some m) (Some n) r s p q = (
    ap Some (sym p.count ∙ ap length same ∙ q.count),
    p.room-is ∙ ap (λ (x : List ℕ). written x room) same ∙ sym q.room-is,
  )
    where
      same : p.x ≡ q.x
      same = one p.x q.x p.result q.result
  determined (Some m) None r s p q = absurd (q.none p.x p.result)
  determined None (Some n) r s p q = absurd (p.none q.x q.result)
  determined None None r s p q = (refl, p.room-is ∙ sym q.room-is)

-- `wrap`: any two answers that its promise allows are equal, and so are the rooms
pub wrap-determined : (key octets room : List ℕ) (a b : Option ℕ) (r s : List ℕ)
    → WrapAnswers key octets room a r → WrapAnswers key octets room b s → (a ≡ b) × (r ≡ s)
wrap-determined key octets room =
    determined (Wrapping key octets room) (λ x y p q. sym p.is ∙ q.is) room

-- `open`, likewise
pub open-determined : (key wrapped room : List ℕ) → Octets key → (a b : Option ℕ) (r s : List ℕ)
    → OpenAnswers key wrapped room a r → OpenAnswers key wrapped room b s → (a ≡ b) × (r ≡ s)
open-determined key wrapped room small =
    determined (Opening key wrapped room)
    (λ x y p q. opens_one key wrapped x y (record { size = p.key-size; small = small }) p.opens q.opens) room
