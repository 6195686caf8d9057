-- THE FIRST CONDITION THAT HOLDS, by its place in a list of conditions in judging order: the vocabulary of demand 1. No contract cites this
-- file.
use Rattle.std.specs.Prelude.{ℕ, ◌≡◌, Bool, true, ◌&&◌, ◌⊎◌, List, [], ◌∷◌, ◌++◌, ltb}
use Rattle.rules_outcome.specs.Answer.{RefusalCase}

-- some condition of the list has number `n` and holds
abbrev pub SomeHolds : List RefusalCase → ℕ → Type 0
SomeHolds [] n = ⊥
SomeHolds (c ∷ l) n = (c.holds × (n ≡ c.number)) ⊎ SomeHolds l n

-- "each exactly when its condition holds and no lower one does", where ""lower" in demand 1 and document 01 means judged earlier" (document
-- 02, T-05): the condition at some place of the list has this number and holds, and none at an earlier place does
pub record JudgedFirst (l : List RefusalCase) (n : ℕ) : Type 1 where
  pub earlier : List RefusalCase
  pub it : RefusalCase
  pub later : List RefusalCase
  pub all : l ≡ earlier ++ (it ∷ later)
  pub number : n ≡ it.number
  pub holds : it.holds
  pub none : (m : ℕ) → SomeHolds earlier m → ⊥

-- the numbers of the list rise, each above `k`
abbrev pub above : ℕ → List RefusalCase → Bool
above k [] = true
above k (c ∷ l) = ltb k c.number && above c.number l
