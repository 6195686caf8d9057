-- The verdict of numbers 2 to 7 on a frame: the first number that applies or, if none does, the facts of the frame.
use Rattle.std.specs.Prelude.{ℕ, ◌≡◌, Result, Ok, Err}
use Rattle.check_judging.specs.declared.facts.Facts.{Facts}
use Rattle.check_judging.specs.declared.numbers.Refusal.{Refusal}
use Rattle.check_judging.specs.declared.numbers.Refusal.TheVariants as refusal

-- document 01's number of a refusal
abbrev pub number_of_refusal : Refusal → ℕ
number_of_refusal refusal.NotForMember = 2
number_of_refusal refusal.Replayed = 3
number_of_refusal refusal.BadComposition = 4
number_of_refusal refusal.Unsupported = 5
number_of_refusal refusal.Unpaired = 6
number_of_refusal refusal.OverLimit = 7
number_of_refusal refusal.KeyConflict = 8
number_of_refusal refusal.NoKey = 9

-- the verdict by the number n that applies first, 0 if none does, and the facts x: each n has one such verdict
abbrev pub VerdictBy : ℕ → Facts → Result Facts Refusal → Type 0
VerdictBy n x (Ok y) = (n ≡ 0) × (y ≡ x)
VerdictBy n x (Err r) = n ≡ number_of_refusal r
