-- The turns of a run, one for each read.
use Rattle.std.specs.Prelude.{◌≡◌, ℕ, ◌+◌, true, false, ◌⊎◌}
use Rattle.member.specs.declared.input.InputTaken.{InputTaken}
use Rattle.member.specs.declared.output.Handed.{Handed}

-- a run stops where the input has ended or a write failed
abbrev pub Stops : InputTaken → Handed → Type 0
Stops t h = (t.ended ≡ true) ⊎ (h.failed ≡ true)

-- no turn is left where the run stops; else the last read gave some octets, no write has failed, and one turn less is left
abbrev pub TurnsLeft : ℕ → InputTaken → Handed → ℕ → Type 0
TurnsLeft turns t h left = (Stops t h × (left ≡ 0)) ⊎ ((t.ended ≡ false) × (h.failed ≡ false) × (left + 1 ≡ turns))
