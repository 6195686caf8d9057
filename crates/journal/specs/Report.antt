-- THE PROGRAM journal: what it prints of the member that a journal makes (document 02, T-13).
use Rattle.std.specs.Prelude.{ℕ, ◌+◌, ◌≡◌, false, cond, ◌⊎◌, List, [], ◌∷◌, eqb}
use Rattle.text_rules.specs.Answer.{printed}
use Rattle.journaling.specs.Reader.{FedWith}
use Rattle.journaling.specs.declared.reading.JournalReader.{JournalReader}

-- SA count and held count, and the line that "stops the reading with its line number", where one does
unfoldable pub report_text : ℕ → ℕ → ℕ → List ℕ
report_text sas held line = printed (sas ∷ held ∷ cond (eqb line 0) [] (line ∷ []))

-- the reader was fed with some journal, in blocks, over a new member whose profile is off
pub record WasFed (r : JournalReader) : Type 0 where
  pub journal : List ℕ
  pub fed : FedWith false journal r

-- no turn is left at the input's end, else one less
abbrev pub TurnsAfter : ℕ → ℕ → ℕ → Type 0
TurnsAfter turns n left = ((n ≡ 0) × (left ≡ 0)) ⊎ ((n ≡ 0 → ⊥) × (left + 1 ≡ turns))
