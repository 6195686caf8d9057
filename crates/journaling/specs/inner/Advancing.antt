-- A reader within a block.
use Rattle.std.specs.Prelude.{◌≡◌, ℕ, ◌+◌, ◌%◌, ◌^◌, ◌≤◌, Bool, true, false, not, List, length, drop}
use Rattle.text_rules.specs.Lines.{lines}
use Rattle.text_lines.specs.inner.Reading.{LineKept}
use Rattle.state.specs.declared.State.{State}
use Rattle.journal_rules.specs.Line.{read_line}
use Rattle.journal_rules.specs.inner.Longest.{longest_octets, longest_digits}
use Rattle.journaling.specs.Reader.{Consumes}
use Rattle.journaling.specs.inner.LineTaking.{LineTakes}
use Rattle.journaling.specs.declared.reading.ReaderPlace.{ReaderPlace}
use Rattle.journaling.specs.declared.reading.Advanced.{Advanced}

-- the lent line and room are large enough, and the characters held lie within the line
pub record Ready (line room : List ℕ) (p : ReaderPlace) : Type 0 where
  pub keeps : length line ≡ longest_digits + 1
  pub begun : p.len ≤ length line
  pub room-long : longest_octets ≤ length room

-- a reader began `block` over the state `s`, with `n` lines taken and the characters `text` held, and stands at `at`: it goes on from
-- there, over the lines that it took, or a line has stopped it
pub data Far (s : State) (n : ℕ) (text block : List ℕ) (p : ReaderPlace) (line : List ℕ) (at : ℕ) : Type 0 where
  going : p.stopped ≡ false → at ≤ length block → (m : ℕ) (held : List ℕ) → p.taken % 2 ^ 64 ≡ m % 2 ^ 64 → LineKept line p.len held →
      ((q : ReaderPlace) (l : List ℕ) → Consumes p.member.state m held (lines (drop at block)) q l → Consumes s n text
      (lines block) q l) →
      Far s n text block p line at
  over : at ≡ length block → Consumes s n text (lines block) p line → Far s n text block p line at

-- the place after a line that was taken, and after one that was not
abbrev pub EndedBy : Bool → ReaderPlace → ℕ → ℕ → Advanced → Type 0
EndedBy true p next end e = (e.place.taken % 2 ^ 64 ≡ (p.taken + 1) % 2 ^ 64) × (e.next ≡ next)
EndedBy false p next end e = (e.place.taken ≡ p.taken) × (e.next ≡ end)

-- a line with this text ended
pub record LineEnded (p : ReaderPlace) (text : List ℕ) (next end : ℕ) (e : Advanced) : Type 0 where
  pub taken : Bool
  pub takes : LineTakes p.member.state (read_line text) taken e.place.member.state
  pub stops : e.place.stopped ≡ not taken
  pub len : e.place.len ≡ 0
  pub by : EndedBy taken p next end e
