-- WHAT THE READERS PROMISE (document 02, T-13): `replay` reads a whole journal; `begin`, `feed` and `finish` read one block by block, for
-- journals longer than memory. What blocks give is what the whole gives, however it is cut (`blocks-same`, proofs/Blocks).
use Rattle.std.specs.Prelude.{◌≡◌, ℕ, ◌+◌, ◌%◌, ◌^◌, Bool, true, false, cond, List, [], ◌∷◌, ◌++◌, take}
use Rattle.state_keys.specs.Limits.{limits}
use Rattle.text_rules.specs.Lines.{Line, lines}
use Rattle.state.specs.declared.State.{State}
use Rattle.rules_outcome.specs.Run.{Event}
use Rattle.state.specs.State.{new_state}
use Rattle.journal_rules.specs.Line.{says, read_line}
use Rattle.journal_rules.specs.Replay.{TakesEffect, StopsReading, ReadBack}
use Rattle.journal_rules.specs.inner.Longest.{longest_digits}
use Rattle.journaling.specs.declared.Replayed.{Replayed}
use Rattle.journaling.specs.declared.reading.ReaderPlace.{ReaderPlace}
use Rattle.journaling.specs.declared.reading.JournalReader.{JournalReader}

-- a journal read back: the member, and the number of the line that stopped the reading, or 0
abbrev pub GivesBack : Bool → List ℕ → Replayed → Type 0
GivesBack profile journal r = ReadBack limits profile journal r.member.state r.line

-- what a reader keeps of a line that has begun: one character more than a line can have that is taken, enough to tell that one is too long
abbrev pub kept_of : List ℕ → List ℕ
kept_of text = take (longest_digits + 1) text

-- where a reader stands after some octets: the member, how many lines it took, modulo 2^64, whether one stopped it, and the characters of
-- the line that has begun
pub record StandsAfter (s : State) (n : ℕ) (stopped : Bool) (text : List ℕ) (p : ReaderPlace) (line : List ℕ) : Type 0 where
  pub member : p.member.state ≡ s
  pub lines-taken : p.taken % 2 ^ 64 ≡ n % 2 ^ 64
  pub stops : p.stopped ≡ stopped
  pub begun : take p.len line ≡ kept_of text

-- a reader over the state `s` that took `n` lines and holds the characters `text` of the next one reads further lines: the last of them
-- goes on in the next block if no newline ends it; one that cannot be taken stops the reader
pub data Consumes : State → ℕ → List ℕ → List Line → ReaderPlace → List ℕ → Type 0 where
  none_left : (s : State) (n : ℕ) (text : List ℕ) (p : ReaderPlace) (line : List ℕ) → StandsAfter s n false text p line →
      Consumes s n text [] p line
  has-begun : (s : State) (n : ℕ) (text : List ℕ) (l : Line) (ls : List Line) (p : ReaderPlace) (line : List ℕ) → l.ended ≡ false →
      StandsAfter s n false (text ++ l.text) p line → Consumes s n text (l ∷ ls) p line
  takes-line : (s : State) (n : ℕ) (text : List ℕ) (l : Line) (ls : List Line) (x : Event) (next : State) (p : ReaderPlace)
      (line : List ℕ) →
      l.ended ≡ true → read_line (text ++ l.text) ≡ says x → TakesEffect limits s x next → Consumes next (n + 1) [] ls p line →
      Consumes s n text (l ∷ ls) p line
  is-stopped : (s : State) (n : ℕ) (text : List ℕ) (l : Line) (ls : List Line) (p : ReaderPlace) (line : List ℕ) → l.ended ≡ true →
      StopsReading limits s (read_line (text ++ l.text)) → StandsAfter s n true [] p line → Consumes s n text (l ∷ ls) p line

-- a reader before its first block
pub record BeginsReading (profile : Bool) (r : JournalReader) : Type 0 where
  pub place : StandsAfter (new_state limits profile) 0 false [] r.place r.line

-- a reader over one block more: one that was stopped stays as it is
pub data Feeds (r : JournalReader) (block : List ℕ) (e : JournalReader) : Type 0 where
  had-stopped : r.place.stopped ≡ true → e ≡ r → Feeds r block e
  reads_on : r.place.stopped ≡ false →
      Consumes r.place.member.state r.place.taken (take r.place.len r.line) (lines block) e.place e.line →
      Feeds r block e

-- what a reader gives at the journal's end: its member, and the number of the line that stopped it, modulo 2^64
pub record Gives (r : JournalReader) (e : Replayed) : Type 0 where
  pub member : e.member ≡ r.place.member
  pub line : e.line ≡ cond r.place.stopped ((r.place.taken + 1) % 2 ^ 64) 0

-- ---- the words of the law on blocks
-- a reader that was begun and fed with the octets of a journal so far, in blocks of any sizes
pub data FedWith (profile : Bool) : List ℕ → JournalReader → Type 0 where
  not-fed : (r : JournalReader) → BeginsReading profile r → FedWith profile [] r
  then-fed : (journal block : List ℕ) (r e : JournalReader) → FedWith profile journal r → Feeds r block e → FedWith profile
      (journal ++ block) e

-- a journal in blocks gives what the whole gives: the member, and the line number modulo 2^64
pub record ReadInBlocks (profile : Bool) (journal : List ℕ) (e : Replayed) : Type 0 where
  pub line : ℕ
  pub reads : ReadBack limits profile journal e.member.state line
  pub is : e.line ≡ line % 2 ^ 64
