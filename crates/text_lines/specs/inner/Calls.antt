-- What the calls on lines promise.
use Rattle.std.specs.Prelude.{ℕ, ◌+◌, ◌≡◌, List, length, drop, replicate, Option, Some, None}
use Rattle.text_rules.specs.Hex.{octets_of_hex}
use Rattle.text_rules.specs.Lines.{lines}
use Rattle.text_lines.specs.inner.First.{line_octets, first_of}
use Rattle.text_rules.specs.Input.{bad, frame, line_key, asked_by}
use Rattle.text_lines.specs.inner.Room.{Put}
use Rattle.text_lines.specs.declared.Absorbed.{Absorbed}
use Rattle.text_lines.specs.declared.LineKey.{LineKey}
use Rattle.text_lines.specs.declared.Request.{Request}

-- the first line of `block` from `from` on is put into the lent `line`, behind its first `len` characters
pub record Absorbs (block : List ℕ) (from : ℕ) (line : List ℕ) (len : ℕ) (after : List ℕ) (r : Absorbed) : Type 0 where
  pub ended : r.ended ≡ (first_of (lines (drop from block))).ended
  pub next : r.next ≡ from + length (line_octets (first_of (lines (drop from block))))
  pub kept : Put line len (first_of (lines (drop from block))).text after r.len

-- the key that a first line gives, at the start of 32 octets that are 0 behind it
abbrev pub KeyLineGives : List ℕ → LineKey → Type 0
KeyLineGives line r = Put (replicate 32 0) 0 (line_key line) r.octets r.len

-- what a later line asks, its frame at the start of a lent room
abbrev pub Asks : List ℕ → List ℕ → List ℕ → Option Request → Type 0
Asks line room after None = (asked_by line ≡ bad) × (after ≡ room)
Asks line room after (Some r) =
    (asked_by line ≡ frame r.tick (octets_of_hex (drop 8 line))) × Put room 0 (octets_of_hex (drop 8 line)) after r.len
