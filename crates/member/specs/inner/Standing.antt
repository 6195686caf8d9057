-- Where the program stands in its input and its output.
use Rattle.std.specs.Prelude.{◌≡◌, ℕ, ◌-◌, ◌<◌, ◌≤◌, true, false, List, [], ◌++◌, length, take}
use Rattle.octets.specs.Walk.{part}
use Rattle.text_lines.specs.inner.Room.{reply_room}
use Rattle.text_lines.specs.inner.Reading.{DefaultKey, awaited, given, TextState, text_start, Reads, LineKept}
use Rattle.ikev2_numbers.specs.Codes.{most_octets}
use Rattle.text_rules.specs.Input.{most_digits}
use Rattle.gikev2.specs.Member.{new_member}
use Rattle.gikev2.specs.declared.Member.{Member}
use Rattle.member.specs.Program.{LineAnswers}
use Rattle.member.specs.inner.Reply.{key_in}
use Rattle.member.specs.declared.running.Running.{Running}
use Rattle.member.specs.declared.running.LinePassed.{LinePassed}

-- the lent buffers are large enough, and the program's places lie within them
pub record BuffersReady (line room out : List ℕ) (r : Running) : Type 0 where
  pub key : r.key.len ≤ 32
  pub line-long : most_digits < length line
  pub begun : r.len ≤ length line
  pub room-long : most_octets ≤ length room
  pub place : r.at ≤ length out

-- there is room for one more reply
abbrev pub ReplyFits : List ℕ → Running → Type 0
ReplyFits out r = reply_room ≤ length out - r.at

-- the program holds the default key, if the first line has given it
abbrev pub KeyStands : DefaultKey → Running → Type 0
KeyStands awaited r = r.keyed ≡ false
KeyStands (given key) r = (r.keyed ≡ true) × (key_in r.key ≡ key)

-- the program holds the state `x` of the input read so far. `printed` is what it has handed over so far
pub record Stands (printed : List ℕ) (x : TextState Member) (line out : List ℕ) (r : Running) : Type 0 where
  pub key : KeyStands x.key r
  pub member : x.member ≡ r.member
  pub kept : LineKept line r.len x.line
  pub output : x.output ≡ printed ++ take r.at out

-- the program before its first read: nothing of the input was read, and nothing handed over
pub record Starts (r : Running) : Type 0 where
  pub key : r.key.len ≤ 32
  pub len : r.len ≡ 0
  pub at : r.at ≡ 0
  pub stands : (line out : List ℕ) → Stands [] (text_start new_member) line out r

-- the octets `s` were read after the state `x`
pub record Goes (printed : List ℕ) (x : TextState Member) (s line out : List ℕ) (r : Running) : Type 0 where
  pub then : TextState Member
  pub reads : Reads LineAnswers x s then
  pub stands : Stands printed then line out r

-- `block` is read from `from` up to `e.next`
pub record Passes (block : List ℕ) (from : ℕ) (line out : List ℕ) (r : Running) (line' room' out' : List ℕ) (e : LinePassed) : Type 0 where
  pub ready : BuffersReady line' room' out' e.running
  pub next : from ≤ e.next
  pub inside : e.next ≤ length block
  pub goes : (printed : List ℕ) (x : TextState Member) → Stands printed x line out r →
      Goes printed x (part block from e.next) line' out' e.running
