-- The member program octet by octet: its state after a part of the input.
use Rattle.std.specs.Prelude.{ℕ, ◌≤◌, ◌≡◌, List, [], ◌∷◌, ◌++◌, Bool, true, false, length, take, eqb}
use Rattle.text_rules.specs.Characters.{newline}
use Rattle.text_rules.specs.Input.{line_key}
use Rattle.text_rules.specs.Transcript.{CallRelation, Reply, Replies}

-- the default key, once the first line has ended
pub data DefaultKey : Type 0 where
  awaited : DefaultKey
  given : List ℕ → DefaultKey

-- the default key, the member, the characters of the line that has begun, and the output for the lines before it
pub record TextState (S : Type 0) : Type 0 where
  pub key : DefaultKey
  pub member : S
  pub line : List ℕ
  pub output : List ℕ

-- the state before the first octet
abbrev pub text_start : {S : Type 0} → S → TextState S
text_start member = record { key = awaited; member = member; line = []; output = [] }

-- adds `text` to the line that has begun
unfoldable pub append_text : {S : Type 0} → List ℕ → TextState S → TextState S
append_text text r = record { key = r.key; member = r.member; line = r.line ++ text; output = r.output }

-- the state after the first line
abbrev pub keyed : {S : Type 0} → S → List ℕ → List ℕ → TextState S
keyed member line output = record { key = given (line_key line); member = member; line = []; output = output }

-- the state after a later line with the reply `a`
abbrev pub replied : {S : Type 0} → List ℕ → List ℕ → Reply S → TextState S
replied key output a = record { key = given key; member = a.next; line = []; output = output ++ a.text }

module _ {S : Type 0} (step : CallRelation S) where
  -- a line ends: the first one gives the key, a later one has a reply
  abbrev pub LineEnds : DefaultKey → S → List ℕ → List ℕ → TextState S → Type 0
  LineEnds awaited member line output e = e ≡ keyed member line output
  LineEnds (given key) member line output e = (a : Reply S) × Replies step key member line a × (e ≡ replied key output a)

  -- the line that has begun ends
  abbrev pub Closes : TextState S → TextState S → Type 0
  Closes r e = LineEnds r.key r.member r.line r.output e

  -- one octet of input is read: a newline (`true`) or another (`false`)
  abbrev pub FeedsBy : Bool → TextState S → ℕ → TextState S → Type 0
  FeedsBy true r c e = Closes r e
  FeedsBy false r c e = e ≡ append_text (c ∷ []) r

  -- some octets of input are read
  abbrev pub Reads : TextState S → List ℕ → TextState S → Type 0
  Reads r [] e = e ≡ r
  Reads r (c ∷ s) e = (m : TextState S) × FeedsBy (eqb c newline) r c m × Reads m s e

  -- the output at the input's end, where a line that has begun ends
  abbrev pub FinishesBy : List ℕ → TextState S → List ℕ → Type 0
  FinishesBy [] r output = output ≡ r.output
  FinishesBy (c ∷ line) r output = (e : TextState S) × Closes r e × (output ≡ e.output)

  -- the output at the input's end
  abbrev pub Finishes : TextState S → List ℕ → Type 0
  Finishes r output = FinishesBy r.line r output

-- the first `len` places of a lent line hold `text`: all of it, or as much as there is room for
pub record LineKept (room : List ℕ) (len : ℕ) (text : List ℕ) : Type 0 where
  pub inside : len ≤ length room
  pub same : take len room ≡ take (length room) text
