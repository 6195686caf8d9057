-- What becomes of one line, and of the frame in it.
use Rattle.std.specs.Prelude.{◌≡◌, ℕ, ◌≤◌, Bool, true, false, List, length, take}
use Rattle.text_rules.specs.Transcript.{LineOutcome, Replies, told}
use Rattle.text_lines.specs.inner.Room.{reply_room, Put}
use Rattle.text_lines.specs.inner.Calls.{KeyLineGives}
use Rattle.text_lines.specs.declared.LineKey.{LineKey}
use Rattle.gikev2.specs.declared.Member.{Member}
use Rattle.member.specs.Program.{LineAnswers}
use Rattle.member.specs.declared.running.Running.{Running}

-- the default key that the program holds
abbrev pub key_in : LineKey → List ℕ
key_in k = take k.len k.octets

-- a frame is received, and the reply put into the output at its place
pub record LineReceived (r : Running) (tick : ℕ) (octets out after : List ℕ) (e : Running) : Type 0 where
  pub outcome : LineOutcome Member
  pub answers : LineAnswers r.member (key_in r.key) tick octets outcome
  pub next : outcome.next ≡ e.member
  pub put : Put out r.at (told outcome).text after e.at
  pub short : length (told outcome).text ≤ reply_room
  pub key : e.key ≡ r.key
  pub keyed : e.keyed ≡ r.keyed
  pub len : e.len ≡ 0

-- a first line gives the key "and prints nothing"
pub record FirstLine (r : Running) (line out after : List ℕ) (e : Running) : Type 0 where
  pub key : KeyLineGives line e.key
  pub member : e.member ≡ r.member
  pub keyed : e.keyed ≡ true
  pub len : e.len ≡ 0
  pub at : e.at ≡ r.at
  pub nothing : after ≡ out

-- a later line has the reply that its text asks for, "bad" among them. The reply is put into the output at its place
pub record LaterLine (r : Running) (line out after : List ℕ) (e : Running) : Type 0 where
  pub text : List ℕ
  pub replies : Replies LineAnswers (key_in r.key) r.member line (record { next = e.member; text = text })
  pub put : Put out r.at text after e.at
  pub short : length text ≤ reply_room
  pub key : e.key ≡ r.key
  pub keyed : e.keyed ≡ r.keyed
  pub len : e.len ≡ 0

-- what becomes of a whole line, by whether the first line has given the key
abbrev pub Answered : Bool → Running → List ℕ → List ℕ → List ℕ → Running → Type 0
Answered false r line out after e = FirstLine r line out after e
Answered true r line out after e = LaterLine r line out after e
