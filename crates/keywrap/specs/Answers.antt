-- The answers of wrapping and opening one key into lent room. Document 01, "What a member is": "These write the result at the room's start
-- and leave the rest; on a wrong key size, a wrong octet count, a failed check or too little room they answer "no" and the room stays as
-- lent."
use Rattle.std.specs.Prelude.{◌≡◌, ℕ, ◌≤◌, List, ◌++◌, T, length, drop, Option, None, Some}
use Rattle.fips197.specs.Key.{is_key}
use Rattle.rfc5649.specs.Wrap.{wrap_of}
use Rattle.rfc5649.specs.Opens.{Opens}

-- the room with x at its start and the rest as lent
abbrev pub written : List ℕ → List ℕ → List ℕ
written x room = x ++ drop (length x) room

-- x is the result of wrapping and is to be written: the key has 16, 24 or 32 octets, 1 to 256 octets are wrapped, and the room holds x
pub record Wrapping (key octets room x : List ℕ) : Type 0 where
  pub key-size : T (is_key (length key))
  pub least : 1 ≤ length octets
  pub most : length octets ≤ 256
  pub is : wrap_of key octets ≡ x
  pub holds : length x ≤ length room

-- x is the result of opening and is to be written: the key has 16, 24 or 32 octets, and the room holds x
pub record Opening (key wrapped room x : List ℕ) : Type 0 where
  pub key-size : T (is_key (length key))
  pub opens : Opens key wrapped x
  pub holds : length x ≤ length room

-- a result of n octets stands at the room's start, and the rest of the room is as lent
pub record Wrote (Result : List ℕ → Type 0) (room : List ℕ) (n : ℕ) (after : List ℕ) : Type 0 where
  pub x : List ℕ
  pub result : Result x
  pub count : length x ≡ n
  pub room-is : after ≡ written x room

-- there is no result, and the room is as lent
pub record NoResult (Result : List ℕ → Type 0) (room after : List ℕ) : Type 0 where
  pub none : (x : List ℕ) → Result x → ⊥
  pub room-is : after ≡ room

-- what an answer says, where `Result` tells the results to be written: a count says that one was written, "no" that there is none
abbrev pub Answers : (List ℕ → Type 0) → List ℕ → Option ℕ → List ℕ → Type 0
Answers Result room (Some n) after = Wrote Result room n after
Answers Result room None after = NoResult Result room after

-- `wrap`
abbrev pub WrapAnswers : List ℕ → List ℕ → List ℕ → Option ℕ → List ℕ → Type 0
WrapAnswers key octets room = Answers (Wrapping key octets room) room

-- `open`
abbrev pub OpenAnswers : List ℕ → List ℕ → List ℕ → Option ℕ → List ℕ → Type 0
OpenAnswers key wrapped room = Answers (Opening key wrapped room) room
