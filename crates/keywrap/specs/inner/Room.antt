-- Writing octets into lent room that may be too small. Inner.
use Rattle.std.specs.Prelude.{Bool, true, false, ℕ, List, leb, length, Option, None, Some}
use Rattle.keywrap.specs.Answers.{written}

-- the answer, and the room afterwards, by whether the room holds x
abbrev pub answer_by : Bool → List ℕ → Option ℕ
answer_by true x = Some (length x)
answer_by false x = None

abbrev pub room_by : Bool → List ℕ → List ℕ → List ℕ
room_by true x room = written x room
room_by false x room = room

-- `put`: its answer, and the room afterwards
unfoldable pub put_answer : List ℕ → List ℕ → Option ℕ
put_answer x room = answer_by (leb (length x) (length room)) x

unfoldable pub put_room : List ℕ → List ℕ → List ℕ
put_room x room = room_by (leb (length x) (length room)) x room
