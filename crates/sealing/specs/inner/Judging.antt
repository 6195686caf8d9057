-- What judging the body of a sealed payload answers, wherever it begins. Inner.
use Rattle.std.specs.Prelude.{ℕ, ◌+◌, ◌≤◌, List, length, Option, None, Some}
use Rattle.rfc5282.specs.Sizes.{iv_octets}
use Rattle.rfc5282.specs.Number10.{UnopenedAt}
use Rattle.rfc5282.specs.inner.Opened.{BodyHolds}

-- a clause of number 10 holds, whatever the room, or it holds `p` octets of payloads
abbrev pub BodyJudged : ℕ → List ℕ → List ℕ → Option ℕ → Type 0
BodyJudged at part s None = (room : List ℕ) → UnopenedAt at part s room
BodyJudged at part s (Some p) = BodyHolds at part s p

-- whatever the key is, the body has as many octets
abbrev Any : Type 0
Any = Unit

abbrev pub BodyBounds : ℕ → List ℕ → Option ℕ → Type 0
BodyBounds at s None = Any
BodyBounds at s (Some p) = at + iv_octets + p ≤ length s
