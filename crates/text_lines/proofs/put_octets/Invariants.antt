use Prim.Native.Nat.{ℕ, ◌+◌, ◌*◌}
use mathlib.Core.List.{List}
use lib.ListN.{drop}
use Rattle.text_rules.specs.Hex.{octets_of_hex}
use Rattle.text_lines.proofs.RoomLaws.{Puts}
use Rattle.text_lines.proofs.put_octets.Given as goal

-- k octets of a text put, and its digits behind them left
abbrev pub Putting : List ℕ → ℕ → List ℕ → ℕ → List ℕ → Type 0
Putting room₀ at text k room = Puts room₀ at (octets_of_hex text) room (at + k) (octets_of_hex (drop (2 * k) text))

abbrev pub invariant-loop-k : goal.invariant-loop-k
invariant-loop-k l = Putting l.initial.room l.at l.text l.k l.room
