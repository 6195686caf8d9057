-- The unused places of a state: those of the table, the places past the held list's count, and the octets behind each held value. They are
-- blank in every state that is made.
use Rattle.std.specs.Prelude.{◌≡◌, List, [], ◌∷◌, take}
use Rattle.state_keys.specs.Rooms.{wrapping_key_room}
use Rattle.state_keys.specs.Limits.{Limits}
use Rattle.state_keys.specs.Kinds.{padded}
use Rattle.state_table.specs.Blank.{TableBlank}
use Rattle.state.specs.declared.held.HeldKey.{HeldKey}
use Rattle.state.specs.declared.State.{State}
use Rattle.state.specs.Held.{keys_of, held_of}

pub data AllKeysBlank : List HeldKey → Type 0 where
  no_key : AllKeysBlank []
  one_more : {k : HeldKey} {l : List HeldKey} → k.key.octets ≡ padded wrapping_key_room (take k.key.count k.key.octets)
      → AllKeysBlank l →
      AllKeysBlank (k ∷ l)

pub record StateBlank (limits : Limits) (s : State) : Type 0 where
  pub table : TableBlank limits s.table
  pub held : s.held ≡ held_of limits (keys_of s.held)
  pub values : AllKeysBlank (keys_of s.held)
