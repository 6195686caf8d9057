-- Reached keys gathered in a list of the held list's form, by rising Key ID. The held list of a member need not rise.
use Rattle.std.specs.Prelude.{Bool, cond, ltb}
use Rattle.lists.specs.Lists.{insert}
use Rattle.state_keys.specs.Limits.{Limits}
use Rattle.state.specs.declared.held.HeldKey.{HeldKey}
use Rattle.state.specs.declared.held.Held.{Held}
use Rattle.state.specs.Held.{keys_of, held_of}

-- a stands before b in a list that is kept by Key IDs
abbrev pub id_before : HeldKey → HeldKey → Bool
id_before a b = ltb a.id b.id

-- the list with the key a in its place, if there is room
unfoldable pub entered_key : Limits → HeldKey → Held → Held
entered_key limits a h = cond (ltb h.count limits.held_keys) (held_of limits (insert id_before a (keys_of h))) h
