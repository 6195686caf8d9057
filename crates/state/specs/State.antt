-- "What a member is": its table, its held list and the least acceptable Message ID; and whether "their profile is switched on for a member
-- at creation" (document 02, T-11).
use Rattle.std.specs.Prelude.{ℕ, Bool, cond, ◌&&◌, List, [], Option}
use Rattle.state_keys.specs.Limits.{Limits}
use Rattle.state_table.specs.declared.Table.{Table}
use Rattle.state_sa.specs.declared.entry.Sa.{Sa}
use Rattle.state_table.specs.Table.{table_of, table_formed, swept, none, found_sa}
use Rattle.state.specs.declared.State.{State}
use Rattle.state.specs.declared.least.Least.TheVariants.{Id}
use Rattle.state.specs.Held.{held_of, held_formed}

-- "A new member has no SA, no held key and least Message ID 0."
unfoldable pub new_state : Limits → Bool → State
new_state limits profile = record { table = table_of limits []; held = held_of limits []; least = Id 0; profile = profile }

-- "Leaving gives the new member"; "Leaving keeps the profile" (document 02, T-11)
abbrev pub left_state : Limits → State → State
left_state limits s = new_state limits s.profile

-- the value keeps "this list" of what a member is; the profile is no part of that list
unfoldable pub state_formed : Limits → State → Bool
state_formed limits s = table_formed limits s.table && held_formed limits s.held

-- the same state with another table
abbrev pub with_table : Table → State → State
with_table t s = record { table = t; held = s.held; least = s.least; profile = s.profile }

-- "Sweeping removes exactly those due"; "a member value that breaks this list is swept to itself"
unfoldable pub swept_state : Limits → ℕ → State → State
swept_state limits now s = cond (state_formed limits s) (with_table (swept limits now s.table) s) s

-- "the SA with a given protocol and SPI, or none"; a value that breaks the list "answers none to every question"
unfoldable pub asked_sa : Limits → ℕ → List ℕ → State → Option Sa
asked_sa limits p x s = cond (state_formed limits s) (found_sa limits p x s.table) none
