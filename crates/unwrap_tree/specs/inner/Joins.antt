-- What the cell of an entry adds to the held list. Inner.
use Rattle.std.specs.Prelude.{◌≡◌, true, false}
use Rattle.state_keys.specs.Limits.{limits}
use Rattle.state.specs.Held.{held_key}
use Rattle.state.specs.inner.Entering.{entered_key}
use Rattle.state.specs.declared.held.Held.{Held}
use Rattle.unwrap_search.specs.declared.open.Status.TheVariants.{Done}
use Rattle.unwrap_search.specs.declared.open.Entry.{Entry}
use Rattle.unwrap_search.specs.declared.open.Cell.{Cell}
use Rattle.std.specs.Prelude.{is_some}

-- the list r is `held` with the key of entry e, whose cell is c; it is `held` itself if e was not reached or its Key ID is there already
pub data Joins (e : Entry) (c : Cell) (held r : Held) : Type 0 where
  not-reached : (c.status ≡ Done → ⊥) → r ≡ held → Joins e c held r
  stands : is_some (held_key limits e.id held) ≡ true → r ≡ held → Joins e c held r
  enters : c.status ≡ Done → is_some (held_key limits e.id held) ≡ false →
      r ≡ entered_key limits (record { id = e.id; key = c.key }) held → Joins e c held r
