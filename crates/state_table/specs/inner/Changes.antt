-- Changes of a table, and a count.
use Rattle.std.specs.Prelude.{ℕ, Bool, cond, map, ltb}
use Rattle.lists.specs.Lists.{insert}
use Rattle.state_keys.specs.Limits.{Limits}
use Rattle.state_sa.specs.Entry.{sa_before}
use Rattle.state_sa.specs.declared.entry.Sa.{Sa}
use Rattle.state_table.specs.declared.Table.{Table}
use Rattle.state_table.specs.Table.{sas_of, table_of, changed, swept, retired_if}

-- how many SAs of the table are not due at the tick; a count over the limit stays as it is
unfoldable pub standing_count : Limits → ℕ → Table → ℕ
standing_count limits now t = (swept limits now t).count

-- the table with those SAs retired that pass the test p
abbrev pub retired_where : Limits → (Sa → Bool) → ℕ → ℕ → Table → Table
retired_where limits p now delay t = changed limits (map (retired_if p now delay)) t

-- the table with the SA a in its place, if there is room
unfoldable pub entered : Limits → Sa → Table → Table
entered limits a t = cond (ltb t.count limits.sas) (table_of limits (insert sa_before a (sas_of t))) t
