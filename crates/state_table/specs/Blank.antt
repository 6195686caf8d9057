-- The unused places of a table: the places past its count, and those of each SA. They are blank in every table that is made.
use Rattle.std.specs.Prelude.{◌≡◌, List, [], ◌∷◌}
use Rattle.state_keys.specs.Limits.{Limits}
use Rattle.state_sa.specs.Blank.{ZeroPadded}
use Rattle.state_sa.specs.declared.entry.Sa.{Sa}
use Rattle.state_table.specs.declared.Table.{Table}
use Rattle.state_table.specs.Table.{sas_of, table_of}

pub data AllBlank : List Sa → Type 0 where
  no-sa : AllBlank []
  one_more : {s : Sa} {l : List Sa} → ZeroPadded s → AllBlank l → AllBlank (s ∷ l)

pub record TableBlank (limits : Limits) (t : Table) : Type 0 where
  pub places : t ≡ table_of limits (sas_of t)
  pub each : AllBlank (sas_of t)
