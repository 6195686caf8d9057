-- "The least acceptable Message ID, or none any more."
use Rattle.std.specs.Prelude.{ℕ, ◌+◌, ◌-◌, ◌^◌, Bool, false, cond, leb, ltb}
use Rattle.state.specs.declared.least.Least.{Least}
use Rattle.state.specs.declared.least.Least.TheVariants.{Id, NoneAnyMore}

-- number 3 is "Message ID below the least acceptable, or none acceptable": the other Message IDs are acceptable
abbrev pub acceptable : ℕ → Least → Bool
acceptable id (Id n) = leb n id
acceptable id NoneAnyMore = false

-- "sets it to its own plus 1, or none any more after 4,294,967,295"
unfoldable pub after_id : ℕ → Least
after_id id = cond (ltb id (2 ^ 32 - 1)) (Id (id + 1)) NoneAnyMore
