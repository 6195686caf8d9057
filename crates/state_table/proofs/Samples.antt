-- Small tables, computed: the order goes by protocol first, then by the octets in use.
use mathlib.Core.Path.{◌≡◌, refl}
use mathlib.Core.Bool.{true}
use mathlib.Core.List.{[], ◌∷◌}
use lib.ListN.{replicate}
use Rattle.octets.specs.Compare.{order_of, less, same}
use Rattle.state_keys.specs.Limits.{limits}
use Rattle.lists.specs.Lists.{insert}
use Rattle.state_sa.specs.Entry.{sa_before, named, make_sa}
use Rattle.state_sa.specs.declared.entry.Condition.TheVariants.{Live}
use Rattle.state_sa.specs.declared.entry.Lifetime.TheVariants.{Unlimited}
use Rattle.state_sa.specs.declared.entry.Sa.{Sa}
use Rattle.state_table.specs.declared.Table.{Table}
use Rattle.state_table.specs.Table.{table_of}
use Rattle.state_table.specs.inner.Changes.{entered}

-- an ESP SA with the high SPI 255.0.0.0, one with the low SPI 0.0.0.9 and octets that are no part of it, and a Rekey SA with SPI 0
abbrev high : Sa
high = make_sa 3 (255 ∷ replicate 15 0) (replicate 68 0) 20 0 0 Live Unlimited

abbrev low : Sa
low = make_sa 3 (0 ∷ 0 ∷ 0 ∷ 9 ∷ replicate 12 7) (replicate 68 0) 20 0 0 Live Unlimited

abbrev rekeying : Sa
rekeying = make_sa 6 (replicate 16 0) (replicate 68 0) 36 20 16 Live Unlimited

abbrev in-any-order : Sa → Sa → Sa → Table
in-any-order a b c = entered limits a (entered limits b (entered limits c (table_of limits [])))

pub sorted : in-any-order rekeying high low ≡ table_of limits (low ∷ high ∷ rekeying ∷ [])
unfolding entered table_of insert sa_before less order_of
sorted = refl

pub sorted-too : in-any-order low high rekeying ≡ table_of limits (low ∷ high ∷ rekeying ∷ [])
unfolding entered table_of insert sa_before less order_of
sorted-too = refl

-- the octets behind an ESP SPI are no part of it
pub by-octets-in-use : named 3 (0 ∷ 0 ∷ 0 ∷ 9 ∷ []) low ≡ true
unfolding named same order_of
by-octets-in-use = refl
