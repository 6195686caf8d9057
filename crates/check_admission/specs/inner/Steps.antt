-- The tests by which the code decides number 2.
use Rattle.std.specs.Prelude.{ℕ, List, Bool, not, ◌&&◌, ◌||◌}
use Rattle.state_keys.specs.Limits.{Limits}
use Rattle.lists.specs.Lists.{any}
use Rattle.state_sa.specs.Entry.{due}
use Rattle.state_sa.specs.declared.entry.Sa.{Sa}
use Rattle.state_table.specs.declared.Table.{Table}
use Rattle.state_table.specs.Table.{sas_of, not_due, empty_at}
use Rattle.wire_frames.specs.declared.exchanges.Exchange.{Exchange}
use Rattle.rules_refusals.specs.Number2.{breaks_wanted, over_live_rekey}

-- SA `s` is a live Rekey SA with SPI `spi` and is not due at `now`
unfoldable pub is_over : ℕ → List ℕ → Sa → Bool
is_over now spi s = not (due now s) && over_live_rekey spi s

-- number 2 applies where the member value keeps its list: `t` is its table, `x` the row of the frame's exchange, `spi` the header's two
-- SPIs
unfoldable pub barred : Limits → Table → Exchange → List ℕ → ℕ → Bool
barred limits t x spi now =
    not x.admitted || (breaks_wanted x.wanted (empty_at limits now t) ||
    (x.compares_spis && not (any (over_live_rekey spi) (not_due now (sas_of t)))))
