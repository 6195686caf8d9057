-- Number 2 is given exactly when: "exchange not one of the three; registration of a non-empty member; rekey whose two SPIs are not the live
-- Rekey SA's; a member value that breaks its list"; it "admits a fourth exchange, refuses it for an empty member and does not compare its
-- SPIs" (document 02, T-02). Of the frame it looks at the header's exchange type x and SPIs alone.
use Rattle.std.specs.Prelude.{ℕ, List, [], ◌∷◌, Bool, false, not, ◌&&◌}
use Rattle.lists.specs.Lists.{any}
use Rattle.state_keys.specs.Limits.{Limits}
use Rattle.state_sa.specs.Entry.{rekey_protocol, named, live_rekey}
use Rattle.state_sa.specs.declared.entry.Sa.{Sa}
use Rattle.state_table.specs.Table.{sas_of, not_due, empty_at}
use Rattle.state.specs.declared.State.{State}
use Rattle.state.specs.State.{state_formed}
use Rattle.wire_frames.specs.Exchange.{exchange_of}
use Rattle.wire_frames.specs.declared.exchanges.Wanted.{Wanted}
use Rattle.wire_frames.specs.declared.exchanges.Wanted.TheVariants as wanted

-- the SAs of the table that are not due at tick `now`: due ones count no more
abbrev pub not_due_sas : ℕ → State → List Sa
not_due_sas now s = not_due now (sas_of s.table)

-- "exchange not one of the three", of the four with T-02's
abbrev pub other_exchange : ℕ → Bool
other_exchange x = not (exchange_of x).admitted

-- "registration of a non-empty member"; GSA_INBAND_REKEY of an empty one
abbrev pub breaks_wanted : Wanted → Bool → Bool
breaks_wanted wanted.Empty is_empty = not is_empty
breaks_wanted wanted.NotEmpty is_empty = is_empty
breaks_wanted wanted.Any is_empty = false

unfoldable pub unwanted_member : Limits → State → ℕ → ℕ → Bool
unwanted_member limits s now x = breaks_wanted (exchange_of x).wanted (empty_at limits now s.table)

-- "rekey whose two SPIs are not the live Rekey SA's": there is no live Rekey SA with this SPI
abbrev pub over_live_rekey : List ℕ → Sa → Bool
over_live_rekey spi s = live_rekey s && named rekey_protocol spi s

unfoldable pub other_spis : State → ℕ → ℕ → List ℕ → Bool
other_spis s now x spi = (exchange_of x).compares_spis && not (any (over_live_rekey spi) (not_due_sas now s))

-- "a member value that breaks its list"
abbrev pub broken_member : Limits → State → Bool
broken_member limits s = not (state_formed limits s)

abbrev pub number2_of_frame : ℕ → List Bool
number2_of_frame x = other_exchange x ∷ []

abbrev pub number2_of_member : Limits → State → ℕ → ℕ → List ℕ → List Bool
number2_of_member limits s now x spi = unwanted_member limits s now x ∷ other_spis s now x spi ∷ broken_member limits s ∷ []
