-- What the theorems on sealed frames say, in the customer's words. No contract cites this file.
use Rattle.std.specs.Prelude.{ℕ, ◌≤◌, ◌≡◌, true, false, List, length, take}
use Rattle.state_keys.specs.Rooms.{sa_room}
use Rattle.wire_frames.specs.Header.{header_of}
use Rattle.state_sa.specs.Entry.{sa_spi, live_rekey, due}
use Rattle.state_sa.specs.declared.entry.Sa.{Sa}
use Rattle.state_table.specs.Table.{sas_of}
use Rattle.state.specs.declared.State.{State}
use Rattle.rules_chains.specs.Chain.{In}

-- the octets of each SA of the table are an array of 68, as they are in every value of the code
abbrev pub LongArrays : State → Type 0
LongArrays s = (b : Sa) → In b (sas_of s.table) → sa_room ≤ length b.octets

-- "keyed by the live Rekey SA": `part` is cut out of the keying octets of the SA over which the frame came. That one is live, stands at the
-- tick and has the header's two SPIs
pub record SealedOver (s : State) (now : ℕ) (octets part : List ℕ) : Type 0 where
  pub sa : Sa
  pub stands : In sa (sas_of s.table)
  pub live : live_rekey sa ≡ true
  pub not-due : due now sa ≡ false
  pub spi : sa_spi sa ≡ (header_of octets).spi
  pub cut : part ≡ take sa.encryption sa.octets
