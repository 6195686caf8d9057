-- The SAs that Delete payloads name, and where the payloads stand.
use Rattle.std.specs.Prelude.{ℕ, ◌≡◌, Bool, cond, ◌&&◌, ◌||◌, List, ◌++◌, map, eqb, leb, length, take, drop}
use Rattle.octets.specs.Compare.{same}
use Rattle.lists.specs.Lists.{any}
use Rattle.state_keys.specs.Limits.{limits}
use Rattle.wire_frames.specs.Delete.{Delete}
use Rattle.check_payloads.specs.inner.Deletion.{DeletesFrom}
use Rattle.state_sa.specs.Entry.{esp_protocol, rekey_protocol, sa_spi}
use Rattle.state_sa.specs.declared.entry.Sa.{Sa}
use Rattle.state_table.specs.Table.{retired_if}
use Rattle.state_table.specs.declared.Table.{Table}
use Rattle.rules_outcome.specs.After.{is_zero}
use Rattle.apply.specs.declared.retiring.DeletesAt.{DeletesAt}

-- one of the SPIs l names the SA s: it is an ESP SA, and the SPI is its own or all zeros
abbrev pub named_in : List (List ℕ) → Sa → Bool
named_in l s = eqb s.protocol esp_protocol && any (λ (x : List ℕ). is_zero x || same (sa_spi s) x) l

-- the SA s is a Rekey SA, and there is a new one
abbrev pub outdated : Bool → Sa → Bool
outdated new s = new && eqb s.protocol rekey_protocol

-- the table t, of which the SAs that p picks retire in their places; if its count is over the limit, none retires
unfoldable pub retired_there : (Sa → Bool) → ℕ → ℕ → Table → Table
retired_there p now delay t =
    cond (leb t.count limits.sas) (record {
      sas = map (retired_if p now delay) (take t.count t.sas) ++ drop t.count t.sas;
      count = t.count;
    }) t

-- l are the Delete payloads of the frame of octets s; d has their number and the start of the first one
pub record AreDeletes (s : List ℕ) (d : DeletesAt) (l : List Delete) : Type 0 where
  pub count : length l ≡ d.count
  pub from : (d.count ≡ 0 → ⊥) → DeletesFrom s l d.start
