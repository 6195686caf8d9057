-- The limits of what a collection holds, each by its name, and of a fragment that is put to it.
use Rattle.std.specs.Prelude.{ℕ, ◌/◌, ◌<◌, ◌≤◌, ◌≡◌, Bool, true, false, ◌&&◌, leb, length}
use Rattle.ikev2_numbers.specs.Codes.{major_version, minor_versions, most_octets, rekey_spi_octets}
use Rattle.lists.specs.Lists.{all, rising}
use Rattle.fragments.specs.declared.Collection.{Collection}
use Rattle.fragments.specs.declared.Names.{Names}
use Rattle.fragments.specs.Collection.{KeptPiece, Waiting, empty_lead, most_fragments, frame_size}
use Rattle.fragments.specs.Gathering.{is_kept, number_before}

abbrev pub kept_numbered : ℕ → KeptPiece → Bool
kept_numbered total k = leb 1 k.number && leb k.number total

-- what `fit` tests: 2 to 32 fragments, some kept and some lacking, each once, by its number, within 16,384 octets; fragment 1 passed
-- refusal 1
pub record WithinLimits (w : Waiting) : Type 0 where
  pub total-least : 2 ≤ w.total
  pub total-most : w.total ≤ most_fragments
  pub some-kept : 1 ≤ length w.kept
  pub some-lacks : length w.kept < w.total
  pub numbers : all (kept_numbered w.total) w.kept ≡ true
  pub rises : rising number_before w.kept ≡ true
  pub small : frame_size w.kept ≤ most_octets
  pub version : is_kept 1 w.kept ≡ true → w.lead.version / minor_versions ≡ major_version

-- and nothing else is held: no lead without fragment 1, and SPIs of their size
pub record FitWaiting (w : Waiting) : Type 0 where
  pub limits : WithinLimits w
  pub no_lead : is_kept 1 w.kept ≡ false → w.lead ≡ empty_lead
  pub spis-size : length w.spis ≡ rekey_spi_octets

-- a fragment that passed number 1 and is one of at most 32
pub record FitNames (f : Names) : Type 0 where
  pub least : 1 ≤ f.number
  pub in-total : f.number ≤ f.total
  pub total-most : f.total ≤ most_fragments
  pub version : f.version / minor_versions ≡ major_version
  pub spis-size : length f.spis ≡ rekey_spi_octets

-- the arrays of a collection have their sizes, as they have in every value of the code
pub record LongCollection (c : Collection) : Type 0 where
  pub spis-size : length c.spis ≡ rekey_spi_octets
  pub pieces-size : length c.pieces ≡ most_fragments
  pub octets-size : length c.octets ≡ most_octets
