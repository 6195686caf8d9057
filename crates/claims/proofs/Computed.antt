-- The theorems that docs/CLAIMS.md cites under "Inputs computed on the definitions".
use mathlib.Core.Bool.{true, false}
use mathlib.Core.List.{List}
use mathlib.Core.Path.{◌≡◌}
use Rattle.lists.specs.Lists.{any}
use Rattle.state.proofs.ApartLimits.{HeldWithin}
use Rattle.state.proofs.BrokenValues.{broken_values}
use Rattle.rules_refusals.proofs.BrokenMembers.{BrokenMembers}
use Rattle.check_pairing.proofs.Twice.{is_twice}
use Rattle.check_pairing.specs.inner.Names.{Name, is_unpaired}
use Rattle.check_pairing.proofs.Twice as ofTwice
use Rattle.state.proofs.ApartLimits as ofApartLimits
use Rattle.rules_refusals.proofs.BrokenMembers as ofBrokenMembers
pub use Rattle.rules_refusals.proofs.AllSamples.{MetAlone}
pub use Rattle.rules_refusals.proofs.SamplesOfLimits.{samples_of_limits}
pub use Rattle.state.proofs.BrokenValues.{broken_values, fit_values}
pub use Rattle.rules_refusals.proofs.SamplesOf4.{samples_of4}
pub use Rattle.rules_refusals.proofs.SamplesOf5.{samples_of5}

pub twice-unpaired : (l m : List Name) → any (is_twice l) l ≡ true → any (is_unpaired m) l ≡ false → any (is_unpaired l) m ≡ true
twice-unpaired = ofTwice.twice-unpaired

pub held-within : HeldWithin
held-within = ofApartLimits.held-within

pub broken-members : BrokenMembers broken_values
broken-members = ofBrokenMembers.broken-members
