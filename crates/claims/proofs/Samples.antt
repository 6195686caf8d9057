-- The theorems that docs/CLAIMS.md cites under "Document 01: samples and the program".
use Prim.Native.Nat.{ℕ}
use Rattle.rules_outcome.proofs.AtTick.{rekey_spi, seven}
use Rattle.rules_outcome.proofs.SamplesInhabited.{Inhabited}
use Rattle.rules_outcome.specs.Run.{StandsAt}
use Rattle.rules_outcome.specs.Samples.{Sample, Says}
use Rattle.rules_outcome.proofs.SamplesHold as ofSamplesHold
use Rattle.rules_outcome.proofs.AtTick as ofAtTick
use Rattle.rules_outcome.proofs.SamplesInhabited as ofSamplesInhabited
pub use Rattle.rfc5649.proofs.AesKeyWrapExamples.{wraps-twenty-octets, wraps-seven-octets}

pub samples-hold : (x : Sample) → Says x
samples-hold = ofSamplesHold.samples-hold

pub seven-stands : (now : ℕ) → StandsAt now rekey_spi seven
seven-stands = ofAtTick.seven-stands

pub samples-inhabited : (x : Sample) → Inhabited x
samples-inhabited = ofSamplesInhabited.samples-inhabited
