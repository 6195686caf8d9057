use mathlib.Core.Path.{refl}
use Rattle.aes.specs.inner.Tables.{decipher_tables}
use Rattle.fips197.specs.Field.{xtimes}
use Rattle.fips197.specs.Sbox.{sbox, inv-sbox}
use Rattle.aes.proofs.lookup.decipher_tables.Goals as goal

-- `aes::lookup::decipher_tables` meets its contract.

pub returns : goal.returns
unfolding decipher_tables sbox inv-sbox xtimes
returns c = refl
