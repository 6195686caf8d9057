use mathlib.Core.Path.{refl}
use Rattle.aes.specs.inner.Tables.{encipher_tables}
use Rattle.fips197.specs.Field.{xtimes}
use Rattle.fips197.specs.Sbox.{sbox}
use Rattle.aes.proofs.lookup.encipher_tables.Goals as goal

-- `aes::lookup::encipher_tables` meets its contract.

pub returns : goal.returns
unfolding encipher_tables sbox xtimes
returns c = refl
