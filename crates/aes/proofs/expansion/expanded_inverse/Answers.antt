use mathlib.Core.Path.{refl}
use native.Mathlib.Omega.{arith}
use lib.ListN.{length}
use Rattle.octets.proofs.Fill.{none, more}
use Rattle.fips197.proofs.Expansion.{sizes}
use Rattle.aes.proofs.Growing.{blank_none, blank-more}
use Rattle.aes.proofs.Held.{decipher-length, decipher-sbox}
use Rattle.aes.proofs.Inverting.{inverted}
use Rattle.aes.proofs.expansion.expanded_inverse.Goals as goal

-- `aes::expansion::expanded_inverse` meets its contract.

pub expand_words-w-requires : goal.expand_words-w-requires
expand_words-w-requires c =
    record {
      at_in_bounds = (omega (arith, decipher-length c.requires.t_value), decipher-sbox c.requires.t_value);
      t = c.requires.t;
    }

pub loop-j-init : goal.loop-j-init
loop-j-init c =
    let z = sizes (length c.args.key.now) c.requires.t in
    (omega (arith, z.least), omega (arith, z.most), none 61 _ _ refl, blank_none 61)

pub inverse_word-requires : goal.inverse_word-requires
inverse_word-requires c =
    (omega (arith, decipher-length c.requires.t_value), omega arith, omega arith)

pub loop-j-preserved : goal.loop-j-preserved
loop-j-preserved c = (
  c.loop-j.invariant.0,
  c.loop-j.invariant.1,
  more c.loop-j.invariant.2 (omega arith) c.inverse_word.ensures,
  blank-more c.loop-j.k c.loop-j.j _ 61 c.loop-j.invariant.3,
)

pub returns : goal.returns
returns c =
    inverted c.requires.t_value c.expand_words-w.ensures _ c.loop-j.j refl c.loop-j-test.false (omega arith) c.loop-j.invariant.2
    c.loop-j.invariant.3
