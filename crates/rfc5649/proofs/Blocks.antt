-- A block and its two registers give each other.
use mathlib.Core.Path.{◌≡◌, ap, ap₂, ◌∙◌}
use mathlib.Core.List.{List, ◌++◌}
use Prim.Native.Nat.{ℕ, ◌^◌, ◌<◌}
use native.Mathlib.Omega.{arith}
use lib.ListN.{drop, length-append, length-drop, take-append-drop}
use lib.Seq.{drop_at, take_all}
use Rattle.octets.specs.Numbers.{number, octets_of}
use Rattle.octets.proofs.Numerals.{number_append}
use Rattle.octets.proofs.RoundTrip.{length-octets, octets-octets, number_lt, number-octets, octets-number}
use Rattle.octets.proofs.Octets.{join-octets, drop-octets}
use Rattle.fips197.specs.Block.{Block}
use Rattle.rfc5649.specs.Steps.{join_registers, msb64, lsb64}

pub joined-block : (a r : ℕ) → Block (join_registers a r)
joined-block a r =
    record {
      size = length-append (octets_of 8 a) (octets_of 8 r) ∙ omega (arith, length-octets 8 a, length-octets 8 r);
      small = join-octets (octets_of 8 a) (octets_of 8 r) (octets-octets 8 a) (octets-octets 8 r);
    }

pub msb-joined : (a r : ℕ) → a < 256 ^ 8 → msb64 (join_registers a r) ≡ a
msb-joined a r h =
    number_append 8 0 (octets_of 8 a) (octets_of 8 r) (omega (arith, length-octets 8 a)) ∙ number-octets 8 a h

pub lsb-joined : (a r : ℕ) → r < 256 ^ 8 → lsb64 (join_registers a r) ≡ r
lsb-joined a r h = ap (number 8) (drop_at (octets_of 8 a) (octets_of 8 r) 8 (length-octets 8 a)) ∙ number-octets 8 r h

module _ (b : List ℕ) (is : Block b) where
  pub msb-lt : msb64 b < 256 ^ 8
  msb-lt = number_lt 8 b is.small

  pub lsb-lt : lsb64 b < 256 ^ 8
  lsb-lt = number_lt 8 (drop 8 b) (drop-octets 8 b is.small)

  pub joined-parts : join_registers (msb64 b) (lsb64 b) ≡ b
  joined-parts =
      ap₂ {C = List ℕ} ◌++◌ (octets-number 8 b is.small (omega (arith, is.size)))
      (octets-number 8 (drop 8 b) (drop-octets 8 b is.small) (omega (arith, length-drop 8 b, is.size))
      ∙ take_all 8 (drop 8 b) (omega (arith, length-drop 8 b, is.size)))
      ∙ take-append-drop 8 b
