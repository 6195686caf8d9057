-- The Delete payload's body (RFC 7296, section 3.11). Document 01: "protocol, SPI size, count 2, SPIs; size times count fills the body, and
-- the size is 4 for ESP".
use Rattle.std.specs.Prelude.{ℕ, zero, suc, ◌+◌, ◌*◌, List, [], ◌∷◌, Bool, true, cond, ◌&&◌, length, take, drop, leb, eqb}
use Rattle.ikev2_numbers.specs.Codes.{data_spi_octets, delete_count_at, delete_head_octets, protocol_esp}
use Rattle.octets.specs.Numbers.{oct}
use Rattle.octets.specs.Walk.{be16}

pub record Delete : Type 0 where
  pub protocol : ℕ
  pub spis : List (List ℕ)

-- the first `n` stretches of `k` octets each, one after the other
unfoldable pub stretches : ℕ → ℕ → List ℕ → List (List ℕ)
stretches zero k s = []
stretches (suc n) k s = take k s ∷ stretches n k (drop k s)

abbrev pub delete_of : List ℕ → Delete
delete_of s = record { protocol = oct s 0; spis = stretches (be16 s delete_count_at) (oct s 1) (drop delete_head_octets s) }

abbrev pub delete_fits : List ℕ → Bool
delete_fits s =
    leb delete_head_octets (length s)
    && (eqb (delete_head_octets + oct s 1 * be16 s delete_count_at) (length s)
    && cond (eqb (oct s 0) protocol_esp) (eqb (oct s 1) data_spi_octets) true)
