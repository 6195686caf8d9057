-- Traffic selectors (RFC 7296, section 3.13.1): TS type 1, IP protocol 1, selector length 2, start port 2, end port 2, starting and ending
-- address. Document 01: "type 7 (16 octets) or 8 (40 octets)".
use Rattle.std.specs.Prelude.{ℕ, ◌+◌, List, Bool, cond, ◌&&◌, length, drop, leb, ltb, eqb}
use Rattle.ikev2_numbers.specs.Codes.{addresses_at, end_port_at, ipv4_address_octets, ipv4_range, ipv4_selector_octets, ipv6_address_octets}
use Rattle.ikev2_numbers.specs.Codes.{ipv6_range, ipv6_selector_octets, start_port_at, structure_length_at}
use Rattle.octets.specs.Numbers.{oct}
use Rattle.octets.specs.Walk.{be16, part, whole, Reader, opened, begun}

pub record Selector : Type 0 where
  pub kind : ℕ
  pub protocol : ℕ
  pub start_port : ℕ
  pub end_port : ℕ
  pub start_address : List ℕ
  pub end_address : List ℕ

-- how many octets an address and a whole selector have, by the selector's type; 0 for an unknown type
abbrev pub address_size : ℕ → ℕ
address_size t = cond (eqb t ipv4_range) ipv4_address_octets (cond (eqb t ipv6_range) ipv6_address_octets 0)

abbrev pub selector_size : ℕ → ℕ
selector_size t = cond (eqb t ipv4_range) ipv4_selector_octets (cond (eqb t ipv6_range) ipv6_selector_octets 0)

abbrev pub selector_of : List ℕ → Selector
selector_of s = record {
  kind = oct s 0;
  protocol = oct s 1;
  start_port = be16 s start_port_at;
  end_port = be16 s end_port_at;
  start_address = part s addresses_at (addresses_at + address_size (oct s 0));
  end_address = part s (addresses_at + address_size (oct s 0)) (selector_size (oct s 0));
}

-- whether the type of the selector at the start of `s` is known, its length is the type's, and its octets are there
abbrev pub selector_fits : List ℕ → Bool
selector_fits s =
    let n = selector_size (oct s 0) in
    (ltb 0 n && (leb n (length s) && eqb (be16 s structure_length_at) n))

-- the selector at the start of `s`, or broken; a missing one counts for its policy, at the offset `h`
unfoldable pub selector : ℕ → Reader Selector
selector h b s = begun h s (opened b (selector_fits s) (whole (selector_of s) (drop (selector_size (oct s 0)) s)))
