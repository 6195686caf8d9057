-- Document 02, T-12: "A body under 4 octets, a fragment numbered 0 or above its total and, in this call, any payload but one 53 is 1".
use Rattle.std.specs.Prelude.{◌≡◌, Bool, ◌&&◌, ℕ, ◌≤◌, List, ◌++◌, length, leb}
use Rattle.octets.specs.Numbers.{oct, octets_of}
use Rattle.octets.specs.Walk.{be16}
use Rattle.ikev2_numbers.specs.Codes.{header_octets}
use Rattle.rfc5282.specs.Sizes.{payload_fragment, fragment_field_octets, fragment_field_most}
use Rattle.rfc5282.specs.Sizes.{fragment_number_at, total_fragments_at, fragment_body_at}
use Rattle.rfc5282.specs.Outer.{alone, IsAlone}

-- Fragment Number, Total Fragments, and the payload's own next payload
abbrev pub number_in : List ℕ → ℕ
number_in s = be16 s fragment_number_at

abbrev pub total_in : List ℕ → ℕ
total_in s = be16 s total_fragments_at

abbrev pub next_in : List ℕ → ℕ
next_in s = oct s header_octets

unfoldable pub outer_fragment : List ℕ → Bool
outer_fragment s =
    alone payload_fragment s
    && (leb fragment_body_at (length s) && (leb 1 (number_in s) && leb (number_in s) (total_in s)))

-- the same without a test: the body begins with a number from 1 to a total, two octets each
pub record IsFragment (s : List ℕ) : Type 0 where
  pub frame : IsAlone payload_fragment s
  pub number : ℕ
  pub total : ℕ
  pub body : List ℕ
  pub is : frame.body ≡ octets_of fragment_field_octets number ++ (octets_of fragment_field_octets total ++ body)
  pub least : 1 ≤ number
  pub in-total : number ≤ total
  pub total-most : total ≤ fragment_field_most
