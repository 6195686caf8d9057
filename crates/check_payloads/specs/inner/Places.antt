-- Where the body of the first payload of a type stands in a frame whose layout is whole.
use Rattle.std.specs.Prelude.{ℕ, zero, suc, ◌+◌, cond, List, length, drop, eqb}
use Rattle.ikev2_numbers.specs.Codes.{header_octets, no_payload, payload_header_octets, structure_length_at}
use Rattle.octets.specs.Numbers.{oct}
use Rattle.octets.specs.Walk.{be16}
use Rattle.wire_frames.specs.Header.{first_payload}
use Rattle.wire_readers.specs.declared.Stretch.{Stretch}
use Rattle.wire_readers.specs.inner.Values.{nowhere}

-- the body of the first payload of type `w` among at most `n` payloads. They begin at octet `at` of `s`, and the first has type `k`. "Next
-- Payload" names the type of the next one, "Payload Length" counts all octets of this one, 4 of them before its body (RFC 7296, section
-- 3.2); the type 0 ends them
unfoldable pub body_from : ℕ → ℕ → ℕ → ℕ → List ℕ → Stretch
body_from zero w k at s = nowhere
body_from (suc n) w k at s =
    let end = at + be16 (drop at s) structure_length_at in
    let later = body_from n w (oct (drop at s) 0) end s in
    cond (eqb k no_payload) nowhere (cond (eqb k w) (record { start = at + payload_header_octets; end = end }) later)

-- the same in frame `s`: its payloads begin after the 28 octets of its header
abbrev pub body_of : ℕ → List ℕ → Stretch
body_of w s = body_from (length s) w (first_payload s) header_octets s
