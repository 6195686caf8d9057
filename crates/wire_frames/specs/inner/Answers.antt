-- What the readers of a header and of a generic payload header answer, by what the octets are.
use Rattle.std.specs.Prelude.{ℕ, cond, List, Option, Some, None}
use Rattle.ikev2_numbers.specs.Codes.{structure_length_at}
use Rattle.octets.specs.Numbers.{oct}
use Rattle.octets.specs.Walk.{be16}
use Rattle.wire_frames.specs.Header.{header_of, first_payload, header_fits, payload_fits, is_critical}
use Rattle.wire_frames.specs.declared.IkeHeader.{IkeHeader}
use Rattle.wire_frames.specs.declared.PayloadHeader.{PayloadHeader}

-- what is read of an IKE header, and of a generic payload header
abbrev pub fields_of : List ℕ → IkeHeader
fields_of s = record { first = first_payload s; exchange = (header_of s).exchange; message_id = (header_of s).message_id }

abbrev pub payload_fields : List ℕ → PayloadHeader
payload_fields s = record { next = oct s 0; critical = is_critical s; end = be16 s structure_length_at }

abbrev pub header_read : List ℕ → Option IkeHeader
header_read s = cond (header_fits s) (Some (fields_of s)) None

abbrev pub payload_read : List ℕ → Option PayloadHeader
payload_read s = cond (payload_fits s) (Some (payload_fields s)) None
