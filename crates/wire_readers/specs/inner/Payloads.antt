-- What `payload_parts` answers on payloads whose layout is whole: the first one; the others follow at its end, and are whole too.
-- `fresh` says whether fresh keys are read in the frame.
use Rattle.std.specs.Prelude.{ℕ, ◌≤◌, ◌≡◌, List, ◌∷◌, Bool, true, length, drop}
use Rattle.ikev2_numbers.specs.Codes.{payload_header_octets, structure_length_at}
use Rattle.octets.specs.Numbers.{oct}
use Rattle.octets.specs.Walk.{be16, part}
use Rattle.wire_readers.specs.inner.Values.{is_whole, items_of}
use Rattle.wire_frames.specs.Header.{is_critical}
use Rattle.wire_frames.specs.Frame.{Content, Payload, payloads, nothing_left}
use Rattle.wire_frames.specs.Grammar.{IsContent}
use Rattle.wire_readers.specs.declared.payload.PayloadParts.{PayloadParts}

abbrev pub payloads_in : Bool → ℕ → List ℕ → List Payload
payloads_in fresh k s = items_of (payloads fresh k 0 s)

pub record PayloadIs (fresh : Bool) (k : ℕ) (s : List ℕ) (r : PayloadParts) : Type 0 where
  pub next : r.next ≡ oct s 0
  pub critical : r.critical ≡ is_critical s
  pub end : r.end ≡ be16 s structure_length_at
  pub some : payload_header_octets ≤ r.end
  pub inside : r.end ≤ length s
  pub content : Content
  pub is : IsContent fresh k (part s payload_header_octets r.end) content
  pub item : payloads_in fresh k s
      ≡ record { kind = k; critical = r.critical; content = content } ∷ payloads_in fresh r.next (drop r.end s)
  pub rest : is_whole (nothing_left (payloads fresh r.next 0 (drop r.end s))) ≡ true
