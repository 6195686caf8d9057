-- WHAT IS READ of a frame, octet by octet. Document 01: "Flags, minor version and RESERVED octets are ignored."
use Rattle.std.specs.Prelude.{ℕ, List, [], ◌∷◌, ◌++◌, Bool}
use Rattle.octets.specs.Ignored.{Mask, all, high, top, ignored, all_of, none_of, chain_mask}
use Rattle.wire_policies.specs.Ignored.{policies_mask}
use Rattle.wire_bags.specs.Ignored.{bags_mask}
use Rattle.wire_frames.specs.Exchange.{reads_fresh}
use Rattle.wire_frames.specs.Frame.{Content, gsa, kd, delete, unread, Payload, Frame}
use Rattle.wire_frames.specs.Grammar.{IsContent, is-gsa, is-kd, is-delete, is-unread, IsPayload, IsFrame}

-- the two SPIs; next payload, version (the major one in its high four bits), exchange type, flags; Message ID, length
abbrev pub header_mask : List Mask
header_mask =
    all ∷ all ∷ all ∷ all ∷ all ∷ all ∷ all ∷ all ∷
    all ∷ all ∷ all ∷ all ∷ all ∷ all ∷ all ∷ all ∷
    all ∷ high ∷ all ∷ ignored ∷
    all ∷ all ∷ all ∷ all ∷
    all ∷ all ∷ all ∷ all ∷ []

-- "The bodies of 36, 37, 39 and 41 are not read. Others are skipped"
abbrev pub content_mask : (fresh : Bool) (k : ℕ) (s : List ℕ) (c : Content) → IsContent fresh k s c → List Mask
content_mask fresh k s (gsa l) (is-gsa e p) = policies_mask p
content_mask fresh k s (kd l) (is-kd e b) = bags_mask fresh b
content_mask fresh k s (delete d) (is-delete e i) = all_of s
content_mask fresh k s unread (is-unread a b c) = none_of s

-- "next payload, critical bit and reserved, length 2"
abbrev pub payload_mask : (fresh : Bool) (o : List ℕ) (x : Payload) (k next : ℕ) → IsPayload fresh k o x next → List Mask
payload_mask fresh o x k next i = all ∷ top ∷ all ∷ all ∷ content_mask fresh k _ x.content i.content

abbrev pub frame_mask : (profile : Bool) (s : List ℕ) (x : Frame) → IsFrame profile s x → List Mask
frame_mask profile s x i = header_mask ++ chain_mask (payload_mask (reads_fresh profile x.header.exchange)) [] i.payloads
