-- A frame (document 01): "a plain 28-octet IKE header (RFC 7296 section 3.1), then the opened payloads", as a tree, or the offset of the
-- structure whose layout broke first. `fresh` says whether fresh keys are read in the frame, `profile` whether the member that gets it has
-- the profile for them (document 02, T-11).
use Rattle.std.specs.Prelude.{ℕ, List, [], ◌∷◌, Bool, cond, ◌||◌, drop, eqb, Result, Ok, Err}
use Rattle.ikev2_numbers.specs.Codes.{header_octets, no_payload, payload_auth, payload_cert, payload_delete, payload_gsa, payload_header_octets}
use Rattle.ikev2_numbers.specs.Codes.{payload_idr, payload_kd, payload_notify, structure_length_at}
use Rattle.octets.specs.Numbers.{oct}
use Rattle.octets.specs.Walk.{be16, Reading, whole, broken, Reader, mapped, opened, begun, within, Linked, chain}
use Rattle.wire_attributes.specs.declared.Broken.{Broken}
use Rattle.wire_attributes.specs.Answers.{layout_of}
use Rattle.wire_policies.specs.Policy.{Policy, policies}
use Rattle.wire_bags.specs.Bag.{Bag, bags}
use Rattle.wire_frames.specs.Header.{Header, header_of, first_payload, header_fits, payload_fits, is_critical}
use Rattle.wire_frames.specs.Delete.{Delete, delete_of, delete_fits}
use Rattle.wire_frames.specs.Exchange.{reads_fresh}

-- "Known: IDr 36, CERT 37, AUTH 39, N 41, D 42, GSA 51, KD 52. The bodies of 36, 37, 39 and 41 are not read. Others are skipped"
abbrev pub is_known : ℕ → Bool
is_known k =
    eqb k payload_idr || (eqb k payload_cert || (eqb k payload_auth || (eqb k payload_notify
    || (eqb k payload_delete || (eqb k payload_gsa || eqb k payload_kd)))))

pub data Content : Type 0 where
  gsa : List Policy → Content
  kd : List Bag → Content
  delete : Delete → Content
  unread : Content

pub record Payload : Type 0 where
  pub kind : ℕ
  pub critical : Bool
  pub content : Content

pub record Frame : Type 0 where
  pub header : Header
  pub payloads : List Payload

-- the bodies that are read: GSA holds policies, KD key bags; a broken Delete counts for its payload, at the offset `h`
abbrev pub gsa_body : Reader Content
gsa_body b s = mapped gsa (policies b s)

abbrev pub kd_body : Bool → Reader Content
kd_body fresh b s = mapped kd (bags fresh b s)

abbrev pub delete_body : ℕ → Reader Content
delete_body h b s = opened h (delete_fits s) (whole (delete (delete_of s)) [])

-- the others, known or not, are not read
abbrev pub unread_body : Reader Content
unread_body b s = whole unread []

-- the body of a payload of the kind `k` at the offset `h`
unfoldable pub body : Bool → ℕ → ℕ → Reader Content
body fresh k h b s =
    cond (eqb k payload_gsa) (gsa_body b s)
    (cond (eqb k payload_kd) (kd_body fresh b s) (cond (eqb k payload_delete) (delete_body h b s) (unread_body b s)))

-- the payload of the kind `k` at the start of `s`, with the content `c`, and the kind of the next
abbrev pub payload_of : ℕ → List ℕ → Content → Linked ℕ Payload
payload_of k s c = record { item = record { kind = k; critical = is_critical s; content = c }; next = oct s 0 }

-- a payload that "next payload" names is missing if it has not a single octet; it counts for the header, at 0
unfoldable pub payload : Bool → ℕ → Reader (Linked ℕ Payload)
payload fresh k b s =
    begun 0 s
    (opened b (payload_fits s) (mapped (payload_of k s) (within payload_header_octets (be16 s structure_length_at) (body fresh k b) b s)))

-- payloads one after the other, up to the one with next payload 0
abbrev pub none_next : ℕ → List ℕ → Bool
none_next k s = eqb k no_payload

abbrev pub payloads : Bool → ℕ → Reader (List Payload)
payloads fresh k b s = chain none_next (payload fresh) k b s

-- "Next payload 0 ends the frame exactly at its length": octets left over count for the header too
abbrev pub nothing_left : {A : Type 0} → Reading A → Reading A
nothing_left (whole a []) = whole a []
nothing_left (whole a (x ∷ rest)) = broken 0
nothing_left (broken o) = broken o

abbrev pub frame_of : List ℕ → List Payload → Frame
frame_of s l = record { header = header_of s; payloads = l }

-- the payloads behind the header of `s`, in which fresh keys are read by the header's exchange type
abbrev pub frame_payloads : Bool → List ℕ → Reading (List Payload)
frame_payloads profile s =
    nothing_left (payloads (reads_fresh profile (header_of s).exchange) (first_payload s) header_octets (drop header_octets s))

unfoldable pub frame : Bool → List ℕ → Reading Frame
frame profile s = opened 0 (header_fits s) (mapped (frame_of s) (frame_payloads profile s))

-- THE LAYOUT OF A FRAME: whole, or refusal 1 with the offset that it carries
unfoldable pub frame_layout : Bool → List ℕ → Result (Unit {0}) Broken
frame_layout profile s = layout_of (frame profile s)

-- THE FIGURE (document 02, T-06): the offset at which the octets are broken, 0 where they are whole
abbrev pub offset_of : Result (Unit {0}) Broken → ℕ
offset_of (Ok u) = 0
offset_of (Err e) = e.at

unfoldable pub figure : Bool → List ℕ → ℕ
figure profile s = offset_of (frame_layout profile s)
