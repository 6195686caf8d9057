-- A frame as it is read where fresh keys are skipped (document 02, T-11): "Elsewhere, and with the profile off, the attribute is skipped."
-- proofs/PlainLaws states what the profile changes in the reading of a frame, and what it does not.
use Rattle.std.specs.Prelude.{map}
use Rattle.wire_bags.specs.Plain.{plain_bag}
use Rattle.wire_frames.specs.Frame.{Content, gsa, kd, delete, unread, Payload, Frame}

abbrev pub plain_content : Content → Content
plain_content (gsa l) = gsa l
plain_content (kd l) = kd (map plain_bag l)
plain_content (delete d) = delete d
plain_content unread = unread

abbrev pub plain_payload : Payload → Payload
plain_payload p = record { kind = p.kind; critical = p.critical; content = plain_content p.content }

abbrev pub plain_frame : Frame → Frame
plain_frame f = record { header = f.header; payloads = map plain_payload f.payloads }
