-- A frame whose layout is whole hands this to its payloads.
use Prim.Native.Nat.{ℕ, ◌≤◌}
use mathlib.Core.Path.{◌≡◌, refl, ap, sym}
use mathlib.Core.List.{List, []}
use mathlib.Core.Bool.{Bool, true, false}
use native.Mathlib.Omega.{arith}
use lib.ListN.{length, drop}
use Rattle.octets.specs.Walk.{Reading, whole, broken}
use Rattle.octets.proofs.Grammar.{reads}
use Rattle.wire_frames.specs.Header.{first_payload}
use Rattle.wire_frames.specs.Exchange.{reads_fresh}
use Rattle.wire_frames.specs.Frame.{Frame, Payload, payload, none_next, payloads, nothing_left, frame}
use Rattle.wire_frames.specs.Grammar.{IsPayload, IsFrame}
use Rattle.wire_frames.proofs.PayloadLaws.{takes}
use Rattle.wire_frames.proofs.FrameGrammar.{sound, complete, read-frame, frame-read}
use Rattle.wire_readers.specs.inner.Values.{is_whole, items_of}
use Rattle.wire_readers.specs.inner.Payloads.{payloads_in}
use Rattle.wire_frames.specs.Plain.{plain_frame}
use Rattle.wire_frames.proofs.PlainLaws.{on-to-off}

whole_of : {A : Type 0} (x : Reading A) → is_whole x ≡ true → (a : A) × (rest : List ℕ) × (x ≡ whole a rest)
whole_of (whole a rest) e = (a, rest, refl)
whole_of (broken o) e = let z : ◌≡◌ {A = ℕ} 0 1 = cc in absurd (omega arith)

module _ (profile : Bool) (s : List ℕ) (f : Frame) (i : IsFrame profile s f) where
  -- whether fresh keys are read in the frame
  abbrev fresh : Bool
  fresh = reads_fresh profile f.header.exchange

  read_at : payloads fresh (first_payload s) 0 (drop 28 s) ≡ whole f.payloads []
  read_at = reads none_next (payload fresh) (takes fresh) (IsPayload fresh) (sound fresh) (complete fresh) i.payloads 0

  pub are-payloads : f.payloads ≡ payloads_in (reads_fresh profile f.header.exchange) (first_payload s) (drop 28 s)
  are-payloads = ap items_of (sym read_at)

  pub whole-payloads : is_whole (nothing_left (payloads (reads_fresh profile f.header.exchange) (first_payload s) 0 (drop 28 s))) ≡ true
  whole-payloads = ap (λ (x : Reading (List Payload)). is_whole (nothing_left x)) read_at

module _ (profile : Bool) (s : List ℕ) (e : is_whole (frame profile s) ≡ true) where
  pub is-frame : (f : Frame) × IsFrame profile s f
  is-frame = let w = whole_of (frame profile s) e in (w.0, read-frame profile s w.0 w.1 w.2)

  pub reads-to : (f : Frame) × (frame profile s ≡ whole f [])
  reads-to = let w = is-frame in (w.0, frame-read profile s w.0 w.1)

  pub long : 28 ≤ length s
  long = is-frame.1.least

  pub short : length s ≤ 16384
  short = is-frame.1.most

  pub starts-whole : is_whole (nothing_left (payloads false (first_payload s) 0 (drop 28 s))) ≡ true
  starts-whole = let w = is-frame in whole-payloads false s (plain_frame w.0) (on-to-off profile s w.0 w.1)
