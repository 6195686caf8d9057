-- THE WHOLE FRAME: what waits once each piece of a frame came is that frame, octet for octet.
use native.Mathlib.Omega.{arith}
use Prim.Native.Nat.{ℕ, ◌+◌, ◌≤◌}
use mathlib.Core.Path.{◌≡◌, ap, sym, ◌∙◌}
use mathlib.Core.Bool.{cond}
use mathlib.Core.List.{List, [], ◌∷◌, ◌++◌, flat_map}
use lib.ListN.{length, drop, length-drop, take-append-drop}
use Rattle.octets.specs.Numbers.{oct, octets_of}
use Rattle.octets.specs.Walk.{be32}
use Rattle.octets.specs.Generate.{gen}
use Rattle.octets.proofs.Octets.{drop-octets}
use Rattle.octets.proofs.RoundTrip.{octets-number}
use Rattle.wire_frames.specs.Header.{header_of}
use Rattle.rfc5282.proofs.CellLaws.{cells}
use Rattle.fragments.specs.Collection.{Waiting, empty_lead, joined_pieces, frame_size}
use Rattle.fragments.specs.Gathering.{whole}
use Rattle.fragments.proofs.AnyOrderPieces.{came}
use Rattle.fragments.proofs.AnyOrderLaws.{waiting_for, EachCame, each-payloads}
use Rattle.rules_fragments.specs.AnyOrder.{RekeyFrame, CutOf}
use Rattle.rules_fragments.proofs.AnyOrderNames.{lead_of}

module _ (frame : List ℕ) (pieces : List (List ℕ)) (r : RekeyFrame frame) (cut : CutOf frame pieces) where
  abbrev pub waiting_after : List ℕ → Waiting
  waiting_after c = waiting_for (header_of frame).spi (header_of frame).message_id (lead_of frame) pieces c

  long : 28 ≤ length frame
  long = r.opened.header

  -- all the pieces and a header are no more than the frame
  pub cut-octets : 28 + length (flat_map (λ (p : List ℕ). p) pieces) ≡ length frame
  cut-octets = let a = ap length cut.joined in let b = length-drop 28 frame in let d = long in omega arith

  four : (i : ℕ) → i + 4 ≤ length frame → octets_of 4 (be32 frame i) ≡ gen (oct frame) i 4
  four i h =
      octets-number 4 (drop i frame) (drop-octets i frame r.opened.small) (omega (arith, length-drop i frame, h)) ∙ cells frame i 4 h

  module _ (c : List ℕ) (each : EachCame (header_of frame).spi (header_of frame).message_id (lead_of frame) pieces c) where
    payloads : joined_pieces (waiting_after c).kept ≡ drop 28 frame
    payloads = each-payloads (header_of frame).spi (header_of frame).message_id (lead_of frame) pieces c each ∙ cut.joined

    size : frame_size (waiting_after c).kept ≡ length frame
    size = let a = ap length payloads in let b = length-drop 28 frame in let d = long in omega arith

    lead-there : cond (came c 1) (lead_of frame) empty_lead ≡ lead_of frame
    lead-there = rw (each 1 (omega arith) cut.least)

    pub whole-frame : whole (waiting_after c) ≡ frame
    unfolding whole
    whole-frame =
        let l = lead-there in
        let a = cells frame 0 16 (omega (arith, long)) in
        let b = four 20 (omega (arith, long)) in
        let d = ap (octets_of 4) (size ∙ sym r.opened.counted) ∙ four 24 (omega (arith, long)) in
        let e = sym r.exchange in
        let p = payloads in
        (λ i. a i ++ (((l i).next ∷ (l i).version ∷ e i ∷ (l i).flags ∷ []) ++ (b i ++ (d i ++ p i))))
        ∙ ap (λ (w : List ℕ). w ++ drop 28 frame) (sym (cells frame 0 28 long)) ∙ take-append-drop 28 frame
