-- WHERE A FRAME BREAKS: the reader breaks at an offset exactly when the relation says so; there is one offset at most; octets are a frame
-- or break, not both; and where the offset lies.
use Rattle.std.specs.Prelude.{Ok}
use Prim.Native.Nat.{ℕ, ◌/◌, ◌<◌, ◌≤◌}
use mathlib.Core.Path.{◌≡◌, refl, ap, sym, ◌∙◌, subst}
use mathlib.Core.List.{List, [], ◌∷◌}
use mathlib.Core.Bool.{Bool, false, ◌&&◌}
use mathlib.Core.Logic.{◌⊎◌, inl, inr, ◌↔◌}
use native.Mathlib.Omega.{arith}
use borrow.Author.Tests.{lt-leb, leb-false, ne_eqb, eqb-false}
use lib.Dec.{leb, eqb}
use lib.ListN.{length, drop, length-drop}
use Rattle.octets.specs.Numbers.{oct}
use Rattle.octets.specs.Walk.{be32, Reading, whole, broken, mapped}
use Rattle.octets.specs.Breaks.{own, inside}
use Rattle.octets.proofs.Grammar.{reads, read}
use Rattle.octets.proofs.BreakLaws.{broken-at, not-broken, mapped-broken, not_left, not_right, one-not}
use Rattle.octets.proofs.BreakLaws.{structure-to, structure-from, chain-to, chain-from}
use Rattle.octets.proofs.BreakLaws.{AmongOr, among-chain}
use Rattle.wire_attributes.specs.Answers.{broken_at, layout_of}
use Rattle.wire_attributes.proofs.Loops.{same-place}
use Rattle.wire_frames.specs.Header.{header_fits}
use Rattle.wire_frames.specs.Exchange.{reads_fresh}
use Rattle.wire_frames.specs.Frame.{Payload, payload, none_next, payloads, nothing_left}
use Rattle.wire_frames.specs.Frame.{Frame, frame_of, frame_payloads, frame, frame_layout, offset_of, figure}
use Rattle.wire_frames.specs.Grammar.{IsPayload, IsFrame}
use Rattle.wire_frames.specs.Breaks.{BreaksPayload}
use Rattle.wire_frames.specs.Breaks.{FaultOfHeader, under, over, other_length, other-version, BreaksPayloads, in-payload, left_over}
use Rattle.wire_frames.specs.Breaks.{BreaksFrame}
use Rattle.wire_frames.proofs.PayloadLaws.{takes}
use Rattle.wire_frames.proofs.PayloadBreaks.{payload-to, payload-from, among-payload}
use Rattle.wire_frames.proofs.FrameGrammar.{sound, complete, read-frame, frame-read}

-- THE HEADER
module _ (s : List ℕ) where
  sized-so : Bool
  sized-so = eqb (be32 s 24) (length s)

  version-2 : Bool
  version-2 = eqb (oct s 17 / 16) 2

  header-unfit : FaultOfHeader s → header_fits s ≡ false
  unfolding sized-so version-2
  header-unfit (under h) =
      not_left (leb 28 (length s)) (leb (length s) 16384 && (sized-so && version-2)) (lt-leb 28 (length s) h)
  header-unfit (over h) =
      not_right (leb 28 (length s)) (leb (length s) 16384 && (sized-so && version-2))
      (not_left (leb (length s) 16384) (sized-so && version-2) (lt-leb (length s) 16384 h))
  header-unfit (other_length n) =
      not_right (leb 28 (length s)) (leb (length s) 16384 && (sized-so && version-2))
      (not_right (leb (length s) 16384) (sized-so && version-2)
      (not_left sized-so version-2 (ne_eqb (be32 s 24) (length s) n)))
  header-unfit (other-version n) =
      not_right (leb 28 (length s)) (leb (length s) 16384 && (sized-so && version-2))
      (not_right (leb (length s) 16384) (sized-so && version-2)
      (not_right sized-so version-2 (ne_eqb (oct s 17 / 16) 2 n)))

  header-fault : header_fits s ≡ false → FaultOfHeader s
  unfolding sized-so version-2
  header-fault q = first (one-not (leb 28 (length s)) (leb (length s) 16384 && (sized-so && version-2)) q)
    where
      third : (sized-so ≡ false) ⊎ (version-2 ≡ false) → FaultOfHeader s
      third (inl e) = other_length (eqb-false (be32 s 24) (length s) e)
      third (inr e) = other-version (eqb-false (oct s 17 / 16) 2 e)

      second : (leb (length s) 16384 ≡ false) ⊎ ((sized-so && version-2) ≡ false) → FaultOfHeader s
      second (inl e) = over (leb-false (length s) 16384 e)
      second (inr e) = third (one-not sized-so version-2 e)

      first : (leb 28 (length s) ≡ false) ⊎ ((leb (length s) 16384 && (sized-so && version-2)) ≡ false) → FaultOfHeader s
      first (inl e) = under (leb-false 28 (length s) e)
      first (inr e) = second (one-not (leb (length s) 16384) (sized-so && version-2) e)

-- THE FRAME
module _ (fresh : Bool) (s : List ℕ) (o : ℕ) where
  exactly-to : (x : Reading (List Payload)) → payloads fresh (oct s 16) 28 (drop 28 s) ≡ x → nothing_left x ≡ broken o
      → BreaksPayloads fresh s o
  exactly-to (whole l []) e q = not-broken q
  exactly-to (whole l (y ∷ rest)) e q =
      let h : 0 < length (y ∷ rest) = omega arith in
      left_over (read none_next (payload fresh) (takes fresh) (IsPayload fresh) (sound fresh) (complete fresh) 28 e) h (sym (broken-at q))
  exactly-to (broken m) e q =
      in-payload (chain-to none_next (payload fresh) (takes fresh) (IsPayload fresh) (sound fresh) (complete fresh) (BreaksPayload fresh)
      (payload-to fresh) (payload-from fresh) (oct s 16) 28 (drop 28 s) o
      (e ∙ ap broken (broken-at q)))

  over-left : (l : List Payload) (rest : List ℕ) → 0 < length rest → o ≡ 0 → nothing_left (whole l rest) ≡ broken o
  over-left l [] h e = absurd (omega arith)
  over-left l (y ∷ rest) h e = ap broken (sym e)

  payloads-from : BreaksPayloads fresh s o → nothing_left (payloads fresh (oct s 16) 28 (drop 28 s)) ≡ broken o
  payloads-from (in-payload i) =
      ap nothing_left (chain-from none_next (payload fresh) (takes fresh) (IsPayload fresh) (sound fresh) (complete fresh)
      (BreaksPayload fresh) (payload-to fresh) (payload-from fresh) i)
  payloads-from (left_over {l = l} {rest = rest} f h e) =
      ap nothing_left (reads none_next (payload fresh) (takes fresh) (IsPayload fresh) (sound fresh) (complete fresh) f 28)
      ∙ over-left l rest h e

module _ (profile : Bool) (s : List ℕ) (o : ℕ) where
  abbrev reads-fresh : Bool
  reads-fresh = reads_fresh profile (oct s 18)

  pub frame-to : frame profile s ≡ broken o → BreaksFrame profile s o
  unfolding frame
  frame-to q =
      let x = frame_payloads profile s in
      structure-to (FaultOfHeader s) (BreaksPayloads reads-fresh s o) 0 (header_fits s) (mapped (frame_of s) x) o (header-fault s)
      (header-unfit s) (λ t e. exactly-to reads-fresh s o (payloads reads-fresh (oct s 16) 28 (drop 28 s)) refl
      (mapped-broken (frame_of s) x o e)) q

  pub frame-from : BreaksFrame profile s o → frame profile s ≡ broken o
  unfolding frame
  frame-from i =
      let x = frame_payloads profile s in
      structure-from (FaultOfHeader s) (BreaksPayloads reads-fresh s o) 0 (header_fits s) (mapped (frame_of s) x) o (header-fault s)
      (header-unfit s) (λ j. ap (mapped (frame_of s)) (payloads-from reads-fresh s o j)) i

  -- "Number 1 carries the offset of the innermost payload, policy, bag, selector, transform or attribute whose layout broke first": the
  -- octets are broken at o exactly when the relation holds of o
  pub broken-exactly : (frame profile s ≡ broken o) ↔ BreaksFrame profile s o
  broken-exactly = (frame-to, frame-from)

  -- the figure is 0, or lies behind the header and in the frame
  pub where-broken : BreaksFrame profile s o → (o ≡ 0) ⊎ ((28 ≤ o) × (o < length s))
  where-broken (own f e) = inl e
  where-broken (inside n (left_over f h e)) = inl e
  where-broken (inside n (in-payload i)) =
      go (among-chain none_next (IsPayload reads-fresh) (BreaksPayload reads-fresh) 0 (among-payload reads-fresh) i)
    where
      go : AmongOr 0 28 (drop 28 s) o → (o ≡ 0) ⊎ ((28 ≤ o) × (o < length s))
      go (inl e) = inl e
      go (inr f) = inr (f.0, omega (arith, f.0, f.1, length-drop 28 s))

-- of one offset at most
pub one-break : (profile : Bool) (s : List ℕ) (m n : ℕ) → BreaksFrame profile s m → BreaksFrame profile s n → m ≡ n
one-break profile s m n i j = broken-at (sym (frame-from profile s m i) ∙ frame-from profile s n j)

-- octets are a frame, or break
pub whole-or-broken : (profile : Bool) (s : List ℕ) → ((x : Frame) × IsFrame profile s x) ⊎ ((o : ℕ) × BreaksFrame profile s o)
whole-or-broken profile s = go (frame profile s) refl
  where
    go : (y : Reading Frame) → frame profile s ≡ y → ((x : Frame) × IsFrame profile s x) ⊎ ((o : ℕ) × BreaksFrame profile s o)
    go (whole x rest) e = inl (x, read-frame profile s x rest e)
    go (broken o) e = inr (o, frame-to profile s o e)

-- and not both
pub not-both : (profile : Bool) (s : List ℕ) (x : Frame) (o : ℕ) → IsFrame profile s x → BreaksFrame profile s o → ⊥
not-both profile s x o i j = not-broken (sym (frame-read profile s x i) ∙ frame-from profile s o j)

-- the same of what the call on a frame's layout answers
module _ (profile : Bool) (s : List ℕ) where
  pub layout-broken : (o : ℕ) → (frame_layout profile s ≡ broken_at o) ↔ BreaksFrame profile s o
  unfolding frame_layout
  layout-broken o = (λ q. go (frame profile s) refl q, λ i. ap layout_of (frame-from profile s o i))
    where
      go : (y : Reading Frame) → frame profile s ≡ y → layout_of y ≡ broken_at o → BreaksFrame profile s o
      go (whole x rest) e q = let z : ◌≡◌ {A = ℕ} 0 1 = cc in absurd (omega arith)
      go (broken m) e q = frame-to profile s o (e ∙ ap broken (same-place q))

  pub layout-whole : (frame_layout profile s ≡ Ok tt) ↔ ((x : Frame) × IsFrame profile s x)
  unfolding frame_layout
  layout-whole = (λ q. go (frame profile s) refl q, λ i. ap layout_of (frame-read profile s i.0 i.1))
    where
      go : (y : Reading Frame) → frame profile s ≡ y → layout_of y ≡ Ok tt → (x : Frame) × IsFrame profile s x
      go (whole x rest) e q = (x, read-frame profile s x rest e)
      go (broken m) e q = let z : ◌≡◌ {A = ℕ} 0 1 = cc in absurd (omega arith)

-- THE FIGURE of octets: 0 where they are a frame, the offset at which they break where not
module _ (profile : Bool) (s : List ℕ) where
  pub figure-whole : (x : Frame) → IsFrame profile s x → figure profile s ≡ 0
  unfolding figure
  figure-whole x i = ap offset_of ((layout-whole profile s).1 (x, i))

  pub figure-broken : (o : ℕ) → BreaksFrame profile s o → figure profile s ≡ o
  unfolding figure
  figure-broken o i = ap offset_of ((layout-broken profile s o).1 i)

  pub figure-lies : (figure profile s ≡ 0) ⊎ ((28 ≤ figure profile s) × (figure profile s < length s))
  figure-lies = go (whole-or-broken profile s)
    where
      go : ((x : Frame) × IsFrame profile s x) ⊎ ((o : ℕ) × BreaksFrame profile s o) →
          (figure profile s ≡ 0) ⊎ ((28 ≤ figure profile s) × (figure profile s < length s))
      go (inl i) = inl (figure-whole i.0 i.1)
      go (inr i) =
          subst (λ (o : ℕ). (o ≡ 0) ⊎ ((28 ≤ o) × (o < length s))) (sym (figure-broken i.0 i.1))
          (where-broken profile s i.0 i.1)
