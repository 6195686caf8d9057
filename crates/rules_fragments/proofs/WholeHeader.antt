-- The header of the whole frame: the fragment's two SPIs, GSA_REKEY, the fragment's Message ID. So its numbers 2 and 3 are judged on what
-- the fragment said, and no lent key is read.
use native.Mathlib.Omega.{arith}
use Prim.Native.Nat.{ℕ, ◌^◌, ◌<◌}
use mathlib.Core.Path.{◌≡◌, sym, ap, ◌∙◌, subst}
use mathlib.Core.Bool.{Bool}
use mathlib.Core.List.{List, [], ◌∷◌, ◌++◌}
use lib.ListN.{length, drop}
use lib.Seq.{take_at, drop_at, drop-drop, get_or-drop, length-take-le}
use Rattle.octets.specs.Numbers.{oct, number, octets_of}
use Rattle.octets.proofs.Numerals.{number_append}
use Rattle.octets.proofs.Octets.{drop-octets}
use Rattle.octets.proofs.RoundTrip.{length-octets, number_lt, number-octets}
use Rattle.state_keys.specs.Limits.{Limits}
use Rattle.wire_frames.specs.Header.{header_of}
use Rattle.wire_frames.specs.Frame.{Frame}
use Rattle.wire_frames.specs.Grammar.{IsFrame}
use Rattle.state.specs.declared.State.{State}
use Rattle.rfc5282.specs.Number10.{OpensFragmentInto}
use Rattle.rfc5282.proofs.PieceLaws.{fragment-long, fragment-message}
use Rattle.fragments.specs.declared.Collection.{Collection}
use Rattle.fragments.specs.Collection.{Waiting, joined_pieces, frame_size}
use Rattle.fragments.specs.Gathering.{with_piece, whole}
use Rattle.rules_outcome.specs.Outcome.{Outcome}
use Rattle.rules_outcome.proofs.Rows.{rekeys}
use Rattle.rules_outcome.proofs.NotRead.{same_outcome}
use Rattle.rules_sealed.specs.SealingKey.{sealing_part}
use Rattle.rules_fragments.specs.FragmentOutcome.{gathered_with}

-- ---- of what waits
module _ (w : Waiting) (size : length w.spis ≡ 16) where
  abbrev octets-of-lead : List ℕ
  octets-of-lead = w.lead.next ∷ w.lead.version ∷ 41 ∷ w.lead.flags ∷ []

  abbrev behind-id : List ℕ
  behind-id = octets_of 4 (frame_size w.kept) ++ joined_pieces w.kept

  behind-spis : drop 16 (whole w) ≡ octets-of-lead ++ (octets_of 4 w.id ++ behind-id)
  unfolding whole
  behind-spis = drop_at w.spis (octets-of-lead ++ (octets_of 4 w.id ++ behind-id)) 16 size

  pub whole-spis : (header_of (whole w)).spi ≡ w.spis
  unfolding whole
  whole-spis = take_at w.spis (octets-of-lead ++ (octets_of 4 w.id ++ behind-id)) 16 size

  pub whole-exchange : (header_of (whole w)).exchange ≡ 41
  whole-exchange = sym (get_or-drop 16 (whole w) 2 0) ∙ ap (λ (x : List ℕ). oct x 2) behind-spis

  pub whole-message : w.id < 256 ^ 4 → (header_of (whole w)).message_id ≡ w.id
  whole-message small =
      ap (number 4) (sym (drop-drop 4 16 (whole w)) ∙ ap (drop 4) behind-spis)
      ∙ number_append 4 0 (octets_of 4 w.id) behind-id (omega (arith, length-octets 4 w.id))
      ∙ number-octets 4 w.id small

-- ---- of a fragment that opens
module _ (limits : Limits) (s : State) (now : ℕ) (c : Collection) (octets room piece : List ℕ)
    (h : OpensFragmentInto (sealing_part limits s) octets room piece) where
  abbrev made : Waiting
  made = gathered_with limits s now c octets room piece

  made-size : length made.spis ≡ 16
  unfolding with_piece
  made-size = length-take-le 16 octets (omega (arith, fragment-long (sealing_part limits s) octets piece h.opens))

  made-small : made.id < 256 ^ 4
  unfolding with_piece
  made-small =
      subst (λ (n : ℕ). n < 256 ^ 4) (sym (fragment-message (sealing_part limits s) octets piece h.opens))
      (number_lt 4 (drop 20 h.opens.header) (drop-octets 20 h.opens.header h.opens.header-small))

  module _ (profile : Bool) (f : Frame) (e : IsFrame profile (whole (gathered_with limits s now c octets room piece)) f) where
    pub tree-spi : f.header.spi ≡ (header_of octets).spi
    unfolding with_piece
    tree-spi = sym e.spi ∙ whole-spis made made-size

    pub tree-exchange : f.header.exchange ≡ 41
    tree-exchange = sym e.exchange ∙ whole-exchange made made-size

    pub tree-message : f.header.message_id ≡ (header_of octets).message_id
    unfolding with_piece
    tree-message = sym e.message_id ∙ whole-message made made-size made-small

  -- no lent key is read
  pub any_lent : (lent other : List ℕ) (n : ℕ) (next : State) →
      Outcome limits s now lent (whole (gathered_with limits s now c octets room piece)) n next →
      Outcome limits s now other (whole (gathered_with limits s now c octets room piece)) n next
  any_lent lent other =
      same_outcome limits s now lent other (whole made) (λ f e. rekeys f.header.exchange (tree-exchange s.profile f e))
