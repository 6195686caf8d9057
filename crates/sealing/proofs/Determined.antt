-- The promise of `open_frame` determines its answer and the room: where a frame opens they are its opened frame's, so it is never "no". The
-- promise of `piece_length` determines its answer: where a fragment opens it is the count of its piece.
use mathlib.Core.Path.{◌≡◌, refl, sym, ap, ◌∙◌}
use mathlib.Core.List.{List}
use Prim.Native.Nat.{ℕ}
use lib.ListN.{length}
use Rattle.gcm.specs.Opening.{put_at_start}
use Rattle.rfc5282.specs.Number10.{OpensInto, OpensFragmentInto}
use Rattle.rfc5282.proofs.OneLaws.{opens_one}
use Rattle.rfc5282.proofs.PieceLaws.{piece-one}
use Rattle.rfc5282.proofs.Number10Laws.{unopened-none, unopened-fragment-none}
use Rattle.std.specs.Prelude.{Option, None, Some}
use Rattle.sealing.specs.Unsealing.{UnsealsInto}
use Rattle.sealing.specs.Pieces.{PieceInto, PieceJudged}

module _ (part s room : List ℕ) where
  pub unsealed-is : (o : List ℕ) → OpensInto part s room o → (r : Option ℕ) (after : List ℕ) → UnsealsInto part s room r after
      → (r ≡ Some (length o)) × (after ≡ put_at_start o room)
  unsealed-is o h None after a = absurd (unopened-none part s room a.clause o h)
  unsealed-is o h (Some n) after a =
      let e = opens_one part s a.opened o a.opening.opens h.opens in
      (ap Some (sym a.count ∙ ap length e), a.room-is ∙ ap (λ (x : List ℕ). put_at_start x room) e)

  pub unsealed-one : (q r : Option ℕ) (x y : List ℕ) → UnsealsInto part s room q x → UnsealsInto part s room r y → (q ≡ r) × (x ≡ y)
  unsealed-one None None x y a b = (refl, a.room-is ∙ sym b.room-is)
  unsealed-one None (Some n) x y a b = absurd (unopened-none part s room a.clause b.opened b.opening)
  unsealed-one (Some n) None x y a b = absurd (unopened-none part s room b.clause a.opened a.opening)
  unsealed-one (Some m) (Some n) x y a b =
      let e = unsealed-is a.opened a.opening (Some n) y b in
      (ap Some (sym a.count) ∙ sym e.0, a.room-is ∙ sym e.1)

  -- ---- the piece
  into : (n : ℕ) (w : PieceInto part s room n) → OpensFragmentInto part s room w.of.piece
  into n w = record { opens = w.of.opens; holds = w.holds }

  pub piece-counted : (x : List ℕ) → OpensFragmentInto part s room x → (r : Option ℕ) → PieceJudged part s room r → r ≡ Some (length x)
  piece-counted x h None u = absurd (unopened-fragment-none part s room u x h)
  piece-counted x h (Some n) w =
      ap Some (sym w.of.count ∙ ap length (piece-one part s w.of.piece x w.of.opens h.opens))

  pub piece-judged-one : (q r : Option ℕ) → PieceJudged part s room q → PieceJudged part s room r → q ≡ r
  piece-judged-one None None u v = refl
  piece-judged-one None (Some n) u w = absurd (unopened-fragment-none part s room u w.of.piece (into n w))
  piece-judged-one (Some n) r w v =
      ap Some (sym w.of.count) ∙ sym (piece-counted w.of.piece (into n w) r v)
