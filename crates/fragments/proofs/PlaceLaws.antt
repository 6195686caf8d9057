-- The case of a fragment by the fields of a collection, and what `place` tells by it.
use native.Mathlib.Omega.{arith}
use Prim.Native.Nat.{ℕ, ◌+◌, ◌≤◌}
use mathlib.Core.Path.{◌≡◌, refl, ap, sym, subst, ◌∙◌}
use mathlib.Core.Bool.{Bool, true, false, cond, ◌&&◌}
use mathlib.Core.List.{List, [], ◌∷◌, flat_map}
use borrow.Author.Tests.{lt-ltb, ltb-true, ltb-false, leb-true, le-leb}
use lib.Dec.{ltb, eqb}
use lib.ListN.{length, length-append}
use lib.Seq.{length-take-le}
use Rattle.octets.specs.Compare.{same}
use Rattle.ikev2_numbers.specs.Codes.{header_octets, most_octets}
use Rattle.lists.specs.Lists.{any, insert}
use Rattle.lists.proofs.Cases.{bool_cases}
use Rattle.fragments.specs.declared.Case.{Case}
use Rattle.fragments.specs.declared.Case.TheVariants.{Anew, PassedOver, Kept}
use Rattle.fragments.specs.declared.Collection.{Collection}
use Rattle.fragments.specs.declared.Names.{Names}
use Rattle.fragments.specs.declared.Piece.{Piece}
use Rattle.fragments.specs.declared.Placed.{Placed}
use Rattle.fragments.specs.declared.Placed.TheVariants.{TooLong, Taken}
use Rattle.fragments.specs.Collection.{KeptPiece, Waiting, nothing, most_fragments, joined_pieces, frame_size, pieces_of, size_of_all}
use Rattle.fragments.specs.Collection.{cut_by}
use Rattle.fragments.specs.Collection.{held_in, fit, counted}
use Rattle.fragments.specs.Gathering.{is_kept, case_of, put_to, number_before, with_piece, gathered}
use Rattle.fragments.specs.inner.Counting.{has_number, FrameCounted}
use Rattle.fragments.specs.inner.FitWaiting.{LongCollection}
use Rattle.fragments.specs.inner.Places.{case_within, PlaceSays}
use Rattle.fragments.proofs.RoundTrip.{size-made}
use Rattle.fragments.proofs.FitLaws.{FitParts, fit_is, made-cut}

-- ---- the pieces that are cut out of the octets
pub kept-cut : (number : ℕ) (l : List Piece) (o : List ℕ) → is_kept number (cut_by l o) ≡ has_number number l
unfolding any cut_by
kept-cut number [] o = refl
kept-cut number (p ∷ l) o = rw (kept-cut number l _)

pub length_cut : (l : List Piece) (o : List ℕ) → length (cut_by l o) ≡ length l
unfolding cut_by
length_cut [] o = refl
length_cut (p ∷ l) o = rw (length_cut l _)

pub size-cut : (l : List Piece) (o : List ℕ) → size_of_all l ≤ length o → length (joined_pieces (cut_by l o)) ≡ size_of_all l
size-cut l o h = sym (size-made (cut_by l o)) ∙ ap size_of_all (made-cut l o h)

-- ---- the cases
module _ (c : Collection) (f : Names) where
  abbrev same_rekey : Bool
  same_rekey = same c.spis f.spis && eqb c.id f.id

  pub case_same : true ≡ fit c → true ≡ same_rekey → case_within (pieces_of c) c.total f.number f.total ≡ case_of (counted c) f
  unfolding counted held_in case_of
  case_same e s = rw (← e, ← s, kept-cut f.number (pieces_of c) c.octets)

  pub case-other : true ≡ fit c → false ≡ same_rekey → Anew ≡ case_of (counted c) f
  unfolding counted held_in case_of
  case-other e s = rw (← e, ← s)

  pub case-unfit : 1 ≤ f.total → false ≡ fit c → Anew ≡ case_of (counted c) f
  unfolding counted case_of
  case-unfit g e =
      rw (← e)
      (bool_cases (same nothing.spis f.spis && eqb 0 f.id) (λ s. rw (s, lt-ltb 0 f.total g)) (λ s. rw s))

  -- what is kept beside others is put to a fit collection
  pub kept-fit : 1 ≤ f.total → Kept ≡ case_of (counted c) f → FitParts c.total c.count (pieces_of c) c.version
  kept-fit g e =
      bool_cases (fit c) (λ h. fit_is c h)
      (λ h. let a = case-unfit g (sym h) in let z : ◌≡◌ {A = ℕ} 0 1 = cc in absurd (omega arith))

-- ---- the frame with one piece more
pub payloads-with : (k : KeptPiece) (l : List KeptPiece) →
    length (joined_pieces (insert number_before k l)) ≡ length (joined_pieces l) + length k.octets
unfolding insert flat_map
payloads-with k [] = length-append k.octets [] ∙ omega arith
payloads-with k (x ∷ l) =
    let a = length-append x.octets (joined_pieces l) in
    let b = length-append x.octets (joined_pieces (insert number_before k l)) in
    let d = length-append k.octets (joined_pieces (x ∷ l)) in
    let r = payloads-with k l in
    bool_cases (number_before k x) (λ e. rw e (omega arith)) (λ e. rw e (omega arith))

module _ (w : Waiting) (f : Names) (piece : List ℕ) where
  pub frame-with : frame_size (gathered w f piece).kept ≡ frame_size (put_to (case_of w f) w).kept + length piece
  unfolding with_piece
  frame-with =
      let p = payloads-with (record { number = f.number; octets = piece }) (put_to (case_of w f) w).kept in omega arith

  pub told-by : (o n size : ℕ) (r : Placed) → (case_of w f ≡ PassedOver → ⊥) → o ≡ frame_size (put_to (case_of w f) w).kept →
      length (put_to (case_of w f) w).kept ≡ n → length piece ≡ size → r ≡ cond (ltb most_octets (o + size)) TooLong (Taken n) →
      PlaceSays w f piece r
  told-by o n size r other e m s q =
      let g = frame-with in
      bool_cases (ltb most_octets (o + size))
      (λ t.
      let b = ltb-true most_octets (o + size) t in
      let h : r ≡ TooLong = q ∙ rw t in
      subst (PlaceSays w f piece) (sym h) (record { other = other; long = omega arith }))
      (λ t.
      let b = ltb-false most_octets (o + size) t in
      let h : r ≡ Taken n = q ∙ rw t in
      subst (PlaceSays w f piece) (sym h) (record { other = other; small = omega arith; pieces = m }))

  pub told-anew : (size : ℕ) (r : Placed) → Anew ≡ case_of w f → length piece ≡ size →
      r ≡ cond (ltb most_octets (header_octets + size)) TooLong (Taken 0) → PlaceSays w f piece r
  unfolding flat_map
  told-anew size r e s q =
      told-by header_octets 0 size r (λ p. let z : ◌≡◌ {A = ℕ} 0 1 = cc in omega arith)
      (ap (λ (x : Case). frame_size (put_to x w).kept) e) (ap (λ (x : Case). length (put_to x w).kept) (sym e)) s q

-- ---- a collection that it is put to
module _ (c : Collection) (f : Names) (g : 1 ≤ f.total) (e : Kept ≡ case_of (counted c) f) where
  parts : FitParts c.total c.count (pieces_of c) c.version
  parts = kept-fit c f g e

  pub start-kept : (put_to (case_of (counted c) f) (counted c)).kept ≡ cut_by (pieces_of c) c.octets
  unfolding counted held_in
  start-kept =
      bool_cases (fit c) (λ h. ap (λ (x : Case). (put_to x (counted c)).kept) (sym e) ∙ rw h)
      (λ h. let a = case-unfit c f g (sym h) in let z : ◌≡◌ {A = ℕ} 0 1 = cc in absurd (omega arith))

  pub kept-few : c.count ≤ most_fragments
  kept-few = let a = parts.some-lacks in let b = parts.total-most in omega arith

  pub kept_small : (o : ℕ) → FrameCounted (pieces_of c) o → o ≤ most_octets
  kept_small o n = leb-true o most_octets (n.most ∙ le-leb (header_octets + size_of_all (pieces_of c)) most_octets parts.small)

  module _ (long : LongCollection c) where
    pub kept-count : length (put_to (case_of (counted c) f) (counted c)).kept ≡ c.count
    kept-count =
        let k = long.pieces-size in
        let few = kept-few in
        ap length start-kept ∙ length_cut (pieces_of c) c.octets ∙ length-take-le c.count c.pieces (omega arith)

    pub told-kept : (piece : List ℕ) (o size : ℕ) (r : Placed) → FrameCounted (pieces_of c) o → length piece ≡ size →
        r ≡ cond (ltb most_octets (o + size)) TooLong (Taken c.count) → PlaceSays (counted c) f piece r
    told-kept piece o size r n s q =
        let b = parts.small in
        let d = long.octets-size in
        let y = size-cut (pieces_of c) c.octets (omega arith) in
        let x = n.exact (kept_small o n) in
        let u = ap frame_size start-kept in
        told-by (counted c) f piece o c.count size r (λ p. let z : ◌≡◌ {A = ℕ} 0 1 = cc in omega arith) (omega arith) kept-count s q
