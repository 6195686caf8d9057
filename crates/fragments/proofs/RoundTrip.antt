-- What a collection holds and the collection that holds it give each other.
use Prim.Native.Nat.{ℕ, ◌-◌}
use mathlib.Core.Path.{◌≡◌, refl, ap, sym, ◌∙◌}
use mathlib.Core.Bool.{false, cond}
use mathlib.Core.List.{List, [], ◌∷◌, ◌++◌, map, flat_map, append_assoc}
use lib.ListN.{length, replicate, length-append, length-map}
use lib.Seq.{take-append_seam, drop-append_seam, take_at}
use Rattle.ikev2_numbers.specs.Codes.{most_octets}
use Rattle.lists.specs.Lists.{all, any, heads, rising}
use Rattle.lists.proofs.Cases.{bool_cases}
use Rattle.fragments.specs.declared.Piece.{Piece}
use Rattle.fragments.specs.Collection.{KeptPiece, Lead, Waiting, empty_lead, joined_pieces, piece_of, blank_piece, most_fragments}
use Rattle.fragments.specs.Collection.{collection_of}
use Rattle.fragments.specs.Collection.{pieces_of, size_of_all, cut_by, has_first, held_in, piece_before, numbered}
use Rattle.fragments.specs.Gathering.{is_kept, number_before}
use Rattle.fragments.specs.inner.FitWaiting.{kept_numbered}

-- ---- the pieces of a collection that was made
pub pieces-made : (w : Waiting) → pieces_of (collection_of w) ≡ map piece_of w.kept
unfolding collection_of
pieces-made w =
    take_at (map piece_of w.kept) (replicate (most_fragments - length w.kept) blank_piece) (length w.kept)
    (length-map w.kept piece_of)

-- each piece is cut out again
pub cut_again : (l : List KeptPiece) (rest : List ℕ) → cut_by (map piece_of l) (joined_pieces l ++ rest) ≡ l
unfolding cut_by flat_map
cut_again [] rest = refl
cut_again (k ∷ l) rest =
    rw (
      append_assoc k.octets (joined_pieces l) rest,
      take-append_seam k.octets (joined_pieces l ++ rest),
      drop-append_seam k.octets (joined_pieces l ++ rest),
      cut_again l rest,
    )

-- ---- what the tests look at
pub first_made : (l : List KeptPiece) → has_first (map piece_of l) ≡ is_kept 1 l
unfolding any
first_made [] = refl
first_made (k ∷ l) = rw (first_made l)

pub numbers-made : (total : ℕ) (l : List KeptPiece) → all (numbered total) (map piece_of l) ≡ all (kept_numbered total) l
unfolding all
numbers-made total [] = refl
numbers-made total (k ∷ l) = rw (numbers-made total l)

heads-made : (k : KeptPiece) (l : List KeptPiece) → heads piece_before (piece_of k) (map piece_of l) ≡ heads number_before k l
unfolding heads
heads-made k [] = refl
heads-made k (x ∷ l) = refl

pub rising-made : (l : List KeptPiece) → rising piece_before (map piece_of l) ≡ rising number_before l
unfolding rising
rising-made [] = refl
rising-made (k ∷ l) = rw (heads-made k l, rising-made l)

pub size-made : (l : List KeptPiece) → size_of_all (map piece_of l) ≡ length (joined_pieces l)
unfolding size_of_all flat_map
size-made [] = refl
size-made (k ∷ l) = rw (size-made l, length-append k.octets (joined_pieces l))

-- the lead, which is nothing where fragment 1 is missing
lead-made : (l : List KeptPiece) (x : Lead) → (is_kept 1 l ≡ false → x ≡ empty_lead) → cond (has_first (map piece_of l)) x empty_lead ≡ x
lead-made l x h = bool_cases (is_kept 1 l) (λ e. rw (first_made l, e)) (λ e. rw (first_made l, e) (sym (h e)))

-- ---- THE ROUND TRIP: what a collection was made of is held in it
pub held-made : (w : Waiting) → (is_kept 1 w.kept ≡ false → w.lead ≡ empty_lead) → held_in (collection_of w) ≡ w
unfolding held_in collection_of
held-made w h =
    let p = pieces-made w in
    let k = cut_again w.kept (replicate (most_octets - length (joined_pieces w.kept)) 0) in
    let o = joined_pieces w.kept ++ replicate (most_octets - length (joined_pieces w.kept)) 0 in
    let a = ap (λ (q : List Piece). cut_by q o) p ∙ k in
    let b = ap (λ (q : List Piece). cond (has_first q) w.lead empty_lead) p ∙ lead-made w.kept w.lead h in
    λ i. record { spis = w.spis; id = w.id; total = w.total; kept = a i; lead = b i }
