-- A piece put to the pieces of a collection: what `gather` makes is the collection of what then waits.
use native.Mathlib.Omega.{arith}
use Prim.Native.Nat.{ℕ, zero, suc, ◌+◌, ◌-◌, ◌≤◌, ◌<◌}
use mathlib.Core.Path.{◌≡◌, refl, ap, ap₂, sym, subst, ◌∙◌}
use mathlib.Core.List.{List, [], ◌∷◌, ◌++◌, map, flat_map, append_assoc}
use lib.ListN.{length, take, drop, replicate, length-map, length-take}
use lib.Seq.{length-take-le, take-add, drop-drop}
use borrow.Author.Tests.{leb-true, le-leb}
use Rattle.ikev2_numbers.specs.Codes.{header_octets, most_octets}
use Rattle.lists.specs.Lists.{any, insert}
use Rattle.lists.proofs.Cases.{bool_cases}
use Rattle.lists.proofs.Parts.{drop-replicate}
use Rattle.lists.proofs.Rising.{length-insert}
use Rattle.fragments.specs.declared.Case.{Case}
use Rattle.fragments.specs.declared.Case.TheVariants.{Anew, PassedOver, Kept}
use Rattle.fragments.specs.declared.Collection.{Collection}
use Rattle.fragments.specs.declared.Names.{Names}
use Rattle.fragments.specs.declared.Piece.{Piece}
use Rattle.fragments.specs.Collection.{KeptPiece, Lead, Waiting, most_fragments, joined_pieces, frame_size, blank_piece, piece_of}
use Rattle.fragments.specs.Collection.{collection_of, size_of_all, cut_by, held_in, piece_before, fit, counted}
use Rattle.fragments.specs.Gathering.{case_of, put_to, number_before, lead_with, with_piece, gathered}
use Rattle.fragments.specs.inner.Counting.{FrameCounted, ahead_of}
use Rattle.fragments.specs.inner.FitWaiting.{LongCollection}
use Rattle.fragments.specs.inner.Joining.{joined_octets, led_by, lead_in}
use Rattle.fragments.specs.inner.Places.{Taking}
use Rattle.fragments.proofs.FitLaws.{made-cut}
use Rattle.fragments.proofs.PlaceLaws.{kept-fit, start-kept, kept-count, length_cut, size-cut, payloads-with, frame-with, case-unfit}

-- ---- pieces and octets with one piece more
map-insert : (k : KeptPiece) (l : List KeptPiece) →
    map piece_of (insert number_before k l) ≡ insert piece_before (piece_of k) (map piece_of l)
unfolding insert
map-insert k [] = refl
map-insert k (x ∷ l) = bool_cases (number_before k x) (λ e. rw e) (λ e. rw (e, map-insert k l))

payloads-cut : (l : List Piece) (o : List ℕ) → joined_pieces (cut_by l o) ≡ take (size_of_all l) o
unfolding cut_by size_of_all flat_map
payloads-cut [] o = refl
payloads-cut (p ∷ l) o = rw (payloads-cut l (drop p.size o), take-add p.size (size_of_all l) o)

-- the octets of the pieces ahead
abbrev size_ahead : ℕ → List Piece → ℕ
size_ahead number l = size_of_all (take (ahead_of number l) l)

payloads-insert : (k : KeptPiece) (l : List Piece) (o : List ℕ) → joined_pieces (insert number_before k (cut_by l o))
    ≡ take (size_ahead k.number l) o ++ (k.octets ++ take (size_of_all l - size_ahead k.number l) (drop (size_ahead k.number l) o))
unfolding insert cut_by size_of_all ahead_of flat_map
payloads-insert k [] o = refl
payloads-insert k (p ∷ l) o =
    let r = payloads-insert k l (drop p.size o) in
    let a = size_ahead k.number l in
    bool_cases (number_before k (record { number = p.number; octets = [] }))
    (λ e.
    rw e
    (let z : p.size + size_of_all l - 0 ≡ p.size + size_of_all l = omega arith in
    rw (z, payloads-cut l (drop p.size o), take-add p.size (size_of_all l) o)))
    (λ e.
    rw e
    (let z : p.size + size_of_all l - (p.size + a) ≡ size_of_all l - a = omega arith in
    rw (z, r, take-add p.size a o, ← drop-drop a p.size o)
    (sym (append_assoc (take p.size o) (take a (drop p.size o)) _))))

-- ---- sizes
size-take : (n : ℕ) (l : List Piece) → size_of_all (take n l) ≤ size_of_all l
unfolding size_of_all
size-take zero l = omega arith
size-take (suc n) [] = omega arith
size-take (suc n) (p ∷ l) = let h = size-take n l in omega arith

counted_is : (l : List Piece) (o : ℕ) → FrameCounted l o → header_octets + size_of_all l ≤ most_octets → o ≡ header_octets + size_of_all l
counted_is l o h s = h.exact (leb-true o most_octets (h.most ∙ le-leb (header_octets + size_of_all l) most_octets s))

-- ---- what the piece is put to
-- the n pieces of the collection, or none where it starts anew
record Started (c : Collection) (f : Names) (n : ℕ) : Type 0 where
  pub few : n < most_fragments
  pub pieces : (put_to (case_of (counted c) f) (counted c)).kept ≡ cut_by (take n c.pieces) c.octets
  pub lead : (put_to (case_of (counted c) f) (counted c)).lead ≡ lead_in c n

by-case : {P : Type 0} (x : Case) → (x ≡ Anew → P) → (x ≡ PassedOver → P) → (x ≡ Kept → P) → P
by-case Anew a p k = a refl
by-case PassedOver a p k = p refl
by-case Kept a p k = k refl

module _ (c : Collection) (f : Names) (long : LongCollection c) (g : 1 ≤ f.total) where
  started-anew : case_of (counted c) f ≡ Anew → Started c f 0
  unfolding cut_by any
  started-anew e =
      record {
        few = omega arith;
        pieces = ap (λ (x : Case). (put_to x (counted c)).kept) e;
        lead = ap (λ (x : Case). (put_to x (counted c)).lead) e;
      }

  started-kept : case_of (counted c) f ≡ Kept → Started c f c.count
  unfolding counted held_in
  started-kept e =
      let p = kept-fit c f g (sym e) in
      let a = p.some-lacks in
      let b = p.total-most in
      record {
        few = omega arith;
        pieces = start-kept c f g (sym e);
        lead =
            bool_cases (fit c) (λ h. ap (λ (x : Case). (put_to x (counted c)).lead) e ∙ rw h)
            (λ h. let a = case-unfit c f g (sym h) in let z : ◌≡◌ {A = ℕ} 0 1 = cc in absurd (omega arith));
      }

  module _ (piece : List ℕ) (n : ℕ) (t : Taking (counted c) f piece n) where
    started : Started c f n
    started =
        by-case (case_of (counted c) f)
        (λ e. subst (Started c f) (ap (λ (x : Case). length (put_to x (counted c)).kept) (sym e) ∙ t.pieces) (started-anew e))
        (λ e. absurd (t.other e))
        (λ e. subst (Started c f) (sym (kept-count c f g (sym e) long) ∙ t.pieces) (started-kept e))

    abbrev taken : List Piece
    taken = take n c.pieces

    abbrev ahead : List Piece
    ahead = take (ahead_of f.number taken) taken

    pub few : n < most_fragments
    few = started.few

    pub count-is : length taken ≡ n
    count-is = let a = few in let b = long.pieces-size in length-take-le n c.pieces (omega arith)

    -- the pieces' octets and the new ones are within the frame
    pub small : header_octets + size_of_all taken + length piece ≤ most_octets
    small =
        let a = t.small in
        let b = frame-with (counted c) f piece in
        let d = ap frame_size started.pieces in
        let e = ap length (payloads-cut taken c.octets) ∙ length-take (size_of_all taken) c.octets in
        let h = long.octets-size in
        omega arith

    octets-there : size_of_all taken ≤ length c.octets
    octets-there = let a = small in let h = long.octets-size in omega arith

    pub ahead_small : size_of_all ahead ≤ size_of_all taken
    ahead_small = size-take (ahead_of f.number taken) taken

    pub size_is : (o : ℕ) → FrameCounted taken o → o ≡ header_octets + size_of_all taken
    size_is o h = let a = small in counted_is taken o h (omega arith)

    pub before-is : (a : ℕ) → a ≡ ahead_of f.number taken → (o : ℕ) → FrameCounted (take a taken) o →
        o ≡ header_octets + size_of_all ahead
    before-is a e o h =
        let x : take a taken ≡ ahead = ap (λ (k : ℕ). take k taken) e in
        let b = small in
        let d = ahead_small in
        counted_is ahead o (subst (λ (l : List Piece). FrameCounted l o) x h) (omega arith)

    pub joins : (a : ℕ) → a ≡ ahead_of f.number taken → (o : ℕ) → FrameCounted (take a taken) o → (m : ℕ) →
        FrameCounted taken m → (blank : List ℕ) → length blank ≡ most_octets →
        ((o - header_octets ≤ m - header_octets) × (m - header_octets ≤ length c.octets)) ×
        (m - header_octets + length piece ≤ length blank)
    joins a e o h m k blank lb =
        let x = before-is a e o h in
        let y = size_is m k in
        let z = ahead_small in
        let w = small in
        let v = octets-there in
        ((omega arith, omega arith), omega arith)

    -- ---- the collection
    abbrev new : KeptPiece
    new = record { number = f.number; octets = piece }

    abbrev cut : List KeptPiece
    cut = cut_by taken c.octets

    abbrev list : List KeptPiece
    list = insert number_before new cut

    pieces_are : map piece_of list ≡ insert piece_before (piece_of new) taken
    pieces_are = map-insert new cut ∙ ap (insert piece_before (piece_of new)) (made-cut taken c.octets octets-there)

    list_count : length list ≡ n + 1
    list_count = length-insert number_before new cut ∙ ap (λ (k : ℕ). k + 1) (length_cut taken c.octets ∙ count-is)

    list-size : length (joined_pieces list) ≡ size_of_all taken + length piece
    list-size = payloads-with new cut ∙ ap (λ (k : ℕ). k + length piece) (size-cut taken c.octets octets-there)

    -- what waits
    abbrev made : Waiting
    made = record { spis = f.spis; id = f.id; total = f.total; kept = list; lead = lead_with (lead_in c n) f }

    gathered-is : gathered (counted c) f piece ≡ made
    unfolding with_piece
    gathered-is =
        ap₂ (λ (l : List KeptPiece) (x : Lead).
        record { spis = f.spis; id = f.id; total = f.total; kept = insert number_before new l; lead = lead_with x f })
        started.pieces started.lead

    pieces-in : (l : List Piece) →
        l ≡ insert piece_before (piece_of new) taken
        ++ replicate (most_fragments - length (insert piece_before (piece_of new) taken)) blank_piece →
        l ≡ map piece_of list ++ replicate (most_fragments - length list) blank_piece
    pieces-in l e =
        e
        ∙ ap (λ (x : List Piece). x ++ replicate (most_fragments - length x) blank_piece) (sym pieces_are)
        ∙ ap (λ (k : ℕ). map piece_of list ++ replicate (most_fragments - k) blank_piece) (length-map list piece_of)

    octets-in : (blank o : List ℕ) → blank ≡ replicate most_octets 0 →
        o ≡ joined_octets c.octets (size_of_all taken) (size_of_all ahead) piece blank →
        o ≡ joined_pieces list ++ replicate (most_octets - length (joined_pieces list)) 0
    octets-in blank o eb e =
        e
        ∙ ap (λ (x : List ℕ). take (size_of_all ahead) c.octets ++ (piece ++ (take (size_of_all taken - size_of_all ahead)
        (drop (size_of_all ahead) c.octets) ++ x)))
        (ap (drop (size_of_all taken + length piece)) eb ∙ drop-replicate {A = ℕ} (size_of_all taken + length piece) most_octets 0)
        ∙ regroup
        ∙ ap₂ (λ (x : List ℕ) (k : ℕ). x ++ replicate (most_octets - k) 0) (sym (payloads-insert new taken c.octets)) (sym list-size)
      where
        regroup : take (size_of_all ahead) c.octets ++ (piece ++ (take (size_of_all taken - size_of_all ahead)
            (drop (size_of_all ahead) c.octets) ++ replicate (most_octets - (size_of_all taken + length piece)) 0))
            ≡ (take (size_of_all ahead) c.octets ++ (piece ++ take (size_of_all taken - size_of_all ahead)
            (drop (size_of_all ahead) c.octets))) ++ replicate (most_octets - (size_of_all taken + length piece)) 0
        regroup = simp append_assoc

    pub gathers : (named : Names) → named ≡ led_by (lead_with (lead_in c n) f) f →
        (l : List Piece) → l ≡ insert piece_before (piece_of new) taken
        ++ replicate (most_fragments - length (insert piece_before (piece_of new) taken)) blank_piece →
        (blank o : List ℕ) → blank ≡ replicate most_octets 0 → (size before : ℕ) → size ≡ size_of_all taken → before ≡ size_of_all ahead →
        o ≡ joined_octets c.octets size before piece blank →
        record {
          spis = f.spis;
          id = f.id;
          total = f.total;
          count = n + 1;
          pieces = l;
          version = named.version;
          flags = named.flags;
          next = named.next;
          octets = o;
        }
        ≡ collection_of (gathered (counted c) f piece)
    unfolding collection_of
    gathers named en l el blank o eb size before es eb2 eo =
        let x = pieces-in l el in
        let y = octets-in blank o eb (eo ∙ ap₂ (λ (m k : ℕ). joined_octets c.octets m k piece blank) es eb2) in
        let z = sym list_count in
        (λ i.
        record {
          spis = f.spis;
          id = f.id;
          total = f.total;
          count = z i;
          pieces = x i;
          version = (en i).version;
          flags = (en i).flags;
          next = (en i).next;
          octets = y i;
        })
        ∙ ap collection_of (sym gathered-is)
