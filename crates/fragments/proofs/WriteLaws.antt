-- The whole frame written: the header, and the pieces' octets behind it.
use native.Mathlib.Omega.{arith}
use Prim.Native.Nat.{ℕ, ◌+◌, ◌-◌, ◌≤◌}
use mathlib.Core.Path.{◌≡◌, ap, sym, subst, ◌∙◌}
use mathlib.Core.List.{List, [], ◌∷◌, ◌++◌, append_assoc}
use lib.ListN.{length, take, drop, replicate, length-append}
use lib.Seq.{take_at}
use borrow.Author.Tests.{leb-true, le-leb}
use Rattle.octets.specs.Numbers.{octets_of}
use Rattle.ikev2_numbers.specs.Codes.{gsa_rekey, header_octets, most_octets, rekey_spi_octets}
use Rattle.fragments.specs.declared.Collection.{Collection}
use Rattle.fragments.specs.Collection.{Waiting, most_fragments, joined_pieces, frame_size, collection_of, pieces_of, size_of_all}
use Rattle.fragments.specs.Gathering.{whole}
use Rattle.fragments.specs.inner.Counting.{FrameCounted}
use Rattle.fragments.specs.inner.Writing.{Holding, WholeWritten}
use Rattle.fragments.proofs.RoundTrip.{pieces-made, size-made}

-- the header of a collection whose frame has o octets
abbrev pub header_for : Collection → ℕ → List ℕ
header_for c o = c.spis ++ ((c.next ∷ c.version ∷ gsa_rekey ∷ c.flags ∷ []) ++ (octets_of 4 c.id ++ octets_of 4 o))

pub header-size : (c : Collection) (o : ℕ) → length c.spis ≡ rekey_spi_octets → length (header_for c o) ≡ header_octets
unfolding octets_of
header-size c o l = length-append c.spis _ ∙ omega arith

-- ---- what a collection that fits promises of its fields
module _ (c : Collection) (w : Waiting) (h : Holding c w) where
  size-held : size_of_all (pieces_of c) ≡ length (joined_pieces w.kept)
  size-held = ap (λ (x : Collection). size_of_all (pieces_of x)) h.is ∙ ap size_of_all (pieces-made w) ∙ size-made w.kept

  pub few-held : c.count ≤ most_fragments
  unfolding collection_of
  few-held = let e = ap (λ (x : Collection). x.count) h.is in let f = h.few in omega arith

  pub size-counted : (o : ℕ) → FrameCounted (pieces_of c) o → o ≡ header_octets + size_of_all (pieces_of c)
  size-counted o n =
      let s = h.small in
      let e = size-held in
      n.exact (leb-true o most_octets (n.most ∙ le-leb (header_octets + size_of_all (pieces_of c)) most_octets (omega arith)))

  pub small-counted : (o : ℕ) → FrameCounted (pieces_of c) o → o ≤ most_octets
  small-counted o n = let s = h.small in let e = size-held in let f = size-counted o n in omega arith

-- ---- the frame
module _ (o : ℕ) (head room after : List ℕ) (w : Waiting) where
  -- what the code knows of a collection and of what it wrote
  record Parts (c : Collection) : Type 0 where
    pub spis-size : length c.spis ≡ rekey_spi_octets
    pub size_is : o ≡ header_octets + size_of_all (pieces_of c)
    pub head-is : head ≡ header_for c o
    pub after_is : after ≡ head ++ (take (o - header_octets) c.octets ++ drop o room)

  module _ (p : Parts (collection_of w)) where
    size-made-is : o ≡ frame_size w.kept
    size-made-is = let e = ap size_of_all (pieces-made w) ∙ size-made w.kept in let f = p.size_is in omega arith

    body_is : take (o - header_octets) (collection_of w).octets ≡ joined_pieces w.kept
    unfolding collection_of
    body_is =
        let e = size-made-is in
        take_at (joined_pieces w.kept) (replicate (most_octets - length (joined_pieces w.kept)) 0) (o - header_octets) (omega arith)

    whole_is : head ++ joined_pieces w.kept ≡ whole w
    unfolding collection_of whole
    whole_is =
        ap (λ (x : List ℕ). x ++ joined_pieces w.kept) (p.head-is ∙ ap (header_for (collection_of w)) size-made-is) ∙ simp append_assoc

    whole-size : o ≡ length (whole w)
    whole-size =
        let a = length-append head (joined_pieces w.kept) in
        let b = ap length p.head-is ∙ header-size (collection_of w) o p.spis-size in
        let d = ap length whole_is in
        let e = size-made-is in
        omega arith

    made-written : WholeWritten w room o after
    made-written =
        record {
          room-is =
              p.after_is ∙ ap (λ (x : List ℕ). head ++ (x ++ drop o room)) body_is
              ∙ sym (append_assoc head (joined_pieces w.kept) (drop o room)) ∙ ap (λ (x : List ℕ). x ++ drop o room) whole_is
              ∙ ap (λ (n : ℕ). whole w ++ drop n room) whole-size;
          count-is = whole-size;
        }

  pub written : (c : Collection) → c ≡ collection_of w → length c.spis ≡ rekey_spi_octets → o ≡ header_octets + size_of_all (pieces_of c) →
      head ≡ header_for c o → after ≡ head ++ (take (o - header_octets) c.octets ++ drop o room) → WholeWritten w room o after
  written c e l s h a = made-written (subst Parts e (record { spis-size = l; size_is = s; head-is = h; after_is = a }))
