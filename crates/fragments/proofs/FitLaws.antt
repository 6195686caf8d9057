-- A collection is fit exactly when what it holds is within its limits, and what it then counts as.
use native.Mathlib.Omega.{arith}
use Prim.Native.Nat.{ℕ, ◌+◌, ◌/◌, ◌<◌, ◌≤◌}
use mathlib.Core.Path.{◌≡◌, refl, ap, sym, ◌∙◌}
use mathlib.Core.Bool.{Bool, true, not, ◌&&◌, ◌||◌}
use mathlib.Core.Logic.{◌⊎◌, inl, inr}
use mathlib.Core.List.{List, [], ◌∷◌, map}
use lib.Dec.{leb, ltb, eqb}
use lib.ListN.{length, take, drop, length-map, length-take, length-drop}
use borrow.Author.Tests.{ltb-true, leb-true, eqb-true, lt-ltb, le-leb, eq-eqb}
use Rattle.ikev2_numbers.specs.Codes.{header_octets, major_version, minor_versions, most_octets}
use Rattle.lists.specs.Lists.{all, rising}
use Rattle.lists.proofs.Cases.{bool_cases, and_parts}
use Rattle.fragments.specs.declared.Piece.{Piece}
use Rattle.fragments.specs.declared.Collection.{Collection}
use Rattle.fragments.specs.Collection.{Waiting, nothing, piece_of, most_fragments, collection_of}
use Rattle.fragments.specs.Collection.{pieces_of, size_of_all, cut_by, has_first, held_in, piece_before, numbered, fit, counted}
use Rattle.fragments.specs.inner.FitWaiting.{WithinLimits, FitWaiting, LongCollection}
use Rattle.fragments.proofs.RoundTrip.{pieces-made, first_made, numbers-made, rising-made, size-made, held-made}

-- ---- the tests of `fit`, each by its name
module _ (total count : ℕ) (l : List Piece) (version : ℕ) where
  abbrev fit_of : Bool
  fit_of =
      leb 2 total && (leb total most_fragments && (leb 1 count && (ltb count total && (all (numbered total) l && (rising piece_before l
      && (leb (header_octets + size_of_all l) most_octets && (not (has_first l) || eqb (version / minor_versions) major_version)))))))

  pub record FitParts : Type 0 where
    pub total-least : 2 ≤ total
    pub total-most : total ≤ most_fragments
    pub some-kept : 1 ≤ count
    pub some-lacks : count < total
    pub numbers : all (numbered total) l ≡ true
    pub rises : rising piece_before l ≡ true
    pub small : header_octets + size_of_all l ≤ most_octets
    pub first : has_first l ≡ true → version / minor_versions ≡ major_version

  or_parts : (not (has_first l) || eqb (version / minor_versions) major_version) ≡ true → has_first l ≡ true →
      version / minor_versions ≡ major_version
  or_parts e h = eqb-true (version / minor_versions) major_version (rw h at e)

  or-whole : (has_first l ≡ true → version / minor_versions ≡ major_version) →
      (not (has_first l) || eqb (version / minor_versions) major_version) ≡ true
  or-whole h = bool_cases (has_first l) (λ e. rw (e, eq-eqb (version / minor_versions) major_version (h e))) (λ e. rw e)

  fit_parts : fit_of ≡ true → FitParts
  fit_parts e0 =
      let p1 = and_parts (leb 2 total) _ e0 in
      let p2 = and_parts (leb total most_fragments) _ p1.1 in
      let p3 = and_parts (leb 1 count) _ p2.1 in
      let p4 = and_parts (ltb count total) _ p3.1 in
      let p5 = and_parts (all (numbered total) l) _ p4.1 in
      let p6 = and_parts (rising piece_before l) _ p5.1 in
      let p7 = and_parts (leb (header_octets + size_of_all l) most_octets) _ p6.1 in
      record {
        total-least = leb-true 2 total p1.0;
        total-most = leb-true total most_fragments p2.0;
        some-kept = leb-true 1 count p3.0;
        some-lacks = ltb-true count total p4.0;
        numbers = p5.0;
        rises = p6.0;
        small = leb-true (header_octets + size_of_all l) most_octets p7.0;
        first = or_parts p7.1;
      }

  fit-whole : FitParts → fit_of ≡ true
  fit-whole p =
      rw (
        le-leb 2 total p.total-least,
        le-leb total most_fragments p.total-most,
        le-leb 1 count p.some-kept,
        lt-ltb count total p.some-lacks,
        p.numbers,
        p.rises,
        le-leb (header_octets + size_of_all l) most_octets p.small,
      )
      (or-whole p.first)

pub fit_is : (c : Collection) → fit c ≡ true → FitParts c.total c.count (pieces_of c) c.version
unfolding fit
fit_is c e = fit_parts c.total c.count (pieces_of c) c.version e

pub is-fit : (c : Collection) → FitParts c.total c.count (pieces_of c) c.version → fit c ≡ true
unfolding fit
is-fit c p = fit-whole c.total c.count (pieces_of c) c.version p

-- ---- of a collection that was made
parts-limits : (w : Waiting) → FitParts w.total (length w.kept) (map piece_of w.kept) w.lead.version → WithinLimits w
parts-limits w p =
    record {
      total-least = p.total-least;
      total-most = p.total-most;
      some-kept = p.some-kept;
      some-lacks = p.some-lacks;
      numbers = sym (numbers-made w.total w.kept) ∙ p.numbers;
      rises = sym (rising-made w.kept) ∙ p.rises;
      small = rw (size-made w.kept) at p.small;
      version = λ e. p.first (first_made w.kept ∙ e);
    }

limits-parts : (w : Waiting) → WithinLimits w → FitParts w.total (length w.kept) (map piece_of w.kept) w.lead.version
limits-parts w p =
    record {
      total-least = p.total-least;
      total-most = p.total-most;
      some-kept = p.some-kept;
      some-lacks = p.some-lacks;
      numbers = numbers-made w.total w.kept ∙ p.numbers;
      rises = rising-made w.kept ∙ p.rises;
      small = rw (size-made w.kept) p.small;
      first = λ e. p.version (sym (first_made w.kept) ∙ e);
    }

pub made-fit : (w : Waiting) → WithinLimits w → fit (collection_of w) ≡ true
unfolding collection_of
made-fit w p = is-fit (collection_of w) (rw (pieces-made w) (limits-parts w p))

pub fit-made : (w : Waiting) → fit (collection_of w) ≡ true → WithinLimits w
unfolding collection_of
fit-made w e = parts-limits w (rw (pieces-made w) at (fit_is (collection_of w) e))

-- WHAT WAITS COMES BACK: a collection that was made counts as what it was made of
pub counted-made : (w : Waiting) → FitWaiting w → counted (collection_of w) ≡ w
unfolding counted
counted-made w p = rw (made-fit w p.limits) (held-made w p.no_lead)

-- ---- of any collection
-- the pieces' octets are all there, so each piece has its size
pub made-cut : (l : List Piece) (o : List ℕ) → size_of_all l ≤ length o → map piece_of (cut_by l o) ≡ l
unfolding size_of_all cut_by
made-cut [] o h = refl
made-cut (p ∷ l) o h =
    let n : length (take p.size o) ≡ p.size = length-take p.size o ∙ omega arith in
    let r : size_of_all l ≤ length (drop p.size o) = rw (length-drop p.size o) (omega arith) in
    rw (n, made-cut l (drop p.size o) r)

module _ (c : Collection) (long : LongCollection c) (e : fit c ≡ true) where
  parts : FitParts c.total c.count (pieces_of c) c.version
  parts = fit_is c e

  cut-is : map piece_of (cut_by (pieces_of c) c.octets) ≡ pieces_of c
  cut-is =
      let s = parts.small in
      let o = long.octets-size in
      let h : size_of_all (pieces_of c) ≤ length c.octets = omega arith in
      made-cut (pieces_of c) c.octets h

  cut-count : length (cut_by (pieces_of c) c.octets) ≡ c.count
  cut-count =
      let m = parts.total-most in
      let n = parts.some-lacks in
      let p = long.pieces-size in
      sym (length-map (cut_by (pieces_of c) c.octets) piece_of) ∙ ap length cut-is ∙ length-take c.count c.pieces ∙ omega arith

  cut_parts : FitParts c.total (length (cut_by (pieces_of c) c.octets)) (map piece_of (cut_by (pieces_of c) c.octets)) c.version
  cut_parts = rw (cut-count, cut-is) parts

  pub held-fit : FitWaiting (held_in c)
  unfolding held_in
  held-fit =
      let w = held_in c in
      let f = sym (first_made w.kept) ∙ ap has_first cut-is in
      record {
        limits = parts-limits w
            record {
              total-least = cut_parts.total-least;
              total-most = cut_parts.total-most;
              some-kept = cut_parts.some-kept;
              some-lacks = cut_parts.some-lacks;
              numbers = cut_parts.numbers;
              rises = cut_parts.rises;
              small = cut_parts.small;
              first = λ g. let h : has_first (pieces_of c) ≡ true = rw cut-is at g in rw h (parts.first h);
            };
        no_lead = λ g. rw (sym f ∙ g);
        spis-size = long.spis-size;
      }

-- what a collection of the code counts as: nothing, or what is within the limits
pub counted-fit : (c : Collection) → LongCollection c → (counted c ≡ nothing) ⊎ FitWaiting (counted c)
unfolding counted
counted-fit c long = bool_cases (fit c) (λ e. rw e (inr (held-fit c long e))) (λ e. rw e (inl refl))
