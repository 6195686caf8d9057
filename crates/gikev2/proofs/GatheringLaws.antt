-- How far a fragment has come in the code, stage by stage: from what a stage finds to the fragment's outcome, or to the next stage.
use Prim.Native.Nat.{ℕ, ◌<◌, ◌≤◌}
use native.Mathlib.Omega.{arith}
use mathlib.Core.Path.{◌≡◌, sym, ap, ap₂, ◌∙◌, subst}
use mathlib.Core.Bool.{Bool, true, false}
use mathlib.Core.List.{List}
use borrow.Author.Tests.{eqb-true}
use lib.ListN.{length}
use Rattle.octets.specs.Octets.{Octets}
use Rattle.ikev2_numbers.specs.Codes.{most_octets}
use Rattle.state_keys.specs.Limits.{limits}
use Rattle.state_keys.specs.declared.kinds.EncryptionKey.{EncryptionKey}
use Rattle.wire_frames.specs.Header.{header_of}
use Rattle.rules_refusals.specs.Refusals.{applies, number3}
use Rattle.rfc5282.specs.OuterFragment.{total_in}
use Rattle.rfc5282.specs.Number10.{UnopenedFragment, OpensFragmentInto}
use Rattle.rfc5282.proofs.FragmentLaws.{fragment-is}
use Rattle.std.specs.Prelude.{Option, None, Some}
use Rattle.sealing.specs.Pieces.{PieceJudged}
use Rattle.fragments.specs.declared.Case.TheVariants.{PassedOver}
use Rattle.fragments.specs.declared.Names.{Names}
use Rattle.fragments.specs.declared.Placed.{Placed}
use Rattle.fragments.specs.declared.Placed.TheVariants.{Passed, TooLong, Taken}
use Rattle.fragments.specs.declared.Collection.{Collection}
use Rattle.fragments.specs.Collection.{Waiting, most_fragments, frame_size, collection_of, counted}
use Rattle.fragments.specs.Gathering.{case_of, gathered, with_piece, is_complete}
use Rattle.fragments.specs.inner.Places.{PlaceSays}
use Rattle.rules_sealed.specs.SealingKey.{sealing_part, encryption_octets_of}
use Rattle.rules_sealed.proofs.SealedHeader.{is-rekey}
use Rattle.rules_fragments.specs.FragmentOutcome.{names_in}
use Rattle.gikev2.specs.declared.Member.{Member}
use Rattle.gikev2.specs.declared.call.Answer.TheVariants as answer
use Rattle.gikev2.specs.declared.fragment.FragmentAnswer.TheVariants as said
use Rattle.gikev2.specs.declared.fragment.Gathered.{Gathered}
use Rattle.gikev2.specs.inner.Sealing.{IsSealingKey}
use Rattle.gikev2.specs.inner.Gathering.{refused_by, PassedOutside, PassedOpening, ToGather, ToComplete, ReceivedWhole}
use Rattle.gikev2.proofs.SealedLaws.{not_so, key-part}
use Rattle.gikev2.proofs.FragmentLaws.{Given, opens-piece, unopened, replayed, too_many, passed, too_long, kept, received-whole}

module _ {m : Member} {c : Collection} {now : ℕ} {octets room : List ℕ} where
  -- what the code gives back
  pub given-as : {g h : Gathered} {after : List ℕ} → g ≡ h → Given m c now octets room h after → Given m c now octets room g after
  given-as {after = after} e x = subst (λ (y : Gathered). Given m c now octets room y after) (sym e) x

-- a fragment has the octets of its fields
pub long-enough : {m : Member} {now : ℕ} {octets : List ℕ} → PassedOutside m now octets → 36 ≤ length octets
long-enough {octets = octets} u = (fragment-is octets u.fragment).body

-- ---- number 10
module _ {m : Member} (c : Collection) {now : ℕ} {octets room : List ℕ} (o : Octets octets) (u : PassedOutside m now octets)
    {key : EncryptionKey} (i : IsSealingKey m.state.table key) (r : Option ℕ)
    (j : PieceJudged (encryption_octets_of key) octets room r) where
  pub not_opened : r ≡ None → Given m c now octets room (refused_by answer.Unopened m c) room
  not_opened e =
      let x : UnopenedFragment (encryption_octets_of key) octets room =
      subst (λ (y : Option ℕ). PieceJudged (encryption_octets_of key) octets room y) e j in
      unopened m c now octets room o u (subst (λ (y : List ℕ). UnopenedFragment y octets room) (key-part m key i) x)

  pub opened : (p : ℕ) → r ≡ Some p → PassedOpening m now key octets room p
  opened p e =
      record {
        outside = u;
        key-is = i;
        piece = subst (λ (y : Option ℕ). PieceJudged (encryption_octets_of key) octets room y) e j;
      }

-- ---- numbers 3 and 7, passed over
module _ {m : Member} (c : Collection) {now : ℕ} {octets room : List ℕ} {key : EncryptionKey} {p : ℕ} (o : Octets octets)
    (u : PassedOpening m now key octets room p) {f : Names} (ef : f ≡ names_in octets) where
  opens : OpensFragmentInto (sealing_part limits m.state) octets room u.piece.of.piece
  opens = opens-piece m key octets room p u.key-is u.piece

  number-3-is : {r : Bool} → r ≡ applies (number3 m.state 41 f.id) →
      r ≡ applies (number3 m.state (header_of octets).exchange (header_of octets).message_id)
  number-3-is e =
      e ∙ ap₂ (λ (x y : ℕ). applies (number3 m.state x y))
      (sym (is-rekey limits m.state now octets (not_so u.outside.not-2))) (ap (λ (x : Names). x.id) ef)

  module _ {r : Bool} (e : r ≡ applies (number3 m.state 41 f.id)) where
    pub is-replayed : r ≡ true → Given m c now octets room (refused_by answer.Replayed m c) room
    is-replayed t = replayed m c now octets room o u.outside u.piece.of.piece opens (sym (number-3-is e) ∙ t)

    module _ (t : r ≡ false) where
      not-3 : applies (number3 m.state (header_of octets).exchange (header_of octets).message_id) ≡ false
      not-3 = sym (number-3-is e) ∙ t

      pub is-too-many : 32 < f.total → Given m c now octets room (refused_by answer.OverLimit m c) room
      is-too-many l =
          too_many m c now octets room o u.outside u.piece.of.piece opens not-3
          (subst (λ (x : Names). 32 < x.total) ef l)

      pub counts-one : 1 ≤ f.total
      counts-one =
          let g = fragment-is octets u.outside.fragment in
          let n : 1 ≤ total_in octets = omega (arith, g.counted, g.in-total) in
          subst (λ (x : Names). 1 ≤ x.total) (sym ef) n

      module _ (l : f.total ≤ 32) (place : Placed) (told : PlaceSays (counted c) f u.piece.of.piece place) where
        few : total_in octets ≤ most_fragments
        few = subst (λ (x : Names). x.total ≤ 32) ef l

        told-as : (x : Placed) → place ≡ x → PlaceSays (counted c) f u.piece.of.piece x
        told-as x q = subst (λ (y : Placed). PlaceSays (counted c) f u.piece.of.piece y) q told

        pub is-passed : place ≡ Passed →
            Given m c now octets room (record { answer = said.PassedOver; member = m; collection = c }) room
        is-passed q =
            passed m c now octets room o u.outside u.piece.of.piece opens not-3 few
            (subst (λ (x : Names). case_of (counted c) x ≡ PassedOver) ef (told-as Passed q))

        pub is-too-long : place ≡ TooLong → Given m c now octets room (refused_by answer.OverLimit m c) room
        is-too-long q =
            let x = told-as TooLong q in
            too_long m c now octets room o u.outside u.piece.of.piece opens not-3 few
            (subst (λ (y : Names). case_of (counted c) y ≡ PassedOver → ⊥) ef x.other)
            (subst (λ (y : Names). most_octets < frame_size (gathered (counted c) y u.piece.of.piece).kept) ef x.long)

        pub is-taken : (n : ℕ) → place ≡ Taken n → ToGather m c now f key octets room p n
        is-taken n q =
            record {
              outside = u.outside;
              names = ef;
              write = record {
                sized = u.key-is.sized;
                of = u.piece.of;
                counts = counts-one;
                taking = told-as (Taken n) q;
              };
              opens = opens;
              not-3 = not-3;
              few = few;
            }

-- ---- the piece is put to the others
module _ {m : Member} {c : Collection} {now : ℕ} {octets room : List ℕ} {f : Names} {key : EncryptionKey} {p n : ℕ} (o : Octets octets)
    (t : ToGather m c now f key octets room p n) where
  abbrev pub together : Waiting
  together = gathered (counted c) (names_in octets) t.write.of.piece

  same-together : gathered (counted c) f t.write.of.piece ≡ together
  same-together = ap (λ (x : Names). gathered (counted c) x t.write.of.piece) t.names

  other : case_of (counted c) (names_in octets) ≡ PassedOver → ⊥
  other = subst (λ (x : Names). case_of (counted c) x ≡ PassedOver → ⊥) t.names t.write.taking.other

  small : frame_size together.kept ≤ most_octets
  small =
      subst (λ (x : Names). frame_size (gathered (counted c) x t.write.of.piece).kept ≤ most_octets) t.names
      t.write.taking.small

  module _ {r : Collection} (er : r ≡ collection_of (gathered (counted c) f t.write.of.piece)) where
    pub is-together : r ≡ collection_of together
    is-together = er ∙ ap collection_of same-together

    pub is-kept : is_complete together ≡ false →
        Given m c now octets room (record { answer = said.Waiting; member = m; collection = r }) room
    is-kept e =
        subst (λ (x : Collection). Given m c now octets room (record { answer = said.Waiting; member = m; collection = x }) room)
        (sym is-together)
        (kept m c now octets room o t.outside t.write.of.piece t.opens t.not-3 t.few other small e)

    pub to-complete : is_complete together ≡ true → ToComplete together r room
    unfolding with_piece
    to-complete e =
        let l : length together.kept ≡ total_in octets = eqb-true (length together.kept) (total_in octets) e in
        record { is = is-together; few = omega (arith, l, t.few); small = small; holds = t.opens.holds }

  pub is-whole : is_complete together ≡ true → (g : Gathered) (after : List ℕ) → ReceivedWhole m now together room g after →
      Given m c now octets room g after
  is-whole e g after w =
      received-whole m c now octets room o t.outside t.write.of.piece t.opens t.not-3 t.few other small e g after w
