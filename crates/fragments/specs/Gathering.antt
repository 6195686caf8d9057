-- WHAT BECOMES OF ONE FRAGMENT, by what waits. Document 02, T-12.
use Rattle.std.specs.Prelude.{ℕ, Bool, cond, not, ◌&&◌, List, [], ◌∷◌, ◌++◌, ltb, eqb, length}
use Rattle.ikev2_numbers.specs.Codes.{gsa_rekey}
use Rattle.octets.specs.Numbers.{octets_of}
use Rattle.octets.specs.Compare.{same}
use Rattle.lists.specs.Lists.{any, insert}
use Rattle.fragments.specs.declared.Case.{Case}
use Rattle.fragments.specs.declared.Case.TheVariants.{Anew, PassedOver, Kept}
use Rattle.fragments.specs.declared.Names.{Names}
use Rattle.fragments.specs.Collection.{KeptPiece, Lead, Waiting, nothing, is_first, joined_pieces, frame_size}

-- one collection is told by the two SPIs and the Message ID; flags and minor version of fragments are compared with nothing
abbrev pub of_same_rekey : Waiting → Names → Bool
of_same_rekey w f = same w.spis f.spis && eqb w.id f.id

abbrev pub is_kept : ℕ → List KeptPiece → Bool
is_kept number l = any (λ (k : KeptPiece). eqb k.number number) l

-- THE TABLE. "another Rekey SA or Message ID starts anew"; "A larger total starts the collection anew and a smaller one is passed over";
-- "A copy, by number and total, of one already kept is passed over"; any other is kept
unfoldable pub case_of : Waiting → Names → Case
case_of w f =
    cond (not (of_same_rekey w f)) Anew
    (cond (ltb w.total f.total) Anew
    (cond (ltb f.total w.total) PassedOver
    (cond (is_kept f.number w.kept) PassedOver Kept)))

-- what the fragment is put to: nothing, where the collection starts anew
abbrev pub put_to : Case → Waiting → Waiting
put_to Anew w = nothing
put_to PassedOver w = w
put_to Kept w = w

abbrev pub number_before : KeptPiece → KeptPiece → Bool
number_before a b = ltb a.number b.number

-- "Fragment 1 gives the header and the only next payload read (001 section 2.4.1.2)"
abbrev pub lead_with : Lead → Names → Lead
lead_with l f = cond (is_first f.number) (record { version = f.version; flags = f.flags; next = f.next }) l

-- what waits with a fragment put to it, in whatever order they come: its piece stands by its number
unfoldable pub with_piece : Waiting → Names → List ℕ → Waiting
with_piece w f piece =
    record {
      spis = f.spis;
      id = f.id;
      total = f.total;
      kept = insert number_before (record { number = f.number; octets = piece }) w.kept;
      lead = lead_with w.lead f;
    }

abbrev pub gathered : Waiting → Names → List ℕ → Waiting
gathered w f piece = with_piece (put_to (case_of w f) w) f piece

-- nothing lacks
abbrev pub is_complete : Waiting → Bool
is_complete w = eqb (length w.kept) w.total

-- THE WHOLE FRAME: the header of fragment 1 (SPIs, version, exchange, flags, Message ID), its next payload, the length counted anew, the
-- pieces by their numbers
unfoldable pub whole : Waiting → List ℕ
whole w =
    w.spis
    ++ ((w.lead.next ∷ w.lead.version ∷ gsa_rekey ∷ w.lead.flags ∷ [])
    ++ (octets_of 4 w.id ++ (octets_of 4 (frame_size w.kept) ++ joined_pieces w.kept)))
