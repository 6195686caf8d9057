-- A COLLECTION, and what it holds. Document 02, T-12: "Collect up to 32 fragments of one Rekey SA and Message ID, each opened and checked
-- on its own, in any order."
use Rattle.std.specs.Prelude.{ℕ, ◌+◌, ◌-◌, ◌/◌, Bool, cond, not, ◌&&◌, ◌||◌, leb, ltb, eqb, length, take, drop, replicate}
use mathlib.Core.List.{List, [], ◌∷◌, ◌++◌, map, flat_map}
use Rattle.ikev2_numbers.specs.Codes.{header_octets, major_version, minor_versions, most_octets, rekey_spi_octets}
use Rattle.lists.specs.Lists.{all, any, rising}
use Rattle.fragments.specs.declared.Piece.{Piece}
use Rattle.fragments.specs.declared.Collection.{Collection}

-- "up to 32 fragments"
abbrev pub most_fragments : ℕ
most_fragments = 32

-- a kept piece: the fragment's number, the octets that were sealed in it
pub record KeptPiece : Type 0 where
  pub number : ℕ
  pub octets : List ℕ

-- what fragment 1 gives beside its piece: the header's version and flags, and "the only next payload read (001 section 2.4.1.2)"
pub record Lead : Type 0 where
  pub version : ℕ
  pub flags : ℕ
  pub next : ℕ

abbrev pub empty_lead : Lead
empty_lead = record { version = 0; flags = 0; next = 0 }

-- what a collection holds: the two SPIs of the Rekey SA, the Message ID, how many fragments there are, those kept, by their numbers
pub record Waiting : Type 0 where
  pub spis : List ℕ
  pub id : ℕ
  pub total : ℕ
  pub kept : List KeptPiece
  pub lead : Lead

abbrev pub nothing : Waiting
nothing = record { spis = replicate rekey_spi_octets 0; id = 0; total = 0; kept = []; lead = empty_lead }

-- the pieces' octets, one behind the other, and the frame that they make: 28 octets of header, whether or not fragment 1 is there
abbrev pub joined_pieces : List KeptPiece → List ℕ
joined_pieces l = flat_map (λ (k : KeptPiece). k.octets) l

abbrev pub frame_size : List KeptPiece → ℕ
frame_size l = header_octets + length (joined_pieces l)

-- ---- A value of the code

-- the collection with these things in it, and 0 in every unused place
abbrev pub blank_piece : Piece
blank_piece = record { number = 0; size = 0 }

abbrev pub piece_of : KeptPiece → Piece
piece_of k = record { number = k.number; size = length k.octets }

unfoldable pub collection_of : Waiting → Collection
collection_of w =
    record {
      spis = w.spis;
      id = w.id;
      total = w.total;
      count = length w.kept;
      pieces = map piece_of w.kept ++ replicate (most_fragments - length w.kept) blank_piece;
      version = w.lead.version;
      flags = w.lead.flags;
      next = w.lead.next;
      octets = joined_pieces w.kept ++ replicate (most_octets - length (joined_pieces w.kept)) 0;
    }

abbrev pub empty_collection : Collection
empty_collection = collection_of nothing

-- the pieces of a collection: the first places, as many as its count says
abbrev pub pieces_of : Collection → List Piece
pieces_of c = take c.count c.pieces

unfoldable pub size_of_all : List Piece → ℕ
size_of_all [] = 0
size_of_all (p ∷ l) = p.size + size_of_all l

-- each piece with its octets, which stand one behind the other
unfoldable pub cut_by : List Piece → List ℕ → List KeptPiece
cut_by [] o = []
cut_by (p ∷ l) o = record { number = p.number; octets = take p.size o } ∷ cut_by l (drop p.size o)

abbrev pub is_first : ℕ → Bool
is_first number = eqb number 1

abbrev pub has_first : List Piece → Bool
has_first l = any (λ (p : Piece). is_first p.number) l

-- what a collection holds, its lead only where fragment 1 is there
unfoldable pub held_in : Collection → Waiting
held_in c =
    record {
      spis = c.spis;
      id = c.id;
      total = c.total;
      kept = cut_by (pieces_of c) c.octets;
      lead = cond (has_first (pieces_of c)) (record { version = c.version; flags = c.flags; next = c.next }) empty_lead;
    }

-- ---- "A handed-in collection that breaks these rules or lacks nothing counts as empty."

abbrev pub piece_before : Piece → Piece → Bool
piece_before a b = ltb a.number b.number

-- numbers from 1 to the total
abbrev pub numbered : ℕ → Piece → Bool
numbered total p = leb 1 p.number && leb p.number total

unfoldable pub fit : Collection → Bool
fit c =
    -- "up to 32 fragments"; of 1 fragment nothing waits
    leb 2 c.total && (leb c.total most_fragments
    -- something is kept, and something lacks
    && (leb 1 c.count && (ltb c.count c.total
    -- each fragment once, by its number
    && (all (numbered c.total) (pieces_of c) && (rising piece_before (pieces_of c)
    -- no more than "an opened frame over 16,384 octets so far"
    && (leb (header_octets + size_of_all (pieces_of c)) most_octets
    -- fragment 1 passed refusal 1
    && (not (has_first (pieces_of c)) || eqb (c.version / minor_versions) major_version)))))))

-- what a handed-in collection counts as
unfoldable pub counted : Collection → Waiting
counted c = cond (fit c) (held_in c) nothing
