-- What becomes of fragments, computed: a row for each clause of the paper's table, of the rules for a collection that is handed in, and
-- three fragments that come as the third, the first and the second.
use Prim.Native.Nat.{ℕ, ◌+◌}
use mathlib.Core.Path.{◌≡◌, refl}
use mathlib.Core.Bool.{true, false}
use mathlib.Core.List.{List, [], ◌∷◌, ◌++◌, map, flat_map}
use lib.ListN.{replicate}
use Rattle.octets.specs.Numbers.{octets_of}
use Rattle.octets.specs.Compare.{order_of, same}
use Rattle.lists.specs.Lists.{all, any, heads, rising, insert}
use Rattle.fragments.specs.declared.Case.{Case}
use Rattle.fragments.specs.declared.Case.TheVariants.{Anew, PassedOver, Kept}
use Rattle.fragments.specs.declared.Names.{Names}
use Rattle.fragments.specs.declared.Piece.{Piece}
use Rattle.fragments.specs.declared.Collection.{Collection}
use Rattle.fragments.specs.Collection.{Waiting, nothing, frame_size, size_of_all, cut_by, held_in, fit}
use Rattle.fragments.specs.Gathering.{case_of, with_piece, gathered, is_complete, whole}

abbrev here : List ℕ
here = replicate 16 7

abbrev there : List ℕ
there = replicate 15 7 ++ (8 ∷ [])

-- fragment `number` of `total`, of a rekey by its SPIs and Message ID; version, flags and next payload of each are its own
abbrev named : List ℕ → ℕ → ℕ → ℕ → Names
named spis id number total =
    record { spis = spis; id = id; number = number; total = total; version = 0x20 + number; flags = 7 + number; next = number }

-- the first and the third of three wait
abbrev held : Waiting
held =
    record {
      spis = here;
      id = 5;
      total = 3;
      kept = record { number = 1; octets = 11 ∷ 12 ∷ [] } ∷ record { number = 3; octets = 31 ∷ [] } ∷ [];
      lead = record { version = 0x21; flags = 8; next = 1 };
    }

-- ---- THE TABLE
abbrev cases_of : List Names → List Case
cases_of l = map (case_of held) l

pub table-samples :
    cases_of (
    -- "A copy, by number and total, of one already kept is passed over"; another is kept
    named here 5 1 3 ∷ named here 5 3 3 ∷ named here 5 2 3
    -- "A larger total starts the collection anew", also a number that is kept; "a smaller one is passed over", also one that is not
    ∷ named here 5 1 4 ∷ named here 5 4 4 ∷ named here 5 1 2 ∷ named here 5 2 2
    -- "another Rekey SA or Message ID starts anew", also a lower one, and also with a smaller total or a copy's
    ∷ named there 5 2 3 ∷ named there 5 1 2 ∷ named here 6 1 3 ∷ named here 4 2 2 ∷ []
    )
    ≡ PassedOver ∷ PassedOver ∷ Kept ∷ Anew ∷ Anew ∷ PassedOver ∷ PassedOver ∷ Anew ∷ Anew ∷ Anew ∷ Anew ∷ []
unfolding case_of any same order_of
table-samples = refl

-- ---- THE PIECES: the third, the first and the second of three, the second empty
abbrev third : Waiting
third = gathered nothing (named here 5 3 3) (31 ∷ [])

abbrev all_three : Waiting
all_three = gathered (gathered third (named here 5 1 3) (11 ∷ 12 ∷ [])) (named here 5 2 3) []

pub complete-samples :
    map is_complete (third ∷ gathered third (named here 5 1 3) [] ∷ all_three ∷ gathered held (named here 5 1 4) [] ∷ [])
    ≡ false ∷ false ∷ true ∷ false ∷ []
unfolding case_of with_piece any same order_of insert
complete-samples = refl

-- how many octets the frame would have so far: the header's 28, the pieces that are kept and this one; where this one starts anew, it alone
pub so-far-samples :
    map (λ (f : Names). frame_size (gathered held f (9 ∷ [])).kept)
    (named here 5 2 3 ∷ named here 5 1 4 ∷ named there 5 1 3 ∷ named here 6 1 2 ∷ []) ≡ 32 ∷ 29 ∷ 29 ∷ 29 ∷ []
unfolding case_of with_piece any same order_of insert flat_map
so-far-samples = refl

-- "Fragment 1 gives the header and the only next payload read"; 28 octets of header, then the pieces by their numbers
pub whole-sample :
    whole all_three
    ≡ here ++ (1 ∷ 0x21 ∷ 41 ∷ 8 ∷ 0 ∷ 0 ∷ 0 ∷ 5 ∷ 0 ∷ 0 ∷ 0 ∷ 31 ∷ 11 ∷ 12 ∷ 31 ∷ [])
unfolding case_of with_piece any same order_of insert whole octets_of flat_map
whole-sample = refl

-- ---- "A handed-in collection that breaks these rules or lacks nothing counts as empty."
abbrev piece : ℕ → ℕ → Piece
piece number size = record { number = number; size = size }

abbrev collection : ℕ → ℕ → List Piece → ℕ → Collection
collection total count pieces version =
    record {
      spis = here;
      id = 5;
      total = total;
      count = count;
      pieces = pieces;
      version = version;
      flags = 8;
      next = 1;
      octets = 11 ∷ 12 ∷ 31 ∷ [];
    }

pub fit-samples :
    map fit (
    -- within every rule; fragment 1 has major version 2, and without it the version is not looked at
    collection 3 2 (piece 1 2 ∷ piece 3 1 ∷ []) 0x2f ∷ collection 3 1 (piece 3 1 ∷ []) 0x10
    -- "up to 32 fragments", and not one alone
    ∷ collection 32 1 (piece 32 0 ∷ []) 0 ∷ collection 33 1 (piece 2 0 ∷ []) 0 ∷ collection 1 1 (piece 1 2 ∷ []) 0x20
    -- none is kept, all are kept
    ∷ collection 3 0 (piece 2 1 ∷ []) 0 ∷ collection 2 2 (piece 1 2 ∷ piece 2 1 ∷ []) 0x20
    -- numbers 0 and above the total, one number twice, falling numbers
    ∷ collection 3 1 (piece 0 1 ∷ []) 0 ∷ collection 3 1 (piece 4 1 ∷ []) 0 ∷ collection 3 2 (piece 2 1 ∷ piece 2 1 ∷ []) 0
    ∷ collection 3 2 (piece 3 1 ∷ piece 2 1 ∷ []) 0
    -- 16,384 octets so far, and one more
    ∷ collection 3 2 (piece 2 16000 ∷ piece 3 356 ∷ []) 0 ∷ collection 3 2 (piece 2 16000 ∷ piece 3 357 ∷ []) 0
    -- fragment 1 under another major version
    ∷ collection 3 1 (piece 1 2 ∷ []) 0x1f ∷ collection 3 1 (piece 1 2 ∷ []) 0x30
    -- what stands in unused places is not looked at
    ∷ collection 3 1 (piece 3 1 ∷ piece 0 20000 ∷ []) 0x10 ∷ []
    )
    ≡ true ∷ true ∷ true ∷ false ∷ false ∷ false ∷ false ∷ false ∷ false ∷ false ∷ false ∷ true ∷ false ∷ false ∷ false ∷ true ∷ []
unfolding fit all any rising heads size_of_all
fit-samples = refl

-- a collection holds its pieces, one behind the other, and fragment 1's lead only where that one is there
pub held-samples :
    (held_in (collection 3 2 (piece 1 2 ∷ piece 3 1 ∷ piece 2 9 ∷ []) 0x21) ≡ held)
    × ((held_in (collection 3 1 (piece 3 2 ∷ []) 0x21)).lead ≡ record { version = 0; flags = 0; next = 0 })
unfolding held_in cut_by any
held-samples = (refl, refl)
