-- What the walks over the pieces of a collection count.
use Rattle.std.specs.Prelude.{ℕ, zero, suc, ◌+◌, ◌≤◌, ◌≡◌, Bool, cond, List, [], ◌∷◌, leb, ltb, eqb}
use Rattle.ikev2_numbers.specs.Codes.{header_octets, most_octets}
use Rattle.lists.specs.Lists.{any}
use Rattle.fragments.specs.declared.Piece.{Piece}
use Rattle.fragments.specs.Collection.{size_of_all}

-- one of the pieces has this number
abbrev pub has_number : ℕ → List Piece → Bool
has_number number l = any (λ (p : Piece). eqb p.number number) l

-- the octets of the frame that the pieces make: r, or more than a frame may have
pub record FrameCounted (l : List Piece) (r : ℕ) : Type 0 where
  pub most : leb r most_octets ≡ leb (header_octets + size_of_all l) most_octets
  pub exact : r ≤ most_octets → r ≡ header_octets + size_of_all l

-- how many pieces stand ahead of a fragment with this number
unfoldable pub ahead_of : ℕ → List Piece → ℕ
ahead_of number [] = zero
ahead_of number (p ∷ l) = cond (ltb number p.number) zero (suc (ahead_of number l))
