-- The numbers of the heads of policies and key bags, of selectors and of transforms, once more as the papers print them.
use mathlib.Core.Path.{◌≡◌, refl}
use mathlib.Core.List.{[], ◌∷◌, map}
use mathlib.Core.Bool.{true, false}
use Rattle.wire_policies.specs.Selector.{address_size, selector_size}
use Rattle.wire_policies.specs.Transform.{is_mark}
use Rattle.wire_policies.specs.Policy.{spi_size, first_known}

-- RFC 9838, sections 4.4.2 and 4.5.2: the SPI size "is 16 octets for GIKE_UPDATE and 4 octets for AH and ESP", protocols 6, 2 and 3
pub spi-sizes :
    (map spi_size (6 ∷ 3 ∷ 2 ∷ []) ≡ 16 ∷ 4 ∷ 4 ∷ []) × (map spi_size (0 ∷ 1 ∷ 4 ∷ 5 ∷ 7 ∷ 255 ∷ []) ≡ 0 ∷ 0 ∷ 0 ∷ 0 ∷ 0 ∷ 0 ∷ [])
spi-sizes = (refl, refl)

-- 0 is the first octet of a group-wide policy and of a Member Key Bag; "another first octet breaks the layout"
pub first-octets :
    (map first_known (0 ∷ 2 ∷ 3 ∷ 6 ∷ []) ≡ true ∷ true ∷ true ∷ true ∷ [])
    × (map first_known (1 ∷ 4 ∷ 5 ∷ 7 ∷ 255 ∷ []) ≡ false ∷ false ∷ false ∷ false ∷ false ∷ [])
first-octets = (refl, refl)

-- RFC 7296, section 3.13.1: type 7 has two addresses of 4 octets after 8 others, type 8 two of 16
pub selector-sizes :
    (map address_size (7 ∷ 8 ∷ 6 ∷ 9 ∷ 0 ∷ []) ≡ 4 ∷ 16 ∷ 0 ∷ 0 ∷ 0 ∷ [])
    × (map selector_size (7 ∷ 8 ∷ 6 ∷ 9 ∷ 0 ∷ []) ≡ 16 ∷ 40 ∷ 0 ∷ 0 ∷ 0 ∷ [])
selector-sizes = (refl, refl)

-- RFC 9838, section 4.4.2: the first octet of a transform is 3, and 0 in the last one
pub marks : map is_mark (0 ∷ 3 ∷ 1 ∷ 2 ∷ 4 ∷ 255 ∷ []) ≡ true ∷ true ∷ false ∷ false ∷ false ∷ false ∷ []
marks = refl
