-- The header of the whole frame, octet by octet.
use mathlib.Core.Path.{◌≡◌, refl, ap, ap₂, sym, ◌∙◌}
use mathlib.Core.List.{List, [], ◌∷◌, ◌++◌}
use Prim.Native.Nat.{ℕ}
use lib.ListN.{length}
use Rattle.octets.specs.Numbers.{oct, octets_of}
use Rattle.octets.specs.Generate.{gen}
use Rattle.octets.proofs.Generate.{gen-all}
use Rattle.ikev2_numbers.specs.Codes.{gsa_rekey, rekey_spi_octets}

abbrev last_four : List ℕ → List ℕ
last_four x = oct x 4 ∷ oct x 5 ∷ oct x 6 ∷ oct x 7 ∷ []

-- four octets are the last four of eight
four-of : (x : ℕ) → last_four (octets_of 8 x) ≡ octets_of 4 x
unfolding octets_of
four-of x = refl

spis-are : (s : List ℕ) → length s ≡ rekey_spi_octets → gen (oct s) 0 rekey_spi_octets ≡ s
spis-are s l = ap (gen (oct s) 0) (sym l) ∙ gen-all s

pub header_is : (s : List ℕ) → length s ≡ rekey_spi_octets → (next version flags id size : ℕ) {i z : List ℕ} → i ≡ octets_of 8 id →
    z ≡ octets_of 8 size → gen (oct s) 0 rekey_spi_octets ++ ((next ∷ version ∷ gsa_rekey ∷ flags ∷ []) ++ (last_four i ++ last_four z))
    ≡ s ++ ((next ∷ version ∷ gsa_rekey ∷ flags ∷ []) ++ (octets_of 4 id ++ octets_of 4 size))
header_is s l next version flags id size ei ez =
    ap₂ (λ (a b : List ℕ). a ++ ((next ∷ version ∷ gsa_rekey ∷ flags ∷ []) ++ b)) (spis-are s l)
    (ap₂ (λ (a b : List ℕ). a ++ b) (ap last_four ei ∙ four-of id) (ap last_four ez ∙ four-of size))
