-- Registers and their octets give each other.
use mathlib.Core.Path.{◌≡◌, refl, sym, ap, ap₂, ◌∙◌}
use mathlib.Core.List.{List, [], ◌∷◌, ◌++◌, append_assoc}
use Prim.Native.Nat.{ℕ, zero, suc, ◌+◌, ◌*◌, ◌^◌, ◌<◌}
use native.Mathlib.Nat.{suc_inj, suc-ne-zero}
use native.Mathlib.Omega.{arith}
use lib.Dec.{lit<}
use lib.ListN.{length, drop, set, length-append, length-drop, length-set, take-append-drop}
use lib.Seq.{drop_at, drop-drop}
use Rattle.octets.specs.Numbers.{number, octets_of}
use Rattle.octets.specs.Octets.{Octets}
use Rattle.octets.specs.Generate.{gen}
use Rattle.octets.proofs.Numerals.{number_append}
use Rattle.octets.proofs.RoundTrip.{length-octets, octets-octets, number_lt, number-octets, octets-number}
use Rattle.octets.proofs.Octets.{no-octets, join-octets, drop-octets}
use Rattle.rfc5649.specs.Steps.{register}
use Rattle.rfc5649.specs.Wrap.{registers, register_octets}

-- k registers
pub record Registers (k : ℕ) (s : List ℕ) : Type 0 where
  pub size : length s ≡ k
  pub small : (i : ℕ) → register s i < 256 ^ 8

pub tail-registers : {k r : ℕ} {s : List ℕ} → Registers (suc k) (r ∷ s) → Registers k s
tail-registers g = record { size = suc_inj g.size; small = λ i. g.small (suc i) }

pub cons-registers : {k r : ℕ} {s : List ℕ} → r < 256 ^ 8 → Registers k s → Registers (suc k) (r ∷ s)
cons-registers {k} {r} {s} h g = record { size = ap suc g.size; small = at }
  where
    at : (i : ℕ) → register (r ∷ s) i < 256 ^ 8
    at zero = h
    at (suc i) = g.small i

set-small : (s : List ℕ) (i v : ℕ) → ((k : ℕ) → register s k < 256 ^ 8) → v < 256 ^ 8 → (k : ℕ) → register (set s i v) k < 256 ^ 8
set-small [] i v g h k = g k
set-small (x ∷ s) zero v g h zero = h
set-small (x ∷ s) zero v g h (suc k) = g (suc k)
set-small (x ∷ s) (suc i) v g h zero = g zero
set-small (x ∷ s) (suc i) v g h (suc k) = set-small s i v (λ j. g (suc j)) h k

pub set-registers : {k : ℕ} {s : List ℕ} (i v : ℕ) → Registers k s → v < 256 ^ 8 → Registers k (set s i v)
set-registers {k} {s} i v g h = record { size = length-set s i v ∙ g.size; small = set-small s i v g.small h }

-- ---- from octets

pub registers-are : (n : ℕ) (s : List ℕ) → Octets s → Registers n (registers n s)
unfolding registers
registers-are zero s o = record { size = refl; small = λ i. lit< tt }
registers-are (suc n) s o = cons-registers (number_lt 8 s o) (registers-are n (drop 8 s) (drop-octets 8 s o))

-- register i stands in the octets from 8 * i on
pub registers-gen : (n j : ℕ) (s : List ℕ) → registers n (drop (8 * j) s) ≡ gen (λ (i : ℕ). number 8 (drop (8 * i) s)) j n
unfolding registers
registers-gen zero j s = refl
registers-gen (suc n) j s =
    ap {B = List ℕ} (λ t. number 8 (drop (8 * j) s) ∷ t)
    (ap (registers n) (drop-drop 8 (8 * j) s ∙ ap (λ (k : ℕ). drop k s) (let z : 8 * j + 8 ≡ 8 * suc j = omega arith in z))
    ∙ registers-gen n (suc j) s)

-- ---- to octets

pub length-octets-in : (s : List ℕ) → length (register_octets s) ≡ 8 * length s
unfolding register_octets
length-octets-in [] = refl
length-octets-in (r ∷ s) =
    length-append (octets_of 8 r) (register_octets s) ∙ ap₂ ◌+◌ (length-octets 8 r) (length-octets-in s) ∙ omega arith

pub octets-in-octets : (s : List ℕ) → Octets (register_octets s)
unfolding register_octets
octets-in-octets [] = no-octets
octets-in-octets (r ∷ s) = join-octets (octets_of 8 r) (register_octets s) (octets-octets 8 r) (octets-in-octets s)

pub octets-in-append : (s t : List ℕ) → register_octets (s ++ t) ≡ register_octets s ++ register_octets t
unfolding register_octets
octets-in-append [] t = refl
octets-in-append (r ∷ s) t =
    ap (λ (u : List ℕ). octets_of 8 r ++ u) (octets-in-append s t) ∙ sym (append_assoc (octets_of 8 r) (register_octets s) (register_octets t))

-- ---- there and back

pub octets-registers : (n : ℕ) (s : List ℕ) → Octets s → length s ≡ 8 * n → register_octets (registers n s) ≡ s
unfolding registers register_octets
octets-registers zero [] o e = refl
octets-registers zero (x ∷ s) o e = absurd (suc-ne-zero (length s) e)
octets-registers (suc n) s o e =
    ap₂ {C = List ℕ} ◌++◌ (octets-number 8 s o (omega arith))
    (octets-registers n (drop 8 s) (drop-octets 8 s o) (length-drop 8 s ∙ omega arith))
    ∙ take-append-drop 8 s

pub registers-octets : (n : ℕ) (s : List ℕ) → Registers n s → registers n (register_octets s) ≡ s
unfolding registers register_octets
registers-octets zero [] g = refl
registers-octets zero (x ∷ s) g = absurd (suc-ne-zero (length s) g.size)
registers-octets (suc n) [] g = absurd (suc-ne-zero n (sym g.size))
registers-octets (suc n) (r ∷ s) g =
    ap₂ {C = List ℕ} ◌∷◌
    (number_append 8 0 (octets_of 8 r) (register_octets s) (omega (arith, length-octets 8 r)) ∙ number-octets 8 r (g.small 0))
    (ap (registers n) (drop_at (octets_of 8 r) (register_octets s) 8 (length-octets 8 r)) ∙ registers-octets n s (tail-registers g))
