-- What the constructors of the kinds make, and how a Rekey SA's octets are cut.
use native.Mathlib.Omega.{arith}
use Prim.Native.Nat.{ℕ, ◌+◌, ◌-◌}
use mathlib.Core.Path.{◌≡◌, ap, ◌∙◌}
use mathlib.Core.Bool.{true, ◌&&◌, false≢true}
use mathlib.Core.List.{List, []}
use Rattle.std.specs.Prelude.{Option, Some, is_some, unwrap_or}
use Rattle.state_keys.specs.Kinds.{key_or_blank}
use Rattle.state_keys.specs.declared.kinds.WrappingKey.{WrappingKey}
use borrow.Author.Tests.{eq-eqb, eqb-true}
use lib.Dec.{eqb}
use lib.ListN.{length, take, drop, replicate, length-drop}
use lib.Seq.{length-take-le, take_at, take-append-le, drop-append-le}
use Rattle.state_keys.specs.Algorithms.{is_wrapping_size, is_encryption_size}
use Rattle.state_keys.specs.declared.kinds.RekeyKey.{RekeyKey}
use Rattle.state_keys.specs.Kinds.{padded, wrapping_of, wrapping_key, esp_of, esp_key, encryption_of, encryption_key, rekey_sizes, rekey_of}
use Rattle.state_keys.specs.Kinds.{rekey_key, encryption_part, key_wrap_part}
use Rattle.lists.proofs.Cases.{bool_cases, and_parts}
use Rattle.state_keys.proofs.Sizes.{rekey-parts}

-- ---- octets of a fitting size are taken whole
pub wrapping-made : (x : List ℕ) → is_wrapping_size (length x) ≡ true → wrapping_key x ≡ Some (wrapping_of x)
unfolding wrapping_key
wrapping-made x e = rw e

pub esp-made : (x : List ℕ) → is_encryption_size (length x) ≡ true → esp_key x ≡ Some (esp_of x)
unfolding esp_key
esp-made x e = rw e

pub encryption-made : (x : List ℕ) → is_encryption_size (length x) ≡ true → encryption_key x ≡ Some (encryption_of x)
unfolding encryption_key
encryption-made x e = rw e

pub rekey-made : (x : List ℕ) (e w : ℕ) → rekey_sizes e w ≡ true → length x ≡ e + w → rekey_key x e w ≡ Some (rekey_of x e w)
unfolding rekey_key
rekey-made x e w p q = rw (p, eq-eqb (length x) (e + w) q)

-- a key of no octets stands in where the octets fit none
pub or-blank : (k : Option WrappingKey) (b r : WrappingKey) → b ≡ wrapping_of [] → r ≡ unwrap_or k b → r ≡ key_or_blank k
or-blank k b r e f = f ∙ ap (unwrap_or k) e

-- ---- and no others are
pub wrapping-fits : (x : List ℕ) → is_some (wrapping_key x) ≡ true → is_wrapping_size (length x) ≡ true
unfolding wrapping_key
wrapping-fits x e = bool_cases (is_wrapping_size (length x)) (λ g. g) (λ g. absurd (false≢true (rw g at e)))

pub esp-fits : (x : List ℕ) → is_some (esp_key x) ≡ true → is_encryption_size (length x) ≡ true
unfolding esp_key
esp-fits x e = bool_cases (is_encryption_size (length x)) (λ g. g) (λ g. absurd (false≢true (rw g at e)))

pub rekey-fits : (x : List ℕ) (e w : ℕ) → is_some (rekey_key x e w) ≡ true → (rekey_sizes e w ≡ true) × (length x ≡ e + w)
unfolding rekey_key
rekey-fits x e w p =
    bool_cases (rekey_sizes e w && eqb (length x) (e + w))
    (λ g. let q = and_parts (rekey_sizes e w) (eqb (length x) (e + w)) g in (q.0, eqb-true (length x) (e + w) q.1))
    (λ g. absurd (false≢true (rw g at p)))

-- ---- GSK_e is the first e octets, GSK_w the last w
module _ (x : List ℕ) (e w : ℕ) (s : rekey_sizes e w ≡ true) (n : length x ≡ e + w) where
  last-octets : take w (drop e (padded 68 x)) ≡ drop e x
  last-octets =
      let r : List ℕ = replicate (68 - length x) 0 in
      let d = length-drop e x in
      ap (take w) (drop-append-le e x r (omega arith)) ∙ take_at (drop e x) r w (omega arith)

  pub key-wrap-cut : key_wrap_part (rekey_of x e w) ≡ Some (wrapping_of (drop e x))
  unfolding key_wrap_part
  key-wrap-cut =
      let d = length-drop e x in
      let l : length (drop e x) ≡ w = omega arith in
      rw s (ap wrapping_key last-octets ∙ wrapping-made (drop e x) (ap is_wrapping_size l ∙ (rekey-parts e w s).1))

  pub encryption-cut : encryption_part (rekey_of x e w) ≡ Some (encryption_of (take e x))
  unfolding encryption_part
  encryption-cut =
      let l : length (take e x) ≡ e = length-take-le e x (omega arith) in
      rw s
      (ap encryption_key (take-append-le e x (replicate (68 - length x) 0) (omega arith))
      ∙ encryption-made (take e x) (ap is_encryption_size l ∙ (rekey-parts e w s).0))

-- "44 is 20 + 24 and 28 + 16": the same octets cut both ways are two values
pub two-cuts : (x : List ℕ) → rekey_of x 20 24 ≡ rekey_of x 28 16 → ⊥
two-cuts x e = let z : ◌≡◌ {A = ℕ} 20 28 = ap (λ (k : RekeyKey). k.encryption) e in omega arith
