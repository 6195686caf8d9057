-- What the lent tables hold.
use mathlib.Core.Path.{◌≡◌, refl, sym, ap, ◌∙◌}
use mathlib.Core.List.{List, [], ◌∷◌, ◌++◌, append_assoc}
use Prim.Native.Nat.{ℕ, zero, suc, ◌+◌, ◌<◌}
use native.Mathlib.Nat.{not-suc-le-zero, le_of_suc-le-suc}
use native.Mathlib.Omega.{arith}
use lib.ListN.{length, get_or, length-append, get_or-append}
use lib.Seq.{get_or-append-add}
use Rattle.octets.specs.Numbers.{oct}
use Rattle.fips197.specs.Sbox.{sbox, inv-sbox}
use Rattle.aes.specs.inner.Tables.{mixed_word, mixed_table, encipher_tables, decipher_tables, Boxed}
use Rattle.aes.proofs.Bytes.{Mixing}

length-sbox : length sbox ≡ 256
unfolding sbox
length-sbox = refl

length-inv-sbox : length inv-sbox ≡ 256
unfolding inv-sbox
length-inv-sbox = refl

module _ (p q r t : ℕ) where
  length-mixed : (box : List ℕ) → length (mixed_table p q r t box) ≡ length box
  length-mixed [] = refl
  length-mixed (b ∷ box) = ap suc (length-mixed box)

  mixed-at : (box : List ℕ) (i : ℕ) → i < length box → get_or (mixed_table p q r t box) i 0 ≡ mixed_word p q r t (oct box i)
  mixed-at [] i h = absurd (not-suc-le-zero h)
  mixed-at (b ∷ box) zero h = refl
  mixed-at (b ∷ box) (suc i) h = mixed-at box i (le_of_suc-le-suc h)

-- a box behind what ends at n
behind : (l box rest : List ℕ) (n : ℕ) → length l ≡ n → length box ≡ 256 → Boxed box (l ++ (box ++ rest)) n
behind l box rest n e b i h =
    ap (λ (m : ℕ). get_or (l ++ (box ++ rest)) (m + i) 0) (sym e) ∙ get_or-append-add l (box ++ rest) i 0
    ∙ get_or-append box rest 0 i (omega arith)

module _ (p q r t : ℕ) (box rest w : List ℕ) (size : length box ≡ 256) (e : w ≡ mixed_table p q r t box ++ (box ++ rest)) where
  mixing : Mixing p q r t box w
  mixing i h =
      ap (λ (l : List ℕ). get_or l i 0) e
      ∙ get_or-append (mixed_table p q r t box) (box ++ rest) 0 i (omega (arith, length-mixed p q r t box))
      ∙ mixed-at p q r t box i (omega arith)

  boxed : Boxed box w 256
  boxed i h =
      ap (λ (l : List ℕ). get_or l (256 + i) 0) e
      ∙ behind (mixed_table p q r t box) box rest 256 (length-mixed p q r t box ∙ size) size i h

append-nil : (l : List ℕ) → l ++ [] ≡ l
append-nil [] = refl
append-nil (x ∷ l) = ap {B = List ℕ} (λ m. x ∷ m) (append-nil l)

module _ {w : List ℕ} (e : w ≡ encipher_tables) where
  enciphers : w ≡ mixed_table 2 3 1 1 sbox ++ (sbox ++ [])
  unfolding encipher_tables
  enciphers = e ∙ ap (λ (l : List ℕ). mixed_table 2 3 1 1 sbox ++ l) (sym (append-nil sbox))

  pub encipher-mixing : Mixing 2 3 1 1 sbox w
  encipher-mixing = mixing 2 3 1 1 sbox [] w length-sbox enciphers

  pub encipher-boxed : Boxed sbox w 256
  encipher-boxed = boxed 2 3 1 1 sbox [] w length-sbox enciphers

module _ {w : List ℕ} (e : w ≡ decipher_tables) where
  deciphers : w ≡ mixed_table 14 11 13 9 inv-sbox ++ (inv-sbox ++ sbox)
  unfolding decipher_tables
  deciphers = e

  pub decipher-mixing : Mixing 14 11 13 9 inv-sbox w
  decipher-mixing = mixing 14 11 13 9 inv-sbox sbox w length-inv-sbox deciphers

  pub decipher-boxed : Boxed inv-sbox w 256
  decipher-boxed = boxed 14 11 13 9 inv-sbox sbox w length-inv-sbox deciphers

  -- for the key expansion
  pub decipher-sbox : Boxed sbox w 512
  decipher-sbox i h =
      ap (λ (l : List ℕ). get_or l (512 + i) 0)
      (deciphers ∙ sym (append_assoc (mixed_table 14 11 13 9 inv-sbox) inv-sbox sbox)
      ∙ ap (λ (l : List ℕ). (mixed_table 14 11 13 9 inv-sbox ++ inv-sbox) ++ l) (sym (append-nil sbox)))
      ∙ behind (mixed_table 14 11 13 9 inv-sbox ++ inv-sbox) sbox [] 512
      (length-append (mixed_table 14 11 13 9 inv-sbox) inv-sbox ∙ omega (arith, length-mixed 14 11 13 9 inv-sbox, length-inv-sbox))
      length-sbox i h

  pub decipher-length : length w ≡ 768
  decipher-length =
      ap length deciphers ∙ length-append (mixed_table 14 11 13 9 inv-sbox) (inv-sbox ++ sbox)
      ∙ omega (arith, length-mixed 14 11 13 9 inv-sbox, length-append inv-sbox sbox, length-inv-sbox, length-sbox)
