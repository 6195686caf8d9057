-- A turn of the loop that writes registers' octets.
use mathlib.Core.Path.{◌≡◌, sym, ap, ap₂, ◌∙◌}
use mathlib.Core.List.{List, [], ◌∷◌, ◌++◌, append-nil, append_assoc}
use Prim.Native.Nat.{ℕ, ◌+◌, ◌*◌, ◌-◌, ◌≤◌, ◌<◌}
use native.Mathlib.Numerals.{add-one}
use native.Mathlib.Omega.{arith}
use lib.ListN.{length, take, drop, replicate, length-append, length-replicate}
use lib.Seq.{take-suc, take_at, drop_at, length-take-le, drop-drop, take-length, take-append-add}
use borrow.Rule.Slice.PartMut.{mid_of, put_mid}
use Rattle.octets.specs.Numbers.{octets_of}
use Rattle.octets.proofs.RoundTrip.{length-octets}
use Rattle.lists.proofs.Slices.{copied-end}
use Rattle.lists.proofs.Parts.{drop-replicate}
use Rattle.lists.proofs.Replicate.{take-replicate}
use Rattle.rfc5649.specs.Steps.{register}
use Rattle.rfc5649.specs.Wrap.{initial_value, blocks, pad_to_blocks, registers, register_octets, start_registers}
use Rattle.keywrap.specs.Answers.{written}
use Rattle.rfc5649.proofs.Registers.{length-octets-in, octets-in-append}

module _ (s room₀ room : List ℕ) (i : ℕ) (more : i < length s) (e : room ≡ written (register_octets (take i s)) room₀) where
  w : List ℕ
  w = register_octets (take i s)

  length-w : length w ≡ 8 * i
  unfolding w
  length-w = length-octets-in (take i s) ∙ ap (λ (k : ℕ). 8 * k) (length-take-le i s (omega arith))

  next : register_octets (take (i + 1) s) ≡ w ++ octets_of 8 (register s i)
  unfolding w register_octets
  next =
      ap register_octets (ap (λ (k : ℕ). take k s) (add-one i) ∙ take-suc s i 0 more)
      ∙ octets-in-append (take i s) (register s i ∷ [])
      ∙ ap (λ (x : List ℕ). w ++ x) (append-nil (octets_of 8 (register s i)))

  length-next : length (register_octets (take (i + 1) s)) ≡ 8 * i + 8
  length-next = ap length next ∙ length-append w (octets_of 8 (register s i)) ∙ omega (arith, length-w, length-octets 8 (register s i))

  behind : drop (8 * i + 8) room ≡ drop (8 * i + 8) room₀
  unfolding w
  behind =
      sym (drop-drop 8 (8 * i) room)
      ∙ ap (drop 8) (ap (drop (8 * i)) e ∙ drop_at w (drop (length w) room₀) (8 * i) length-w ∙ ap (λ (k : ℕ). drop k room₀) length-w)
      ∙ drop-drop 8 (8 * i) room₀

  pub stored-turn : {b y : List ℕ} → b ≡ octets_of 8 (register s i)
      → y ≡ take (length b) b ++ drop (length b) (mid_of (8 * i) (length room - 8 * i) room)
      → put_mid (8 * i) (length room - 8 * i) room y ≡ written (register_octets (take (i + 1) s)) room₀
  unfolding w
  stored-turn {b} eb ey =
      copied-end room b (8 * i) ey
      ∙ ap₂ (λ (p q : List ℕ). p ++ q) (ap (take (8 * i)) e ∙ take_at w (drop (length w) room₀) (8 * i) length-w)
      (ap₂ (λ (p q : List ℕ). p ++ q) eb
      (ap (λ (k : ℕ). drop (8 * i + k) room) (ap length eb ∙ length-octets 8 (register s i)) ∙ behind
      ∙ ap (λ (k : ℕ). drop k room₀) (sym length-next)))
      ∙ sym (append_assoc w (octets_of 8 (register s i)) (drop (length (register_octets (take (i + 1) s))) room₀))
      ∙ ap (λ (x : List ℕ). x ++ drop (length (register_octets (take (i + 1) s))) room₀) (sym next)

-- ---- the registers before the steps: x is copied to the start of 256 zeros, and its blocks go behind A

module _ (x p : List ℕ) (most : length x ≤ 256) (e : p ≡ take (length x) x ++ drop (length x) (replicate 256 0)) where
  m : ℕ
  m = length x

  filled : p ≡ x ++ replicate (256 - m) 0
  unfolding m
  filled = e ∙ ap₂ (λ (a b : List ℕ). a ++ b) (take-length x) (drop-replicate (length x) 256 0)

  pub length-filled : length p ≡ 256
  unfolding m
  length-filled = ap length filled ∙ length-append x (replicate (256 - m) 0) ∙ omega (arith, length-replicate {A = ℕ} (256 - length x) 0)

  front : take (8 * blocks (length x)) p ≡ pad_to_blocks x
  unfolding pad_to_blocks m
  front =
      ap₂ take (let z : 8 * blocks (length x) ≡ length x + (8 * blocks (length x) - length x) = omega arith in z) filled
      ∙ take-append-add x (replicate (256 - m) 0) (8 * blocks (length x) - length x)
      ∙ ap (λ (r : List ℕ). x ++ r) (take-replicate (8 * blocks (length x) - length x) (256 - m) 0 (omega arith))

  pub begun-is : {s : List ℕ}
      → s ≡ registers (length {A = ℕ} (take (blocks (length x) + 1 - 1) (replicate 32 0))) (take (8 * blocks (length x)) p)
      → initial_value (length x) ∷ (s ++ drop (blocks (length x) + 1 - 1) (replicate 32 0))
      ≡ start_registers x ++ replicate (32 - blocks (length x)) 0
  unfolding start_registers
  begun-is es =
      ap₂ (λ (a b : List ℕ). initial_value (length x) ∷ (a ++ b))
      (es ∙ ap₂ registers (length-take-le {A = ℕ} (blocks (length x) + 1 - 1) (replicate 32 0) (omega arith) ∙ less) front)
      (ap (λ (k : ℕ). drop k (replicate 32 0)) less ∙ drop-replicate (blocks (length x)) 32 0)
    where
      less : blocks (length x) + 1 - 1 ≡ blocks (length x)
      less = omega arith
