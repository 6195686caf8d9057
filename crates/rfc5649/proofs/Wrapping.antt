-- What is wrapped is the registers' octets, and opening is the exact inverse of wrapping.
use mathlib.Core.Path.{◌≡◌, refl, sym, ap, ap₂, ◌∙◌, subst}
use mathlib.Core.Bool.{Bool, true, false}
use mathlib.Core.List.{List, ◌∷◌, ◌++◌, append-nil}
use Prim.Native.Nat.{ℕ, suc, ◌+◌, ◌*◌, ◌-◌, ◌≤◌}
use native.Mathlib.Numerals.{add-one}
use native.Mathlib.Omega.{arith}
use lib.Dec.{T, eqb, eqb→eq}
use lib.ListN.{length, replicate, length-append, length-replicate}
use lib.Seq.{take_all}
use lib.Bits.{xor_zero_r}
use Rattle.octets.specs.Numbers.{number, octets_of}
use Rattle.octets.specs.Octets.{Octets}
use Rattle.octets.proofs.RoundTrip.{octets-number}
use Rattle.octets.proofs.Octets.{join-octets, zero-octets}
use Rattle.lists.proofs.Undo.{Undo}
use Rattle.fips197.specs.Key.{Key}
use Rattle.fips197.specs.Cipher.{cipher}
use Rattle.fips197.proofs.Inverse.{cipher-block}
use Rattle.rfc5649.specs.Steps.{join_registers, msb64, lsb64, stored, step}
use Rattle.rfc5649.specs.Wrap.{initial_value, blocks, pad_to_blocks, registers, register_octets, wrap_by, wrap_of, start_registers}
use Rattle.rfc5649.specs.Opens.{Opens}
use Rattle.rfc5649.specs.inner.Unwrap.{forward_by, forward, backward}
use Rattle.rfc5649.proofs.Registers.{Registers, cons-registers, registers-are, octets-registers, registers-octets, length-octets-in}
use Rattle.rfc5649.proofs.Blocks.{joined-block, joined-parts}
use Rattle.rfc5649.proofs.Steps.{forward-undone, backward-undone}

-- ---- padding

pub length-padded : (x : List ℕ) → length (pad_to_blocks x) ≡ 8 * blocks (length x)
unfolding pad_to_blocks
length-padded x =
    length-append x (replicate (8 * blocks (length x) - length x) 0)
    ∙ omega (arith, length-replicate {A = ℕ} (8 * blocks (length x) - length x) 0)

pub padded-octets : (x : List ℕ) → Octets x → Octets (pad_to_blocks x)
unfolding pad_to_blocks
padded-octets x o = join-octets x (replicate (8 * blocks (length x) - length x) 0) o (zero-octets (8 * blocks (length x) - length x))

pub start-registers : (x : List ℕ) → Octets x → length x ≤ 256 → Registers (suc (blocks (length x))) (start_registers x)
unfolding start_registers
start-registers x o h = cons-registers (omega arith) (registers-are (blocks (length x)) (pad_to_blocks x) (padded-octets x o))

-- ---- what is wrapped

-- one block: the cipher's block is the octets of what one step with t = 0 stores
one_block : (key x : List ℕ) → Key key → Octets x → blocks (length x) ≡ 1
    → cipher key (octets_of 8 (initial_value (length x)) ++ pad_to_blocks x) ≡ register_octets (step key 0 1 (start_registers x))
unfolding step stored start_registers registers register_octets
one_block key x is o e =
    ap (λ (p : List ℕ). cipher key (octets_of 8 a ++ p)) (sym whole)
    ∙ sym (joined-parts b (cipher-block is (joined-block a (number 8 (pad_to_blocks x)))))
    ∙ ap₂ {C = List ℕ} (λ (h : ℕ) (t : List ℕ). octets_of 8 h ++ t) (sym (xor_zero_r (msb64 b))) (sym (append-nil (octets_of 8 (lsb64 b))))
    ∙ ap (λ (n : ℕ). register_octets (step key 0 1 (a ∷ registers n (pad_to_blocks x)))) (sym e)
  where
    a : ℕ
    a = initial_value (length x)

    b : List ℕ
    b = cipher key (join_registers a (number 8 (pad_to_blocks x)))

    whole : octets_of 8 (number 8 (pad_to_blocks x)) ≡ pad_to_blocks x
    whole =
        octets-number 8 (pad_to_blocks x) (padded-octets x o) (omega (arith, length-padded x, e))
        ∙ take_all 8 (pad_to_blocks x) (omega (arith, length-padded x, e))

pub wrap-registers : (key x : List ℕ) → Key key → Octets x →
    wrap_of key x ≡ register_octets (forward key (blocks (length x)) (start_registers x))
unfolding wrap_of forward start_registers
wrap-registers key x is o = by (eqb (blocks (length x)) 1) refl
  where
    by : (one : Bool) → eqb (blocks (length x)) 1 ≡ one →
        wrap_by one key x ≡ register_octets (forward_by one key (blocks (length x)) (start_registers x))
    by true e = one_block key x is o (eqb→eq (blocks (length x)) 1 (subst T (sym e) tt))
    by false e = refl

-- ---- opening is the inverse of wrapping

-- what wraps to these octets is found by unwrapping them
module _ (key wrapped x : List ℕ) (is : Key key) (h : Opens key wrapped x) where
  abbrev n : ℕ
  n = blocks (length x)

  undo : Undo (Registers (suc n)) (forward key n) (backward key n)
  undo = forward-undone key is n (omega (arith, h.least)) (omega (arith, h.most))

  begun : Registers (suc n) (start_registers x)
  begun = start-registers x h.octets h.most

  whole : wrapped ≡ register_octets (forward key n (start_registers x))
  whole = sym h.wraps ∙ wrap-registers key x is h.octets

  pub length-wrapped : length wrapped ≡ 8 * suc n
  length-wrapped =
      ap length whole ∙ length-octets-in (forward key n (start_registers x))
      ∙ ap (λ (k : ℕ). 8 * k) (undo.keeps (start_registers x) begun).size

  pub unwrapped : backward key n (registers (suc n) wrapped) ≡ start_registers x
  unwrapped =
      ap (λ (w : List ℕ). backward key n (registers (suc n) w)) whole
      ∙ ap (backward key n) (registers-octets (suc n) (forward key n (start_registers x)) (undo.keeps (start_registers x) begun))
      ∙ undo.undone (start_registers x) begun

  -- the padded octets stand in the registers behind A
  pub padded-is : register_octets (registers n (pad_to_blocks x)) ≡ pad_to_blocks x
  padded-is = octets-registers n (pad_to_blocks x) (padded-octets x h.octets) (length-padded x)

-- what unwrapping finds, with its checks, wraps to these octets
module _ (key wrapped : List ℕ) (n : ℕ) (is : Key key) (o : Octets wrapped) (size : length wrapped ≡ 8 * suc n) (least : 1 ≤ n)
    (most : n ≤ 32) where
  undo' : Undo (Registers (suc n)) (backward key n) (forward key n)
  undo' = backward-undone key is n least most

  found : Registers (suc n) (registers (suc n) wrapped)
  found = registers-are (suc n) wrapped o

  pub backward-registers : Registers (suc n) (backward key n (registers (suc n) wrapped))
  backward-registers = undo'.keeps (registers (suc n) wrapped) found

  pub opens : (x : List ℕ) → Octets x → blocks (length x) ≡ n → backward key n (registers (suc n) wrapped) ≡ start_registers x →
      Opens key wrapped x
  opens x p b e =
      record {
        least = omega arith;
        most = omega arith;
        octets = p;
        wraps = wrap-registers key x is p ∙ ap (λ (k : ℕ). register_octets (forward key k (start_registers x))) b
            ∙ ap (λ (s : List ℕ). register_octets (forward key n s)) (sym e)
            ∙ ap register_octets (undo'.undone (registers (suc n) wrapped) found)
            ∙ octets-registers (suc n) wrapped o size;
      }

-- 8 octets for A and each block
pub length-wrap : (key x : List ℕ) → Key key → Octets x → 1 ≤ length x → length x ≤ 256
    → length (wrap_of key x) ≡ 8 * (blocks (length x) + 1)
length-wrap key x is o least most =
    length-wrapped key (wrap_of key x) x is (record { least = least; most = most; octets = o; wraps = refl })
    ∙ ap (λ (k : ℕ). 8 * k) (sym (add-one (blocks (length x))))
