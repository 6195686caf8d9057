-- The registers that pass the checks are those that some octets have before the steps, and no others.
use mathlib.Core.Path.{◌≡◌, sym, ap, ap₂, ◌∙◌, subst}
use mathlib.Core.Bool.{true, false}
use mathlib.Core.List.{List, [], ◌∷◌, ◌++◌, append_assoc}
use Prim.Native.Nat.{ℕ, zero, suc, ◌+◌, ◌*◌, ◌-◌, ◌^◌, ◌≤◌, ◌<◌}
use native.Mathlib.Omega.{arith}
use lib.ListN.{length, take, drop, replicate, length-append, length-drop, length-replicate, take-append-drop, replicate-append-replicate}
use lib.Seq.{drop-cons, take_at, take-append-add, length-take-le, get_or-drop}
use Rattle.octets.specs.Octets.{Octets}
use Rattle.octets.proofs.Octets.{join-octets, take-octets, zero-octets}
use Rattle.lists.proofs.Parts.{drop-replicate}
use Rattle.lists.proofs.Replicate.{take-replicate}
use Rattle.rfc5649.specs.Steps.{register}
use Rattle.rfc5649.specs.Wrap.{initial_value, blocks, pad_to_blocks, registers, register_octets, start_registers}
use Rattle.keywrap.specs.Answers.{written, Wrote}
use Rattle.keywrap.specs.inner.Blank.{blank}
use Rattle.rfc5649.specs.inner.Unwrap.{Begins, count_in, zero_from}
use Rattle.rfc5649.proofs.Registers.{Registers, registers-octets, octets-registers, length-octets-in, octets-in-octets}
use Rattle.rfc5649.proofs.Wrapping.{length-padded, padded-octets}
use Rattle.rfc5649.proofs.Checks.{count-told, told-count, zero-from, zero-behind, from_zero}

module _ (s : List ℕ) (n : ℕ) (is : Registers 33 s) (least : 1 ≤ n) (most : n ≤ 32) where
  -- R[1], .., R[n]
  abbrev r : List ℕ
  r = take n (drop 1 s)

  split : take (suc n) s ≡ register s 0 ∷ r
  split = ap (take (suc n)) (drop-cons s 0 0 (omega (arith, is.size)))

  r-registers : Registers n r
  r-registers =
      record {
        size = length-take-le n (drop 1 s) (omega (arith, length-drop 1 s, is.size));
        small = small n (drop 1 s) (λ i. subst (λ (v : ℕ). v < 256 ^ 8) (sym (get_or-drop 1 s i 0)) (is.small (1 + i)));
      }
    where
      small : (k : ℕ) (l : List ℕ) → ((i : ℕ) → register l i < 256 ^ 8) → (i : ℕ) → register (take k l) i < 256 ^ 8
      small zero l h i = omega arith
      small (suc k) [] h i = h i
      small (suc k) (x ∷ l) h zero = h 0
      small (suc k) (x ∷ l) h (suc i) = small k l (λ j. h (suc j)) i

  module _ (x : List ℕ) (b : Begins n (take (suc n) s) x) where
    same : register s 0 ∷ r ≡ start_registers x
    same = sym split ∙ b.is

    -- A tells the count
    told : count_in (register s 0) n ≡ length x
    unfolding start_registers
    told = ap (λ (a : ℕ). count_in a n) (ap (λ (l : List ℕ). register l 0) same) ∙ told-count (length x) n b.size most

    behind : register_octets r ≡ pad_to_blocks x
    unfolding start_registers
    behind =
        ap register_octets (ap (drop 1) same)
        ∙ octets-registers (blocks (length x)) (pad_to_blocks x) (padded-octets x b.octets) (length-padded x)

  pub none_told : count_in (register s 0) n ≡ 0 → (x : List ℕ) → Begins n (take (suc n) s) x → ⊥
  none_told e x b = omega (arith, told x b, b.size)

  module _ (m : ℕ) (out : List ℕ) (counted : count_in (register s 0) n ≡ m)
      (e : out ≡ written (register_octets (take (n + 1 - 1) (drop 1 s))) blank) where
    length-r : length (register_octets r) ≡ 8 * n
    length-r = length-octets-in r ∙ ap (λ (k : ℕ). 8 * k) r-registers.size

    out-is : out ≡ register_octets r ++ replicate (256 - 8 * n) 0
    unfolding blank
    out-is =
        e ∙ ap (λ (k : ℕ). written (register_octets (take k (drop 1 s))) blank) (let z : n + 1 - 1 ≡ n = omega arith in z)
        ∙ ap (λ (l : List ℕ). register_octets r ++ l)
        (ap (λ (k : ℕ). drop k (replicate 256 0)) length-r ∙ drop-replicate (8 * n) 256 0)

    pub length-out : length out ≡ 256
    length-out =
        ap length out-is ∙ length-append (register_octets r) (replicate (256 - 8 * n) 0)
        ∙ omega (arith, length-r, length-replicate {A = ℕ} (256 - 8 * n) 0)

    -- the blocks hold the octets that are counted
    pub padded-holds : (m ≡ 0 → ⊥) → m ≤ length (take (8 * n) out)
    padded-holds nonzero =
        let e = (count-told (register s 0) n m counted nonzero).1 in
        let l = length-take-le (8 * n) out (omega (arith, length-out)) in
        omega arith

    out-octets : Octets out
    out-octets =
        subst Octets (sym out-is)
        (join-octets (register_octets r) (replicate (256 - 8 * n) 0) (octets-in-octets r) (zero-octets (256 - 8 * n)))

    -- the padding is checked to the end of the blocks
    zero_same : zero_from m (take (8 * n) out) ≡ zero_from m out
    zero_same =
        ap (λ (l : List ℕ). zero_from m (take (8 * n) l)) out-is
        ∙ ap (zero_from m) (take_at (register_octets r) (replicate (256 - 8 * n) 0) (8 * n) length-r)
        ∙ sym (zero-behind (register_octets r) m (256 - 8 * n)) ∙ ap (zero_from m) (sym out-is)

    pub not-zero : zero_from m (take (8 * n) out) ≡ false → (x : List ℕ) → Begins n (take (suc n) s) x → ⊥
    unfolding pad_to_blocks
    not-zero h x b =
        let f : zero_from m out ≡ false = sym zero_same ∙ h in
        let g : zero_from m out ≡ true =
        ap₂ zero_from (sym counted ∙ told x b)
        (out-is ∙ ap (λ (l : List ℕ). l ++ replicate (256 - 8 * n) 0) (behind x b)
        ∙ append_assoc x (replicate (8 * blocks (length x) - length x) 0) (replicate (256 - 8 * n) 0)
        ∙ ap (λ (l : List ℕ). x ++ l) (replicate-append-replicate (8 * blocks (length x) - length x) (256 - 8 * n) 0))
        ∙ from_zero x (8 * blocks (length x) - length x + (256 - 8 * n))
        in
        let z : ◌≡◌ {A = ℕ} 0 1 = cc in
        omega arith

    module _ (nonzero : m ≡ 0 → ⊥) (zeros : zero_from m (take (8 * n) out) ≡ true) where
      a-is : register s 0 ≡ initial_value m
      a-is = (count-told (register s 0) n m counted nonzero).0

      m-blocks : blocks m ≡ n
      m-blocks = (count-told (register s 0) n m counted nonzero).1

      count : length (take m out) ≡ m
      count = length-take-le m out (omega (arith, length-out, m-blocks))

      whole : out ≡ take m out ++ replicate (256 - m) 0
      whole =
          sym (take-append-drop m out)
          ∙ ap (λ (l : List ℕ). take m out ++ l) (zero-from out m (sym zero_same ∙ zeros) ∙ ap (λ (k : ℕ). replicate (k - m) 0) length-out)

      -- the padded octets are the first 8 * n of those written
      padding : pad_to_blocks (take m out) ≡ register_octets r
      unfolding pad_to_blocks
      padding =
          ap (λ (k : ℕ). take m out ++ replicate (8 * blocks k - k) 0) count
          ∙ ap (λ (k : ℕ). take m out ++ replicate (8 * k - m) 0) m-blocks
          ∙ ap (λ (l : List ℕ). take m out ++ l) (sym (take-replicate (8 * n - m) (256 - m) 0 (omega (arith, m-blocks))))
          ∙ sym (take-append-add (take m out) (replicate (256 - m) 0) (8 * n - m))
          ∙ ap₂ take (let z : length (take m out) + (8 * n - m) ≡ 8 * n = omega (arith, count, m-blocks) in z) (sym whole ∙ out-is)
          ∙ take_at (register_octets r) (replicate (256 - 8 * n) 0) (8 * n) length-r

      pub found : Wrote (Begins n (take (suc n) s)) blank m out
      unfolding start_registers blank
      found =
          record {
            x = take m out;
            result = record {
              octets = take-octets m out out-octets;
              size = ap blocks count ∙ m-blocks;
              is = split ∙ ap₂ {C = List ℕ} ◌∷◌ (a-is ∙ ap initial_value (sym count))
                  (sym (registers-octets n r r-registers) ∙ ap₂ registers (sym m-blocks ∙ ap blocks (sym count)) (sym padding));
            };
            count = count;
            room-is = whole ∙ ap (λ (l : List ℕ). take m out ++ l)
                (ap (λ (k : ℕ). replicate (256 - k) 0) (sym count)
                ∙ sym (drop-replicate (length (take m out)) 256 0));
          }
