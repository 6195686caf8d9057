-- The code that wraps: the registers stand at the start of an array of 33.
use mathlib.Core.Path.{◌≡◌, sym, ap, ap₂, ◌∙◌}
use mathlib.Core.List.{List, ◌++◌}
use Prim.Native.Nat.{ℕ, ◌+◌, ◌-◌, ◌≤◌}
use native.Mathlib.Numerals.{add-one}
use native.Mathlib.Omega.{arith}
use lib.ListN.{length, take, drop, replicate, length-append}
use lib.Seq.{take_at}
use Rattle.octets.specs.Octets.{Octets}
use Rattle.fips197.specs.Key.{Key}
use Rattle.rfc5649.specs.Wrap.{blocks, register_octets, wrap_of, start_registers}
use Rattle.rfc5649.specs.inner.Unwrap.{forward}
use Rattle.rfc5649.proofs.Steps.{forward-undone}
use Rattle.rfc5649.proofs.Wrapping.{start-registers, wrap-registers}

-- b is the array before the steps, f its first registers after them

module _ (x b : List ℕ) (o : Octets x) (least : 1 ≤ length x) (most : length x ≤ 256)
    (eb : b ≡ start_registers x ++ replicate (32 - blocks (length x)) 0) where
  end : ℕ
  end = blocks (length x) + 1

  start-size : length (start_registers x) ≡ end
  unfolding end
  start-size = (start-registers x o most).size ∙ sym (add-one (blocks (length x)))

  front : take end b ≡ start_registers x
  unfolding end
  front = ap (take end) eb ∙ take_at (start_registers x) (replicate (32 - blocks (length x)) 0) end start-size

  pub front-count : blocks (length x) + 1 ≡ length (take (blocks (length x) + 1) b)
  unfolding end
  front-count = sym (ap length front ∙ start-size)

  module _ (key f : List ℕ) (is : Key key) (ef : f ≡ forward key (blocks (length x) + 1 - 1) (take (blocks (length x) + 1) b)) where
    turned : f ≡ forward key (blocks (length x)) (start_registers x)
    unfolding end
    turned = ef ∙ ap₂ (forward key) (let z : blocks (length x) + 1 - 1 ≡ blocks (length x) = omega arith in z) front

    count : length f ≡ end
    unfolding end
    count =
        ap length turned
        ∙ ((forward-undone key is (blocks (length x)) (omega arith) (omega arith)).keeps (start_registers x) (start-registers x o most)).size
        ∙ sym (add-one (blocks (length x)))

    pub front_of : take (blocks (length x) + 1) (f ++ drop (blocks (length x) + 1) b) ≡ f
    unfolding end
    front_of = take_at f (drop end b) end count

    pub front-within : blocks (length x) + 1 ≤ length (f ++ drop (blocks (length x) + 1) b)
    unfolding end
    front-within = omega (arith, count, length-append f (drop end b))

    pub front_kept : blocks (length x) + 1 ≡ length (take (blocks (length x) + 1) (f ++ drop (blocks (length x) + 1) b))
    unfolding end
    front_kept = sym (ap length front_of ∙ count)

    pub wrapped-is : register_octets (take (blocks (length x) + 1) (f ++ drop (blocks (length x) + 1) b)) ≡ wrap_of key x
    wrapped-is = ap register_octets (front_of ∙ turned) ∙ sym (wrap-registers key x is o)
