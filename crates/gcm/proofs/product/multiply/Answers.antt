use mathlib.Core.Path.{ap, ◌∙◌}
use Prim.Native.Nat.{ℕ}
use native.Mathlib.Omega.{arith}
use lib.Bits.{bit_xor}
use Rattle.sp800_38d.specs.Product.{v_at}
use Rattle.gcm.specs.inner.Halves.{pair_number}
use Rattle.gcm.specs.inner.Multiples.{multiple_of}
use Rattle.gcm.proofs.MultipleLaws.{next-digit, all_digits, no_bits}
use Rattle.gcm.proofs.product.multiply.Goals as goal

-- `gcm::product::multiply` meets its contract.

pub loop-n-init : goal.loop-n-init
unfolding pair_number
loop-n-init c = record { most = omega arith; is = λ y m. no_bits (pair_number c.args.x) y }

pub loop-n-preserved : goal.loop-n-preserved
loop-n-preserved c =
    let a = c.args in
    let d = c.digit_at-d in
    record {
      most = omega arith;
      is = λ y m. next-digit (pair_number a.x) y c.loop-n.n (omega arith) c.loop-n.invariant.most (c.loop-n.invariant.is y m)
          (c.step-z.ensures y m ∙ ap (λ (k : ℕ). bit_xor (multiple_of y k) (v_at (pair_number c.loop-n.z) 4)) d.ensures.0);
    }

pub returns : goal.returns
returns c y m =
    all_digits (pair_number c.args.x) y c.loop-n.n (omega arith) (c.loop-n.invariant.is y m)
