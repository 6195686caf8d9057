use mathlib.Core.Path.{◌≡◌}
use Prim.Native.Nat.{◌+◌, ◌*◌, ◌%◌}
use native.Mathlib.Omega.{arith}
use Rattle.aes.specs.inner.Rounds.{unite_of}
use Rattle.aes.proofs.rounds.unite.Goals as goal

-- `aes::rounds::unite` meets its contract.

pub returns : goal.returns
unfolding unite_of
returns c =
    let s = c.args.s in
    λ i. record {
      hi = (let z : s.a * 4294967296 + s.b ≡ s.a % 4294967296 * 4294967296 + s.b % 4294967296 = omega arith in z) i;
      lo = (let z : s.c * 4294967296 + s.d ≡ s.c % 4294967296 * 4294967296 + s.d % 4294967296 = omega arith in z) i;
    }
