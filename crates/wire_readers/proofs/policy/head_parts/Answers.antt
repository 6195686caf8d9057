use native.Mathlib.Omega.{arith}
use mathlib.Core.Path.{◌≡◌, ap, ◌∙◌}
use Prim.Native.Nat.{ℕ, ◌+◌}
use Rattle.octets.specs.Numbers.{oct}
use Rattle.wire_policies.specs.Policy.{spi_size}
use Rattle.wire_policies.proofs.HeadLaws.{head-is}
use Rattle.wire_readers.proofs.policy.head_parts.Goals as goal

pub bounds-s-0 : goal.bounds-s-0
bounds-s-0 c =
    let f = head-is c.args.s.now c.requires in
    omega (arith, f.0, f.1)

pub be16_at-n-requires : goal.be16_at-n-requires
be16_at-n-requires c =
    let f = head-is c.args.s.now c.requires in
    omega (arith, f.0, f.1)

pub returns : goal.returns
returns c =
    let f = head-is c.args.s.now c.requires in
    let z : c.spi_size-z.result ≡ spi_size (oct c.args.s.now 0) = c.spi_size-z.ensures.0
    ∙ ap spi_size c.wide-p.ensures.0 in
    let n = c.be16_at-n.ensures.0 in
    record {
      first = c.wide-p.ensures.0;
      body = ap (λ (u : ℕ). 4 + u) z;
      end = n;
      some = omega arith;
      order = omega (arith, f.0, z, n);
      inside = omega (arith, f.1, n);
      two_octets = λ a b. c.be16_at-n.ensures.1;
    }
