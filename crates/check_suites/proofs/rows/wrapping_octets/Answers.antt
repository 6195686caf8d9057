use native.Mathlib.Omega.{arith}
use Rattle.check_suites.proofs.TestLaws.{key-wrap-type, no-key-wrap}
use Rattle.check_suites.proofs.rows.wrapping_octets.Goals as goal

pub returns-then-kind-eq-KWA : goal.returns-then-kind-eq-KWA
returns-then-kind-eq-KWA c =
    let a = c.args in
    (λ s. key-wrap-type a.kind a.id s c.needed.result c.if-kind-eq-KWA.true c.needed.ensures.0, c.needed.ensures.1)

pub returns : goal.returns
returns c = let a = c.args in (λ s. no-key-wrap a.kind a.id s c.if-kind-eq-KWA.false, omega arith)
