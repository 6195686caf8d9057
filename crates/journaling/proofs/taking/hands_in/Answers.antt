use Rattle.std.proofs.Common.{arith}
use Rattle.journaling.proofs.TakeLaws.{hands-short, hands-rekey, hands-other}
use Rattle.journaling.proofs.taking.hands_in.Goals as goal

-- `journaling::taking::hands_in` meets its contract.

pub returns-then-o-n : goal.returns-then-o-n
returns-then-o-n c = let s = c.args in hands-short s.n s.o.now (omega arith)

pub returns-then-wide-eq-GSA_REKEY : goal.returns-then-wide-eq-GSA_REKEY
returns-then-wide-eq-GSA_REKEY c =
    let s = c.args in
    hands-rekey s.n s.o.now (omega (arith, c.if-o-n.false)) (omega (arith, c.wide.ensures))

pub returns : goal.returns
returns c =
    let s = c.args in
    hands-other s.n s.o.now (omega (arith, c.if-o-n.false)) (λ q. omega (arith, q, c.wide.ensures))
