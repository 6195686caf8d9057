use native.Mathlib.Omega.{arith}
use Rattle.check_suites.proofs.counts.SuiteCounts.plus.Goals as goal

pub overflow_add-result-6 : goal.overflow_add-result-6
overflow_add-result-6 c =
    let p = c.requires in
    record { fits = omega (arith, p.1, p.2.doubled, p.3.doubled) }
