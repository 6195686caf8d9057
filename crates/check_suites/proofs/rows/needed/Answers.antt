use Rattle.std.proofs.Common.{◌≡◌, ℕ, ap, sym, ◌∙◌, arith}
use Rattle.std.specs.Prelude.{unwrap_or}
use Rattle.rules_refusals.specs.Fitness.{octets_needed}
use Rattle.state_keys.specs.Algorithms.{needed_by}
use Rattle.check_suites.proofs.RowLaws.{at_most}
use Rattle.check_suites.proofs.rows.needed.Goals as goal

pub returns : goal.returns
returns c =
    let a = c.args in
    let e : c.unwrap_or.result ≡ octets_needed (needed_by a.kind a.id a.bits) = c.unwrap_or.ensures ∙ ap octets_needed c.octets_needed.ensures in
    (e, omega (arith, e, at_most a.kind a.id a.bits))
