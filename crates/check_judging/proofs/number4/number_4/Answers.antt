use mathlib.Core.Path.{ap, ◌∙◌}
use Rattle.rules_refusals.specs.Refusals.{one}
use Rattle.check_judging.specs.inner.Tests.{number4_in}
use Rattle.check_judging.proofs.Tests.{joined, joined_onto, joined_is}
use Rattle.check_judging.proofs.number4.number_4.Goals as goal

pub returns : goal.returns
unfolding joined joined_onto
returns c =
    let r = c.clauses_4-c in
    joined_is (number4_in r.result) ∙ ap one r.ensures
