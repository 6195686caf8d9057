use mathlib.Core.Path.{ap, ◌∙◌}
use Rattle.rules_refusals.specs.Refusals.{one}
use Rattle.check_judging.specs.inner.Tests.{number7_in}
use Rattle.check_judging.proofs.Tests.{joined, joined_onto, joined_is}
use Rattle.check_judging.proofs.number7.number_7.Goals as goal

pub returns : goal.returns
unfolding joined joined_onto
returns c = let r = c.clauses_7-c in joined_is (number7_in r.result) ∙ ap one r.ensures
