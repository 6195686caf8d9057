use mathlib.Core.Path.{ap, ◌∙◌}
use Rattle.rules_refusals.specs.Refusals.{one}
use Rattle.check_judging.specs.inner.Tests.{keys_in}
use Rattle.check_judging.proofs.Tests.{joined, joined_onto, joined_is}
use Rattle.check_judging.proofs.number6.any_unfit_key.Goals as goal

pub returns : goal.returns
unfolding joined joined_onto
returns c = let r = c.clauses_6-c in joined_is (keys_in r.result) ∙ ap one r.ensures
