use mathlib.Core.Path.{refl}
use Rattle.check_judging.proofs.number4.clauses_4.Goals as goal

pub returns : goal.returns
returns c = refl
