use mathlib.Core.Path.{refl}
use Rattle.check_judging.proofs.number6.clauses_6.Goals as goal

pub returns : goal.returns
returns c = refl
