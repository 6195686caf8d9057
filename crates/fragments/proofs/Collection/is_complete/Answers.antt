use mathlib.Core.Path.{ap}
use lib.Dec.{eqb}
use Rattle.fragments.specs.declared.Collection.{Collection}
use Rattle.fragments.specs.Collection.{collection_of}
use Rattle.fragments.proofs.Collection.is_complete.Goals as goal

pub returns : goal.returns
unfolding collection_of
returns c = λ w e. ap (λ (x : Collection). eqb x.count x.total) e
