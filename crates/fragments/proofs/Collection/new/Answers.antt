use mathlib.Core.List.{flat_map}
use mathlib.Core.Path.{refl}
use Rattle.fragments.specs.Collection.{collection_of}
use Rattle.fragments.proofs.Collection.new.Goals as goal

pub returns : goal.returns
unfolding collection_of flat_map
returns c = refl
