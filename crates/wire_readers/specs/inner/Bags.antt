-- What `bag_parts` answers on key bags whose layout is whole: the first one; the others follow at its end, and are whole too. `fresh` says
-- whether fresh keys are read in the Rekey SA's bag.
use Rattle.std.specs.Prelude.{ℕ, ◌≡◌, List, ◌∷◌, Bool, true, drop}
use Rattle.octets.specs.Walk.{part}
use Rattle.wire_attributes.specs.Layout.{attributes}
use Rattle.wire_readers.specs.inner.Values.{is_whole, items_of, attributes_in}
use Rattle.wire_readers.specs.inner.Policies.{Heads}
use Rattle.wire_readers.specs.declared.policy.Parts.{Parts}
use Rattle.wire_bags.specs.Bag.{Bag, place_of, bag_of, bags}

abbrev pub bags_in : Bool → List ℕ → List Bag
bags_in fresh s = items_of (bags fresh 0 s)

pub record BagIs (fresh : Bool) (s : List ℕ) (r : Parts) : Type 0 where
  pub head : Heads s r
  pub item : bags_in fresh s ≡ bag_of fresh s (attributes_in (place_of fresh r.first) (part s r.body r.end))
      ∷ bags_in fresh (drop r.end s)
  pub held : is_whole (attributes (place_of fresh r.first) 0 (part s r.body r.end)) ≡ true
  pub rest : is_whole (bags fresh 0 (drop r.end s)) ≡ true
