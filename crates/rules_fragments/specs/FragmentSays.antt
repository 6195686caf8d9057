-- What the theorems on fragments say, in the customer's words. No contract cites this file.
use Rattle.std.specs.Prelude.{ℕ, ◌≡◌, true, ◌⊎◌, List}
use Rattle.state.specs.declared.State.{State}
use Rattle.fragments.specs.declared.Collection.{Collection}
use Rattle.fragments.specs.Collection.{collection_of, empty_collection, held_in, fit}
use Rattle.rules_fragments.specs.FragmentOutcome.{FragmentAnswer, refused, passed_over, waiting, complete}

-- two outcomes of a fragment are the same: answer, member, collection and room
pub record SameGathered (a b : FragmentAnswer) (next other : State) (c d : Collection) (left rest : List ℕ) : Type 0 where
  pub answer : a ≡ b
  pub member : next ≡ other
  pub collection : c ≡ d
  pub room : left ≡ rest

-- a collection that is empty or fit, with 0 in every place that it does not use: it is made of what it holds
pub record Sound (c : Collection) : Type 0 where
  pub empty-or-fit : (c ≡ empty_collection) ⊎ (fit c ≡ true)
  pub blank : c ≡ collection_of (held_in c)

-- the collection after a fragment, had `c` been handed in: "A refused fragment leaves the collection as it was", and so does one that is
-- passed over
abbrev pub kept_having : Collection → FragmentAnswer → Collection → Collection
kept_having c (refused n offset) kept = c
kept_having c passed_over kept = c
kept_having c waiting kept = kept
kept_having c (complete n offset) kept = kept
