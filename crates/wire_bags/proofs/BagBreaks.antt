-- The reader of key bags breaks at an offset exactly when the relation says so, and where that offset lies.
use Prim.Native.Nat.{ℕ, ◌+◌}
use mathlib.Core.Path.{◌≡◌, ap}
use mathlib.Core.List.{List}
use mathlib.Core.Bool.{Bool}
use lib.ListN.{drop}
use Rattle.octets.specs.Numbers.{oct}
use Rattle.octets.specs.Walk.{be16, part, broken, mapped, closed, within}
use Rattle.octets.proofs.BreakLaws.{mapped-broken, closed-broken, structure-to, structure-from, row-to, row_from}
use Rattle.octets.proofs.BreakLaws.{Among, among-structure, among-row, among-part}
use Rattle.wire_attributes.specs.Layout.{attributes}
use Rattle.wire_attributes.specs.Breaks.{BreaksAttributes}
use Rattle.wire_attributes.proofs.BreakLaws.{attributes-to, attributes-from, among-attributes}
use Rattle.wire_policies.specs.Policy.{head_size, head_fits}
use Rattle.wire_policies.specs.Breaks.{FaultOfHead}
use Rattle.wire_policies.proofs.PolicyBreaks.{head-fault, head-unfit}
use Rattle.wire_bags.specs.Bag.{place_of, bag_of, bag, bags}
use Rattle.wire_bags.specs.Grammar.{IsBag}
use Rattle.wire_bags.specs.Breaks.{BreaksBag, BreaksBags}
use Rattle.wire_bags.proofs.BagLaws.{takes}
use Rattle.wire_bags.proofs.BagGrammar.{sound, complete}

module _ (fresh : Bool) where
  abbrev Holds : ℕ → List ℕ → ℕ → Type 0
  Holds b s o = BreaksAttributes (place_of fresh (oct s 0)) (b + head_size s) (part s (head_size s) (be16 s 2)) o

  pub bag-to : (b : ℕ) (s : List ℕ) (o : ℕ) → bag fresh b s ≡ broken o → BreaksBag fresh b s o
  unfolding bag
  bag-to b s o q =
      let x = attributes (place_of fresh (oct s 0)) (b + head_size s) (part s (head_size s) (be16 s 2)) in
      let w = within (head_size s) (be16 s 2) (attributes (place_of fresh (oct s 0))) b s in
      structure-to (FaultOfHead s) (Holds b s o) b (head_fits s) (mapped (bag_of fresh s) w) o (head-fault s) (head-unfit s)
      (λ t e. attributes-to (place_of fresh (oct s 0)) (b + head_size s) (part s (head_size s) (be16 s 2)) o
      (closed-broken (drop (be16 s 2) s) x o (mapped-broken (bag_of fresh s) w o e))) q

  pub bag-from : (b : ℕ) (s : List ℕ) (o : ℕ) → BreaksBag fresh b s o → bag fresh b s ≡ broken o
  unfolding bag
  bag-from b s o i =
      let w = within (head_size s) (be16 s 2) (attributes (place_of fresh (oct s 0))) b s in
      structure-from (FaultOfHead s) (Holds b s o) b (head_fits s) (mapped (bag_of fresh s) w) o (head-fault s) (head-unfit s)
      (λ j. ap (λ x. mapped (bag_of fresh s) (closed (drop (be16 s 2) s) x))
      (attributes-from (place_of fresh (oct s 0)) (b + head_size s) (part s (head_size s) (be16 s 2)) o j)) i

  pub bags-to : (b : ℕ) (s : List ℕ) (o : ℕ) → bags fresh b s ≡ broken o → BreaksBags fresh b s o
  bags-to b s o q = row-to (bag fresh) (takes fresh) (IsBag fresh) (sound fresh) (complete fresh) (BreaksBag fresh) bag-to bag-from b s o q

  pub bags-from : (b : ℕ) (s : List ℕ) (o : ℕ) → BreaksBags fresh b s o → bags fresh b s ≡ broken o
  bags-from b s o i = row_from (bag fresh) (takes fresh) (IsBag fresh) (sound fresh) (complete fresh) (BreaksBag fresh) bag-to bag-from i

  pub among-bags : (b : ℕ) (s : List ℕ) (o : ℕ) → BreaksBags fresh b s o → Among b s o
  among-bags b s o i =
      among-row (IsBag fresh) (BreaksBag fresh)
      (λ c r m h j. among-structure (FaultOfHead r) (Holds c r m) c r m h
      (λ n k. among-part c (head_size r) (be16 r 2) r m
      (among-attributes (place_of fresh (oct r 0)) (c + head_size r) (part r (head_size r) (be16 r 2)) m k)) j) i
