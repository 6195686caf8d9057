-- What the readers' answers say of a key bag, with what it holds.
use Rattle.wire_attributes.specs.declared.Broken.{Broken}
use Rattle.std.specs.Prelude.{Result, Ok}
use Prim.Native.Nat.{ℕ, ◌+◌}
use mathlib.Core.Path.{◌≡◌, ap, sym, ◌∙◌}
use mathlib.Core.List.{List}
use mathlib.Core.Bool.{Bool, true, false}
use native.Mathlib.Omega.{arith}
use lib.ListN.{drop}
use Rattle.octets.specs.Numbers.{oct}
use Rattle.octets.specs.Walk.{be16, part, Reading, mapped, within}
use Rattle.octets.proofs.Walks.{Takes, took, takes-mapped, takes-closed, opened-is, opened-not, takes-opened}
use Rattle.wire_attributes.specs.Attribute.{Attribute}
use Rattle.wire_attributes.specs.Layout.{attributes}
use Rattle.wire_attributes.specs.Answers.{broken_at, layout_of, spot_of}
use Rattle.wire_attributes.specs.declared.tables.Place.{Place}
use Rattle.wire_attributes.proofs.Loops.{held_whole, held-broken, spot-mapped}
use Rattle.wire_policies.specs.Policy.{head_size, head_fits}
use Rattle.wire_policies.proofs.HeadLaws.{head-is}
use Rattle.wire_bags.specs.Bag.{place_of, bag_of, bag}

module _ (fresh : Bool) where
  module _ (b : ℕ) (s : List ℕ) where
    holds : Reading (List Attribute)
    holds = within (head_size s) (be16 s 2) (attributes (place_of fresh (oct s 0))) b s

    pub bad : head_fits s ≡ false → broken_at b ≡ spot_of s (bag fresh b s)
    unfolding bag holds
    bad e = sym (ap (spot_of s) (opened-not b (head_fits s) (mapped (bag_of fresh s) holds) e))

    module _ (fit : head_fits s ≡ true) (z n : ℕ) (p : Place) (zq : z ≡ head_size s) (nq : n ≡ be16 s 2)
        (pq : p ≡ place_of fresh (oct s 0)) where
      inner : (y : Result (Unit {0}) Broken) → y ≡ layout_of (attributes p (b + z) (part s z n))
          → y ≡ layout_of (attributes (place_of fresh (oct s 0)) (b + head_size s) (part s (head_size s) (be16 s 2)))
      inner y q =
          q ∙ ap (λ (u : ℕ). layout_of (attributes p (b + u) (part s u n))) zq
          ∙ ap (λ (u : ℕ). layout_of (attributes p (b + head_size s) (part s (head_size s) u))) nq
          ∙ ap (λ (u : Place). layout_of (attributes u (b + head_size s) (part s (head_size s) (be16 s 2)))) pq

      out : spot_of s holds ≡ spot_of s (bag fresh b s)
      unfolding bag holds
      out = spot-mapped (bag_of fresh s) s holds ∙ sym (ap (spot_of s) (opened-is b (head_fits s) (mapped (bag_of fresh s) holds) fit))

      pub good : Ok tt ≡ layout_of (attributes p (b + z) (part s z n)) → Ok n ≡ spot_of s (bag fresh b s)
      unfolding holds
      good q =
          ap Ok nq
          ∙ held_whole (attributes (place_of fresh (oct s 0))) b s (head_size s) (be16 s 2) (head-is s fit).1 (inner (Ok tt) q) ∙ out

      pub inner-broken : (o : ℕ) → broken_at o ≡ layout_of (attributes p (b + z) (part s z n)) → broken_at o ≡ spot_of s (bag fresh b s)
      unfolding holds
      inner-broken o q =
          held-broken (attributes (place_of fresh (oct s 0))) b s (head_size s) (be16 s 2) o (inner (broken_at o) q) ∙ out

  pub takes : (b : ℕ) (s : List ℕ) → Takes s (bag fresh b s)
  unfolding bag
  takes b s =
      let x = within (head_size s) (be16 s 2) (attributes (place_of fresh (oct s 0))) b s in
      takes-opened s b (head_fits s) (mapped (bag_of fresh s) x)
      (λ e.
      let f = head-is s e in
      takes-mapped (bag_of fresh s) s x
      (takes-closed s (drop (be16 s 2) s) (attributes (place_of fresh (oct s 0)) (b + head_size s) (part s (head_size s) (be16 s 2)))
      (took s (be16 s 2) (omega (arith, f.0)) f.1)))
