-- Octets that differ in nothing that is read are the same key bag.
use Prim.Native.Nat.{ℕ}
use mathlib.Core.Path.{◌≡◌, sym, ◌∙◌, subst}
use mathlib.Core.List.{List}
use mathlib.Core.Bool.{Bool}
use native.Mathlib.Omega.{arith}
use lib.ListN.{length}
use Rattle.octets.specs.Ignored.{Alike}
use Rattle.octets.proofs.Ignored.{length-all, alike_all, row_sized, row-alike}
use Rattle.wire_attributes.specs.Grammar.{Attributes}
use Rattle.wire_attributes.specs.declared.tables.Place.TheVariants as place
use Rattle.wire_policies.specs.Ignored.{reserved_second}
use Rattle.wire_policies.proofs.AlikeLaws.{reserved-sized, same-reserved}
use Rattle.wire_bags.specs.Bag.{MemberKeyBag, Bag, group_keys, member_keys}
use Rattle.wire_bags.specs.Grammar.{IsMemberKeyBag, IsBag, is-group, is_member, Bags}
use Rattle.wire_bags.specs.Ignored.{bag_mask, bags_mask}

member_alike : (o : List ℕ) (x : MemberKeyBag) → IsMemberKeyBag o x → (t : List ℕ) → Alike (reserved_second o) o t → IsMemberKeyBag t x
member_alike o x i t h =
    let e = same-reserved o t h in
    record {
      first = sym e.first ∙ i.first;
      size = sym e.size ∙ i.size ∙ e.long;
      least = omega (arith, e.long, i.least);
      attributes = i.attributes;
      held = subst (λ (u : List ℕ). Attributes place.MemberBag u i.attributes) e.rest i.held;
      keys = i.keys;
    }

module _ (fresh : Bool) where
  bag-sized : (o : List ℕ) (x : Bag) (i : IsBag fresh o x) → length (bag_mask fresh o x i) ≡ length o
  bag-sized o (group_keys x) (is-group i) = length-all o
  bag-sized o (member_keys x) (is_member i) = reserved-sized o i.least

  pub bag-alike : (o : List ℕ) (x : Bag) (i : IsBag fresh o x) (t : List ℕ) → Alike (bag_mask fresh o x i) o t → IsBag fresh t x
  bag-alike o (group_keys x) (is-group i) t h = subst (λ (u : List ℕ). IsBag fresh u (group_keys x)) (alike_all o t h) (is-group i)
  bag-alike o (member_keys x) (is_member i) t h = is_member (member_alike o x i t h)

  pub bags-sized : {s : List ℕ} {l : List Bag} (r : Bags fresh s l) → length (bags_mask fresh r) ≡ length s
  bags-sized r = row_sized (bag_mask fresh) bag-sized bag-alike r

  pub bags-alike : {s : List ℕ} {l : List Bag} (r : Bags fresh s l) (t : List ℕ) → Alike (bags_mask fresh r) s t → Bags fresh t l
  bags-alike r t h = row-alike (bag_mask fresh) bag-sized bag-alike r t h
