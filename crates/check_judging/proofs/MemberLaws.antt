-- What stands where the facts say that the Member Key Bag does: all WRAP_KEYs of a KD body that has one such bag at most.
use Prim.Native.Nat.{ℕ, zero, suc, ◌+◌, ◌<◌, ◌≤◌}
use mathlib.Core.Path.{◌≡◌, refl, ap, sym, ◌∙◌, subst}
use mathlib.Core.List.{List, [], ◌∷◌, append-nil, flat_map}
use mathlib.Core.Bool.{Bool, true, false, false≢true, cond}
use native.Mathlib.Omega.{arith}
use borrow.Author.Tests.{eqb-true}
use lib.ListN.{length, drop}
use lib.Dec.{eqb}
use Rattle.octets.specs.Walk.{part, Reading, whole}
use Rattle.octets.proofs.Walks.{tail, many-none}
use Rattle.lists.proofs.Cases.{bool_cases, lt-cases}
use Rattle.wire_attributes.specs.Attribute.{Attribute}
use Rattle.wire_attributes.specs.Tree.{WrapKey, values_of, wrap_keys}
use Rattle.wire_attributes.specs.Layout.{attribute, attributes}
use Rattle.wire_attributes.specs.declared.tables.Place.{Place}
use Rattle.wire_attributes.specs.declared.tables.Place.TheVariants.{MemberBag}
use Rattle.wire_attributes.proofs.AttributeLaws.{takes}
use Rattle.wire_bags.specs.Bag.{Bag, group_keys, member_keys, GroupKeyBag, MemberKeyBag, place_of, bags}
use Rattle.wire_readers.specs.inner.Values.{nowhere, is_whole, items_of, attributes_in}
use Rattle.wire_readers.specs.inner.Bags.{bags_in}
use Rattle.wire_readers.specs.declared.Stretch.{Stretch}
use Rattle.wire_readers.specs.declared.policy.Parts.{Parts}
use Rattle.wire_readers.proofs.BagsLaws.{bag-is, fits-first}
use Rattle.rules_refusals.specs.Contents.{member_bag_of}
use Rattle.check_bagkeys.specs.inner.Facts.{wraps_in}
use Rattle.check_bagkeys.specs.inner.Places.{member_from, member_in}
use Rattle.check_bagkeys.proofs.BagAt.{BagAt, no-bags, bag-there, bag-at}
use Rattle.check_bagkeys.proofs.PlaceLaws.{nothing-from, member-here, member-later}
use Rattle.check_pairing.proofs.NamesOf.{parts, heads}

-- the octets of the stretch are attributes of a Member Key Bag, and their WRAP_KEYs are those of the bags l
pub record MemberIs (k : List ℕ) (l : List Bag) (x : Stretch) : Type 0 where
  pub keys : wraps_in l ≡ wrap_keys MemberBag (attributes_in MemberBag (part k x.start x.end))
  pub held : is_whole (attributes MemberBag 0 (part k x.start x.end)) ≡ true
  pub order : x.start ≤ x.end
  pub inside : x.end ≤ length k

abbrev keys_in : List MemberKeyBag → List WrapKey
keys_in l = flat_map (λ (b : MemberKeyBag). b.keys) l

-- ---- a bag that is a Member Key Bag or not, at the front
taken : (t : Bool) (m : MemberKeyBag) (b : GroupKeyBag) (l : List Bag) → t ≡ true →
    flat_map member_bag_of (cond t (member_keys m) (group_keys b) ∷ l) ≡ m ∷ flat_map member_bag_of l
unfolding flat_map
taken true m b l e = refl
taken false m b l e = absurd (false≢true e)

passed : (t : Bool) (m : MemberKeyBag) (b : GroupKeyBag) (l : List Bag) → t ≡ false →
    flat_map member_bag_of (cond t (member_keys m) (group_keys b) ∷ l) ≡ flat_map member_bag_of l
unfolding flat_map
passed true m b l e = absurd (false≢true (sym e))
passed false m b l e = refl

only_one : (m : MemberKeyBag) (l : List MemberKeyBag) → length (m ∷ l) ≤ 1 → keys_in (m ∷ l) ≡ m.keys
unfolding flat_map
only_one m [] h = append-nil m.keys
only_one m (a ∷ l) h = absurd (omega arith)

module _ (fresh : Bool) (k : List ℕ) where
  none : (l : List Bag) → l ≡ [] → MemberIs k l nowhere
  unfolding flat_map values_of
  none l e =
      let a : attributes MemberBag 0 [] ≡ whole [] [] = many-none (attribute MemberBag) (takes MemberBag) 0 [] refl in
      record {
        keys = ap wraps_in e ∙ sym (ap (λ (x : Reading (List Attribute)). wrap_keys MemberBag (items_of x)) a);
        held = ap is_whole a;
        order = omega arith;
        inside = omega arith;
      }

  module _ (at : ℕ) (r : Parts) (b : BagAt fresh k at r) where
    here : eqb r.first 0 ≡ true → length (flat_map member_bag_of (bags_in fresh (drop at k))) ≤ 1 →
        MemberIs k (bags_in fresh (drop at k)) (record { start = at + r.body; end = at + r.end })
    here t few =
        let s = part k (at + r.body) (at + r.end) in
        let p : place_of fresh r.first ≡ MemberBag = ap (place_of fresh) (eqb-true r.first 0 t) in
        let g = ap (flat_map member_bag_of) b.item ∙ taken (eqb r.first 0) _ _ _ t in
        record {
          keys = ap keys_in g ∙ only_one _ _ (subst (λ (l : List MemberKeyBag). length l ≤ 1) g few)
              ∙ ap (λ (q : Place). wrap_keys MemberBag (attributes_in q s)) p;
          held = (λ i. is_whole (attributes (sym p i) 0 s)) ∙ b.held;
          order = omega (arith, b.order);
          inside = b.inside;
        }

    later : eqb r.first 0 ≡ false → flat_map member_bag_of (bags_in fresh (drop at k))
        ≡ flat_map member_bag_of (bags_in fresh (drop (at + r.end) k))
    later t = ap (flat_map member_bag_of) b.item ∙ passed (eqb r.first 0) _ _ _ t

  a-bag : (at : ℕ) → at < length k → is_whole (bags fresh 0 (drop at k)) ≡ true → (r : Parts) × BagAt fresh k at r
  a-bag at h e =
      let t = bag-there fresh k at h e in (
        parts (tail k at),
        bag-at fresh k at (parts (tail k at)) h (bag-is fresh (tail k at) t.1 t.0 (parts (tail k at))
            (heads (tail k at) (fits-first fresh (tail k at) t.1 t.0))),
      )

  from : (n at : ℕ) → length k ≤ at + n → is_whole (bags fresh 0 (drop at k)) ≡ true
      → length (flat_map member_bag_of (bags_in fresh (drop at k))) ≤ 1
      → MemberIs k (bags_in fresh (drop at k)) (member_from n at k)
  from zero at m e few =
      let h : length k ≤ at = omega (arith, m) in
      subst (MemberIs k (bags_in fresh (drop at k))) (sym (nothing-from fresh k 0 at h))
      (none (bags_in fresh (drop at k)) (no-bags fresh k at h))
  from (suc n) at m e few =
      lt-cases at (length k)
      (λ h.
      let a = a-bag at h e in
      let r = a.0 in
      bool_cases (eqb r.first 0)
      (λ t. subst (MemberIs k (bags_in fresh (drop at k))) (sym (member-here fresh k n at h r a.1 t)) (here at r a.1 t few))
      (λ t.
      let g = later at r a.1 t in
      let i = from n (at + r.end) (omega (arith, m, a.1.some, a.1.order)) a.1.rest
      (subst (λ (l : List MemberKeyBag). length l ≤ 1) g few) in
      subst (MemberIs k (bags_in fresh (drop at k))) (sym (member-later fresh k n at h r a.1 t))
      (record { keys = ap keys_in g ∙ i.keys; held = i.held; order = i.order; inside = i.inside })))
      (λ h. subst (MemberIs k (bags_in fresh (drop at k))) (sym (nothing-from fresh k (suc n) at h))
      (none (bags_in fresh (drop at k)) (no-bags fresh k at h)))

  pub member_is : (x : Stretch) → x ≡ member_in k → is_whole (bags fresh 0 k) ≡ true → length (flat_map member_bag_of (bags_in fresh k)) ≤ 1
      → MemberIs k (bags_in fresh k) x
  member_is x e w few = subst (MemberIs k (bags_in fresh k)) (sym e) (from (length k) 0 (omega arith) w few)
