-- A bag rearranged is a bag, with the same name and the same keys in any order; policies and bags rearranged are the same in any order.
use native.Mathlib.Omega.{arith}
use Prim.Native.Nat.{ℕ, ◌+◌, ◌<◌}
use mathlib.Core.Path.{◌≡◌, refl, ap, sym, ◌∙◌, subst}
use mathlib.Core.Bool.{Bool, true, false, cond}
use mathlib.Core.List.{List, ◌∷◌, ◌++◌, map}
use lib.ListN.{length, drop, length-append}
use lib.Seq.{drop-append_seam}
use Rattle.octets.specs.Numbers.{oct}
use Rattle.octets.proofs.Local.{oct-append, be16-append, part-append}
use Rattle.wire_attributes.specs.Attribute.{Attribute}
use Rattle.wire_attributes.specs.Tree.{means, values_of, sa_keys, sa_key_of, wrap_keys, wrap_key_of, fresh_keys}
use Rattle.wire_attributes.specs.Place.{in_bag}
use Rattle.wire_attributes.specs.Grammar.{IsAttribute, Attributes}
use Rattle.wire_attributes.specs.declared.tables.Place.{Place}
use Rattle.wire_attributes.specs.declared.tables.Place.TheVariants as place
use Rattle.wire_attributes.specs.declared.tables.Meaning.{Meaning}
use Rattle.wire_attributes.specs.declared.tables.Meaning.TheVariants as meaning
use Rattle.wire_policies.specs.Policy.{Policy, spi_size}
use Rattle.wire_policies.specs.Grammar.{IsPolicy, Policies}
use Rattle.wire_bags.specs.Bag.{GroupKeyBag, MemberKeyBag, Bag, group_keys, member_keys}
use Rattle.wire_bags.specs.Grammar.{IsGroupKeyBag, IsMemberKeyBag, IsBag, is-group, is_member, Bags}
use Rattle.rules_refusals.specs.Reordered.{AnyOrder, none, next, swapped, then, BagReordered, group, member}
use Rattle.rules_refusals.proofs.AnyOrder.{as_is}
use Rattle.rules_order.specs.Rearranged.{CountsItself, OneAttribute, Moved, BagRearranged}
use Rattle.rules_order.proofs.Stretches.{are-row, row-are, follow, equal-carried, joined_length}
use Rattle.rules_order.proofs.Cutting.{policy-counts, bag-counts, counts_some, counts-one}
use Rattle.rules_order.proofs.Cutting.{attribute-one, attribute-some, attribute-cut}

-- ---- octets moved are as many
pub moved_length : {Fits : List ℕ → Type 0} {Same : List ℕ → List ℕ → Type 0} → ((o p : List ℕ) → Same o p → length o ≡ length p) →
    {s t : List ℕ} → Moved Fits Same s t → length s ≡ length t
moved_length h m = ap length (sym m.from) ∙ joined_length h m.order ∙ ap length m.to

pub equal-length : (o p : List ℕ) → o ≡ p → length o ≡ length p
equal-length o p e = ap length e

pub bag-length : (o p : List ℕ) → BagRearranged o p → length o ≡ length p
bag-length o p b =
    ap length b.from ∙ length-append b.head b.held
    ∙ ap (λ (n : ℕ). length b.head + n) (moved_length equal-length b.moved) ∙ sym (length-append b.head b.others)
    ∙ ap length (sym b.to)

-- ---- attributes in any order say the same in any order; those that are skipped say nothing
map-order : {A B : Type 0} (f : A → B) {l m : List A} → AnyOrder ◌≡◌ l m → AnyOrder ◌≡◌ (map f l) (map f m)
map-order f none = none
map-order f (next e r) = next (ap f e) (map-order f r)
map-order f swapped = swapped
map-order f (then r s) = then (map-order f r) (map-order f s)

module _ (m : Meaning) (p : Place) where
  put : (b : Bool) {v w : List ℕ} {x y : List (List ℕ)} → v ≡ w → AnyOrder ◌≡◌ x y → AnyOrder ◌≡◌ (cond b (v ∷ x) x) (cond b (w ∷ y) y)
  put true e r = next e r
  put false e r = r

  exchanged : (b c : Bool) (v w : List ℕ) (x : List (List ℕ)) →
      AnyOrder ◌≡◌ (cond b (v ∷ cond c (w ∷ x) x) (cond c (w ∷ x) x)) (cond c (w ∷ cond b (v ∷ x) x) (cond b (v ∷ x) x))
  exchanged true true v w x = swapped
  exchanged true false v w x = as_is (λ a. refl) (v ∷ x)
  exchanged false true v w x = as_is (λ a. refl) (w ∷ x)
  exchanged false false v w x = as_is (λ a. refl) x

  values-order : {l k : List Attribute} → AnyOrder ◌≡◌ l k → AnyOrder ◌≡◌ (values_of m p l) (values_of m p k)
  unfolding values_of
  values-order none = none
  values-order (next {a = a} {b = b} {l = l} {m = k} e r) =
      subst (λ (c : Attribute). AnyOrder ◌≡◌ (values_of m p (a ∷ l)) (cond (means m p c) (c.value ∷ values_of m p k) (values_of m p k))) e
      (put (means m p a) refl (values-order r))
  values-order (swapped {a = a} {b = b} {l = l}) = exchanged (means m p a) (means m p b) a.value b.value (values_of m p l)
  values-order (then r s) = then (values-order r) (values-order s)

pub record AttributesToo (p : Place) (l : List Attribute) (t : List ℕ) : Type 0 where
  pub attributes : List Attribute
  pub held : Attributes p t attributes
  pub order : AnyOrder ◌≡◌ l attributes

attributes-moved : (p : Place) (l : List Attribute) {s t : List ℕ} → Moved OneAttribute ◌≡◌ s t → Attributes p s l → AttributesToo p l t
attributes-moved p l m r =
    let are = row-are (IsAttribute p) OneAttribute (attribute-one p) attribute-some attribute-cut r m.stretches m.each m.from in
    let f = follow (IsAttribute p) ◌≡◌ ◌≡◌ (equal-carried (IsAttribute p)) m.order are in
    record {
      attributes = f.items;
      held = subst (λ (t : List ℕ). Attributes p t f.items) m.to (are-row f.are);
      order = f.order;
    }

-- ---- one bag
module _ (fresh : Bool) (h s t : List ℕ) (n : length h ≡ 4 + spi_size (oct h 0)) (m : Moved OneAttribute ◌≡◌ s t) where
  same_length : length (h ++ t) ≡ length (h ++ s)
  same_length = omega (arith, length-append h s, length-append h t, moved_length equal-length m)

  same-oct : (i : ℕ) → i < 4 → oct (h ++ t) i ≡ oct (h ++ s) i
  same-oct i l = oct-append h t i (omega arith) ∙ sym (oct-append h s i (omega arith))

  -- what stands behind the head
  behind : (x : List ℕ) (k : ℕ) → k ≡ oct (h ++ x) 0 → drop (4 + spi_size k) (h ++ x) ≡ x
  behind x k e =
      ap (λ (i : ℕ). drop i (h ++ x)) (ap (λ (i : ℕ). 4 + spi_size i) (e ∙ oct-append h x 0 (omega arith)) ∙ sym n) ∙ drop-append_seam h x

  group-carried : (x : GroupKeyBag) → IsGroupKeyBag fresh (h ++ s) x → (y : Bag) × IsBag fresh (h ++ t) y × BagReordered (group_keys x) y
  group-carried x i =
      let p = in_bag fresh x.protocol in
      let a = attributes-moved p i.attributes m
      (subst (λ (u : List ℕ). Attributes p u i.attributes) (behind s x.protocol (sym i.protocol)) i.held) in
      let first = same-oct 0 (omega arith) ∙ i.protocol in (
        group_keys (record { protocol = x.protocol; spi = x.spi; keys = sa_keys p a.attributes; fresh = fresh_keys p a.attributes }),
        is-group (record {
          protocol = first;
          known = i.known;
          spi_octets = same-oct 1 (omega arith) ∙ i.spi_octets;
          size = be16-append h t 2 (omega arith) ∙ sym (be16-append h s 2 (omega arith)) ∙ i.size ∙ sym same_length;
          least = omega (arith, same_length, i.least);
          spi =
              let w : 4 + spi_size x.protocol ≡ length h =
              ap (λ (k : ℕ). 4 + spi_size k) (sym i.protocol ∙ oct-append h s 0 (omega arith)) ∙ sym n in
              part-append h t 4 (4 + spi_size x.protocol) (omega arith) (omega arith)
              ∙ sym (part-append h s 4 (4 + spi_size x.protocol) (omega arith) (omega arith)) ∙ i.spi;
          attributes = a.attributes;
          held = subst (λ (u : List ℕ). Attributes p u a.attributes) (sym (behind t x.protocol (sym first))) a.held;
          keys = refl;
          entries = refl;
        }),
        group (record {
          protocol = refl;
          spi = refl;
          keys =
              subst (λ l. AnyOrder ◌≡◌ l (sa_keys p a.attributes)) i.keys
              (map-order sa_key_of (values-order meaning.SaKey p a.order));
          fresh =
              subst (λ l. AnyOrder ◌≡◌ l (fresh_keys p a.attributes)) i.entries
              (map-order wrap_key_of (values-order meaning.FreshKey p a.order));
        }),
      )

  member-carried : (x : MemberKeyBag) → IsMemberKeyBag (h ++ s) x → (y : Bag) × IsBag fresh (h ++ t) y × BagReordered (member_keys x) y
  member-carried x i =
      let p = place.MemberBag in
      let a = attributes-moved p i.attributes m
      (subst (λ (u : List ℕ). Attributes p u i.attributes) (behind s 0 (sym i.first)) i.held) in
      let first = same-oct 0 (omega arith) ∙ i.first in (
        member_keys (record { keys = wrap_keys p a.attributes }),
        is_member (record {
          first = first;
          size = be16-append h t 2 (omega arith) ∙ sym (be16-append h s 2 (omega arith)) ∙ i.size ∙ sym same_length;
          least = omega (arith, same_length, i.least);
          attributes = a.attributes;
          held = subst (λ (u : List ℕ). Attributes p u a.attributes) (sym (behind t 0 (sym first))) a.held;
          keys = refl;
        }),
        member (record {
          keys =
              subst (λ l. AnyOrder ◌≡◌ l (wrap_keys p a.attributes)) i.keys
              (map-order wrap_key_of (values-order meaning.WrapKey p a.order));
        }),
      )

  carried-by : (x : Bag) → IsBag fresh (h ++ s) x → (y : Bag) × IsBag fresh (h ++ t) y × BagReordered x y
  carried-by _ (is-group {x = x} i) = group-carried x i
  carried-by _ (is_member {x = x} i) = member-carried x i

bag-carried : (fresh : Bool) (o p : List ℕ) (x : Bag) → BagRearranged o p → IsBag fresh o x →
    (y : Bag) × IsBag fresh p y × BagReordered x y
bag-carried fresh o p x b i =
    subst (λ (q : List ℕ). (y : Bag) × IsBag fresh q y × BagReordered x y) (sym b.to)
    (carried-by fresh b.head b.held b.others b.size b.moved x (subst (λ (q : List ℕ). IsBag fresh q x) b.from i))

-- ---- all bags of a KD, all policies of a GSA
pub record BagsToo (fresh : Bool) (l : List Bag) (t : List ℕ) : Type 0 where
  pub bags : List Bag
  pub are : Bags fresh t bags
  pub order : AnyOrder BagReordered l bags

pub bags-moved : (fresh : Bool) (l : List Bag) {s t : List ℕ} → Moved CountsItself BagRearranged s t → Bags fresh s l → BagsToo fresh l t
bags-moved fresh l m r =
    let are = row-are (IsBag fresh) CountsItself (bag-counts fresh) counts_some counts-one r m.stretches m.each m.from in
    let f = follow (IsBag fresh) BagRearranged BagReordered (bag-carried fresh) m.order are in
    record { bags = f.items; are = subst (λ (t : List ℕ). Bags fresh t f.items) m.to (are-row f.are); order = f.order }

pub record PoliciesToo (l : List Policy) (t : List ℕ) : Type 0 where
  pub policies : List Policy
  pub are : Policies t policies
  pub order : AnyOrder ◌≡◌ l policies

pub policies-moved : (l : List Policy) {s t : List ℕ} → Moved CountsItself ◌≡◌ s t → Policies s l → PoliciesToo l t
policies-moved l m r =
    let are = row-are IsPolicy CountsItself policy-counts counts_some counts-one r m.stretches m.each m.from in
    let f = follow IsPolicy ◌≡◌ ◌≡◌ (equal-carried IsPolicy) m.order are in
    record { policies = f.items; are = subst (λ (t : List ℕ). Policies t f.items) m.to (are-row f.are); order = f.order }
