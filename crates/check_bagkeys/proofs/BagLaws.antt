-- The walk over the key bags of a KD body.
use Prim.Native.Nat.{ℕ, ◌+◌, ◌≤◌}
use mathlib.Core.Path.{◌≡◌, ap, sym, ◌∙◌}
use mathlib.Core.List.{List, [], ◌∷◌, flat_map}
use mathlib.Core.Bool.{Bool, true, false, or-false}
use native.Mathlib.Omega.{arith}
use borrow.Author.Tests.{eq-eqb, ne_eqb}
use lib.ListN.{length, drop, length-append}
use lib.Dec.{eqb}
use Rattle.octets.specs.Walk.{part}
use Rattle.octets.proofs.Walks.{part_length}
use Rattle.lists.specs.Lists.{any}
use Rattle.state_keys.specs.Limits.{Limits}
use Rattle.wire_attributes.specs.Place.{in_bag}
use Rattle.wire_attributes.specs.Tree.{WrapKey, sa_keys, fresh_keys}
use Rattle.wire_attributes.specs.Layout.{attributes}
use Rattle.wire_attributes.proofs.PlainLaws.{no-fresh-keys}
use Rattle.wire_attributes.specs.declared.tables.Place.{Place}
use Rattle.wire_attributes.specs.declared.tables.Place.TheVariants as place
use Rattle.wire_attributes.specs.declared.tables.Meaning.{Meaning}
use Rattle.wire_attributes.specs.declared.tables.Meaning.TheVariants as meaning
use Rattle.wire_bags.specs.Bag.{Bag, group_keys, member_keys, place_of, bags}
use Rattle.wire_readers.specs.inner.Values.{is_whole, attributes_in, values_in}
use Rattle.wire_readers.specs.inner.Bags.{bags_in}
use Rattle.wire_readers.specs.declared.policy.Parts.{Parts}
use Rattle.rules_refusals.specs.Contents.{member_bag_of}
use Rattle.rules_refusals.specs.Number6.{under_itself}
use Rattle.rules_refusals.proofs.FlatMap.{any_append}
use Rattle.rules_refusals.proofs.OneOf.{or-joined}
use Rattle.check_bagkeys.specs.inner.Facts.{key_facts_of, of_group, of_member, of_bag, of_sa_keys, of_wrap_keys, IsOfBag, no_bags}
use Rattle.check_bagkeys.specs.inner.Facts.{merge_bag_facts}
use Rattle.check_bagkeys.specs.inner.Facts.{wraps_in, fresh_in, bag_facts_of}
use Rattle.check_bagkeys.specs.declared.wrapped.KeyFacts.{KeyFacts}
use Rattle.check_bagkeys.specs.declared.BagFacts.{BagFacts}
use Rattle.check_bagkeys.proofs.BagAt.{BagAt, no-bags}
use Rattle.check_bagkeys.proofs.KeyLaws.{sa-keys-are, wrap-keys-are}

-- ---- facts add up
from-none : (f : BagFacts) → merge_bag_facts no_bags f ≡ f
from-none f =
    let m : 0 + f.members ≡ f.members = omega arith in
    let w : 0 + f.wraps ≡ f.wraps = omega arith in
    let n : 0 + f.fresh ≡ f.fresh = omega arith in
    λ i. record {
      members = m i;
      wraps = w i;
      unnamed = f.unnamed;
      itself = f.itself;
      ah = f.ah;
      keyless = f.keyless;
      several = f.several;
      several_of_rekey = f.several_of_rekey;
      overfull = f.overfull;
      named = f.named;
      esp_with_kwk_id = f.esp_with_kwk_id;
      fresh = n i;
      fresh_unnamed = f.fresh_unnamed;
      fresh_itself = f.fresh_itself;
    }

none_left : (limits : Limits) (f : BagFacts) → merge_bag_facts f (bag_facts_of limits []) ≡ f
unfolding any flat_map
none_left limits f =
    let m : f.members + 0 ≡ f.members = omega arith in
    let w : f.wraps + 0 ≡ f.wraps = omega arith in
    let n : f.fresh + 0 ≡ f.fresh = omega arith in
    λ i. record {
      members = m i;
      wraps = w i;
      unnamed = or-false f.unnamed i;
      itself = or-false f.itself i;
      ah = or-false f.ah i;
      keyless = or-false f.keyless i;
      several = or-false f.several i;
      several_of_rekey = or-false f.several_of_rekey i;
      overfull = or-false f.overfull i;
      named = or-false f.named i;
      esp_with_kwk_id = or-false f.esp_with_kwk_id i;
      fresh = n i;
      fresh_unnamed = or-false f.fresh_unnamed i;
      fresh_itself = or-false f.fresh_itself i;
    }

joined : (a b c : BagFacts) → merge_bag_facts a (merge_bag_facts b c) ≡ merge_bag_facts (merge_bag_facts a b) c
joined a b c =
    let m : a.members + (b.members + c.members) ≡ a.members + b.members + c.members = omega arith in
    let w : a.wraps + (b.wraps + c.wraps) ≡ a.wraps + b.wraps + c.wraps = omega arith in
    let n : a.fresh + (b.fresh + c.fresh) ≡ a.fresh + b.fresh + c.fresh = omega arith in
    λ i. record {
      members = m i;
      wraps = w i;
      unnamed = or-joined a.unnamed b.unnamed c.unnamed i;
      itself = or-joined a.itself b.itself c.itself i;
      ah = or-joined a.ah b.ah c.ah i;
      keyless = or-joined a.keyless b.keyless c.keyless i;
      several = or-joined a.several b.several c.several i;
      several_of_rekey = or-joined a.several_of_rekey b.several_of_rekey c.several_of_rekey i;
      overfull = or-joined a.overfull b.overfull c.overfull i;
      named = or-joined a.named b.named c.named i;
      esp_with_kwk_id = or-joined a.esp_with_kwk_id b.esp_with_kwk_id c.esp_with_kwk_id i;
      fresh = n i;
      fresh_unnamed = or-joined a.fresh_unnamed b.fresh_unnamed c.fresh_unnamed i;
      fresh_itself = or-joined a.fresh_itself b.fresh_itself c.fresh_itself i;
    }

-- the first bag, and the others
one_more : (limits : Limits) (b : Bag) (l : List Bag) → bag_facts_of limits (b ∷ l) ≡ merge_bag_facts (of_bag limits b) (bag_facts_of limits l)
unfolding any flat_map
one_more limits (group_keys b) l =
    let f = bag_facts_of limits (group_keys b ∷ l) in
    let m : length (flat_map member_bag_of l) ≡ 0 + length (flat_map member_bag_of l) = omega arith in
    let w : length (wraps_in l) ≡ 0 + length (wraps_in l) = omega arith in
    λ i. record {
      members = m i;
      wraps = w i;
      unnamed = f.unnamed;
      itself = f.itself;
      ah = f.ah;
      keyless = f.keyless;
      several = f.several;
      several_of_rekey = f.several_of_rekey;
      overfull = f.overfull;
      named = f.named;
      esp_with_kwk_id = f.esp_with_kwk_id;
      fresh = length-append b.fresh (fresh_in l) i;
      fresh_unnamed = any_append (λ (k : WrapKey). eqb k.key_id 0) b.fresh (fresh_in l) i;
      fresh_itself = any_append under_itself b.fresh (fresh_in l) i;
    }
one_more limits (member_keys b) l =
    let f = bag_facts_of limits (member_keys b ∷ l) in
    let m : length (flat_map member_bag_of (member_keys b ∷ l)) ≡ 1 + length (flat_map member_bag_of l) = omega arith in
    let n : length (fresh_in l) ≡ 0 + length (fresh_in l) = omega arith in
    λ i. record {
      members = m i;
      wraps = length-append b.keys (wraps_in l) i;
      unnamed = any_append (λ (k : WrapKey). eqb k.key_id 0) b.keys (wraps_in l) i;
      itself = any_append under_itself b.keys (wraps_in l) i;
      ah = f.ah;
      keyless = f.keyless;
      several = f.several;
      several_of_rekey = f.several_of_rekey;
      overfull = f.overfull;
      named = f.named;
      esp_with_kwk_id = f.esp_with_kwk_id;
      fresh = n i;
      fresh_unnamed = f.fresh_unnamed;
      fresh_itself = f.fresh_itself;
    }

-- ---- one bag, by its first octet
module _ (limits : Limits) (fresh : Bool) (first : ℕ) (a : List ℕ) where
  pub member-held : first ≡ 0 → is_whole (attributes (place_of fresh first) 0 a) ≡ true → is_whole (attributes place.MemberBag 0 a) ≡ true
  member-held e h = rw (eq-eqb first 0 e) at h

  pub group-held : (first ≡ 0 → ⊥) → is_whole (attributes (place_of fresh first) 0 a) ≡ true → (p : Place) → p ≡ in_bag fresh first
      → is_whole (attributes p 0 a) ≡ true
  group-held e h p q =
      let g : is_whole (attributes (in_bag fresh first) 0 a) ≡ true = rw (ne_eqb first 0 e) at h in
      ap (λ (x : Place). is_whole (attributes x 0 a)) q ∙ g

  pub of-member-is : (k : KeyFacts) (r : BagFacts) → first ≡ 0
      → (k ≡ key_facts_of (values_in meaning.WrapKey place.MemberBag a)) × (k.keys ≤ length a) → r ≡ of_member k
      → IsOfBag limits fresh first a r
  of-member-is k r e h q =
      let z : r ≡ of_member (key_facts_of (values_in meaning.WrapKey place.MemberBag a)) = q ∙ ap of_member h.0 in
      let y = z ∙ ap of_member (wrap-keys-are (values_in meaning.WrapKey place.MemberBag a)) in
      record {
        is = λ x. rw (eq-eqb first 0 e) y;
        members = omega (arith, ap (λ (f : BagFacts). f.members) q);
        wraps = omega (arith, ap (λ (f : BagFacts). f.wraps) q, h.1);
        fresh-few = omega (arith, ap (λ (f : BagFacts). f.fresh) q);
      }

  -- the facts of the keys of one meaning, `m`, in the place of a Group Key Bag
  abbrev pub KeysThere : Meaning → Place → KeyFacts → Type 0
  KeysThere m p k = (k ≡ key_facts_of (values_in m p a)) × (k.keys ≤ length a)

  -- where fresh keys are not read there is none
  pub none-there : (p : Place) → p ≡ in_bag false first → KeysThere meaning.FreshKey p (key_facts_of [])
  unfolding any
  none-there p g =
      let l = attributes_in (in_bag false first) a in
      let e : key_facts_of (values_in meaning.FreshKey p a) ≡ key_facts_of [] =
      ap (λ (x : Place). key_facts_of (values_in meaning.FreshKey x a)) g
      ∙ wrap-keys-are (values_in meaning.FreshKey (in_bag false first) a) ∙ ap of_wrap_keys (no-fresh-keys first l) in
      (sym e, omega arith)

  pub of-group-is : (k e : KeyFacts) (r : BagFacts) → (first ≡ 0 → ⊥) → (p : Place) → p ≡ in_bag fresh first
      → KeysThere meaning.SaKey p k → KeysThere meaning.FreshKey p e → r ≡ of_group limits first k e → IsOfBag limits fresh first a r
  of-group-is k e r n p g h i q =
      let there : (m : Meaning) (f : KeyFacts) → KeysThere m p f → f ≡ key_facts_of (values_in m (in_bag fresh first) a) =
      λ m f t. t.0 ∙ ap (λ (x : Place). key_facts_of (values_in m x a)) g in
      let z : r ≡ of_group limits first (of_sa_keys (sa_keys (in_bag fresh first) (attributes_in (in_bag fresh first) a)))
      (of_wrap_keys (fresh_keys (in_bag fresh first) (attributes_in (in_bag fresh first) a))) =
      q ∙ (λ j. of_group limits first
      ((there meaning.SaKey k h ∙ sa-keys-are (values_in meaning.SaKey (in_bag fresh first) a)) j)
      ((there meaning.FreshKey e i ∙ wrap-keys-are (values_in meaning.FreshKey (in_bag fresh first) a)) j)) in
      record {
        is = λ x. rw (ne_eqb first 0 n) z;
        members = omega (arith, ap (λ (f : BagFacts). f.members) q);
        wraps = omega (arith, ap (λ (f : BagFacts). f.wraps) q);
        fresh-few = omega (arith, ap (λ (f : BagFacts). f.fresh) q, i.1);
      }

-- ---- the walk: where it stands at a place
module _ (limits : Limits) (fresh : Bool) (k : List ℕ) where
  pub record BagWalk (f : BagFacts) (at : ℕ) : Type 0 where
    pub few : f.members ≤ at
    pub few_wraps : f.wraps ≤ at
    pub few_fresh : f.fresh ≤ at
    pub inside : at ≤ length k
    pub rest : is_whole (bags fresh 0 (drop at k)) ≡ true
    pub so_far : merge_bag_facts f (bag_facts_of limits (bags_in fresh (drop at k))) ≡ bag_facts_of limits (bags_in fresh k)

  pub bags-start : is_whole (bags fresh 0 k) ≡ true → (f : BagFacts) → f ≡ no_bags → BagWalk f 0
  bags-start e f q = record {
    few = omega (arith, ap (λ (x : BagFacts). x.members) q);
    few_wraps = omega (arith, ap (λ (x : BagFacts). x.wraps) q);
    few_fresh = omega (arith, ap (λ (x : BagFacts). x.fresh) q);
    inside = omega arith;
    rest = e;
    so_far = ap (λ (x : BagFacts). merge_bag_facts x (bag_facts_of limits (bags_in fresh k))) q ∙ from-none (bag_facts_of limits (bags_in fresh k));
  }

  module _ (f : BagFacts) (at : ℕ) (w : BagWalk f at) where
    pub bags-end : length k ≤ at → f ≡ bag_facts_of limits (bags_in fresh k)
    bags-end h =
        sym (none_left limits f) ∙ ap (λ (l : List Bag). merge_bag_facts f (bag_facts_of limits l)) (sym (no-bags fresh k at h)) ∙ w.so_far

    module _ (r : Parts) (b : BagAt fresh k at r) (o : BagFacts)
        (h : IsOfBag limits fresh r.first (part k (at + r.body) (at + r.end)) o) where
      held-few : (f.members + o.members ≤ at + r.end) × (f.wraps + o.wraps ≤ at + r.end) × (f.fresh + o.fresh ≤ at + r.end)
      held-few =
          let l = part_length k (at + r.body) (at + r.end) (omega (arith, b.order)) b.inside in (
            omega (arith, h.members, w.few, b.some, b.order),
            omega (arith, l, h.wraps, w.few_wraps, b.some, b.order),
            omega (arith, l, h.fresh-few, w.few_fresh, b.some, b.order),
          )

      pub bags-next : (g : BagFacts) → g ≡ merge_bag_facts f o → BagWalk g (at + r.end)
      bags-next g q =
          let after = bag_facts_of limits (bags_in fresh (drop (at + r.end) k)) in
          record {
            few = omega (arith, ap (λ (x : BagFacts). x.members) q, held-few.0);
            few_wraps = omega (arith, ap (λ (x : BagFacts). x.wraps) q, held-few.1);
            few_fresh = omega (arith, ap (λ (x : BagFacts). x.fresh) q, held-few.2);
            inside = b.inside;
            rest = b.rest;
            so_far =
                ap (λ (x : BagFacts). merge_bag_facts x after) q ∙ sym (joined f o after)
                ∙ ap (λ (x : BagFacts). merge_bag_facts f (merge_bag_facts x after)) (h.is _)
                ∙ ap (merge_bag_facts f) (sym (one_more limits _ (bags_in fresh (drop (at + r.end) k))))
                ∙ ap (λ (l : List Bag). merge_bag_facts f (bag_facts_of limits l)) (sym b.item) ∙ w.so_far;
          }
