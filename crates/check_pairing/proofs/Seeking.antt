-- The one bag of a KD body with a name, sought among its bags one after the other.
use Prim.Native.Nat.{ℕ, ◌+◌, ◌-◌, ◌<◌, ◌≤◌}
use mathlib.Core.Path.{◌≡◌, refl, ap, sym, ◌∙◌}
use mathlib.Core.List.{List, [], ◌∷◌, append-nil, flat_map}
use mathlib.Core.Bool.{Bool, true, false, or-false, cond}
use native.Mathlib.Omega.{arith}
use borrow.Author.Tests.{eqb-true}
use lib.ListN.{length, drop}
use lib.Dec.{eqb}
use Rattle.octets.specs.Walk.{part}
use Rattle.octets.specs.Compare.{same}
use Rattle.lists.specs.Lists.{any, count, keep}
use Rattle.lists.proofs.Cases.{bool_cases, never, and_parts}
use Rattle.wire_attributes.specs.Place.{in_bag}
use Rattle.wire_attributes.specs.Layout.{attributes}
use Rattle.wire_attributes.specs.declared.tables.Place.TheVariants as place
use Rattle.wire_attributes.specs.Tree.{sa_keys, wrap_keys, fresh_keys}
use Rattle.wire_policies.specs.Policy.{head_spi}
use Rattle.wire_bags.specs.Bag.{Bag, group_keys, member_keys, GroupKeyBag, MemberKeyBag, place_of, group_key_bag_of, bags}
use Rattle.wire_readers.specs.inner.Values.{is_whole, attributes_in}
use Rattle.wire_readers.specs.inner.Bags.{bags_in}
use Rattle.wire_readers.specs.declared.policy.Parts.{Parts}
use Rattle.rules_refusals.specs.Contents.{group_bag_of}
use Rattle.rules_refusals.specs.Number6.{bag_named}
use Rattle.check_bagkeys.proofs.BagAt.{BagAt, no-bags}
use Rattle.check_pairing.specs.inner.Names.{name_of, is_named}
use Rattle.wire_readers.specs.declared.Stretch.{Stretch}

-- the attributes of the one Group Key Bag with a protocol and SPI stand there
pub record StretchIs (fresh : Bool) (k : List ℕ) (p : ℕ) (x : List ℕ) (r : Stretch) : Type 0 where
  pub keys : flat_map (λ (b : GroupKeyBag). b.keys) (keep (bag_named p x) (flat_map group_bag_of (bags_in fresh k)))
      ≡ sa_keys (in_bag fresh p) (attributes_in (in_bag fresh p) (part k r.start r.end))
  pub entries : flat_map (λ (b : GroupKeyBag). b.fresh) (keep (bag_named p x) (flat_map group_bag_of (bags_in fresh k)))
      ≡ fresh_keys (in_bag fresh p) (attributes_in (in_bag fresh p) (part k r.start r.end))
  pub held : is_whole (attributes (in_bag fresh p) 0 (part k r.start r.end)) ≡ true
  pub order : r.start ≤ r.end
  pub inside : r.end ≤ length k

count_kept : {A : Type 0} (q : A → Bool) (l : List A) → count q l ≡ length (keep q l)
unfolding count keep
count_kept q [] = refl
count_kept q (a ∷ l) = let e = count_kept q l in bool_cases (q a) (λ f. rw f (omega arith)) (λ f. rw f e)

-- a list of one element, that one first
only_one : {A : Type 0} (a : A) (l : List A) → length (a ∷ l) ≡ 1 → l ≡ []
only_one a [] e = refl
only_one a (b ∷ l) e = absurd (omega arith)

module _ (p : ℕ) (x : List ℕ) where
  abbrev named : List Bag → List GroupKeyBag
  named l = keep (bag_named p x) (flat_map group_bag_of l)

  -- a bag that is a Member Key Bag or not, at the front
  skipped : (t : Bool) (m : MemberKeyBag) (b : GroupKeyBag) (l : List Bag) →
      any (is_named p x) (cond t [] (record { protocol = b.protocol; spi = b.spi } ∷ [])) ≡ false →
      named (cond t (member_keys m) (group_keys b) ∷ l) ≡ named l
  unfolding flat_map keep any
  skipped true m b l e = refl
  skipped false m b l e = let f : bag_named p x b ≡ false = sym (or-false (bag_named p x b)) ∙ e in rw f

  taken : (t : Bool) (m : MemberKeyBag) (b : GroupKeyBag) (l : List Bag) →
      any (is_named p x) (cond t [] (record { protocol = b.protocol; spi = b.spi } ∷ [])) ≡ true →
      (t ≡ false) × (bag_named p x b ≡ true) × (named (cond t (member_keys m) (group_keys b) ∷ l) ≡ b ∷ named l)
  unfolding flat_map keep any
  taken true m b l e = never true refl (sym e)
  taken false m b l e = let f : bag_named p x b ≡ true = sym (or-false (bag_named p x b)) ∙ e in (refl, f, rw f)

  module _ (fresh : Bool) (k : List ℕ) where
    -- it was not there so far
    pub record Seeking (at : ℕ) : Type 0 where
      pub inside : at ≤ length k
      pub rest : is_whole (bags fresh 0 (drop at k)) ≡ true
      pub left : named (bags_in fresh k) ≡ named (bags_in fresh (drop at k))

    pub seeking-start : is_whole (bags fresh 0 k) ≡ true → Seeking 0
    seeking-start e = record { inside = omega arith; rest = e; left = refl }

    module _ (at : ℕ) (c : Seeking at) where
      pub seeking-end : length k ≤ at → count (bag_named p x) (flat_map group_bag_of (bags_in fresh k)) ≡ 1 → ⊥
      unfolding flat_map keep
      seeking-end h e =
          let f : named (bags_in fresh k) ≡ [] = c.left ∙ ap named (no-bags fresh k at h) in
          let z : ◌≡◌ {A = ℕ} 1 0 = sym e ∙ count_kept (bag_named p x) (flat_map group_bag_of (bags_in fresh k)) ∙ ap length f in
          omega arith

      module _ (r : Parts) (a : BagAt fresh k at r) where
        pub seeking-less : length k - (at + r.end) < length k - at
        seeking-less = omega (arith, a.some, a.order, a.inside)

        abbrev octets : List ℕ
        octets = part k (at + r.body) (at + r.end)

        abbrev as_member : MemberKeyBag
        as_member = record { keys = wrap_keys place.MemberBag (attributes_in (place_of fresh r.first) octets) }

        abbrev as_group : GroupKeyBag
        as_group = group_key_bag_of fresh r.first (head_spi (drop at k)) (attributes_in (place_of fresh r.first) octets)

        abbrev others : List Bag
        others = bags_in fresh (drop (at + r.end) k)

        module _ (b : Bool) (f : b ≡ any (is_named p x) (name_of r.first (part k (at + 4) (at + r.body)))) where
          its-name : any (is_named p x) (name_of r.first (head_spi (drop at k))) ≡ b
          its-name = sym (f ∙ ap (λ (y : List ℕ). any (is_named p x) (name_of r.first y)) a.spi)

          pub seeking-no : b ≡ false → Seeking (at + r.end)
          seeking-no e = record {
            inside = a.inside;
            rest = a.rest;
            left = c.left ∙ ap named a.item ∙ skipped (eqb r.first 0) as_member as_group others (its-name ∙ e);
          }

          module _ (e : b ≡ true) (o : count (bag_named p x) (flat_map group_bag_of (bags_in fresh k)) ≡ 1) where
            found : (eqb r.first 0 ≡ false) × (bag_named p x as_group ≡ true)
                × (named (cond (eqb r.first 0) (member_keys as_member) (group_keys as_group) ∷ others) ≡ as_group ∷ named others)
            found = taken (eqb r.first 0) as_member as_group others (its-name ∙ e)

            alone : named (bags_in fresh k) ≡ as_group ∷ []
            alone =
                let g : named (bags_in fresh k) ≡ as_group ∷ named others = c.left ∙ ap named a.item ∙ found.2 in
                let n = sym (ap length g) ∙ sym (count_kept (bag_named p x) (flat_map group_bag_of (bags_in fresh k))) ∙ o in
                g ∙ ap (λ (l : List GroupKeyBag). as_group ∷ l) (only_one as_group (named others) n)

            protocol-is : r.first ≡ p
            protocol-is = eqb-true r.first p (and_parts (eqb r.first p) (same (head_spi (drop at k)) x) found.1).0

            place_is : place_of fresh r.first ≡ in_bag fresh p
            place_is = ap (λ (t : Bool). cond t place.MemberBag (in_bag fresh r.first)) found.0 ∙ ap (in_bag fresh) protocol-is

            pub seeking-yes : StretchIs fresh k p x (record { start = at + r.body; end = at + r.end })
            unfolding flat_map
            seeking-yes = record {
              keys = ap (flat_map (λ (y : GroupKeyBag). y.keys)) alone ∙ append-nil as_group.keys
                  ∙ (λ i. sa_keys (in_bag fresh (protocol-is i)) (attributes_in (place_is i) octets));
              entries = ap (flat_map (λ (y : GroupKeyBag). y.fresh)) alone ∙ append-nil as_group.fresh
                  ∙ (λ i. fresh_keys (in_bag fresh (protocol-is i)) (attributes_in (place_is i) octets));
              held = (λ i. is_whole (attributes (sym place_is i) 0 octets)) ∙ a.held;
              order = omega (arith, a.order);
              inside = a.inside;
            }
