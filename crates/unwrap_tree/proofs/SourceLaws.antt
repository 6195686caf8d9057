-- The fresh tree keys of a frame stand in the bag of its Rekey SA: the walk to its policy, and its bag.
use native.Mathlib.Omega.{arith}
use Prim.Native.Nat.{ℕ, ◌+◌, ◌≤◌}
use mathlib.Core.Path.{◌≡◌, refl, ap, sym, subst, ◌∙◌}
use mathlib.Core.Bool.{Bool, true, false, not, false≢true}
use mathlib.Core.List.Memᴰ
use mathlib.Core.List.{List, [], ◌∷◌, ◌++◌, append-nil, Memᴰ, flat_map}
use borrow.Author.Tests.{eq-eqb, ne_eqb, eqb-true, eqb-false, ltb-false, not-false}
use lib.Dec.{eqb}
use lib.ListN.{length, drop}
use Rattle.std.specs.Prelude.{Option, Some, None}
use Rattle.octets.specs.Walk.{part, many, chain, chain_up_to}
use Rattle.octets.specs.Compare.{same}
use Rattle.octets.proofs.Order.{same-eq, eq-same}
use Rattle.lists.specs.Lists.{count, keep}
use Rattle.lists.proofs.Cases.{bool_cases, and_parts}
use Rattle.lists.proofs.Members.{kept-member, member-kept}
use Rattle.state_sa.specs.Entry.{rekey_protocol}
use Rattle.wire_attributes.specs.Tree.{WrapKey, values_of}
use Rattle.wire_attributes.specs.declared.tables.Place.TheVariants.{FreshRekeyBag, MemberBag}
use Rattle.wire_attributes.specs.declared.tables.Meaning.TheVariants as meaning
use Rattle.wire_policies.specs.Policy.{GroupSaPolicy, Policy, policies}
use Rattle.wire_bags.specs.Bag.{GroupKeyBag}
use Rattle.wire_frames.specs.Frame.{Frame}
use Rattle.wire_readers.specs.inner.Values.{is_whole}
use Rattle.wire_readers.specs.inner.Bags.{bags_in}
use Rattle.wire_readers.specs.declared.policy.Parts.{Parts}
use Rattle.wire_readers.specs.declared.Stretch.{Stretch}
use Rattle.rules_refusals.specs.Contents.{group_sa_in, group_bag_of, announced, group_bags, wrap_keys_of, fresh_keys_of}
use Rattle.rules_refusals.specs.Fitness.{is_rekey}
use Rattle.rules_refusals.specs.Number4.{several_rekey_policies}
use Rattle.rules_refusals.specs.Number6.{bag_named, bags_named, policy_named, policies_named, policy_unpaired, bag_unpaired}
use Rattle.rules_outcome.proofs.RunsLists.{none_passes}
use Rattle.check_pairing.proofs.Seeking.{StretchIs}
use Rattle.unwrap_sas.proofs.PolicyAt.{sas_from, no-more-sas, PolicyAt}
use Rattle.unwrap_tree.specs.inner.Entries.{HoldsEntries}
use Rattle.unwrap_tree.specs.inner.Source.{rekeys_in, FirstRekey, FindsRekey, EntriesOf, FreshSource, FreshStand, EntriesStand}
use Rattle.unwrap_tree.specs.declared.source.Source.{Source}

-- ---- lists
module _ {A : Type 0} (p : A → Bool) where
  kept-first : (a : A) (l : List A) → p a ≡ true → keep p (a ∷ l) ≡ a ∷ keep p l
  unfolding keep
  kept-first a l e = rw e refl

  kept-later : (a : A) (l : List A) → p a ≡ false → keep p (a ∷ l) ≡ keep p l
  unfolding keep
  kept-later a l e = rw e refl

  count_kept : (l : List A) → count p l ≡ length (keep p l)
  unfolding count keep
  count_kept [] = refl
  count_kept (a ∷ l) = let e = count_kept l in bool_cases (p a) (λ f. rw f (omega arith)) (λ f. rw f e)

  -- one that passes
  one_passes : (l : List A) → count p l ≡ 1 → (a : A) × Memᴰ a l × (p a ≡ true)
  one_passes l e = go (keep p l) refl
    where
      go : (m : List A) → keep p l ≡ m → (a : A) × Memᴰ a l × (p a ≡ true)
      go [] q = let z : length (keep p l) ≡ 0 = ap length q in absurd (omega (arith, e, count_kept l, z))
      go (a ∷ m) q =
          let k = kept-member p a l (subst (Memᴰ a) (sym q) (Memᴰ.head refl)) in (a, k.0, k.1)

no-members : {A : Type 0} (l : List A) → ((a : A) → Memᴰ a l → ⊥) → l ≡ []
no-members [] h = refl
no-members (a ∷ l) h = absurd (h a (Memᴰ.head refl))

one_at_most : {A : Type 0} (a : A) (l : List A) → length (a ∷ l) ≤ 1 → l ≡ []
one_at_most a [] h = refl
one_at_most a (b ∷ l) h = absurd (omega (arith, h))

-- the fresh tree keys of some bags
abbrev fresh_in : List GroupKeyBag → List WrapKey
fresh_in l = flat_map (λ (b : GroupKeyBag). b.fresh) l

fresh_kept : (p : GroupKeyBag → Bool) (l : List GroupKeyBag) →
    ((b : GroupKeyBag) → Memᴰ b l → p b ≡ false → b.fresh ≡ []) → fresh_in l ≡ fresh_in (keep p l)
unfolding flat_map keep
fresh_kept p [] h = refl
fresh_kept p (b ∷ l) h =
    let e = fresh_kept p l (λ c m. h c (Memᴰ.tail m)) in
    bool_cases (p b)
    (λ g. ap (λ (y : List WrapKey). b.fresh ++ y) e ∙ ap fresh_in (sym (kept-first p b l g)))
    (λ g. (λ i. h b (Memᴰ.head refl) g i ++ e i) ∙ ap fresh_in (sym (kept-later p b l g)))

fresh-none : (l : List GroupKeyBag) → ((b : GroupKeyBag) → Memᴰ b l → b.fresh ≡ []) → fresh_in l ≡ []
unfolding flat_map
fresh-none [] h = refl
fresh-none (b ∷ l) h = λ i. h b (Memᴰ.head refl) i ++ fresh-none l (λ c m. h c (Memᴰ.tail m)) i

-- ---- the walk to the first Rekey policy of a GSA body
module _ (g : List ℕ) where
  -- there was none so far
  pub record PassedBy (at : ℕ) : Type 0 where
    pub inside : at ≤ length g
    pub rest : is_whole (policies 0 (drop at g)) ≡ true
    pub left : keep is_rekey (sas_from g at) ≡ rekeys_in g

  pub walk_start : is_whole (policies 0 g) ≡ true → PassedBy 0
  walk_start w = record { inside = omega arith; rest = w; left = refl }

  module _ (at : ℕ) (w : PassedBy at) where
    pub walk_end : length g ≤ at → FindsRekey g None
    unfolding keep
    walk_end h = sym w.left ∙ ap (keep is_rekey) (no-more-sas g at h)

    module _ (r : Parts) (p : PolicyAt g at r) where
      skipped : (r.first ≡ rekey_protocol → ⊥) → keep is_rekey (sas_from g at) ≡ keep is_rekey (sas_from g (at + r.end))
      skipped z =
          bool_cases (eqb r.first 0) (λ e. ap (keep is_rekey) (p.wide (eqb-true r.first 0 e)))
          (λ e.
          let s = p.sa-at (eqb-false r.first 0 e) in
          let other : is_rekey s.sa ≡ false = ap (λ (n : ℕ). eqb n rekey_protocol) s.protocol-is ∙ ne_eqb r.first rekey_protocol z in
          ap (keep is_rekey) s.first ∙ kept-later is_rekey s.sa (sas_from g (at + r.end)) other)

      pub walk-next : (r.first ≡ rekey_protocol → ⊥) → PassedBy (at + r.end)
      walk-next z = record { inside = p.inside; rest = p.others; left = sym (skipped z) ∙ w.left }

      pub walk-found : r.first ≡ rekey_protocol → FindsRekey g (Some (record { start = at + 4; end = at + r.body }))
      walk-found e =
          let s = p.sa-at (λ q. let z : ◌≡◌ {A = ℕ} 0 6 = sym q ∙ e in omega arith) in
          let its : is_rekey s.sa ≡ true =
          ap (λ (n : ℕ). eqb n rekey_protocol) (s.protocol-is ∙ e) ∙ eq-eqb rekey_protocol rekey_protocol refl in
          record {
            sa = s.sa;
            others = keep is_rekey (sas_from g (at + r.end));
            first = sym w.left ∙ ap (keep is_rekey) s.first ∙ kept-first is_rekey s.sa (sas_from g (at + r.end)) its;
            protocol-is = s.protocol-is ∙ e;
            spi-is = s.spi-is;
            order = omega (arith, p.some);
            inside = omega (arith, p.order, p.inside);
          }

-- ---- what the frame says
module _ (f : Frame) (g k : List ℕ) (y : FreshSource f g k) where
  -- its Rekey policies are those of the GSA body
  rekeys-are : keep is_rekey (announced f) ≡ rekeys_in g
  rekeys-are = ap (λ (l : List Policy). keep is_rekey (flat_map group_sa_in l)) y.policies

  -- a bag with a fresh tree key is that of a Rekey policy
  owner : (b : GroupKeyBag) → Memᴰ b (group_bags f) → (w : WrapKey) → Memᴰ w b.fresh →
      (a : GroupSaPolicy) × Memᴰ a (rekeys_in g) × (a.spi ≡ b.spi)
  unfolding bag_unpaired
  owner b m w n =
      let six = y.placed b m w n in
      let c = eqb-true (policies_named f b.protocol b.spi) 1
      (not-false (eqb (policies_named f b.protocol b.spi) 1)
      (none_passes (λ (x : GroupKeyBag). not (eqb (policies_named f x.protocol x.spi) 1)) (group_bags f) y.owned b m)) in
      let a = one_passes (policy_named b.protocol b.spi) (announced f) c in
      let t = and_parts (eqb a.0.protocol b.protocol) (same a.0.spi b.spi) a.2 in
      let rekey : is_rekey a.0 ≡ true =
      eq-eqb a.0.protocol rekey_protocol (eqb-true a.0.protocol b.protocol t.0 ∙ six) in (
        a.0,
        subst (Memᴰ a.0) rekeys-are (member-kept is_rekey a.0 (announced f) a.1 rekey),
        same-eq a.0.spi b.spi t.1,
      )

  pub no-rekey : rekeys_in g ≡ [] → fresh_keys_of f ≡ []
  no-rekey e =
      fresh-none (group_bags f)
      (λ b m. no-members b.fresh (λ w n. let a = owner b m w n in Memᴰ.not-nil (subst (Memᴰ a.0) e a.1)))

  module _ (r : Stretch) (s : FirstRekey g r) where
    abbrev spi : List ℕ
    spi = part g r.start r.end

    first-is : keep is_rekey (announced f) ≡ s.sa ∷ s.others
    first-is = rekeys-are ∙ s.first

    stands : Memᴰ s.sa (announced f)
    stands =
        (kept-member is_rekey s.sa (announced f) (subst (Memᴰ s.sa) (sym first-is) (Memᴰ.head refl))).0

    -- it has one bag
    pub bag-paired : count (bag_named rekey_protocol (part g r.start r.end)) (flat_map group_bag_of (bags_in true k)) ≡ 1
    unfolding policy_unpaired
    bag-paired =
        (λ i. count (bag_named (sym s.protocol-is i) (sym s.spi-is i)) (flat_map group_bag_of (sym y.bags i)))
        ∙ eqb-true (bags_named f s.sa.protocol s.sa.spi) 1
        (not-false (eqb (bags_named f s.sa.protocol s.sa.spi) 1)
        (none_passes (λ (p : GroupSaPolicy). not (eqb (bags_named f p.protocol p.spi) 1)) (announced f) y.paired s.sa stands))

    -- it is the only one
    alone : s.others ≡ []
    unfolding several_rekey_policies
    alone =
        let h = ltb-false 1 (count is_rekey (announced f)) y.rekeys in
        let n = count_kept is_rekey (announced f) ∙ ap length first-is in
        one_at_most s.sa s.others (omega (arith, h, n))

    -- no other bag has a fresh tree key
    elsewhere : (b : GroupKeyBag) → Memᴰ b (group_bags f) → bag_named rekey_protocol (part g r.start r.end) b ≡ false
        → b.fresh ≡ []
    elsewhere b m e =
        no-members b.fresh
        (λ w n.
        let a = owner b m w n in
        let is : a.0 ≡ s.sa =
        Memᴰ.eq_of_singleton (subst (Memᴰ a.0) (s.first ∙ ap (λ (l : List GroupSaPolicy). s.sa ∷ l) alone) a.1) in
        let x : b.spi ≡ part g r.start r.end = sym a.2 ∙ ap (λ (c : GroupSaPolicy). c.spi) is ∙ s.spi-is in
        let p = eq-eqb b.protocol rekey_protocol (y.placed b m w n) in
        let q = eq-same b.spi (part g r.start r.end) x in
        false≢true (sym e ∙ rw (p, q) refl))

    fresh-are : fresh_keys_of f ≡ fresh_in (keep (bag_named rekey_protocol (part g r.start r.end)) (flat_map group_bag_of (bags_in true k)))
    fresh-are =
        fresh_kept (bag_named rekey_protocol (part g r.start r.end)) (group_bags f) elsewhere
        ∙ (λ i. fresh_in (keep (bag_named rekey_protocol (part g r.start r.end)) (flat_map group_bag_of (y.bags i))))

    pub fresh-stand : (bag : Stretch) → StretchIs true k rekey_protocol (part g r.start r.end) bag →
        FreshStand k f (Some (record { bag = bag; meaning = meaning.FreshKey; place = FreshRekeyBag }))
    fresh-stand bag is = record {
      order = is.order;
      inside = is.inside;
      held = is.held;
      keys = fresh-are ∙ is.entries;
      wrapped = λ n. refl;
    }

-- ---- entries of one kind
pub stand-none : (k : List ℕ) (f : Frame) → wrap_keys_of f ≡ [] → fresh_keys_of f ≡ [] → EntriesStand k f None
stand-none k f w z = λ i. w i ++ z i

pub stand-fresh : (k : List ℕ) (f : Frame) (r : Option Source) → wrap_keys_of f ≡ [] → FreshStand k f r → EntriesStand k f r
stand-fresh k f r w s =
    subst (EntriesOf k r) (ap (λ (l : List WrapKey). l ++ fresh_keys_of f) (sym w)) s

pub stand-member : (k : List ℕ) (f : Frame) (bag : Stretch) → fresh_keys_of f ≡ []
    → HoldsEntries meaning.WrapKey MemberBag k bag (wrap_keys_of f) →
    EntriesStand k f (Some (record { bag = bag; meaning = meaning.WrapKey; place = MemberBag }))
stand-member k f bag z h =
    subst (HoldsEntries meaning.WrapKey MemberBag k bag)
    (sym (append-nil (wrap_keys_of f)) ∙ ap (λ (l : List WrapKey). wrap_keys_of f ++ l) (sym z)) h
