-- THE LISTS BY WHICH A FRAME IS JUDGED ARE ALL THAT STANDS IN IT, at whatever place, and no more: "The SAs a frame announces are those of
-- its Group SA policies"; "wherever the entries stand in the frame".
use Prim.Native.Nat.{ℕ}
use mathlib.Core.Path.{◌≡◌, refl, ap, sym, subst}
use mathlib.Core.Logic.{⊎_elim, ◌↔◌}
use mathlib.Core.List.{List, [], ◌∷◌}
use Rattle.wire_attributes.specs.Tree.{WrapKey}
use Rattle.wire_policies.specs.Policy.{Policy, group_sa, group_wide, GroupSaPolicy, GroupWidePolicy}
use Rattle.wire_bags.specs.Bag.{Bag, group_keys, member_keys, GroupKeyBag, MemberKeyBag}
use Rattle.wire_frames.specs.Delete.{Delete}
use Rattle.wire_frames.specs.Frame.{Frame, Payload, Content, gsa, kd, delete, unread}
use Rattle.rules_refusals.specs.Contents.{policies_of_content, bags_of_content, deletes_of_content, group_sa_in, wide_of, group_bag_of, member_bag_of}
use Rattle.rules_refusals.specs.Contents.{policies_of, bags_of, deletes_of, announced, group_wides}
use Rattle.rules_refusals.specs.Contents.{group_bags, member_bags, wrap_keys_of, fresh_keys_of, deleted_spis}
use Rattle.rules_chains.specs.Chain.{In}
use Rattle.rules_outcome.specs.Stands.{HasPolicy, HasBag, HasWrapKey, HasFreshKey, HasSpi}
use Rattle.rules_outcome.proofs.Members.{in_head, in-cases, not-in-none, in-flat_map, flat_map-in}

one_of : {A : Type 0} (a b : A) → In a (b ∷ []) → a ≡ b
one_of a b i = ⊎_elim (λ e. e) (λ n. absurd (not-in-none a n)) (in-cases a b [] i)

-- ---- what is in a payload is of its kind
in-gsa : (c : Content) (x : Policy) → In x (policies_of_content c) → (l : List Policy) × (c ≡ gsa l) × In x l
in-gsa (gsa l) x i = (l, refl, i)
in-gsa (kd l) x i = absurd (not-in-none x i)
in-gsa (delete d) x i = absurd (not-in-none x i)
in-gsa unread x i = absurd (not-in-none x i)

in-kd : (c : Content) (x : Bag) → In x (bags_of_content c) → (l : List Bag) × (c ≡ kd l) × In x l
in-kd (gsa l) x i = absurd (not-in-none x i)
in-kd (kd l) x i = (l, refl, i)
in-kd (delete d) x i = absurd (not-in-none x i)
in-kd unread x i = absurd (not-in-none x i)

in-delete : (c : Content) (x : Delete) → In x (deletes_of_content c) → c ≡ delete x
in-delete (gsa l) x i = absurd (not-in-none x i)
in-delete (kd l) x i = absurd (not-in-none x i)
in-delete (delete d) x i = ap delete (sym (one_of x d i))
in-delete unread x i = absurd (not-in-none x i)

-- ---- a policy is of one kind, and so is a bag
is-sa : (q : Policy) (p : GroupSaPolicy) → In p (group_sa_in q) → q ≡ group_sa p
is-sa (group_sa r) p i = ap group_sa (sym (one_of p r i))
is-sa (group_wide w) p i = absurd (not-in-none p i)

is_wide : (q : Policy) (w : GroupWidePolicy) → In w (wide_of q) → q ≡ group_wide w
is_wide (group_sa r) w i = absurd (not-in-none w i)
is_wide (group_wide v) w i = ap group_wide (sym (one_of w v i))

is-group : (q : Bag) (b : GroupKeyBag) → In b (group_bag_of q) → q ≡ group_keys b
is-group (group_keys c) b i = ap group_keys (sym (one_of b c i))
is-group (member_keys c) b i = absurd (not-in-none b i)

is_member : (q : Bag) (b : MemberKeyBag) → In b (member_bag_of q) → q ≡ member_keys b
is_member (group_keys c) b i = absurd (not-in-none b i)
is_member (member_keys c) b i = ap member_keys (sym (one_of b c i))

module _ (f : Frame) where
  has-policy : (x : Policy) → In x (policies_of f) → HasPolicy f x
  has-policy x i =
      let q = in-flat_map (λ (p : Payload). policies_of_content p.content) x f.payloads i in
      let r = in-gsa q.item.content x q.is in
      record { payload = q.item; stands = q.stands; policies = r.0; is-gsa = r.1; policy = r.2 }

  policy-has : (x : Policy) → HasPolicy f x → In x (policies_of f)
  policy-has x h =
      flat_map-in (λ (p : Payload). policies_of_content p.content) x f.payloads h.payload h.stands
      (subst (λ (c : Content). In x (policies_of_content c)) (sym h.is-gsa) h.policy)

  has-bag : (x : Bag) → In x (bags_of f) → HasBag f x
  has-bag x i =
      let q = in-flat_map (λ (p : Payload). bags_of_content p.content) x f.payloads i in
      let r = in-kd q.item.content x q.is in
      record { payload = q.item; stands = q.stands; bags = r.0; is-kd = r.1; bag = r.2 }

  bag-has : (x : Bag) → HasBag f x → In x (bags_of f)
  bag-has x h =
      flat_map-in (λ (p : Payload). bags_of_content p.content) x f.payloads h.payload h.stands
      (subst (λ (c : Content). In x (bags_of_content c)) (sym h.is-kd) h.bag)

  -- "The SAs a frame announces are those of its Group SA policies."
  pub announced-are : (p : GroupSaPolicy) → In p (announced f) ↔ HasPolicy f (group_sa p)
  announced-are p = (
    λ i. let q = in-flat_map group_sa_in p (policies_of f) i in subst (HasPolicy f) (is-sa q.item p q.is)
        (has-policy q.item q.stands),
    λ h. flat_map-in group_sa_in p (policies_of f) (group_sa p) (policy-has (group_sa p) h) (in_head p p [] refl),
  )

  pub wides-are : (w : GroupWidePolicy) → In w (group_wides f) ↔ HasPolicy f (group_wide w)
  wides-are w = (
    λ i. let q = in-flat_map wide_of w (policies_of f) i in subst (HasPolicy f) (is_wide q.item w q.is)
        (has-policy q.item q.stands),
    λ h. flat_map-in wide_of w (policies_of f) (group_wide w) (policy-has (group_wide w) h) (in_head w w [] refl),
  )

  pub group-bags-are : (b : GroupKeyBag) → In b (group_bags f) ↔ HasBag f (group_keys b)
  group-bags-are b = (
    λ i. let q = in-flat_map group_bag_of b (bags_of f) i in subst (HasBag f) (is-group q.item b q.is) (has-bag q.item q.stands),
    λ h. flat_map-in group_bag_of b (bags_of f) (group_keys b) (bag-has (group_keys b) h) (in_head b b [] refl),
  )

  pub member-bags-are : (b : MemberKeyBag) → In b (member_bags f) ↔ HasBag f (member_keys b)
  member-bags-are b = (
    λ i. let q = in-flat_map member_bag_of b (bags_of f) i in subst (HasBag f) (is_member q.item b q.is) (has-bag q.item q.stands),
    λ h. flat_map-in member_bag_of b (bags_of f) (member_keys b) (bag-has (member_keys b) h) (in_head b b [] refl),
  )

  -- "by WRAP_KEY entries", "wherever the entries stand in the frame"
  pub entries-are : (e : WrapKey) → In e (wrap_keys_of f) ↔ HasWrapKey f e
  entries-are e = (
    λ i.
        let q = in-flat_map (λ (b : MemberKeyBag). b.keys) e (member_bags f) i in
        record { bag = q.item; stands = (member-bags-are q.item).0 q.stands; entry = q.is },
    λ h. flat_map-in (λ (b : MemberKeyBag). b.keys) e (member_bags f) h.bag ((member-bags-are h.bag).1 h.stands) h.entry,
  )

  -- "each ESP SPI named in D"
  pub fresh-are : (e : WrapKey) → In e (fresh_keys_of f) ↔ HasFreshKey f e
  fresh-are e = (
    λ i.
        let q = in-flat_map (λ (b : GroupKeyBag). b.fresh) e (group_bags f) i in
        record { bag = q.item; stands = (group-bags-are q.item).0 q.stands; entry = q.is },
    λ h. flat_map-in (λ (b : GroupKeyBag). b.fresh) e (group_bags f) h.bag ((group-bags-are h.bag).1 h.stands) h.entry,
  )

  pub deleted-are : (x : List ℕ) → In x (deleted_spis f) ↔ HasSpi f x
  deleted-are x = (
    λ i.
        let q = in-flat_map (λ (d : Delete). d.spis) x (deletes_of f) i in
        let r = in-flat_map (λ (p : Payload). deletes_of_content p.content) q.item f.payloads q.stands in
        record {
          payload = r.item;
          stands = r.stands;
          deletes = q.item;
          is-delete = in-delete r.item.content q.item r.is;
          spi = q.is;
        },
    λ h.
        let d = h.deletes in
        flat_map-in (λ (y : Delete). y.spis) x (deletes_of f) d
        (flat_map-in (λ (p : Payload). deletes_of_content p.content) d f.payloads h.payload h.stands
        (subst (λ (c : Content). In d (deletes_of_content c)) (sym h.is-delete) (in_head d d [] refl)))
        h.spi,
  )
