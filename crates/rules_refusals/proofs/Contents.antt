-- Reordering a frame reorders each list of its contents.
use mathlib.Core.Path.{◌≡◌, refl, subst}
use mathlib.Core.List.{List}
use Rattle.wire_bags.specs.Bag.{Bag, group_keys, member_keys, GroupKeyBag, MemberKeyBag}
use Rattle.wire_frames.specs.Delete.{Delete}
use Rattle.wire_frames.specs.Frame.{Frame, Payload, Content}
use Rattle.rules_refusals.specs.Contents.{group_sa_in, wide_of, group_bag_of, member_bag_of, policies_of_content, bags_of_content}
use Rattle.rules_refusals.specs.Contents.{deletes_of_content, policies_of, bags_of}
use Rattle.rules_refusals.specs.Contents.{deletes_of, announced, group_wides, group_bags, member_bags, wrap_keys_of, fresh_keys_of}
use Rattle.rules_refusals.specs.Contents.{deleted_spis}
use Rattle.rules_refusals.specs.Reordered.{AnyOrder, none, next, GroupBagReordered, MemberBagReordered, BagReordered, group, member}
use Rattle.rules_refusals.specs.Reordered.{ContentReordered, in-gsa, in-kd, in-delete, not-read, PayloadReordered, Reordered}
use Rattle.rules_refusals.proofs.AnyOrder.{in_order, as_is, flat_map-order}

pub equal : {A : Type 0} (a : A) → a ≡ a
equal a = refl

-- equal elements hold equal lists
pub equal-lists : {A B : Type 0} (f : A → List B) (a b : A) → a ≡ b → AnyOrder ◌≡◌ (f a) (f b)
equal-lists f a b e = subst (λ x. AnyOrder ◌≡◌ (f a) (f x)) e (as_is equal (f a))

pub group-same : (b : GroupKeyBag) → GroupBagReordered b b
group-same b = record { protocol = refl; spi = refl; keys = as_is equal b.keys; fresh = as_is equal b.fresh }

pub member-same : (b : MemberKeyBag) → MemberBagReordered b b
member-same b = record { keys = as_is equal b.keys }

pub bag-same : (b : Bag) → BagReordered b b
bag-same (group_keys b) = group (group-same b)
bag-same (member_keys b) = member (member-same b)

-- what is in a payload
pub in-policies : {c d : Content} → ContentReordered c d → AnyOrder ◌≡◌ (policies_of_content c) (policies_of_content d)
in-policies (in-gsa r) = r
in-policies (in-kd r) = none
in-policies (in-delete e) = none
in-policies not-read = none

in-bags : {c d : Content} → ContentReordered c d → AnyOrder BagReordered (bags_of_content c) (bags_of_content d)
in-bags (in-gsa r) = none
in-bags (in-kd r) = r
in-bags (in-delete e) = none
in-bags not-read = none

in-deletes : {c d : Content} → ContentReordered c d → AnyOrder ◌≡◌ (deletes_of_content c) (deletes_of_content d)
in-deletes (in-gsa r) = none
in-deletes (in-kd r) = none
in-deletes (in-delete e) = next e none
in-deletes not-read = none

in_group : (a b : Bag) → BagReordered a b → AnyOrder GroupBagReordered (group_bag_of a) (group_bag_of b)
in_group a b (group r) = next r none
in_group a b (member r) = none

in-member : (a b : Bag) → BagReordered a b → AnyOrder MemberBagReordered (member_bag_of a) (member_bag_of b)
in-member a b (group r) = none
in-member a b (member r) = next r none

-- what is in the frame
module _ {f g : Frame} (r : Reordered f g) where
  pub payloads-order : AnyOrder PayloadReordered f.payloads g.payloads
  payloads-order = in_order r.payloads

  pub policies-order : AnyOrder ◌≡◌ (policies_of f) (policies_of g)
  policies-order = flat_map-order equal (λ (p : Payload). policies_of_content p.content) (λ a b e. in-policies e.content) payloads-order

  pub bags-order : AnyOrder BagReordered (bags_of f) (bags_of g)
  bags-order = flat_map-order bag-same (λ (p : Payload). bags_of_content p.content) (λ a b e. in-bags e.content) payloads-order

  pub deletes-order : AnyOrder ◌≡◌ (deletes_of f) (deletes_of g)
  deletes-order = flat_map-order equal (λ (p : Payload). deletes_of_content p.content) (λ a b e. in-deletes e.content) payloads-order

  pub announced-order : AnyOrder ◌≡◌ (announced f) (announced g)
  announced-order = flat_map-order equal group_sa_in (equal-lists group_sa_in) policies-order

  pub wides-order : AnyOrder ◌≡◌ (group_wides f) (group_wides g)
  wides-order = flat_map-order equal wide_of (equal-lists wide_of) policies-order

  pub group-bags-order : AnyOrder GroupBagReordered (group_bags f) (group_bags g)
  group-bags-order = flat_map-order group-same group_bag_of in_group bags-order

  pub member-bags-order : AnyOrder MemberBagReordered (member_bags f) (member_bags g)
  member-bags-order = flat_map-order member-same member_bag_of in-member bags-order

  pub wrap-keys-order : AnyOrder ◌≡◌ (wrap_keys_of f) (wrap_keys_of g)
  wrap-keys-order = flat_map-order equal (λ (b : MemberKeyBag). b.keys) (λ a b e. e.keys) member-bags-order

  pub fresh-keys-order : AnyOrder ◌≡◌ (fresh_keys_of f) (fresh_keys_of g)
  fresh-keys-order = flat_map-order equal (λ (b : GroupKeyBag). b.fresh) (λ a b e. e.fresh) group-bags-order

  pub deleted-order : AnyOrder ◌≡◌ (deleted_spis f) (deleted_spis g)
  deleted-order = flat_map-order equal (λ (d : Delete). d.spis) (equal-lists (λ (d : Delete). d.spis)) deletes-order
