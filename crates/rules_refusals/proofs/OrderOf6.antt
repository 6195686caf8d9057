-- Reordering a frame keeps number 6, clause by clause.
use Prim.Native.Nat.{ℕ}
use mathlib.Core.Path.{◌≡◌, ◌∙◌}
use mathlib.Core.List.{List, [], ◌∷◌}
use mathlib.Core.Bool.{Bool, not, cond, ◌&&◌}
use lib.Dec.{ltb, eqb}
use Rattle.octets.specs.Compare.{same}
use Rattle.lists.specs.Lists.{any}
use Rattle.state_sa.specs.Entry.{named, esp_protocol, rekey_protocol}
use Rattle.state.specs.declared.State.{State}
use Rattle.wire_attributes.specs.Tree.{SaKey, WrapKey}
use Rattle.wire_policies.specs.Policy.{GroupSaPolicy}
use Rattle.wire_bags.specs.Bag.{GroupKeyBag}
use Rattle.wire_frames.specs.Frame.{Frame}
use Rattle.wire_frames.specs.declared.exchanges.Exchange.{Exchange}
use Rattle.rules_refusals.specs.Contents.{row_of, announced, group_bags}
use Rattle.rules_refusals.specs.Number2.{not_due_sas}
use Rattle.rules_refusals.specs.Number6.{policy_named, bag_named, policies_named, bags_named}
use Rattle.rules_refusals.specs.Number6.{policy_unpaired, bag_unpaired, policy_twice, bag_twice}
use Rattle.rules_refusals.specs.Number6.{already_in_table, other_sa_key_count, sa_key_count, has_key_id}
use Rattle.rules_refusals.specs.Number6.{sa_key_id, has_kwk_id, esp_kwk_id, wrap_key_id}
use Rattle.rules_refusals.specs.Number6.{under_itself, wraps_itself, fresh_key_id, fresh_wraps_itself, number6_of_frame, number6_of_member}
use Rattle.rules_refusals.specs.Reordered.{GroupBagReordered, Reordered}
use Rattle.rules_refusals.proofs.AnyOrder.{any_order, any-equal, count-order, count-equal, length-order}
use Rattle.rules_refusals.proofs.Contents.{announced-order, group-bags-order, wrap-keys-order, fresh-keys-order}
use Rattle.rules_refusals.proofs.OrderOf4.{row_kept}

-- a test of a bag's name, of its keys
name-test : (t : ℕ → List ℕ → Bool) (a b : GroupKeyBag) → GroupBagReordered a b → t a.protocol a.spi ≡ t b.protocol b.spi
name-test t a b e = λ i. t (e.protocol i) (e.spi i)

key-test : (p : SaKey → Bool) (a b : GroupKeyBag) → GroupBagReordered a b → any p a.keys ≡ any p b.keys
key-test p a b e = any-equal p e.keys

count-test : (x : Exchange) (a b : GroupKeyBag) → GroupBagReordered a b → other_sa_key_count x a ≡ other_sa_key_count x b
unfolding other_sa_key_count
count-test x a b e = λ i.
    cond (x.allows_copies && eqb (e.protocol i) rekey_protocol) (eqb (length-order e.keys i) 0)
    (not (eqb (length-order e.keys i) 1))

module _ {f g : Frame} (r : Reordered f g) where
  policies-named : (p : ℕ) (x : List ℕ) → policies_named f p x ≡ policies_named g p x
  policies-named p x = count-equal (policy_named p x) (announced-order r)

  bags-named : (p : ℕ) (x : List ℕ) → bags_named f p x ≡ bags_named g p x
  bags-named p x = count-order (bag_named p x) (name-test (λ q y. eqb q p && same y x)) (group-bags-order r)

  policy-paired-kept : policy_unpaired f ≡ policy_unpaired g
  unfolding policy_unpaired
  policy-paired-kept =
      any-equal (λ (a : GroupSaPolicy). not (eqb (bags_named f a.protocol a.spi) 1)) (announced-order r)
      ∙ (λ i. any (λ (a : GroupSaPolicy). not (eqb (bags-named a.protocol a.spi i) 1)) (announced g))

  bag-paired-kept : bag_unpaired f ≡ bag_unpaired g
  unfolding bag_unpaired
  bag-paired-kept =
      any_order (λ (b : GroupKeyBag). not (eqb (policies_named f b.protocol b.spi) 1))
      (name-test (λ q y. not (eqb (policies_named f q y) 1))) (group-bags-order r)
      ∙ (λ i. any (λ (b : GroupKeyBag). not (eqb (policies-named b.protocol b.spi i) 1)) (group_bags g))

  policy-twice-kept : policy_twice f ≡ policy_twice g
  unfolding policy_twice
  policy-twice-kept =
      any-equal (λ (a : GroupSaPolicy). ltb 1 (policies_named f a.protocol a.spi)) (announced-order r)
      ∙ (λ i. any (λ (a : GroupSaPolicy). ltb 1 (policies-named a.protocol a.spi i)) (announced g))

  bag-twice-kept : bag_twice f ≡ bag_twice g
  unfolding bag_twice
  bag-twice-kept =
      any_order (λ (b : GroupKeyBag). ltb 1 (bags_named f b.protocol b.spi))
      (name-test (λ q y. ltb 1 (bags_named f q y))) (group-bags-order r)
      ∙ (λ i. any (λ (b : GroupKeyBag). ltb 1 (bags-named b.protocol b.spi i)) (group_bags g))

  in-table-kept : (s : State) (now : ℕ) → already_in_table s now f ≡ already_in_table s now g
  unfolding already_in_table
  in-table-kept s now =
      any-equal (λ (a : GroupSaPolicy). any (named a.protocol a.spi) (not_due_sas now s)) (announced-order r)

  sa-key-count-kept : sa_key_count f ≡ sa_key_count g
  unfolding sa_key_count
  sa-key-count-kept =
      any_order (other_sa_key_count (row_of f)) (count-test (row_of f)) (group-bags-order r)
      ∙ (λ i. any (other_sa_key_count (row_kept r i)) (group_bags g))

  key-id-kept : sa_key_id f ≡ sa_key_id g
  unfolding sa_key_id
  key-id-kept = any_order (λ (b : GroupKeyBag). any has_key_id b.keys) (key-test has_key_id) (group-bags-order r)

  kwk-id-kept : esp_kwk_id f ≡ esp_kwk_id g
  unfolding esp_kwk_id
  kwk-id-kept =
      any_order (λ (b : GroupKeyBag). eqb b.protocol esp_protocol && any has_kwk_id b.keys)
      (λ a b e. (λ i. eqb (e.protocol i) esp_protocol && key-test has_kwk_id a b e i)) (group-bags-order r)

  wrap-key-id-kept : wrap_key_id f ≡ wrap_key_id g
  unfolding wrap_key_id
  wrap-key-id-kept = any-equal (λ (k : WrapKey). eqb k.key_id 0) (wrap-keys-order r)

  wraps-itself-kept : wraps_itself f ≡ wraps_itself g
  unfolding wraps_itself
  wraps-itself-kept = any-equal under_itself (wrap-keys-order r)

  fresh-key-id-kept : fresh_key_id f ≡ fresh_key_id g
  unfolding fresh_key_id
  fresh-key-id-kept = any-equal (λ (k : WrapKey). eqb k.key_id 0) (fresh-keys-order r)

  fresh-wraps-itself-kept : fresh_wraps_itself f ≡ fresh_wraps_itself g
  unfolding fresh_wraps_itself
  fresh-wraps-itself-kept = any-equal under_itself (fresh-keys-order r)

  pub number6-kept : number6_of_frame f ≡ number6_of_frame g
  unfolding number6_of_frame
  number6-kept = λ i.
      policy-paired-kept i ∷ bag-paired-kept i ∷ policy-twice-kept i ∷ bag-twice-kept i ∷ sa-key-count-kept i ∷ key-id-kept i ∷
      kwk-id-kept i ∷ wrap-key-id-kept i ∷ wraps-itself-kept i ∷ fresh-key-id-kept i ∷ fresh-wraps-itself-kept i ∷ []

  pub number6-member-kept : (s : State) (now : ℕ) → number6_of_member s now f ≡ number6_of_member s now g
  unfolding number6_of_member
  number6-member-kept s now = λ i. in-table-kept s now i ∷ []
