-- Reordering a frame keeps number 7, clause by clause.
use Prim.Native.Nat.{ℕ, ◌+◌}
use mathlib.Core.Path.{◌≡◌, ap}
use mathlib.Core.List.{[], ◌∷◌}
use lib.ListN.{length}
use lib.Dec.{ltb}
use Rattle.lists.specs.Lists.{any}
use Rattle.state_sa.specs.Entry.{most_seconds}
use Rattle.wire_policies.specs.Policy.{GroupSaPolicy}
use Rattle.state_keys.specs.Limits.{Limits}
use Rattle.state.specs.declared.State.{State}
use Rattle.wire_bags.specs.Bag.{GroupKeyBag}
use Rattle.wire_frames.specs.Frame.{Frame}
use Rattle.rules_refusals.specs.Fitness.{is_esp}
use Rattle.rules_refusals.specs.Number2.{not_due_sas}
use Rattle.rules_refusals.specs.Number7.{many_esp_policies, many_wrap_keys, many_sa_keys, many_deleted_spis, long_lifetime, many_sas}
use Rattle.rules_refusals.specs.Number7.{many_fresh_keys, number7_of_frame, number7_of_member}
use Rattle.rules_refusals.specs.Reordered.{Reordered}
use Rattle.rules_refusals.proofs.AnyOrder.{any_order, any-equal, count-equal, length-order}
use Rattle.rules_refusals.proofs.Contents.{announced-order, group-bags-order, wrap-keys-order, fresh-keys-order, deleted-order}

module _ {f g : Frame} (r : Reordered f g) (limits : Limits) where
  esp-kept : many_esp_policies limits f ≡ many_esp_policies limits g
  unfolding many_esp_policies
  esp-kept = ap (ltb limits.esp_policies) (count-equal is_esp (announced-order r))

  wrap-keys-kept : many_wrap_keys limits f ≡ many_wrap_keys limits g
  unfolding many_wrap_keys
  wrap-keys-kept = ap (ltb limits.wrap_keys) (length-order (wrap-keys-order r))

  sa-keys-kept : many_sa_keys limits f ≡ many_sa_keys limits g
  unfolding many_sa_keys
  sa-keys-kept =
      any_order (λ (b : GroupKeyBag). ltb limits.sa_keys (length b.keys))
      (λ a b e. (λ i. ltb limits.sa_keys (length-order e.keys i))) (group-bags-order r)

  deleted-kept : many_deleted_spis limits f ≡ many_deleted_spis limits g
  unfolding many_deleted_spis
  deleted-kept = rw (length-order (deleted-order r))

  lifetime-kept : long_lifetime f ≡ long_lifetime g
  unfolding long_lifetime
  lifetime-kept = any-equal (λ (p : GroupSaPolicy). any (λ (n : ℕ). ltb most_seconds n) p.key_lifetimes) (announced-order r)

  fresh-keys-kept : many_fresh_keys limits f ≡ many_fresh_keys limits g
  unfolding many_fresh_keys
  fresh-keys-kept = ap (ltb limits.fresh_keys) (length-order (fresh-keys-order r))

  sas-kept : (s : State) (now : ℕ) → many_sas limits s now f ≡ many_sas limits s now g
  unfolding many_sas
  sas-kept s now = λ i. ltb limits.sas (length (not_due_sas now s) + length-order (announced-order r) i)

  pub number7-kept : number7_of_frame limits f ≡ number7_of_frame limits g
  unfolding number7_of_frame
  number7-kept = λ i. esp-kept i ∷ wrap-keys-kept i ∷ sa-keys-kept i ∷ deleted-kept i ∷ lifetime-kept i ∷ fresh-keys-kept i ∷ []

  pub number7-member-kept : (s : State) (now : ℕ) → number7_of_member limits s now f ≡ number7_of_member limits s now g
  unfolding number7_of_member
  number7-member-kept s now = λ i. sas-kept s now i ∷ []
