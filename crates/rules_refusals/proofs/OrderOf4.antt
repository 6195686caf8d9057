-- Reordering a frame keeps number 4, clause by clause.
use mathlib.Core.Path.{◌≡◌, refl, ap}
use mathlib.Core.List.{[], ◌∷◌}
use mathlib.Core.Bool.{not, ◌&&◌}
use lib.Dec.{ltb}
use Rattle.lists.specs.Lists.{any}
use Rattle.wire_policies.specs.Policy.{GroupSaPolicy, GroupWidePolicy}
use Rattle.wire_frames.specs.Header.{Header}
use Rattle.wire_frames.specs.Frame.{Frame, Payload, Content}
use Rattle.wire_frames.specs.Exchange.{exchange_of}
use Rattle.rules_refusals.specs.Contents.{row_of, several, has_gsa, has_kd, is_gsa, is_kd, group_sa_in}
use Rattle.rules_refusals.specs.Fitness.{is_rekey, one_group_address}
use Rattle.rules_refusals.specs.Number4.{critical_unknown, barred_member_bag, barred_delete, two_gsa}
use Rattle.rules_refusals.specs.Number4.{two_kd, gsa_without_kd, kd_without_gsa, neither}
use Rattle.rules_refusals.specs.Number4.{several_rekey_policies, several_group_wide, several_member_bags}
use Rattle.rules_refusals.specs.Number4.{gsa_without_sa_policy, key_length_twice}
use Rattle.rules_refusals.specs.Number4.{initial_message_id_twice, delay_twice, other_destination, lifetime_twice, unknown_critical}
use Rattle.rules_refusals.specs.Number4.{without_sa_policy}
use Rattle.rules_refusals.specs.Number4.{twice_in_transform, number4_of_frame}
use Rattle.rules_refusals.specs.Reordered.{ContentReordered, in-gsa, in-kd, in-delete, not-read, PayloadReordered, Reordered}
use Rattle.rules_refusals.proofs.AnyOrder.{any_order, any-equal, count-order, count-equal, length-order, flat_map-order}
use Rattle.rules_refusals.proofs.Contents.{equal, equal-lists, payloads-order, announced-order, wides-order, member-bags-order}
use Rattle.rules_refusals.proofs.Contents.{deletes-order, in-policies}

gsa-kept : {c d : Content} → ContentReordered c d → is_gsa c ≡ is_gsa d
gsa-kept (in-gsa r) = refl
gsa-kept (in-kd r) = refl
gsa-kept (in-delete e) = refl
gsa-kept not-read = refl

kd-kept : {c d : Content} → ContentReordered c d → is_kd c ≡ is_kd d
kd-kept (in-gsa r) = refl
kd-kept (in-kd r) = refl
kd-kept (in-delete e) = refl
kd-kept not-read = refl

module _ {f g : Frame} (r : Reordered f g) where
  pub row_kept : row_of f ≡ row_of g
  row_kept = ap (λ (h : Header). exchange_of h.exchange) r.header

  critical-kept : critical_unknown f ≡ critical_unknown g
  unfolding critical_unknown
  critical-kept = any_order unknown_critical (λ a b e. cc (e.critical, e.kind)) (payloads-order r)

  member-bag-kept : barred_member_bag f ≡ barred_member_bag g
  unfolding barred_member_bag
  member-bag-kept = λ i. not (row_kept i).allows_member_bag && ltb 0 (length-order (member-bags-order r) i)

  delete-kept : barred_delete f ≡ barred_delete g
  unfolding barred_delete
  delete-kept = λ i. not (row_kept i).allows_deletes && ltb 0 (length-order (deletes-order r) i)

  two-gsa-kept : two_gsa f ≡ two_gsa g
  unfolding two_gsa
  two-gsa-kept = ap (ltb 1) (count-order has_gsa (λ a b e. gsa-kept e.content) (payloads-order r))

  two-kd-kept : two_kd f ≡ two_kd g
  unfolding two_kd
  two-kd-kept = ap (ltb 1) (count-order has_kd (λ a b e. kd-kept e.content) (payloads-order r))

  any-gsa : any has_gsa f.payloads ≡ any has_gsa g.payloads
  any-gsa = any_order has_gsa (λ a b e. gsa-kept e.content) (payloads-order r)

  any-kd : any has_kd f.payloads ≡ any has_kd g.payloads
  any-kd = any_order has_kd (λ a b e. kd-kept e.content) (payloads-order r)

  without-kd-kept : gsa_without_kd f ≡ gsa_without_kd g
  unfolding gsa_without_kd
  without-kd-kept = λ i. any-gsa i && not (any-kd i)

  without-gsa-kept : kd_without_gsa f ≡ kd_without_gsa g
  unfolding kd_without_gsa
  without-gsa-kept = λ i. any-kd i && not (any-gsa i)

  neither-kept : neither f ≡ neither g
  unfolding neither
  neither-kept = λ i. not (any-gsa i) && (not (any-kd i) && not ((row_kept i).allows_deletes && ltb 0 (length-order (deletes-order r) i)))

  rekeys-kept : several_rekey_policies f ≡ several_rekey_policies g
  unfolding several_rekey_policies
  rekeys-kept = ap (ltb 1) (count-equal is_rekey (announced-order r))

  wides-kept : several_group_wide f ≡ several_group_wide g
  unfolding several_group_wide
  wides-kept = ap (ltb 1) (length-order (wides-order r))

  member-bags-kept : several_member_bags f ≡ several_member_bags g
  unfolding several_member_bags
  member-bags-kept = ap (ltb 1) (length-order (member-bags-order r))

  without-policy : (a b : Payload) → PayloadReordered a b → without_sa_policy a ≡ without_sa_policy b
  without-policy a b e =
      λ i. gsa-kept e.content i
      && not (ltb 0 (length-order (flat_map-order equal group_sa_in (equal-lists group_sa_in) (in-policies e.content)) i))

  without-policy-kept : gsa_without_sa_policy f ≡ gsa_without_sa_policy g
  unfolding gsa_without_sa_policy
  without-policy-kept = any_order without_sa_policy without-policy (payloads-order r)

  key-length-kept : key_length_twice f ≡ key_length_twice g
  unfolding key_length_twice
  key-length-kept =
      any-equal (λ (a : GroupSaPolicy). any twice_in_transform a.transforms) (announced-order r)

  initial-kept : initial_message_id_twice f ≡ initial_message_id_twice g
  unfolding initial_message_id_twice
  initial-kept = any-equal (λ (a : GroupSaPolicy). several a.initial_message_ids) (announced-order r)

  delay-kept : delay_twice f ≡ delay_twice g
  unfolding delay_twice
  delay-kept = any-equal (λ (w : GroupWidePolicy). several w.deactivation_delays) (wides-order r)

  destination-kept : other_destination f ≡ other_destination g
  unfolding other_destination
  destination-kept =
      any-equal (λ (a : GroupSaPolicy). is_rekey a && not (one_group_address a.destination)) (announced-order r)

  lifetime-kept : lifetime_twice f ≡ lifetime_twice g
  unfolding lifetime_twice
  lifetime-kept = any-equal (λ (a : GroupSaPolicy). several a.key_lifetimes) (announced-order r)

  pub number4-kept : number4_of_frame f ≡ number4_of_frame g
  unfolding number4_of_frame
  number4-kept = λ i.
      critical-kept i ∷ member-bag-kept i ∷ delete-kept i ∷ two-gsa-kept i ∷ two-kd-kept i ∷ without-kd-kept i ∷ without-gsa-kept i ∷
      neither-kept i ∷ rekeys-kept i ∷ wides-kept i ∷ member-bags-kept i ∷ without-policy-kept i ∷ key-length-kept i ∷ initial-kept i ∷
      delay-kept i ∷ destination-kept i ∷ lifetime-kept i ∷ []
