-- Reordering a frame keeps number 5, clause by clause.
use Prim.Native.Nat.{ℕ}
use mathlib.Core.Path.{◌≡◌, ◌∙◌}
use mathlib.Core.List.{List, [], ◌∷◌}
use mathlib.Core.Bool.{not}
use lib.ListN.{length}
use lib.Dec.{eqb}
use Rattle.lists.specs.Lists.{any}
use Rattle.wire_policies.specs.Policy.{GroupSaPolicy}
use Rattle.wire_bags.specs.Bag.{GroupKeyBag}
use Rattle.wire_frames.specs.Delete.{Delete}
use Rattle.wire_frames.specs.Frame.{Frame}
use Rattle.rules_refusals.specs.Contents.{row_of, announced}
use Rattle.state_sa.specs.Entry.{esp_protocol}
use Rattle.rules_refusals.specs.Fitness.{ah, transforms_fit}
use Rattle.rules_refusals.specs.Number5.{ah_policy, ah_bag, other_transforms, delete_of_other, delete_of_none, lent_key_size, number5_of_frame}
use Rattle.rules_refusals.specs.Reordered.{Reordered}
use Rattle.rules_refusals.proofs.AnyOrder.{any_order, any-equal}
use Rattle.rules_refusals.proofs.Contents.{announced-order, group-bags-order, deletes-order}
use Rattle.rules_refusals.proofs.OrderOf4.{row_kept}

module _ {f g : Frame} (r : Reordered f g) where
  ah-policy-kept : ah_policy f ≡ ah_policy g
  unfolding ah_policy
  ah-policy-kept = any-equal (λ (a : GroupSaPolicy). eqb a.protocol ah) (announced-order r)

  ah-bag-kept : ah_bag f ≡ ah_bag g
  unfolding ah_bag
  ah-bag-kept = any_order (λ (b : GroupKeyBag). eqb b.protocol ah) (λ a b e. (λ i. eqb (e.protocol i) ah)) (group-bags-order r)

  transforms-kept : other_transforms f ≡ other_transforms g
  unfolding other_transforms
  transforms-kept =
      any-equal (λ (a : GroupSaPolicy). not (transforms_fit (row_of f).authentication a)) (announced-order r)
      ∙ (λ i. any (λ (a : GroupSaPolicy). not (transforms_fit (row_kept r i).authentication a)) (announced g))

  other-kept : delete_of_other f ≡ delete_of_other g
  unfolding delete_of_other
  other-kept = any-equal (λ (d : Delete). not (eqb d.protocol esp_protocol)) (deletes-order r)

  none_kept : delete_of_none f ≡ delete_of_none g
  unfolding delete_of_none
  none_kept = any-equal (λ (d : Delete). eqb (length d.spis) 0) (deletes-order r)

  lent-kept : (lent : List ℕ) → lent_key_size lent f ≡ lent_key_size lent g
  unfolding lent_key_size
  lent-kept lent = rw r.header

  pub number5-kept : (lent : List ℕ) → number5_of_frame lent f ≡ number5_of_frame lent g
  unfolding number5_of_frame
  number5-kept lent = λ i. ah-policy-kept i ∷ ah-bag-kept i ∷ transforms-kept i ∷ other-kept i ∷ none_kept i ∷ lent-kept lent i ∷ []
