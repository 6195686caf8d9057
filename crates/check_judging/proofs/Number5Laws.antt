-- The tests of numbers 5 and 7 over the facts of a frame are their clauses.
use Prim.Native.Nat.{ℕ, ◌+◌}
use mathlib.Core.Path.{◌≡◌, sym, ◌∙◌}
use mathlib.Core.List.{List, [], ◌∷◌}
use mathlib.Core.Bool.{not, ◌&&◌, or-false}
use lib.ListN.{length}
use lib.Dec.{ltb}
use Rattle.state_keys.specs.Limits.{limits}
use Rattle.state_keys.specs.Algorithms.{is_wrapping_size}
use Rattle.state.specs.declared.State.{State}
use Rattle.wire_frames.specs.Frame.{Frame}
use Rattle.wire_frames.specs.declared.exchanges.Exchange.{Exchange}
use Rattle.rules_refusals.specs.Contents.{row_of, policies_of, bags_of}
use Rattle.rules_refusals.specs.Number2.{not_due_sas}
use Rattle.rules_refusals.specs.Number5.{ah_policy, ah_bag, other_transforms, lent_key_size, number5_of_frame}
use Rattle.rules_refusals.specs.Number7.{many_esp_policies, many_wrap_keys, many_sa_keys, many_deleted_spis, long_lifetime, many_fresh_keys, many_sas}
use Rattle.rules_refusals.specs.Number7.{number7_of_frame, number7_of_member}
use Rattle.rules_refusals.specs.Refusals.{one, number5, number7, applies}
use Rattle.rules_refusals.proofs.OneOf.{one-append}
use Rattle.check_payloads.specs.declared.deletion.Deletes.{Deletes}
use Rattle.check_payloads.proofs.FoundLaws.{IsDeletes}
use Rattle.check_composition.specs.declared.PolicyFacts.{PolicyFacts}
use Rattle.check_composition.specs.inner.Facts.{policy_facts_of as policyFacts}
use Rattle.check_bagkeys.specs.declared.BagFacts.{BagFacts}
use Rattle.check_bagkeys.specs.inner.Facts.{bag_facts_of as bagFacts}
use Rattle.check_judging.specs.inner.Tests.{number5_of, number7_of}

module _ (f : Frame) (row : Exchange) (e : row_of f ≡ row) (d : Deletes) (is : IsDeletes f d) (p : PolicyFacts) (k : BagFacts)
    (pq : p ≡ policyFacts (row_of f).authentication (policies_of f)) (kq : k ≡ bagFacts limits (bags_of f)) where
  pub number5-is : (lent : List ℕ) → one (number5_of row (length lent) d p k) ≡ applies (number5 lent f)
  unfolding one ah_policy ah_bag other_transforms lent_key_size number5_of_frame
  number5-is lent =
      (λ i. one ((pq i).ah ∷ (kq i).ah ∷ (pq i).unfit ∷ is.other i ∷ is.none i
      ∷ ((sym e i).judges_lent_key && not (is_wrapping_size (length lent))) ∷ []))
      ∙ sym (or-false (one (number5_of_frame lent f)))

  pub number7-is : (state : State) (now n : ℕ) → n ≡ length (not_due_sas now state)
      → one (number7_of limits d p k n) ≡ applies (number7 limits state now f)
  unfolding many_esp_policies many_wrap_keys many_sa_keys many_deleted_spis long_lifetime many_fresh_keys many_sas number7_of_frame number7_of_member
  number7-is state now n nq =
      (λ i. one (ltb limits.esp_policies (pq i).esps ∷ ltb limits.wrap_keys (kq i).wraps ∷ (kq i).overfull
      ∷ ltb limits.deleted_spis (is.spis i) ∷ (pq i).long ∷ ltb limits.fresh_keys (kq i).fresh ∷ ltb limits.sas (nq i + (pq i).sas)
      ∷ [])) ∙ one-append (number7_of_frame limits f) (number7_of_member limits state now f)
