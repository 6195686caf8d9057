-- A frame in another order leaves the same member.
use Prim.Native.Nat.{ℕ}
use mathlib.Core.Path.{◌≡◌, ap, ◌∙◌, subst}
use mathlib.Core.Bool.{true}
use mathlib.Core.List.{List}
use Rattle.state_keys.specs.Limits.{Limits}
use Rattle.lists.specs.Lists.{rising}
use Rattle.wire_frames.specs.Frame.{Frame}
use Rattle.wire_frames.specs.Grammar.{IsFrame}
use Rattle.state_sa.specs.Entry.{sa_before}
use Rattle.state_sa.specs.declared.entry.Sa.{Sa}
use Rattle.state_table.specs.Table.{table_of}
use Rattle.state.specs.declared.State.{State}
use Rattle.rules_refusals.specs.Contents.{announced}
use Rattle.rules_refusals.specs.Reordered.{Reordered}
use Rattle.rules_refusals.proofs.Contents.{announced-order}
use Rattle.rules_chains.specs.Chain.{Root}
use Rattle.rules_outcome.specs.Roots.{roots_of, entries_of, wrapping_size}
use Rattle.rules_outcome.specs.After.{old_sas, insert_all, Enter, After}
use Rattle.rules_outcome.proofs.AnyOrderOfFrame.{old-sas-kept, least_kept}
use Rattle.rules_outcome.proofs.AnyOrderOfFrame.{enter-kept, enter-order, inserted-kept}
use Rattle.rules_outcome.proofs.RunsClear.{Clear}
use Rattle.rules_outcome.proofs.RunsAccepted.{table-fit}
use Rattle.rules_order.proofs.Holding.{over, held_kept}

-- ---- the member after acceptance
module _ (limits : Limits) (s : State) (now : ℕ) (lent : List ℕ) {f g : Frame} (r : Reordered f g) where
  abbrev roots : List Root
  roots = roots_of limits s now lent g

  abbrev size : ℕ
  size = wrapping_size limits s now lent g

  pub after_kept : Clear limits s now lent f → Clear limits s now lent g → (octets others : List ℕ) → IsFrame s.profile octets f →
      IsFrame s.profile others g →
      (next : State) → After limits s now lent f next → After limits s now lent g next
  after_kept c d octets others i j next a =
      let new = enter-kept roots size now r (announced f) a.new
      (over limits s now lent r (λ l n. Enter l (entries_of f) n now f (announced f) a.new) a.enter) in
      let too = enter-order roots (entries_of g) size now g (announced-order r) a.new new in
      let old = old-sas-kept r s now in
      let p : rising sa_before (insert_all a.new (old_sas s now g)) ≡ true =
      subst (λ (l : List Sa). rising sa_before (insert_all a.new l) ≡ true) old
      (table-fit limits s now lent f c octets i a.new a.enter).rises in
      let q = (table-fit limits s now lent g d others j too.sas too.enter).rises in
      record {
        new = too.sas;
        enter = too.enter;
        table =
            a.table ∙ ap (λ (l : List Sa). table_of limits (insert_all a.new l)) old
            ∙ ap (table_of limits) (inserted-kept a.new too.sas (old_sas s now g) too.order p q);
        held = held_kept limits s now lent r next.held a.held;
        least = a.least ∙ least_kept r s;
        profile = a.profile;
      }
