-- A Rekey SA that a new one replaced is not live any more: an accepted rekey that announces a Rekey SA leaves none live with the SPIs over
-- which it came, since those that stood before retire, and number 6 bars their names to the new ones.
use Prim.Native.Nat.{ℕ}
use mathlib.Core.Path.{◌≡◌, sym, ap, ap₂, ◌∙◌}
use mathlib.Core.Bool.{true, ◌||◌, false≢true}
use mathlib.Core.Logic.{⊎_elim}
use mathlib.Core.List.{List, Memᴰ}
use borrow.Author.Tests.{eqb-true}
use lib.Dec.{eqb}
use Rattle.octets.specs.Compare.{same}
use Rattle.octets.proofs.Order.{same-eq}
use Rattle.state_keys.specs.Limits.{Limits}
use Rattle.lists.specs.Lists.{any}
use Rattle.lists.proofs.Cases.{and_parts, or_cases}
use Rattle.wire_policies.specs.Policy.{GroupSaPolicy}
use Rattle.wire_frames.specs.Frame.{Frame}
use Rattle.wire_frames.specs.Grammar.{IsFrame}
use Rattle.state_sa.specs.Entry.{rekey_protocol, named, live_rekey}
use Rattle.state_table.specs.Table.{sas_of}
use Rattle.state_table.proofs.Kept.{sas-of-table}
use Rattle.state.specs.declared.State.{State}
use Rattle.rules_refusals.specs.Contents.{announced}
use Rattle.rules_refusals.specs.Number2.{not_due_sas, over_live_rekey}
use Rattle.rules_refusals.specs.Number6.{policy_named}
use Rattle.rules_outcome.specs.Holding.{new_rekey}
use Rattle.rules_outcome.specs.After.{old_sas, insert_all}
use Rattle.rules_outcome.specs.Outcome.{Outcome}
use Rattle.rules_outcome.specs.Run.{LiveRekey, StandsAt}
use Rattle.rules_outcome.proofs.RunsClear.{Taken, taken}
use Rattle.rules_outcome.proofs.RunsLists.{count_none, none_passes, some-passes, passes-some}
use Rattle.rules_outcome.proofs.RunsLive.{over-parts}
use Rattle.rules_outcome.proofs.RunsMade.{made-any}
use Rattle.rules_outcome.proofs.RunsOld.{old-live}
use Rattle.rules_outcome.proofs.RunsTable.{any-all}
use Rattle.rules_outcome.proofs.RunsAccepted.{new-name, all_made}

module _ (limits : Limits) (s : State) (now : ℕ) (lent octets : List ℕ) (f : Frame) (e : IsFrame s.profile octets f) (next : State)
    (o : Outcome limits s now lent octets 0 next) (new : new_rekey f ≡ true) (x : List ℕ) (stood : StandsAt now x s) where
  was : Taken limits s now lent next f
  was = taken limits s now lent octets f next e o

  -- none that stood before is live
  not-old : any (over_live_rekey x) (old_sas s now f) ≡ true → ⊥
  not-old h =
      let p = some-passes (over_live_rekey x) (old_sas s now f) h in
      let none = none_passes live_rekey (old_sas s now f) (count_none live_rekey (old_sas s now f) (old-live limits s now f new)) p.one
      p.stands in
      false≢true (sym none ∙ (over-parts x p.one p.passes).0)

  -- what stood has this name
  has-name : any (named rekey_protocol x) (not_due_sas now s) ≡ true
  has-name =
      let p = some-passes (over_live_rekey x) (not_due_sas now s) stood in
      passes-some (named rekey_protocol x) (not_due_sas now s) p.one p.stands (over-parts x p.one p.passes).1

  -- and no announced one does
  other_name : (p : GroupSaPolicy) → Memᴰ p (announced f) → policy_named rekey_protocol x p ≡ true → ⊥
  other_name p m h =
      let k = and_parts (eqb p.protocol rekey_protocol) (same p.spi x) h in
      let name : any (named p.protocol p.spi) (not_due_sas now s) ≡ any (named rekey_protocol x) (not_due_sas now s) =
      ap₂ (λ (n : ℕ) (y : List ℕ). any (named n y) (not_due_sas now s)) (eqb-true p.protocol rekey_protocol k.0)
      (same-eq p.spi x k.1) in
      false≢true (sym (new-name limits s now lent f was.is-clear p m) ∙ name ∙ has-name)

  not_new : any (over_live_rekey x) was.after.new ≡ true → ⊥
  not_new h =
      let p = some-passes (over_live_rekey x) was.after.new h in
      let there = passes-some (named rekey_protocol x) was.after.new p.one p.stands (over-parts x p.one p.passes).1 in
      let made = all_made limits s now lent f was.is-clear octets e was.after.new was.after.enter in
      let q = some-passes (policy_named rekey_protocol x) (announced f) (sym (made-any rekey_protocol x made) ∙ there) in
      other_name q.one q.stands q.passes

  pub replaced-not-live : LiveRekey x next → ⊥
  replaced-not-live live =
      let all : any (over_live_rekey x) (sas_of next.table)
      ≡ (any (over_live_rekey x) was.after.new || any (over_live_rekey x) (old_sas s now f)) =
      ap (any (over_live_rekey x)) (ap sas_of was.after.table ∙ sas-of-table limits (insert_all was.after.new (old_sas s now f)))
      ∙ any-all (over_live_rekey x) was.after.new (old_sas s now f) in
      ⊎_elim not_new not-old
      (or_cases (any (over_live_rekey x) was.after.new) (any (over_live_rekey x) (old_sas s now f)) (sym all ∙ live))
