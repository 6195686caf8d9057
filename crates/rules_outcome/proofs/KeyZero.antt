-- KEY 0 OF A REKEY that number 2 lets pass is cut out of the Rekey SA over which it came.
use Prim.Native.Nat.{ℕ, ◌≤◌}
use mathlib.Core.Path.{◌≡◌, ◌∙◌}
use mathlib.Core.Bool.{true}
use mathlib.Core.List.{List}
use borrow.Author.Tests.{not-true, not-false}
use lib.Dec.{eqb}
use lib.ListN.{length}
use Rattle.octets.specs.Compare.{same}
use Rattle.octets.proofs.Order.{same-eq}
use Rattle.state_keys.specs.Limits.{Limits}
use Rattle.lists.proofs.Cases.{and_parts}
use Rattle.lists.proofs.Members.{kept-member}
use Rattle.wire_frames.specs.Frame.{Frame}
use Rattle.wire_frames.specs.Grammar.{IsFrame}
use Rattle.state_sa.specs.Entry.{rekey_protocol, sa_spi, named, live_rekey, due}
use Rattle.state_sa.specs.declared.entry.Sa.{Sa}
use Rattle.state_table.specs.Table.{sas_of, stays}
use Rattle.state.specs.declared.State.{State}
use Rattle.state.specs.State.{state_formed}
use Rattle.rules_refusals.specs.Number2.{not_due_sas, over_live_rekey, number2_of_member}
use Rattle.rules_refusals.specs.Refusals.{number2}
use Rattle.rules_refusals.proofs.Clear.{no-clause}
use Rattle.rules_chains.specs.Chain.{In}
use Rattle.rules_chains.proofs.Members.{member-in}
use Rattle.rules_outcome.specs.Roots.{key_zero_value}
use Rattle.rules_outcome.specs.NamedKey.{CameOver}
use Rattle.rules_outcome.specs.Meets.{Meets}
use Rattle.rules_outcome.proofs.Meets.{meets-2}
use Rattle.rules_outcome.proofs.Rows.{rekeys}
use Rattle.rules_outcome.proofs.NamedKey.{zero-own}
use Rattle.rules_outcome.proofs.OwnKey.{own-key-of-live}
use Rattle.rules_outcome.proofs.RunsClear.{None, none-applies}
use Rattle.rules_outcome.proofs.RunsLists.{some-passes}
use Rattle.rules_outcome.proofs.RunsLive.{passes_over}

module _ (limits : Limits) (s : State) (now : ℕ) (lent octets : List ℕ) (f : Frame) (e : IsFrame s.profile octets f)
    (x : f.header.exchange ≡ 41) (no-2 : Meets limits s now lent octets 2 → ⊥)
    -- the octets of an SA are an array of 68; `KeyZeroInRuns` has the claim without this premise
    (long : (b : Sa) → In b (sas_of s.table) → 68 ≤ length b.octets) where
  passes : None (number2 limits s now f.header.exchange f.header.spi)
  passes = none-applies (number2 limits s now f.header.exchange f.header.spi) (λ h. no-2 (meets-2 limits s now lent octets f e h))

  is-formed : state_formed limits s ≡ true
  is-formed =
      not-false (state_formed limits s)
      (no-clause (number2_of_member limits s now f.header.exchange f.header.spi) 2 passes.of_member)

  -- THE CLAIM
  pub key-zero-of-rekey : CameOver s now f (key_zero_value limits s now lent f)
  unfolding named
  key-zero-of-rekey =
      let spi = f.header.spi in
      let over = passes_over limits s now f passes (rekeys f.header.exchange x) in
      let p = some-passes (over_live_rekey spi) (not_due_sas now s) over in
      let b = p.one in
      let k = kept-member (stays now) b (sas_of s.table) p.stands in
      let m = member-in b (sas_of s.table) k.0 in
      let d = not-true (due now b) k.1 in
      let q = and_parts (live_rekey b) (named rekey_protocol spi b) p.passes in
      let n = and_parts (eqb b.protocol rekey_protocol) (same (sa_spi b) spi) q.1 in
      record {
        sa = b;
        stands = m;
        live = q.0;
        not-due = d;
        spi = same-eq (sa_spi b) spi n.1;
        cut = zero-own limits s now lent f x ∙ own-key-of-live limits s now is-formed b m q.0 d (long b m);
      }
