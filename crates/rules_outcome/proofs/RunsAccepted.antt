-- An accepted frame leaves a table that is as it must be and blank in its unused places.
use native.Mathlib.Omega.{arith}
use Prim.Native.Nat.{ℕ, ◌+◌, ◌≤◌}
use mathlib.Core.Path.{◌≡◌, ◌∙◌}
use mathlib.Core.Bool.{true, false, not}
use mathlib.Core.List.{List, Memᴰ}
use borrow.Author.Tests.{eqb-true, eqb-false, ltb-false, not-false}
use lib.Dec.{eqb, ltb}
use lib.ListN.{length}
use Rattle.state_keys.specs.Limits.{Limits}
use Rattle.lists.specs.Lists.{any, count}
use Rattle.lists.proofs.Cases.{bool_cases, and_parts}
use Rattle.wire_policies.specs.Policy.{GroupSaPolicy}
use Rattle.wire_frames.specs.Frame.{Frame}
use Rattle.wire_frames.specs.Grammar.{IsFrame}
use Rattle.state_sa.specs.Entry.{named, most_seconds, live_rekey}
use Rattle.state_sa.specs.declared.entry.Sa.{Sa}
use Rattle.state_table.specs.Table.{table_of, table_formed}
use Rattle.state_table.specs.Blank.{TableBlank}
use Rattle.state_table.proofs.Kept.{Fit}
use Rattle.state.specs.declared.State.{State}
use Rattle.state.specs.Held.{held_formed}
use Rattle.state.specs.State.{state_formed}
use Rattle.rules_refusals.specs.Contents.{row_of, several, announced}
use Rattle.rules_refusals.specs.Fitness.{is_esp, is_rekey, transforms_fit}
use Rattle.rules_refusals.specs.Number2.{not_due_sas, number2_of_member}
use Rattle.rules_refusals.specs.Number4.{twice_in_transform, several_rekey_policies, key_length_twice, lifetime_twice, number4_of_frame}
use Rattle.rules_refusals.specs.Number5.{other_transforms, number5_of_frame}
use Rattle.rules_refusals.specs.Number6.{policy_named, policy_twice, already_in_table, number6_of_frame, number6_of_member}
use Rattle.rules_refusals.specs.Number7.{long_lifetime, many_sas, number7_of_frame, number7_of_member}
use Rattle.rules_chains.specs.Refusals.{of-copies, wrong_size, KeyOf}
use Rattle.rules_outcome.specs.Roots.{roots_of, entries_of, wrapping_size, need_of, announced_as, announced_keys}
use Rattle.rules_outcome.specs.Holding.{new_rekey}
use Rattle.rules_outcome.specs.After.{insert_all, old_sas, Enter}
use Rattle.rules_chains.proofs.Members.{member-in}
use Rattle.rules_outcome.proofs.RunsLists.{member-map, none_passes, none-count}
use Rattle.rules_refusals.proofs.Clear.{no-clause}
use Rattle.rules_outcome.proofs.RunsClear.{Clear}
use Rattle.rules_outcome.proofs.RunsNeeds.{esp-sizes, rekey-sizes}
use Rattle.rules_outcome.proofs.RunsSpis.{esp-spi, rekey-spi}
use Rattle.rules_outcome.proofs.RunsMade.{Kind, an-esp, a-rekey, Lasts, Made, enter-made}
use Rattle.rules_outcome.proofs.RunsTable.{Apart, counted-apart, new-fit, new-blank}
use Rattle.rules_outcome.proofs.RunsOld.{old-length, old-names, old-live, old-fit, old-blank}

module _ (limits : Limits) (s : State) (now : ℕ) (lent : List ℕ) (f : Frame) (c : Clear limits s now lent f) where
  -- ---- the clauses that do not apply, by what they say
  pub clear-formed : state_formed limits s ≡ true
  clear-formed =
      not-false (state_formed limits s)
      (no-clause (number2_of_member limits s now f.header.exchange f.header.spi) 2 c.no-2.of_member)

  one-rekey : count is_rekey (announced f) ≤ 1
  unfolding number4_of_frame several_rekey_policies
  one-rekey = ltb-false 1 (count is_rekey (announced f)) (no-clause (number4_of_frame f) 8 c.no-4.of_frame)

  one-length : (a : GroupSaPolicy) → Memᴰ a (announced f) → any twice_in_transform a.transforms ≡ false
  unfolding number4_of_frame key_length_twice
  one-length =
      none_passes (λ (p : GroupSaPolicy). any twice_in_transform p.transforms) (announced f)
      (no-clause (number4_of_frame f) 12 c.no-4.of_frame)

  fits : (a : GroupSaPolicy) → Memᴰ a (announced f) → transforms_fit (row_of f).authentication a ≡ true
  unfolding number5_of_frame other_transforms
  fits a m =
      not-false (transforms_fit (row_of f).authentication a)
      (none_passes (λ (p : GroupSaPolicy). not (transforms_fit (row_of f).authentication p)) (announced f)
      (no-clause (number5_of_frame lent f) 2 c.no-5.of_frame) a m)

  -- an announced SA has one lifetime at most, of no more than 2,000,000 seconds
  pub lasts : (a : GroupSaPolicy) → Memᴰ a (announced f) → Lasts a
  unfolding number4_of_frame lifetime_twice number7_of_frame long_lifetime
  lasts a m = (
    none_passes (λ (p : GroupSaPolicy). several p.key_lifetimes) (announced f) (no-clause (number4_of_frame f) 16 c.no-4.of_frame) a m,
    none_passes (λ (p : GroupSaPolicy). any (λ (n : ℕ). ltb most_seconds n) p.key_lifetimes) (announced f)
        (no-clause (number7_of_frame limits f) 4 c.no-7.of_frame) a m,
  )

  names_apart : Apart (announced f)
  unfolding number6_of_frame policy_twice
  names_apart =
      counted-apart (announced f)
      (λ a m.
      ltb-false 1 (count (policy_named a.protocol a.spi) (announced f))
      (none_passes (λ (p : GroupSaPolicy). ltb 1 (count (policy_named p.protocol p.spi) (announced f))) (announced f)
      (no-clause (number6_of_frame f) 2 c.no-6.of_frame) a m))

  pub new-name : (a : GroupSaPolicy) → Memᴰ a (announced f) → any (named a.protocol a.spi) (not_due_sas now s) ≡ false
  unfolding number6_of_member already_in_table
  new-name =
      none_passes (λ (p : GroupSaPolicy). any (named p.protocol p.spi) (not_due_sas now s)) (announced f)
      (no-clause (number6_of_member s now f) 0 c.no-6.of_member)

  room : length (not_due_sas now s) + length (announced f) ≤ limits.sas
  unfolding number7_of_member many_sas
  room =
      ltb-false limits.sas (length (not_due_sas now s) + length (announced f))
      (no-clause (number7_of_member limits s now f) 0 c.no-7.of_member)

  -- ---- an announced SA, and the octets that its copies open to
  pub kinds : (octets : List ℕ) → IsFrame s.profile octets f → (a : GroupSaPolicy) → Memᴰ a (announced f) → Kind a
  kinds octets e a m =
      let auth = (row_of f).authentication in
      bool_cases (is_esp a)
      (λ g.
      let z = esp-sizes auth a (fits a m) (one-length a m) g in
      an-esp g (esp-spi s.profile octets f e a m (eqb-true a.protocol 3 g)) z.0 z.1)
      (λ g.
      let z = rekey-sizes auth a (fits a m) (one-length a m) g in
      a-rekey g z.0 (rekey-spi s.profile octets f e a m (eqb-true a.protocol 6 z.0)) z.1)

  pub opened-size : (a : GroupSaPolicy) → Memᴰ a (announced f) → (x : List ℕ) →
      KeyOf (roots_of limits s now lent f) (entries_of f) (wrapping_size limits s now lent f) (announced_as f a) x → length x ≡ need_of a
  unfolding announced_keys
  opened-size a m x k =
      bool_cases (eqb (length x) (need_of a)) (λ g. eqb-true (length x) (need_of a) g)
      (λ g.
      absurd
      (c.no-8
      (of-copies (announced_as f a) (member-in (announced_as f a) (announced_keys f) (member-map (announced_as f) a (announced f) m))
      (wrong_size x k.opens (eqb-false (length x) (need_of a) g)))))

  table-formed : table_formed limits s.table ≡ true
  unfolding state_formed
  table-formed = (and_parts (table_formed limits s.table) (held_formed limits s.held) clear-formed).0

  one-live : Fit limits (old_sas s now f) → count is_rekey (announced f) + count live_rekey (old_sas s now f) ≤ 1
  one-live old =
      let h = one-rekey in
      bool_cases (new_rekey f) (λ g. let z = old-live limits s now f g in omega arith)
      (λ g.
      let z = none-count is_rekey (announced f) g in
      let o = old.one in
      omega arith)

  -- ---- the table
  module _ (octets : List ℕ) (e : IsFrame s.profile octets f) (new : List Sa)
      (n : Enter (roots_of limits s now lent f) (entries_of f) (wrapping_size limits s now lent f) now f (announced f) new) where
    pub all_made : Made now (announced f) new
    all_made = enter-made n (kinds octets e) lasts opened-size

    pub table-fit : Fit limits (insert_all new (old_sas s now f))
    table-fit =
        let old = old-fit limits s now f table-formed in
        let h = old-length limits s now f in
        let r = room in
        new-fit limits (old_sas s now f) old all_made (omega arith) names_apart
        (λ a m. old-names limits s now f a.protocol a.spi ∙ new-name a m) (one-live old)

    pub table-blank : TableBlank limits s.table → TableBlank limits (table_of limits (insert_all new (old_sas s now f)))
    table-blank b =
        let h = old-length limits s now f in
        let r = room in
        new-blank limits (old_sas s now f) (old-blank limits s now f table-formed b) all_made (omega arith)
