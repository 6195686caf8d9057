-- What becomes of a live Rekey SA when a frame is accepted: one that stands at the tick stays live, unless the frame announces a Rekey SA;
-- a registration that announces none leaves none; where none was live, a frame that announces none makes none live.
use native.Mathlib.Omega.{arith}
use Prim.Native.Nat.{ℕ}
use mathlib.Core.Path.{◌≡◌, refl, ap, sym, ◌∙◌, subst}
use mathlib.Core.Bool.{Bool, true, false, not, ◌&&◌, ◌||◌, false≢true, or-true}
use mathlib.Core.Logic.{inr}
use mathlib.Core.List.{List, Memᴰ}
use borrow.Author.Tests.{eqb-true, ne_eqb, not-false}
use lib.Dec.{eqb, leb}
use Rattle.state_keys.specs.Limits.{Limits}
use Rattle.lists.specs.Lists.{all, any}
use Rattle.lists.proofs.Cases.{bool_cases, and_parts}
use Rattle.lists.proofs.Members.{member-kept, kept-member}
use Rattle.wire_frames.specs.Frame.{Frame}
use Rattle.wire_frames.specs.Grammar.{IsFrame}
use Rattle.wire_frames.specs.Exchange.{registration, rekey}
use Rattle.wire_frames.specs.declared.exchanges.Exchange.{Exchange}
use Rattle.state_sa.specs.Entry.{esp_protocol, named, is_live, live_rekey, due}
use Rattle.state_sa.specs.Entry as entry
use Rattle.state_sa.specs.declared.entry.Sa.{Sa}
use Rattle.state_table.specs.Table.{sas_of, table_formed, swept, stays, empty_at, retired_if}
use Rattle.state_table.proofs.Kept.{sas-of-table}
use Rattle.state.specs.declared.State.{State}
use Rattle.state.specs.Held.{held_formed}
use Rattle.state.specs.State.{state_formed, swept_state}
use Rattle.state.proofs.Laws.{swept-yes, swept-no}
use Rattle.rules_refusals.specs.Contents.{row_of, announced}
use Rattle.rules_refusals.specs.Fitness.{is_rekey}
use Rattle.rules_refusals.specs.Number2.{not_due_sas, over_live_rekey, breaks_wanted, unwanted_member, other_spis, number2_of_member}
use Rattle.rules_refusals.specs.Refusals.{number2}
use Rattle.rules_refusals.proofs.Clear.{no-clause}
use Rattle.rules_chains.proofs.Members.{in-member, member-in}
use Rattle.rules_outcome.specs.Holding.{new_rekey}
use Rattle.rules_outcome.specs.After.{named_in_delete, replaced, retires, old_sa, old_sas, insert_all, After}
use Rattle.rules_outcome.specs.Run.{LiveRekey, StandsAt}
use Rattle.rules_outcome.proofs.Enters.{all_in, old-stayed}
use Rattle.rules_outcome.proofs.RunsLists.{member-map, all_pass, count_none, none-count, none_passes, passes_none}
use Rattle.rules_outcome.proofs.RunsLists.{some-passes, passes-some}
use Rattle.rules_outcome.proofs.RunsClear.{None, Clear}
use Rattle.rules_outcome.proofs.RunsMade.{made-count}
use Rattle.rules_outcome.proofs.RunsTable.{any-all}
use Rattle.rules_outcome.proofs.RunsOld.{not-revived, swept-sas}
use Rattle.rules_outcome.proofs.RunsAccepted.{all_made}

pub over-parts : (x : List ℕ) (a : Sa) → over_live_rekey x a ≡ true → (live_rekey a ≡ true) × (named entry.rekey_protocol x a ≡ true)
over-parts x a e = and_parts (live_rekey a) (named entry.rekey_protocol x a) e

-- one that stands at a tick is live
pub stands_live : (x : List ℕ) (s : State) (now : ℕ) → StandsAt now x s → LiveRekey x s
stands_live x s now e =
    let p = some-passes (over_live_rekey x) (not_due_sas now s) e in
    passes-some (over_live_rekey x) (sas_of s.table) p.one (kept-member (stays now) p.one (sas_of s.table) p.stands).0
    p.passes

-- a rekey that number 2 lets pass came over a Rekey SA that stands at its tick
pub passes_over : (limits : Limits) (s : State) (now : ℕ) (f : Frame) →
    None (number2 limits s now f.header.exchange f.header.spi) → row_of f ≡ rekey → StandsAt now f.header.spi s
unfolding other_spis
passes_over limits s now f n r =
    let x = f.header.spi in
    not-false (any (over_live_rekey x) (not_due_sas now s))
    (sym (ap (λ (y : Exchange). y.compares_spis && not (any (over_live_rekey x) (not_due_sas now s))) r)
    ∙ no-clause (number2_of_member limits s now f.header.exchange x) 1 n.of_member)

-- ---- no Rekey SA is live
abbrev pub NoneLive : State → Type 0
NoneLive s = any live_rekey (sas_of s.table) ≡ false

pub none_over : (x : List ℕ) (s : State) → NoneLive s → LiveRekey x s → ⊥
none_over x s n l =
    let p = some-passes (over_live_rekey x) (sas_of s.table) l in
    false≢true (sym (none_passes live_rekey (sas_of s.table) n p.one p.stands) ∙ (over-parts x p.one p.passes).0)

module _ (limits : Limits) where
  pub formed-table : (s : State) → state_formed limits s ≡ true → table_formed limits s.table ≡ true
  unfolding state_formed
  formed-table s e = (and_parts (table_formed limits s.table) (held_formed limits s.held) e).0

  pub swept_none : (now : ℕ) (s : State) → NoneLive s → NoneLive (swept_state limits now s)
  swept_none now s n =
      bool_cases (state_formed limits s)
      (λ e.
      subst NoneLive (swept-yes limits s now (swept limits now s.table) e refl)
      (ap (any live_rekey) (swept-sas limits s now (formed-table s e))
      ∙ passes_none live_rekey (not_due_sas now s)
      (λ b m. none_passes live_rekey (sas_of s.table) n b (kept-member (stays now) b (sas_of s.table) m).0)))
      (λ e. subst NoneLive (swept-no limits s now e) n)

-- ---- when a frame is accepted
-- a Rekey SA retires for a new Rekey SA alone
passed_over : (f : Frame) → new_rekey f ≡ false → (a : Sa) → live_rekey a ≡ true → retires f a ≡ false
unfolding named_in_delete replaced live_rekey
passed_over f n a e =
    let p = eqb-true a.protocol entry.rekey_protocol (and_parts (eqb a.protocol entry.rekey_protocol) (is_live a.condition) e).0 in
    rw (ne_eqb a.protocol esp_protocol (λ q. omega arith), n)

stays-over : (x : List ℕ) (f : Frame) → new_rekey f ≡ false → (s : State) (now : ℕ) → StandsAt now x s →
    any (over_live_rekey x) (old_sas s now f) ≡ true
unfolding old_sas retired_if
stays-over x f n s now l =
    let r = some-passes (over_live_rekey x) (not_due_sas now s) l in
    let g = old_sa now f in
    let e : g r.one ≡ r.one = rw (passed_over f n r.one (over-parts x r.one r.passes).0) in
    passes-some (over_live_rekey x) (old_sas s now f) (g r.one) (member-map g r.one (not_due_sas now s) r.stands)
    (ap (over_live_rekey x) e ∙ r.passes)

module _ (limits : Limits) (s : State) (now : ℕ) (lent : List ℕ) (f : Frame) (c : Clear limits s now lent f) (next : State)
    (a : After limits s now lent f next) where
  next-sas : sas_of next.table ≡ insert_all a.new (old_sas s now f)
  next-sas = ap sas_of a.table ∙ sas-of-table limits (insert_all a.new (old_sas s now f))

  next-any : (q : Sa → Bool) → any q (sas_of next.table) ≡ (any q a.new || any q (old_sas s now f))
  next-any q = ap (any q) next-sas ∙ any-all q a.new (old_sas s now f)

  module _ (n : new_rekey f ≡ false) where
    -- it stays live where it stands at the tick and the frame announces no Rekey SA
    pub accepted-live : (x : List ℕ) → StandsAt now x s → LiveRekey x next
    accepted-live x l = next-any (over_live_rekey x) ∙ rw (stays-over x f n s now l) (or-true (any (over_live_rekey x) a.new))

    -- as it was, so it stands at any tick at which it is not due
    pub accepted-stands : (tick : ℕ) (x : List ℕ) (b : Sa) → Memᴰ b (not_due_sas now s) → over_live_rekey x b ≡ true →
        due tick b ≡ false → StandsAt tick x next
    unfolding old_sas retired_if
    accepted-stands tick x b m o d =
        let g = old_sa now f in
        let e : g b ≡ b = rw (passed_over f n b (over-parts x b o).0) in
        let old : Memᴰ b (old_sas s now f) =
        subst (λ (y : Sa). Memᴰ y (old_sas s now f)) e (member-map g b (not_due_sas now s) m) in
        let all = all_in b a.new (old_sas s now f) (inr (member-in b (old_sas s now f) old)) in
        let there : Memᴰ b (sas_of next.table) =
        subst (Memᴰ b) (sym next-sas) (in-member b (insert_all a.new (old_sas s now f)) all) in
        passes-some (over_live_rekey x) (not_due_sas tick next) b (member-kept (stays tick) b (sas_of next.table) there (ap not d)) o

    -- "registration of a non-empty member": one that is accepted is of a member whose SAs are all due
    all-due : row_of f ≡ registration → all (due now) (sas_of s.table) ≡ true
    unfolding unwanted_member empty_at
    all-due r =
        let y = f.header.exchange in
        let g = no-clause (number2_of_member limits s now y f.header.spi) 0 c.no-2.of_member in
        let e = not-false (empty_at limits now s.table)
        (sym (ap (λ (z : Exchange). breaks_wanted z.wanted (empty_at limits now s.table)) r) ∙ g) in
        (and_parts (leb s.table.count limits.sas) (all (due now) (sas_of s.table)) e).1

    none_old : row_of f ≡ registration → any live_rekey (old_sas s now f) ≡ false
    none_old r =
        passes_none live_rekey (old_sas s now f)
        (λ b m.
        let o = old-stayed s now f b (member-in b (old_sas s now f) m) in
        let d = all_pass (due now) (sas_of s.table) (all-due r) o.old (in-member o.old (sas_of s.table) o.stood) in
        absurd (false≢true (sym o.not-due ∙ d)))

    none-revived : NoneLive s → any live_rekey (old_sas s now f) ≡ false
    none-revived none =
        passes_none live_rekey (old_sas s now f)
        (λ b m.
        let o = old-stayed s now f b (member-in b (old_sas s now f) m) in
        let stood = in-member o.old (sas_of s.table) o.stood in
        ap live_rekey o.is ∙ not-revived now f o.old (none_passes live_rekey (sas_of s.table) none o.old stood))

    module _ (octets : List ℕ) (e : IsFrame s.profile octets f) where
      none-next : any live_rekey (old_sas s now f) ≡ false → NoneLive next
      none-next old =
          let made = all_made limits s now lent f c octets e a.new a.enter in
          let none = count_none live_rekey a.new (made-count made ∙ none-count is_rekey (announced f) n) in
          next-any live_rekey ∙ rw (none, old)

      -- so no Rekey SA is live after one that announces none
      pub registered-none : row_of f ≡ registration → NoneLive next
      registered-none r = none-next (none_old r)

      -- and none is where none was, after any frame that announces none
      pub kept-none : NoneLive s → NoneLive next
      kept-none none = none-next (none-revived none)
