-- Document 02, T-07: "A rekey over a Rekey SA that is due at its tick, swept or not, gives 2."
use Prim.Native.Nat.{ℕ}
use mathlib.Core.Path.{◌≡◌, refl, ap, sym, ◌∙◌, subst}
use mathlib.Core.Bool.{Bool, true, false, not, ◌||◌, false≢true}
use mathlib.Core.Logic.{inl}
use mathlib.Core.List.{List, Memᴰ}
use borrow.Author.Tests.{not-true}
use Rattle.std.proofs.lemmas.Option.{same_Some}
use Rattle.state_keys.specs.Limits.{Limits, limits}
use Rattle.lists.specs.Lists.{any}
use Rattle.lists.proofs.Cases.{bool_cases, and_parts}
use Rattle.lists.proofs.Members.{kept-member}
use Rattle.wire_frames.specs.Frame.{Frame}
use Rattle.wire_frames.specs.Grammar.{IsFrame}
use Rattle.wire_frames.specs.Exchange.{exchange_of}
use Rattle.state_sa.specs.Entry.{sa_formed, due}
use Rattle.state_sa.proofs.Lifetimes.{formed-lifetime}
use Rattle.state_sa.specs.declared.entry.Sa.{Sa}
use Rattle.state_table.specs.Table.{sas_of, table_formed, swept, stays}
use Rattle.state_table.proofs.Kept.{formed-fit}
use Rattle.state_table.proofs.Finds.{rekey-found}
use Rattle.state.specs.declared.State.{State}
use Rattle.state.specs.Held.{held_formed}
use Rattle.state.specs.State.{state_formed, new_state, swept_state}
use Rattle.state.proofs.Laws.{swept-yes, swept-no}
use Rattle.rules_refusals.specs.Number2.{not_due_sas, over_live_rekey, unwanted_member, other_spis, broken_member}
use Rattle.rules_refusals.specs.Refusals.{one, number2}
use Rattle.rules_chains.specs.Chain.{In}
use Rattle.rules_chains.proofs.Members.{in-member}
use Rattle.rules_outcome.specs.Outcome.{Outcome, by-tree, refused}
use Rattle.rules_outcome.specs.LifetimeSays.{LifetimesFit}
use Rattle.rules_outcome.specs.Run.{Event, Run, Throughout}
use Rattle.rules_outcome.proofs.RunsLists.{all_pass, passes_none}
use Rattle.rules_outcome.proofs.Runs.{each_of, members-formed}
use Rattle.rules_outcome.proofs.RunsOld.{swept-sas}
use Rattle.rules_outcome.proofs.RunsLive.{over-parts}
use Rattle.rules_outcome.proofs.SamplesAnswers.{applies-member}

second : (a b c : Bool) → b ≡ true → (a || (b || c)) ≡ true
second true b c e = refl
second false b c e = rw e

third : (a b c d : Bool) → c ≡ true → (a || (b || (c || d))) ≡ true
third true b c d e = refl
third false true c d e = refl
third false false c d e = rw e

module _ (limits : Limits) (now : ℕ) (lent octets : List ℕ) (f : Frame) (x : f.header.exchange ≡ 41) where
  abbrev spi : List ℕ
  spi = f.header.spi

  -- 2 is given where no live Rekey SA with these SPIs stands at the tick, and for a member value that breaks its list
  pub none-stands : (s : State) → IsFrame s.profile octets f → any (over_live_rekey spi) (not_due_sas now s) ≡ false →
      Outcome limits s now lent octets 2 s
  unfolding one other_spis
  none-stands s e n =
      let y = f.header.exchange in
      let other : other_spis s now y spi ≡ true = rw (ap exchange_of x, n) in
      by-tree f e
      (refused 1
      (inl (
        applies-member (number2 limits s now y spi)
            (second (unwanted_member limits s now y) (other_spis s now y spi) (broken_member limits s || false) other),
        refl,
      )))

  broken : (s : State) → IsFrame s.profile octets f → state_formed limits s ≡ false → Outcome limits s now lent octets 2 s
  unfolding one
  broken s e n =
      let y = f.header.exchange in
      by-tree f e
      (refused 1
      (inl (
        applies-member (number2 limits s now y spi)
            (third (unwanted_member limits s now y) (other_spis s now y spi) (broken_member limits s) false (ap not n)),
        refl,
      )))

  -- sweeping keeps the profile
  swept-reads : (s : State) → IsFrame s.profile octets f → IsFrame (swept_state limits now s).profile octets f
  unfolding swept_state
  swept-reads s e = bool_cases (state_formed limits s) (λ g. rw g e) (λ g. rw g e)

  module _ (s : State) (e : IsFrame s.profile octets f) (b : Sa) (m : In b (sas_of s.table)) (over : over_live_rekey spi b ≡ true)
      (is-due : due now b ≡ true) where
    -- no other live Rekey SA is in the table of a member that is as it must be
    module _ (fit : state_formed limits s ≡ true) where
      table_is : table_formed limits s.table ≡ true
      unfolding state_formed
      table_is = (and_parts (table_formed limits s.table) (held_formed limits s.held) fit).0

      the_one : (c : Sa) → Memᴰ c (sas_of s.table) → over_live_rekey spi c ≡ true → due now c ≡ true
      the_one c k o =
          let first = rekey-found limits s.table table_is b (in-member b (sas_of s.table) m) (over-parts spi b over).0 in
          let second = rekey-found limits s.table table_is c k (over-parts spi c o).0 in
          let same : b ≡ c = same_Some b c (sym first ∙ second) in
          subst (λ (a : Sa). due now a ≡ true) same is-due

      -- so none stands, in a table whose SAs are of this one
      none_left : (t : State) → ((c : Sa) → Memᴰ c (sas_of t.table) → Memᴰ c (sas_of s.table)) →
          any (over_live_rekey spi) (not_due_sas now t) ≡ false
      none_left t of =
          passes_none (over_live_rekey spi) (not_due_sas now t)
          (λ c k.
          let p = kept-member (stays now) c (sas_of t.table) k in
          bool_cases (over_live_rekey spi c)
          (λ o. absurd (false≢true (sym (not-true (due now c) p.1) ∙ the_one c (of c p.0) o))) (λ o. o))

      swept_of : (c : Sa) → Memᴰ c (sas_of (swept_state limits now s).table) → Memᴰ c (sas_of s.table)
      swept_of c k =
          let q : sas_of (swept_state limits now s).table ≡ not_due_sas now s =
          ap (λ (t : State). sas_of t.table) (sym (swept-yes limits s now (swept limits now s.table) fit refl))
          ∙ swept-sas limits s now table_is in
          (kept-member (stays now) c (sas_of s.table) (subst (Memᴰ c) q k)).0

    -- THE LAW: a live Rekey SA of the member has the SPIs of a GSA_REKEY and is due at its tick. Whatever else the frame holds, the answer
    -- is 2 and the member stays; and so it is where the member was swept at that tick
    pub over-ran-out : Outcome limits s now lent octets 2 s
    over-ran-out = bool_cases (state_formed limits s) (λ g. none-stands s e (none_left g s (λ c k. k))) (broken s e)

    pub over-swept : Outcome limits (swept_state limits now s) now lent octets 2 (swept_state limits now s)
    over-swept =
        bool_cases (state_formed limits s)
        (λ g. none-stands (swept_state limits now s) (swept-reads s e) (none_left g (swept_state limits now s) (swept_of g)))
        (λ g. subst (λ (t : State). Outcome limits t now lent octets 2 t) (swept-no limits s now g) (broken s e g))

-- ---- in every member of a run from the new one lifetimes are of "at most 2,000,000 seconds"
formed-fits : (m : State) → state_formed limits m ≡ true → LifetimesFit m
unfolding state_formed
formed-fits m e a i start n q =
    let t = (and_parts (table_formed limits m.table) (held_formed limits m.held) e).0 in
    let f = all_pass sa_formed (sas_of m.table) (formed-fit limits m.table t).each a (in-member a (sas_of m.table) i) in
    formed-lifetime a f start n q

pub members-lifetimes : (profile : Bool) {e : State} {l : List Event} (r : Run limits (new_state limits profile) l e) →
    Throughout limits LifetimesFit r
members-lifetimes profile r = each_of limits (λ (m : State). state_formed limits m ≡ true) LifetimesFit formed-fits r
    (members-formed profile r)
