-- COPIES OF FRAGMENTS WHOSE REKEY WAS ACCEPTED start no collection. While no Rekey SA came and the member did not leave, each fragment with
-- that Message ID or a lower one is refused, whatever collection is handed in, and the number is 3 where 1, 2 and 10 do not apply. Right
-- after a rekey with a new Rekey SA it is 2 instead, over the SA that was replaced.
use native.Mathlib.Omega.{arith}
use Prim.Native.Nat.{ℕ, ◌≤◌}
use mathlib.Core.Path.{◌≡◌, refl, ap, sym, ◌∙◌, subst}
use mathlib.Core.Bool.{true, false}
use mathlib.Core.Logic.{◌⊎◌, inl, inr}
use mathlib.Core.List.{List, [], ◌∷◌}
use lib.Dec.{eqb}
use Rattle.lists.proofs.Cases.{bool_cases}
use Rattle.state_keys.specs.Limits.{Limits}
use Rattle.lists.specs.Lists.{any}
use Rattle.wire_frames.specs.Header.{header_of}
use Rattle.state.specs.declared.State.{State}
use Rattle.state.specs.Least.{acceptable}
use Rattle.rules_refusals.specs.Number3.{not_acceptable}
use Rattle.rules_refusals.specs.Refusals.{one, applies, number3}
use Rattle.fragments.specs.declared.Collection.{Collection}
use Rattle.rules_outcome.proofs.RunsLive.{stands_live}
use Rattle.rules_sealed.specs.SealedOutcome.{sealed_number2}
use Rattle.rules_sealed.proofs.SealedHeader.{is-rekey, stands-over}
use Rattle.rules_fragments.specs.FragmentOutcome.{FragmentAnswer, refused, Turn, refuses, passes_over, waits, completes, FirstTurn}
use Rattle.rules_fragments.specs.FragmentOutcome.{judging_rows, FragmentOutcome}
use Rattle.rules_fragments.specs.FragmentOutcome.{is-refused, is-passed-over, is-waiting, is-complete}
use Rattle.rules_fragments.specs.FragmentRun.{FragmentEvent, FragmentRun, FragmentAllQuiet, AcceptsRekey, AnnouncesNone}
use Rattle.rules_fragments.proofs.TurnLaws.{place_of}
use Rattle.rules_fragments.proofs.FragmentReplay.{fragment-past}
use Rattle.wire_frames.specs.Frame.{Frame}
use Rattle.wire_frames.specs.Grammar.{IsFrame}
use Rattle.rfc5282.specs.Number10.{OpensFragmentInto}
use Rattle.fragments.specs.Gathering.{whole}
use Rattle.rules_outcome.specs.Holding.{new_rekey}
use Rattle.rules_outcome.specs.Outcome.{Outcome}
use Rattle.rules_outcome.specs.Run.{LiveRekey, StandsAt, ends}
use Rattle.rules_outcome.proofs.Meets.{accepted-is}
use Rattle.rules_outcome.proofs.Rows.{rekeys}
use Rattle.rules_outcome.proofs.RunsClear.{taken}
use Rattle.rules_outcome.proofs.RunsReplay.{came-over, past-then}
use Rattle.rules_sealed.specs.SealingKey.{sealing_part}
use Rattle.rules_fragments.specs.FragmentOutcome.{complete, gathered_with}
use Rattle.rules_fragments.proofs.WholeHeader.{tree-spi, tree-exchange, tree-message}
use Rattle.rules_fragments.proofs.RekeyReplaced.{replaced-not-live}

-- a turn that refuses with 1, 2, 10 or 3
record Four (t : Turn) : Type 0 where
  number : ℕ
  is : t ≡ refuses number
  four : any (eqb number) (1 ∷ 2 ∷ 10 ∷ 3 ∷ []) ≡ true

either-row : {A B P : Type 0} {t u : Turn} → (A × (t ≡ u)) ⊎ ((A → ⊥) × B) → (t ≡ u → P) → ((A → ⊥) × B → P) → P
either-row (inl p) x y = x p.1
either-row (inr p) x y = y p

-- a rekey's Message ID is below the least acceptable
number-3 : (s : State) (x id : ℕ) → x ≡ 41 → acceptable id s.least ≡ false → applies (number3 s x id) ≡ true
unfolding one not_acceptable
number-3 s x id e a = rw (e, a)

-- where 3 applies behind 2, a fragment is refused with one of the four
module _ (limits : Limits) (s : State) (now : ℕ) (c : Collection) (octets room : List ℕ)
    (three : (applies (sealed_number2 limits s now (header_of octets)) ≡ true → ⊥) →
    applies (number3 s (header_of octets).exchange (header_of octets).message_id) ≡ true) where
  refuses-four : (t : Turn) → FirstTurn (judging_rows limits s now c octets room) t → Four t
  unfolding any
  refuses-four t f =
      either-row f (λ e. record { number = 1; is = e; four = refl }) (λ a.
      either-row a.1 (λ e. record { number = 2; is = e; four = refl }) (λ b.
      either-row b.1 (λ e. record { number = 10; is = e; four = refl }) (λ d.
      either-row d.1 (λ e. record { number = 3; is = e; four = refl }) (λ g. absurd (g.0 (three b.0))))))

  four-refused : (a : FragmentAnswer) (next : State) (kept : Collection) (after : List ℕ) →
      FragmentOutcome limits s now c octets room a next kept after →
      (n : ℕ) × (a ≡ refused n 0) × (any (eqb n) (1 ∷ 2 ∷ 10 ∷ 3 ∷ []) ≡ true)
  four-refused _ _ _ _ (is-refused n p) =
      let r = refuses-four (refuses n) p in
      let e = ap place_of r.is in
      let i : r.number ≡ n = omega (arith, e) in
      (n, refl, subst (λ (k : ℕ). any (eqb k) (1 ∷ 2 ∷ 10 ∷ 3 ∷ []) ≡ true) i r.four)
  four-refused _ _ _ _ (is-passed-over p) = let e = ap place_of (refuses-four passes_over p).is in absurd (omega (arith, e))
  four-refused _ _ _ _ (is-waiting x p h) = let e = ap place_of (refuses-four waits p).is in absurd (omega (arith, e))
  four-refused _ _ _ _ (is-complete x p h u) = let e = ap place_of (refuses-four completes p).is in absurd (omega (arith, e))

-- while no Rekey SA came and the member did not leave
module _ (limits : Limits) {s₀ s₁ : State} {id : ℕ} (first : AcceptsRekey limits s₀ id s₁) (none : AnnouncesNone limits first) {s₂ : State}
    {l : List FragmentEvent} (r : FragmentRun limits s₁ l s₂) (quiet : FragmentAllQuiet limits r) (now : ℕ) (c : Collection)
    (octets room : List ℕ) (le : (header_of octets).message_id ≤ id) where
  three : (applies (sealed_number2 limits s₂ now (header_of octets)) ≡ true → ⊥) →
      applies (number3 s₂ (header_of octets).exchange (header_of octets).message_id) ≡ true
  three no-2 =
      let h = header_of octets in
      let live = stands_live h.spi s₂ now (stands-over limits s₂ now octets no-2) in
      number-3 s₂ h.exchange h.message_id (is-rekey limits s₂ now octets no-2)
      (fragment-past limits first none r quiet h.spi live h.message_id le)

  pub copies-refused : (a : FragmentAnswer) (next : State) (kept : Collection) (after : List ℕ) →
      FragmentOutcome limits s₂ now c octets room a next kept after →
      (n : ℕ) × (a ≡ refused n 0) × (any (eqb n) (1 ∷ 2 ∷ 10 ∷ 3 ∷ []) ≡ true)
  copies-refused = four-refused limits s₂ now c octets room three

-- right after a rekey that came in pieces, and with a new Rekey SA too: the copy comes over an SA that is not live any more, which is 2
module _ (limits : Limits) (s : State) (now : ℕ) (c : Collection) (octets room piece : List ℕ) (next : State)
    (h : OpensFragmentInto (sealing_part limits s) octets room piece)
    (u : Outcome limits s now [] (whole (gathered_with limits s now c octets room piece)) 0 next) (tick : ℕ) (copy : List ℕ)
    (spis : (header_of copy).spi ≡ (header_of octets).spi) (le : (header_of copy).message_id ≤ (header_of octets).message_id) where
  abbrev frame : List ℕ
  frame = whole (gathered_with limits s now c octets room piece)

  tree : Frame
  tree = (accepted-is limits s now [] frame next u).tree

  layout : IsFrame s.profile frame tree
  unfolding tree
  layout = (accepted-is limits s now [] frame next u).layout

  exchange-is : tree.header.exchange ≡ 41
  exchange-is = tree-exchange limits s now c octets room piece h s.profile tree layout

  over : (header_of copy).spi ≡ tree.header.spi
  over = spis ∙ sym (tree-spi limits s now c octets room piece h s.profile tree layout)

  not-past : (header_of copy).message_id ≤ tree.header.message_id
  not-past = let m = tree-message limits s now c octets room piece h s.profile tree layout in omega (arith, m, le)

  module _ (no-2 : applies (sealed_number2 limits next tick (header_of copy)) ≡ true → ⊥) where
    live : LiveRekey (header_of copy).spi next
    live = stands_live (header_of copy).spi next tick (stands-over limits next tick copy no-2)

    stood : StandsAt now (header_of copy).spi s
    stood =
        subst (λ (x : List ℕ). StandsAt now x s) (sym over)
        (came-over limits s now [] tree (taken limits s now [] frame tree next layout u).is-clear
        (rekeys tree.header.exchange exchange-is))

    then-three : applies (number3 next (header_of copy).exchange (header_of copy).message_id) ≡ true
    then-three =
        bool_cases (new_rekey tree)
        (λ e. absurd (replaced-not-live limits s now [] frame tree layout next u e (header_of copy).spi stood live))
        (λ e.
        number-3 next (header_of copy).exchange (header_of copy).message_id (is-rekey limits next tick copy no-2)
        (past-then limits s next now [] frame tree layout exchange-is e u next [] (ends next) tt (header_of copy).spi live
        (header_of copy).message_id not-past))

-- "After a complete frame": copies of its fragments, and any of that Rekey SA with no higher Message ID
module _ (limits : Limits) (s : State) (now : ℕ) (c : Collection) (octets room : List ℕ) where
  pub copies_then : (offset : ℕ) (next : State) (kept : Collection) (after : List ℕ) →
      FragmentOutcome limits s now c octets room (complete 0 offset) next kept after → (tick : ℕ) (d : Collection) (copy lent : List ℕ) →
      (header_of copy).spi ≡ (header_of octets).spi → (header_of copy).message_id ≤ (header_of octets).message_id → (a : FragmentAnswer)
      (last : State) (left : Collection) (rest : List ℕ) → FragmentOutcome limits next tick d copy lent a last left rest →
      (n : ℕ) × (a ≡ refused n 0) × (any (eqb n) (1 ∷ 2 ∷ 10 ∷ 3 ∷ []) ≡ true)
  copies_then _ _ _ _ (is-complete x {next = next} p h u) tick d copy lent e le =
      four-refused limits next tick d copy lent (then-three limits s now c octets room x next h u tick copy e le)
