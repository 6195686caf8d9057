-- NO REPLAY: as long as no step leaves or brings a new Rekey SA, a Message ID that was accepted, or a lower one, is never accepted again;
-- after 4,294,967,295 none is. GSA_INBAND_REKEY may come between. A live Rekey SA is no premise: one that ran out can be replaced, under
-- its own SPI, with a new least Message ID, and be live in every state all the while (document 02, T-07).
use native.Mathlib.Omega.{arith}
use Prim.Native.Nat.{ℕ, ◌+◌, ◌-◌, ◌^◌, ◌≤◌}
use mathlib.Core.Path.{◌≡◌, refl, ap, sym, ◌∙◌, subst}
use mathlib.Core.Bool.{true, false, not, ◌&&◌, false≢true}
use mathlib.Core.Logic.{◌⊎◌, inl, inr, ⊎_elim}
use mathlib.Core.List.{List}
use borrow.Author.Tests.{lt-leb, not-false}
use Rattle.state_keys.specs.Limits.{Limits}
use Rattle.lists.proofs.Cases.{bool_cases, lt-cases}
use Rattle.wire_frames.specs.Frame.{Frame}
use Rattle.wire_frames.specs.Grammar.{IsFrame}
use Rattle.wire_frames.specs.Exchange.{rekey, inband, exchange_of}
use Rattle.wire_frames.specs.declared.exchanges.Exchange.{Exchange}
use Rattle.state.specs.declared.State.{State}
use Rattle.state.specs.declared.least.Least.{Least}
use Rattle.state.specs.Least.{acceptable, after_id}
use Rattle.state.specs.State.{state_formed, swept_state}
use Rattle.state.proofs.Laws.{after_more, after_last}
use Rattle.rules_refusals.specs.Contents.{row_of}
use Rattle.rules_refusals.specs.Number2.{number2_of_frame}
use Rattle.rules_refusals.specs.Number3.{not_acceptable, number3_of_member}
use Rattle.rules_outcome.specs.Holding.{new_rekey}
use Rattle.rules_outcome.specs.After.{least_by, least_afterwards, After}
use Rattle.rules_outcome.specs.Outcome.{Judged, refused, accepted, Outcome, no-layout, by-tree}
use Rattle.rules_outcome.specs.Run.{Event, Takes, answered, swept, left, Run, ends, goes, Throughout, Quiet, AllQuiet, LiveRekey}
use Rattle.rules_outcome.specs.Run.{StandsAt}
use Rattle.rules_refusals.proofs.Clear.{no-clause}
use Rattle.rules_refusals.proofs.ExchangeRows.{by_row}
use Rattle.rules_outcome.proofs.RunsClear.{Clear, clear, Taken, taken}
use Rattle.rules_outcome.proofs.RunsLive.{NoneLive, stands_live, passes_over, none_over, swept_none, accepted-live, registered-none}
use Rattle.rules_outcome.proofs.RunsLive.{kept-none}

-- ---- the least Message ID is past i: neither i nor a lower one is acceptable
abbrev pub Past : ℕ → Least → Type 0
Past i l = (j : ℕ) → j ≤ i → acceptable j l ≡ false

past_after : (i : ℕ) → Past i (after_id i)
past_after i j h =
    lt-cases i (2 ^ 32 - 1) (λ g. ap (acceptable j) (sym (after_more i g)) ∙ lt-leb (i + 1) j (omega arith))
    (λ g. ap (acceptable j) (sym (after_last i g)))

past-on : (i j : ℕ) (l : Least) → Past i l → acceptable j l ≡ true → Past i (after_id j)
past-on i j l p a k h =
    lt-cases i j (λ g. past_after j k (omega arith)) (λ g. absurd (false≢true (sym (p j g) ∙ a)))

past-last : (i j : ℕ) → 2 ^ 32 - 1 ≤ j → Past i (after_id j)
past-last i j h k g = ap (acceptable k) (sym (after_last j h))

module _ (limits : Limits) where
  swept-least : (now : ℕ) (s : State) → (swept_state limits now s).least ≡ s.least
  unfolding swept_state
  swept-least now s = bool_cases (state_formed limits s) (λ e. rw e) (λ e. rw e)

  module _ (s : State) (now : ℕ) (lent : List ℕ) (f : Frame) (c : Clear limits s now lent f) where
    -- an accepted rekey's Message ID was acceptable
    pub taken-id : row_of f ≡ rekey → acceptable f.header.message_id s.least ≡ true
    unfolding not_acceptable
    taken-id r =
        let i = f.header.message_id in
        not-false (acceptable i s.least)
        (sym (ap (λ (x : Exchange). x.compares_message_id && not (acceptable i s.least)) r)
        ∙ no-clause (number3_of_member s f.header.exchange i) 0 c.no-3.of_member)

    -- an accepted rekey came over a Rekey SA that stood at its tick
    pub came-over : row_of f ≡ rekey → StandsAt now f.header.spi s
    came-over = passes_over limits s now f c.no-2

    -- and is past after it, where it announced no Rekey SA
    pub next-least : (next : State) → After limits s now lent f next → row_of f ≡ rekey → new_rekey f ≡ false →
        next.least ≡ after_id f.header.message_id
    unfolding least_afterwards
    next-least next a r n = a.least ∙ rw n (ap (λ (x : Exchange). least_by x.least f.header.message_id s.least) r)

    -- an accepted frame of the member's own channel keeps the least, where it announced no Rekey SA
    pub kept-least : (next : State) → After limits s now lent f next → row_of f ≡ inband → new_rekey f ≡ false → next.least ≡ s.least
    unfolding least_afterwards
    kept-least next a r n = a.least ∙ rw n (ap (λ (x : Exchange). least_by x.least f.header.message_id s.least) r)

  -- ---- what bars a Message ID: it is past, or there is no live Rekey SA. The second half is for a registration that announces no Rekey
  -- SA: it sets the least Message ID to 0
  abbrev pub Barred : ℕ → State → Type 0
  Barred i s = Past i s.least ⊎ NoneLive s

  -- a step that does not leave and brings no new Rekey SA keeps it
  module _ (i : ℕ) (s : State) where
    accepted-barred : (now : ℕ) (lent octets : List ℕ) (f : Frame) (next : State) → IsFrame s.profile octets f →
        Clear limits s now lent f →
        After limits s now lent f next → new_rekey f ≡ false → Barred i s → Barred i next
    accepted-barred now lent octets f next e c a n b =
        let y = f.header.exchange in
        let x = f.header.spi in
        by_row (Barred i next) y (λ q r. inr (registered-none limits s now lent f c next a n octets e r))
        (λ q k.
        let g = next-least s now lent f c next a k n in
        ⊎_elim
        (λ p. inl (subst (Past i) (sym g) (past-on i f.header.message_id s.least p (taken-id s now lent f c k))))
        (λ none. absurd (none_over x s none (stands_live x s now (came-over s now lent f c k)))) b)
        (λ q k.
        ⊎_elim (λ p. inl (subst (Past i) (sym (kept-least s now lent f c next a k n)) p))
        (λ none. inr (kept-none limits s now lent f c next a n octets e none)) b)
        (λ r.
        let k = not-false (row_of f).admitted (no-clause (number2_of_frame y) 0 c.no-2.of_frame) in
        absurd (false≢true (rw r at k)))

    judged-barred : (now : ℕ) (lent octets : List ℕ) (f : Frame) (n : ℕ) (next : State) → IsFrame s.profile octets f →
        Judged limits s now lent f n next → (n ≡ 0 → new_rekey f ≡ false) → Barred i s → Barred i next
    judged-barred now lent octets f _ _ e (refused n a) q b = b
    judged-barred now lent octets f _ _ e (accepted next a r) q b =
        accepted-barred now lent octets f next e (clear limits s now lent f a) r (q refl) b

    outcome-barred : (now : ℕ) (lent octets : List ℕ) (n : ℕ) (next : State) → Outcome limits s now lent octets n next →
        ((f : Frame) → IsFrame s.profile octets f → n ≡ 0 → new_rekey f ≡ false) → Barred i s → Barred i next
    outcome-barred now lent octets _ _ (no-layout none) q b = b
    outcome-barred now lent octets _ _ (by-tree f {n} {next} e j) q b = judged-barred now lent octets f n next e j (q f e) b

    takes-barred : (y : Event) (e : State) (t : Takes limits s y e) → Quiet limits t → Barred i s → Barred i e
    takes-barred _ _ (answered octets lent now n {next} o) q b = outcome-barred now lent octets n next o q b
    takes-barred _ _ (swept now) q b =
        ⊎_elim (λ p. inl (subst (Past i) (sym (swept-least now s)) p)) (λ none. inr (swept_none limits now s none)) b
    takes-barred _ _ left q b = absurd q

  run-barred : (i : ℕ) {s e : State} {l : List Event} (r : Run limits s l e) → AllQuiet limits r → Barred i s → Barred i e
  run-barred i (ends s) q b = b
  run-barred i (goes s {m} {e} {x = y} t r) q b = run-barred i r q.1 (takes-barred i s y m t q.0 b)

  -- the last state of a run
  pub last_of : (P : State → Type 0) {s e : State} {l : List Event} (r : Run limits s l e) → Throughout limits P r → P e
  last_of P (ends s) t = t
  last_of P (goes s t r) u = last_of P r u.1

  -- ---- THE LAW. A GSA_REKEY (exchange 41) that announced no Rekey SA was accepted; no step up to a later state left or brought one
  pub is-rekey : (f : Frame) → f.header.exchange ≡ 41 → row_of f ≡ rekey
  is-rekey f e = ap exchange_of e

  module _ (s₀ s₁ : State) (now : ℕ) (lent octets : List ℕ) (f : Frame) (e : IsFrame s₀.profile octets f)
      (x : f.header.exchange ≡ 41) (none : new_rekey f ≡ false) (o : Outcome limits s₀ now lent octets 0 s₁) (s₂ : State)
      (l : List Event) (r : Run limits s₁ l s₂) (quiet : AllQuiet limits r) where
    was : Taken limits s₀ now lent s₁ f
    was = taken limits s₀ now lent octets f s₁ e o

    least-then : s₁.least ≡ after_id f.header.message_id
    least-then = next-least s₀ now lent f was.is-clear s₁ was.after (is-rekey f x) none

    barred-then : Barred f.header.message_id s₂
    barred-then =
        let i = f.header.message_id in run-barred i r quiet (inl (subst (Past i) (sym least-then) (past_after i)))

    all-barred-then : f.header.message_id ≡ 4294967295 → (i : ℕ) → Barred i s₂
    all-barred-then h i = run-barred i r quiet (inl (subst (Past i) (sym least-then) (past-last i f.header.message_id (omega arith))))

    -- where a Rekey SA is live there, neither that Message ID nor a lower one is acceptable, and after 4,294,967,295 none is
    past_of : (i : ℕ) (y : List ℕ) → LiveRekey y s₂ → Barred i s₂ → Past i s₂.least
    past_of i y k (inl p) = p
    past_of i y k (inr n) = absurd (none_over y s₂ n k)

    pub past-then : (y : List ℕ) → LiveRekey y s₂ → Past f.header.message_id s₂.least
    past-then y k = past_of f.header.message_id y k barred-then

    pub all-past-then : (y : List ℕ) → LiveRekey y s₂ → f.header.message_id ≡ 4294967295 → (i : ℕ) → Past i s₂.least
    all-past-then y k h i = past_of i y k (all-barred-then h i)

    module _ (now' : ℕ) (lent' octets' : List ℕ) (g : Frame) (e' : IsFrame s₂.profile octets' g) (x' : g.header.exchange ≡ 41)
        (s₃ : State) where
      refused-then : ((y : List ℕ) → LiveRekey y s₂ → acceptable g.header.message_id s₂.least ≡ false) →
          Outcome limits s₂ now' lent' octets' 0 s₃ → ⊥
      refused-then h o' =
          let w = taken limits s₂ now' lent' octets' g s₃ e' o' in
          let z = g.header.spi in
          let over = stands_live z s₂ now' (came-over s₂ now' lent' g w.is-clear (is-rekey g x')) in
          false≢true (sym (h z over) ∙ taken-id s₂ now' lent' g w.is-clear (is-rekey g x'))

      -- its Message ID and lower ones are not accepted again, over whatever Rekey SA, at whatever tick
      pub no-replay : g.header.message_id ≤ f.header.message_id → Outcome limits s₂ now' lent' octets' 0 s₃ → ⊥
      no-replay h = refused-then (λ y k. past-then y k g.header.message_id h)

      -- after 4,294,967,295 none is
      pub none-any-more : f.header.message_id ≡ 4294967295 → Outcome limits s₂ now' lent' octets' 0 s₃ → ⊥
      none-any-more h = let j = g.header.message_id in refused-then (λ y k. all-past-then y k h j j (omega arith))

    -- the Rekey SA over which it came is live after it: the law speaks of rekeys that come over it
    pub still-live : LiveRekey f.header.spi s₁
    still-live =
        accepted-live limits s₀ now lent f was.is-clear s₁ was.after none f.header.spi
        (came-over s₀ now lent f was.is-clear (is-rekey f x))
