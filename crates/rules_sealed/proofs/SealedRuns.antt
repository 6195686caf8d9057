-- RUNS WITH SEALED FRAMES. Each is a run of opened frames, step by step with the same members: a sealed frame that opens is its opened
-- frame, and one that does not is like a frame of no octets, refused. So what holds of the members of every run holds of these too, and no
-- sealed rekey is a replay.
use native.Mathlib.Omega.{arith}
use Prim.Native.Nat.{ℕ, ◌≤◌}
use mathlib.Core.Path.{◌≡◌, ◌∙◌}
use mathlib.Core.Bool.{Bool, true, false}
use mathlib.Core.List.{List, [], ◌∷◌}
use Rattle.state_keys.specs.Limits.{Limits, limits}
use Rattle.wire_frames.specs.Header.{header_of}
use Rattle.wire_frames.specs.Frame.{Frame}
use Rattle.wire_frames.specs.Grammar.{IsFrame}
use Rattle.state.specs.declared.State.{State}
use Rattle.state.specs.State.{new_state, state_formed}
use Rattle.state.specs.Blank.{StateBlank}
use Rattle.rfc5282.specs.Number10.{OpensInto}
use Rattle.rules_outcome.specs.Holding.{new_rekey}
use Rattle.rules_outcome.specs.Answer.{First}
use Rattle.rules_outcome.specs.Outcome.{NoTree, Outcome, no-layout}
use Rattle.rules_outcome.specs.Run.{Event, handed, Takes, answered, Run, ends, goes, Throughout, Quiet, AllQuiet}
use Rattle.rules_outcome.proofs.Runs.{members-formed, members-blank, members-profile}
use Rattle.rules_outcome.proofs.RunsReplay.{no-replay}
use Rattle.rules_outcome.proofs.Meets.{accepted-is}
use Rattle.rules_sealed.specs.SealingKey.{sealing_part}
use Rattle.rules_sealed.specs.SealedOutcome.{sealed_conditions, SealedOutcome, not_opened, by-opened}
use Rattle.rules_sealed.specs.SealedRun.{SealedEvent, SealedTakes, takes, answered-sealed, SealedRun, run_ends, run-goes}
use Rattle.rules_sealed.specs.SealedRun.{SealedThroughout, SealedQuiet, SealedAllQuiet}
use Rattle.rules_sealed.proofs.SealedHeader.{opened-exchange, opened-message, is-rekey}
use Rattle.rules_sealed.proofs.SealedDetermined.{no-number-2}

no-octets-no-tree : (profile : Bool) → NoTree profile []
no-octets-no-tree profile f e = let l = e.least in omega arith

module _ (limits : Limits) where
  -- ---- a step as one on an opened frame, with the same members
  pub record AsOpened (s next : State) (Quiet' : Type 0) : Type 0 where
    pub event : Event
    pub step : Takes limits s event next
    pub quiet : Quiet' → Quiet limits step

  outcome-step : (s : State) (octets room : List ℕ) (now n offset : ℕ) (next : State) (after : List ℕ) →
      SealedOutcome limits s now octets room n offset next after →
      AsOpened s next
      ((f : Frame) (o : List ℕ) → OpensInto (sealing_part limits s) octets room o → IsFrame s.profile o f → n ≡ 0 → new_rekey f ≡ false)
  outcome-step s octets room now _ _ _ _ (not_opened n p) =
      record {
        event = handed [] [] now;
        step = answered [] [] now 1 (no-layout (no-octets-no-tree s.profile));
        quiet = λ q f e z. absurd (no-octets-no-tree s.profile f e);
      }
  outcome-step s octets room now _ _ _ _ (by-opened o {n} p h u) =
      record { event = handed o [] now; step = answered o [] now n u; quiet = λ q f e z. q f o h e z }

  pub opened-step : {s next : State} {x : SealedEvent} (t : SealedTakes limits s x next) → AsOpened s next (SealedQuiet limits t)
  opened-step (takes {x} t) = record { event = x; step = t; quiet = λ q. q }
  opened-step {s} (answered-sealed octets room now n offset {next} {after} o) = outcome-step s octets room now n offset next after o

  -- ---- the run of opened frames
  abbrev pub opened_events : {s e : State} {l : List SealedEvent} → SealedRun limits s l e → List Event
  opened_events (run_ends s) = []
  opened_events (run-goes s t r) = (opened-step t).event ∷ opened_events r

  pub opened-run : {s e : State} {l : List SealedEvent} (r : SealedRun limits s l e) → Run limits s (opened_events r) e
  opened-run (run_ends s) = ends s
  opened-run (run-goes s t r) = goes s (opened-step t).step (opened-run r)

  -- it has the same members
  pub same-members : (P : State → Type 0) {s e : State} {l : List SealedEvent} (r : SealedRun limits s l e) →
      Throughout limits P (opened-run r) → SealedThroughout limits P r
  unfolding opened-run
  same-members P (run_ends s) t = t
  same-members P (run-goes s t r) u = (u.0, same-members P r u.1)

  pub quiet-run : {s e : State} {l : List SealedEvent} (r : SealedRun limits s l e) → SealedAllQuiet limits r →
      AllQuiet limits (opened-run r)
  unfolding opened-run
  quiet-run (run_ends s) q = tt
  quiet-run (run-goes s t r) q = ((opened-step t).quiet q.0, quiet-run r q.1)

-- every member of a run from the new member is as it must be, and blank in every unused place
pub sealed-members-formed : (profile : Bool) {e : State} {l : List SealedEvent} (r : SealedRun limits (new_state limits profile) l e) →
    SealedThroughout limits (λ (m : State). state_formed limits m ≡ true) r
sealed-members-formed profile r =
    same-members limits (λ (m : State). state_formed limits m ≡ true) r (members-formed profile (opened-run limits r))

pub sealed-members-blank : (profile : Bool) {e : State} {l : List SealedEvent} (r : SealedRun limits (new_state limits profile) l e) →
    SealedThroughout limits (StateBlank limits) r
sealed-members-blank profile r = same-members limits (StateBlank limits) r (members-blank profile (opened-run limits r))

-- the profile is "switched on for a member at creation" (T-11): no sealed frame changes it
pub sealed-members-profile : (profile : Bool) {e : State} {l : List SealedEvent} (r : SealedRun limits (new_state limits profile) l e) →
    SealedThroughout limits (λ (m : State). m.profile ≡ profile) r
sealed-members-profile profile r =
    same-members limits (λ (m : State). m.profile ≡ profile) r (members-profile profile (opened-run limits r))

-- ---- NO REPLAY
module _ (limits : Limits) where
  -- what an accepted sealed frame was
  record WasOpened (s : State) (now : ℕ) (octets room : List ℕ) (next : State) : Type 0 where
    o : List ℕ
    past : First (sealed_conditions limits s now octets room) 0
    opens : OpensInto (sealing_part limits s) octets room o
    outcome : Outcome limits s now [] o 0 next

  was-opened : (s : State) (now : ℕ) (octets room : List ℕ) (offset : ℕ) (next : State) (after : List ℕ) →
      SealedOutcome limits s now octets room 0 offset next after → WasOpened s now octets room next
  was-opened s now octets room _ _ _ (by-opened o p h u) = record { o = o; past = p; opens = h; outcome = u }

  -- its tree has the sealed frame's Message ID and is a GSA_REKEY
  module _ (s : State) (now : ℕ) (octets room : List ℕ) (next : State) (w : WasOpened s now octets room next) where
    tree : Frame
    tree = (accepted-is limits s now [] w.o next w.outcome).tree

    layout : IsFrame s.profile w.o tree
    unfolding tree
    layout = (accepted-is limits s now [] w.o next w.outcome).layout

    message : tree.header.message_id ≡ (header_of octets).message_id
    message = opened-message s.profile (sealing_part limits s) octets room w.o w.opens tree layout

    exchange : tree.header.exchange ≡ 41
    exchange =
        opened-exchange s.profile (sealing_part limits s) octets room w.o w.opens tree layout
        ∙ is-rekey limits s now octets (no-number-2 limits s now octets room w.past)

  -- a sealed rekey that announced no Rekey SA was accepted, and no step up to a later state left or brought one
  module _ (s₀ s₁ : State) (now : ℕ) (octets room : List ℕ) (offset : ℕ) (after : List ℕ)
      (first : SealedOutcome limits s₀ now octets room 0 offset s₁ after)
      (none : (f : Frame) (o : List ℕ) → OpensInto (sealing_part limits s₀) octets room o → IsFrame s₀.profile o f → new_rekey f ≡ false)
      (s₂ : State) (l : List SealedEvent) (r : SealedRun limits s₁ l s₂) (quiet : SealedAllQuiet limits r) where
    -- its Message ID and lower ones are not accepted again, over whatever Rekey SA, at whatever tick
    pub sealed-no-replay : (now' : ℕ) (octets' room' : List ℕ) (offset' : ℕ) (s₃ : State) (after' : List ℕ) →
        (header_of octets').message_id ≤ (header_of octets).message_id →
        SealedOutcome limits s₂ now' octets' room' 0 offset' s₃ after' → ⊥
    sealed-no-replay now' octets' room' offset' s₃ after' le again =
        let a = was-opened s₀ now octets room offset s₁ after first in
        let b = was-opened s₂ now' octets' room' offset' s₃ after' again in
        let f = tree s₀ now octets room s₁ a in
        let g = tree s₂ now' octets' room' s₃ b in
        let m = message s₀ now octets room s₁ a in
        let m' = message s₂ now' octets' room' s₃ b in
        no-replay limits s₀ s₁ now [] a.o f (layout s₀ now octets room s₁ a) (exchange s₀ now octets room s₁ a)
        (none f a.o a.opens (layout s₀ now octets room s₁ a)) a.outcome s₂ (opened_events limits r) (opened-run limits r)
        (quiet-run limits r quiet) now' [] b.o g (layout s₂ now' octets' room' s₃ b) (exchange s₂ now' octets' room' s₃ b) s₃
        (omega (arith, m, m', le)) b.outcome
