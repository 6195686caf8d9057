-- RUNS WITH FRAGMENTS. Each is a run of opened and sealed frames, step by step with the same members: a complete frame is its whole frame,
-- and any other fragment is like a frame of no octets, refused. So what holds of the members of every run holds of these too.
use native.Mathlib.Omega.{arith}
use Prim.Native.Nat.{ℕ}
use mathlib.Core.Path.{◌≡◌, ap}
use mathlib.Core.Bool.{Bool, true}
use mathlib.Core.List.{List, [], ◌∷◌}
use Rattle.state_keys.specs.Limits.{Limits, limits}
use Rattle.wire_frames.specs.Frame.{figure}
use Rattle.state.specs.declared.State.{State}
use Rattle.state.specs.State.{new_state, state_formed}
use Rattle.state.specs.Blank.{StateBlank}
use Rattle.fragments.specs.declared.Collection.{Collection}
use Rattle.fragments.specs.Gathering.{whole}
use Rattle.rules_outcome.specs.Outcome.{NoTree, no-layout}
use Rattle.rules_outcome.specs.Run.{handed, answered}
use Rattle.rules_sealed.specs.SealedRun.{SealedEvent, as_before, SealedTakes, takes, SealedRun, run_ends, run-goes}
use Rattle.rules_sealed.specs.SealedRun.{SealedThroughout, SealedQuiet, SealedAllQuiet}
use Rattle.rules_outcome.specs.LifetimeSays.{LifetimesFit}
use Rattle.rules_outcome.specs.NamedKey.{ZeroOfRekeys}
use Rattle.rules_outcome.proofs.RanOut.{members-lifetimes}
use Rattle.rules_outcome.proofs.KeyZeroInRuns.{key-zero-in-runs}
use Rattle.rules_sealed.proofs.SealedRuns.{sealed-members-formed, sealed-members-blank, sealed-members-profile, opened-run}
use Rattle.rules_sealed.proofs.SealedRuns.{same-members as sealed-same-members}
use Rattle.rules_fragments.specs.FragmentOutcome.{FragmentAnswer, complete, gathered_with, FragmentOutcome}
use Rattle.rules_fragments.specs.FragmentOutcome.{is-refused, is-passed-over, is-waiting, is-complete}
use Rattle.rules_fragments.specs.FragmentRun.{FragmentEvent, FragmentTakes, takes-sealed, answered-fragment, FragmentRun}
use Rattle.rules_fragments.specs.FragmentRun.{fragment-run-ends, fragment-run-goes, FragmentThroughout, BringsNone, FragmentQuiet}
use Rattle.rules_fragments.specs.FragmentRun.{FragmentAllQuiet}

no-octets-no-tree : (profile : Bool) → NoTree profile []
no-octets-no-tree profile f e = let l = e.least in omega arith

module _ (limits : Limits) where
  -- ---- a step as one on an opened or sealed frame, with the same members
  pub record AsSealed (s next : State) (Quiet' : Type 0) : Type 0 where
    pub event : SealedEvent
    pub step : SealedTakes limits s event next
    pub quiet : Quiet' → SealedQuiet limits step

  -- the member stays
  stays : (s : State) (now : ℕ) (Quiet' : Type 0) → AsSealed s s Quiet'
  stays s now Quiet' =
      record {
        event = as_before (handed [] [] now);
        step = takes (answered [] [] now 1 (no-layout (no-octets-no-tree s.profile)));
        quiet = λ q f e z. absurd (no-octets-no-tree s.profile f e);
      }

  fragment-step : (s : State) (now : ℕ) (c : Collection) (octets room : List ℕ) (a : FragmentAnswer) (next : State) (kept : Collection)
      (after : List ℕ) → FragmentOutcome limits s now c octets room a next kept after →
      AsSealed s next (BringsNone limits s now c octets room a)
  fragment-step s now c octets room a _ _ _ (is-refused n p) = stays s now (BringsNone limits s now c octets room a)
  fragment-step s now c octets room a _ _ _ (is-passed-over p) = stays s now (BringsNone limits s now c octets room a)
  fragment-step s now c octets room a _ _ _ (is-waiting x p h) = stays s now (BringsNone limits s now c octets room a)
  fragment-step s now c octets room _ _ _ _ (is-complete x {n} {next} p h u) =
      let o = whole (gathered_with limits s now c octets room x) in
      let at = figure s.profile o in
      record {
        event = as_before (handed o [] now);
        step = takes (answered o [] now n u);
        quiet = λ q f e z. q f x at h e (ap (λ (k : ℕ). complete k at) z);
      }

  pub sealed-step : {s next : State} {x : FragmentEvent} (t : FragmentTakes limits s x next) → AsSealed s next (FragmentQuiet limits t)
  sealed-step (takes-sealed {x} t) = record { event = x; step = t; quiet = λ q. q }
  sealed-step {s} (answered-fragment c octets room now a {next} {kept} {after} o) = fragment-step s now c octets room a next kept after o

  -- ---- the run of opened and sealed frames
  abbrev pub sealed_events : {s e : State} {l : List FragmentEvent} → FragmentRun limits s l e → List SealedEvent
  sealed_events (fragment-run-ends s) = []
  sealed_events (fragment-run-goes s t r) = (sealed-step t).event ∷ sealed_events r

  pub sealed-run : {s e : State} {l : List FragmentEvent} (r : FragmentRun limits s l e) → SealedRun limits s (sealed_events r) e
  sealed-run (fragment-run-ends s) = run_ends s
  sealed-run (fragment-run-goes s t r) = run-goes s (sealed-step t).step (sealed-run r)

  -- it has the same members
  pub same-members : (P : State → Type 0) {s e : State} {l : List FragmentEvent} (r : FragmentRun limits s l e) →
      SealedThroughout limits P (sealed-run r) → FragmentThroughout limits P r
  unfolding sealed-run
  same-members P (fragment-run-ends s) t = t
  same-members P (fragment-run-goes s t r) u = (u.0, same-members P r u.1)

  pub quiet-sealed : {s e : State} {l : List FragmentEvent} (r : FragmentRun limits s l e) → FragmentAllQuiet limits r →
      SealedAllQuiet limits (sealed-run r)
  unfolding sealed-run
  quiet-sealed (fragment-run-ends s) q = tt
  quiet-sealed (fragment-run-goes s t r) q = ((sealed-step t).quiet q.0, quiet-sealed r q.1)

-- every member of a run from the new member is as it must be, and blank in every unused place
pub fragment-members-formed : (profile : Bool) {e : State} {l : List FragmentEvent}
    (r : FragmentRun limits (new_state limits profile) l e) → FragmentThroughout limits (λ (m : State). state_formed limits m ≡ true) r
fragment-members-formed profile r =
    same-members limits (λ (m : State). state_formed limits m ≡ true) r (sealed-members-formed profile (sealed-run limits r))

pub fragment-members-blank : (profile : Bool) {e : State} {l : List FragmentEvent}
    (r : FragmentRun limits (new_state limits profile) l e) → FragmentThroughout limits (StateBlank limits) r
fragment-members-blank profile r = same-members limits (StateBlank limits) r (sealed-members-blank profile (sealed-run limits r))

-- the profile is "switched on for a member at creation" (T-11): no fragment changes it
pub fragment-members-profile : (profile : Bool) {e : State} {l : List FragmentEvent}
    (r : FragmentRun limits (new_state limits profile) l e) → FragmentThroughout limits (λ (m : State). m.profile ≡ profile) r
fragment-members-profile profile r =
    same-members limits (λ (m : State). m.profile ≡ profile) r (sealed-members-profile profile (sealed-run limits r))

-- "members-lifetimes": every lifetime is one that a frame may bring
pub fragment-members-lifetimes : (profile : Bool) {e : State} {l : List FragmentEvent}
    (r : FragmentRun limits (new_state limits profile) l e) → FragmentThroughout limits LifetimesFit r
fragment-members-lifetimes profile r =
    same-members limits LifetimesFit r
    (sealed-same-members limits LifetimesFit (sealed-run limits r) (members-lifetimes profile (opened-run limits (sealed-run limits r))))

-- "key-zero-in-runs": key 0 of a rekey is cut out of the Rekey SA over which it comes
pub fragment-key-zero : (profile : Bool) {e : State} {l : List FragmentEvent} (r : FragmentRun limits (new_state limits profile) l e) →
    FragmentThroughout limits (ZeroOfRekeys limits) r
fragment-key-zero profile r =
    same-members limits (ZeroOfRekeys limits) r
    (sealed-same-members limits (ZeroOfRekeys limits) (sealed-run limits r)
    (key-zero-in-runs profile (opened-run limits (sealed-run limits r))))
