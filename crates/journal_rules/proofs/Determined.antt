-- WHAT IS READ BACK IS ONE.
use native.Mathlib.Omega.{arith}
use Prim.Native.Nat.{ℕ, ◌+◌}
use mathlib.Core.Path.{◌≡◌, refl, sym, ◌∙◌, subst}
use mathlib.Core.Bool.{Bool}
use mathlib.Core.List.{List}
use Rattle.state_keys.specs.Limits.{Limits}
use Rattle.lists.proofs.Cases.{never}
use Rattle.text_rules.specs.Lines.{Line}
use Rattle.state.specs.declared.State.{State}
use Rattle.rules_outcome.specs.Run.{Event, handed, sweep, leave}
use Rattle.rules_outcome.proofs.Determined.{outcome-one}
use Rattle.journal_rules.specs.Line.{Said, says, read_line}
use Rattle.journal_rules.specs.Replay.{TakesEffect, WouldRefuse, StopsReading}
use Rattle.journal_rules.specs.Replay.{Replays, at-end, cut_short, goes_on, stops, ReadBack}
use Rattle.journal_rules.specs.Claims.{SameRead}

module _ (limits : Limits) where
  pub effect-one : (s : State) (x : Event) (next after : State) → TakesEffect limits s x next → TakesEffect limits s x after → next ≡ after
  effect-one s (handed f l t) next after p q = (outcome-one limits s t l f 0 0 next after p q).1
  effect-one s (sweep t) next after p q = p ∙ sym q
  effect-one s leave next after p q = p ∙ sym q

  -- a step that takes effect is not refused
  pub effect-or-refused : (s : State) (x : Event) (next : State) → TakesEffect limits s x next → WouldRefuse limits s x → ⊥
  effect-or-refused s (handed f l t) next p q =
      let z = (outcome-one limits s t l f 0 _ next s p q.1).0 in omega arith
  effect-or-refused s (sweep t) next p q = q
  effect-or-refused s leave next p q = q

  pub goes-or-stops : (s : State) (said : Said) (x : Event) (next : State) → said ≡ says x → TakesEffect limits s x next →
      StopsReading limits s said → ⊥
  goes-or-stops s said x next e d q =
      effect-or-refused s x next d (subst (λ (y : Said). StopsReading limits s y) e q)

  same_step : (said : Said) (x y : Event) → said ≡ says x → said ≡ says y → x ≡ y
  same_step said x y p q = cc

  pub replays-one : {s : State} {n : ℕ} {ls : List Line} {e f : State} {j k : ℕ} → Replays limits s n ls e j → Replays limits s n ls f k →
      SameRead e f j k
  replays-one (at-end s n) (at-end _ _) = record { member = refl; line = refl }
  replays-one (cut_short s n l ls p) (cut_short _ _ _ _ q) = record { member = refl; line = refl }
  replays-one (cut_short s n l ls p) (goes_on _ _ _ _ x next e k q r d t) = never l.ended q p
  replays-one (cut_short s n l ls p) (stops _ _ _ _ q r) = never l.ended q p
  replays-one (goes_on s n l ls x next e k q r d t) (cut_short _ _ _ _ p) = never l.ended q p
  replays-one (goes_on s n l ls x next e k q r d t) (goes_on _ _ _ _ y after f j p u b v) =
      let z = same_step (read_line l.text) y x u r in
      let w = effect-one s x after next (subst (λ (i : Event). TakesEffect limits s i after) z b) d in
      replays-one t (subst (λ (m : State). Replays limits m (n + 1) ls f j) w v)
  replays-one (goes_on s n l ls x next e k q r d t) (stops _ _ _ _ p u) = absurd (goes-or-stops s (read_line l.text) x next r d u)
  replays-one (stops s n l ls p u) (cut_short _ _ _ _ q) = never l.ended p q
  replays-one (stops s n l ls p u) (goes_on _ _ _ _ x next e k q r d t) = absurd (goes-or-stops s (read_line l.text) x next r d u)
  replays-one (stops s n l ls p u) (stops _ _ _ _ q v) = record { member = refl; line = refl }

  -- ONE MEMBER AND ONE LINE NUMBER, for any octets
  pub reads-one : (profile : Bool) (journal : List ℕ) (e f : State) (j k : ℕ) → ReadBack limits profile journal e j →
      ReadBack limits profile journal f k → SameRead e f j k
  reads-one profile journal e f j k p q = replays-one p q
