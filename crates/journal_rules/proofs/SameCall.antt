-- WHAT A JOURNALED CALL ANSWERS IS ONE: the answer, the next member and the room.
use native.Mathlib.Omega.{arith}
use Prim.Native.Nat.{ℕ, suc}
use mathlib.Core.Path.{◌≡◌, refl, ap, sym, ◌∙◌, subst}
use mathlib.Core.List.{List}
use Rattle.state_keys.specs.Limits.{Limits}
use Rattle.state.specs.declared.State.{State}
use Rattle.rules_outcome.specs.Outcome.{Outcome}
use Rattle.rules_outcome.specs.Run.{Event, handed}
use Rattle.rules_outcome.proofs.Determined.{outcome-one}
use Rattle.journal_rules.specs.Replay.{TakesEffect}
use Rattle.journal_rules.specs.Write.{JournalAnswer, refused, Journals, turned-away, too_small, wrote}
use Rattle.journal_rules.specs.Claims.{SameCall, AsPlain}
use Rattle.journal_rules.proofs.Determined.{effect-one, effect-or-refused}

module _ (limits : Limits) where
  refused-twice : (s : State) (x : Event) (f l g m : List ℕ) (t u i j : ℕ) → x ≡ handed f l t → x ≡ handed g m u →
      Outcome limits s t l f (suc i) s → Outcome limits s u m g (suc j) s → suc i ≡ suc j
  refused-twice s x f l g m t u i j p q a b =
      let o = subst (λ (y : Event). AsPlain limits s y (refused (suc i)) s) (sym p ∙ q) a in
      (outcome-one limits s u m g (suc i) (suc j) s s o b).0

  not-both : (s : State) (x : Event) (f l : List ℕ) (t n : ℕ) (next : State) → x ≡ handed f l t → Outcome limits s t l f (suc n) s →
      TakesEffect limits s x next → ⊥
  not-both s x f l t n next e o d =
      effect-or-refused limits s (handed f l t) next (subst (λ (y : Event). TakesEffect limits s y next) e d) (n, o)

  module _ {s : State} {x : Event} {room : List ℕ} where
    pub journals-one : {a b : JournalAnswer} {next next' : State} {after after' : List ℕ} → Journals limits s x room a next after →
        Journals limits s x room b next' after' → SameCall a b next next' after after'
    journals-one (turned-away f l t i p o) (turned-away g m u j q r) =
        record { answer = ap refused (refused-twice s x f l g m t u i j p q o r); member = refl; room = refl }
    journals-one (turned-away f l t i p o) (too_small next d h) = absurd (not-both s x f l t i next p o d)
    journals-one (turned-away f l t i p o) (wrote next d h) = absurd (not-both s x f l t i next p o d)
    journals-one (too_small next d h) (turned-away f l t i p o) = absurd (not-both s x f l t i next p o d)
    journals-one (too_small next d h) (too_small after b k) = record { answer = refl; member = refl; room = refl }
    journals-one (too_small next d h) (wrote after b k) = absurd (omega arith)
    journals-one (wrote next d h) (turned-away f l t i p o) = absurd (not-both s x f l t i next p o d)
    journals-one (wrote next d h) (too_small after b k) = absurd (omega arith)
    journals-one (wrote next d h) (wrote after b k) = record { answer = refl; member = effect-one limits s x next after d b; room = refl }
