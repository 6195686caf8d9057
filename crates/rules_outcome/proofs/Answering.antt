-- The answer to a frame whose layout is whole, from what judging finds: the first of numbers 2 to 7 that applies, then whether 8 and 9 do,
-- then whether the held list would be over its limit.
use native.Mathlib.Omega.{arith}
use Prim.Native.Nat.{ℕ, suc, ◌<◌}
use mathlib.Core.Path.{◌≡◌, refl}
use mathlib.Core.Bool.{true}
use mathlib.Core.Logic.{◌⊎◌, inl, inr, ⊎_elim, ◌↔◌}
use mathlib.Core.List.{List, [], ◌∷◌, map}
use Rattle.state_keys.specs.Limits.{Limits}
use Rattle.wire_frames.specs.Frame.{Frame}
use Rattle.state.specs.declared.State.{State}
use Rattle.rules_refusals.specs.Refusals.{numbers, refusal}
use Rattle.rules_outcome.specs.Holding.{OverHeldOf}
use Rattle.rules_outcome.specs.Answer.{RefusalCase, First, by_clauses, KeyConflictOf, KeyMissingOf, conditions, FrameAnswers}
use Rattle.rules_outcome.specs.Judging.{JudgedFirst, above}
use Rattle.rules_outcome.proofs.First.{first-at, at_first, by-clauses, past-clauses, clauses-or-rest}

module _ (limits : Limits) (s : State) (now : ℕ) (lent : List ℕ) (f : Frame) where
  -- the numbers of the clauses rise, from 2 on
  clauses-rise : above 1 (map by_clauses (numbers limits s now lent f)) ≡ true
  clauses-rise = refl

  -- the conditions behind the clauses
  abbrev pub lasts : List RefusalCase
  lasts = record { number = 8; holds = KeyConflictOf limits s now lent f } ∷ record { number = 9; holds = KeyMissingOf limits s now lent f }
      ∷ record { number = 7; holds = OverHeldOf limits s now lent f } ∷ []

  pub answers-clauses : (n : ℕ) → refusal limits s now lent f ≡ suc n → FrameAnswers limits s now lent f (suc n)
  unfolding refusal
  answers-clauses n e = by-clauses lasts (numbers limits s now lent f) n e

  module _ (e : refusal limits s now lent f ≡ 0) where
    behind : (n : ℕ) → First lasts n → FrameAnswers limits s now lent f n
    unfolding refusal
    behind n p = past-clauses lasts 1 (numbers limits s now lent f) clauses-rise e n p

    pub answers-8 : KeyConflictOf limits s now lent f → FrameAnswers limits s now lent f 8
    answers-8 p = behind 8 (inl (p, refl))

    pub answers-9 : (KeyConflictOf limits s now lent f → ⊥) → KeyMissingOf limits s now lent f → FrameAnswers limits s now lent f 9
    answers-9 p q = behind 9 (inr (p, inl (q, refl)))

    -- "Over 128 then is 7, judged after 9."
    pub answers-over : (KeyConflictOf limits s now lent f → ⊥) → (KeyMissingOf limits s now lent f → ⊥) → OverHeldOf limits s now lent f →
        FrameAnswers limits s now lent f 7
    answers-over p q r = behind 7 (inr (p, inr (q, inl (r, refl))))

    pub answers-0 : (KeyConflictOf limits s now lent f → ⊥) → (KeyMissingOf limits s now lent f → ⊥) →
        (OverHeldOf limits s now lent f → ⊥) →
        FrameAnswers limits s now lent f 0
    answers-0 p q r = behind 0 (inr (p, inr (q, inr (r, refl))))

  -- an answer of 0, taken apart
  pub record NoneApplies : Type 0 where
    pub clauses : refusal limits s now lent f ≡ 0
    pub no-conflict : KeyConflictOf limits s now lent f → ⊥
    pub no-missing : KeyMissingOf limits s now lent f → ⊥
    pub no-over : OverHeldOf limits s now lent f → ⊥

  none_last : refusal limits s now lent f ≡ 0 → First lasts 0 → NoneApplies
  none_last e (inl p) = let z = p.1 in absurd (omega arith)
  none_last e (inr (p, inl q)) = let z = q.1 in absurd (omega arith)
  none_last e (inr (p, inr (q, inl r))) = let z = r.1 in absurd (omega arith)
  none_last e (inr (p, inr (q, inr (r, z)))) = record { clauses = e; no-conflict = p; no-missing = q; no-over = r }

  -- an answer is judged by the clauses, or passes them
  pub judged-or-past : (n : ℕ) → FrameAnswers limits s now lent f n →
      ((1 < n) × (refusal limits s now lent f ≡ n)) ⊎ ((refusal limits s now lent f ≡ 0) × First lasts n)
  unfolding refusal
  judged-or-past n p = clauses-or-rest lasts 1 (numbers limits s now lent f) clauses-rise n p

  pub accepts : FrameAnswers limits s now lent f 0 → NoneApplies
  accepts p =
      ⊎_elim (λ q. let z = q.0 in absurd (omega arith)) (λ q. none_last q.0 q.1) (judged-or-past 0 p)

  -- "each is judged only when the lower ones don't apply"
  pub answers_at : (n : ℕ) → FrameAnswers limits s now lent f (suc n) ↔ JudgedFirst (conditions limits s now lent f) (suc n)
  answers_at n = (first-at (conditions limits s now lent f) n, at_first (conditions limits s now lent f) (suc n))
