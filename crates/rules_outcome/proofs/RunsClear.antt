-- What is known of a frame that is accepted: no clause of numbers 2 to 7 applies, and 8 and 9 do not hold.
use native.Mathlib.Omega.{arith}
use Prim.Native.Nat.{ℕ}
use mathlib.Core.Path.{◌≡◌, refl, sym, subst}
use mathlib.Core.Bool.{Bool, true, false}
use mathlib.Core.Logic.{inl, inr}
use mathlib.Core.List.{List, [], ◌∷◌}
use Rattle.lists.proofs.Cases.{or-none}
use Rattle.state_keys.specs.Limits.{Limits}
use Rattle.wire_frames.specs.Frame.{Frame}
use Rattle.wire_frames.specs.Grammar.{IsFrame}
use Rattle.wire_frames.proofs.FrameGrammar.{one-tree}
use Rattle.state.specs.declared.State.{State}
use Rattle.rules_refusals.specs.Refusals.{Number, one, applies, number2, number3, number4, number5, number6, number7}
use Rattle.rules_outcome.specs.After.{After}
use Rattle.rules_outcome.specs.Outcome.{Judged, refused, accepted, Outcome, no-layout, by-tree}
use Rattle.rules_outcome.specs.Holding.{OverHeldOf}
use Rattle.rules_outcome.specs.Answer.{RefusalCase, First, conditions, FrameAnswers, KeyConflictOf, KeyMissingOf}

-- ---- 0 is given where no condition holds: their numbers are above it
abbrev Numbered : List RefusalCase → Type 0
Numbered [] = Unit {0}
Numbered (c ∷ l) = (c.number ≡ 0 → ⊥) × Numbered l

abbrev NoneHolds : List RefusalCase → Type 0
NoneHolds [] = Unit {0}
NoneHolds (c ∷ l) = (c.holds → ⊥) × NoneHolds l

none_of : (c : RefusalCase) (l : List RefusalCase) → (c.number ≡ 0 → ⊥) → First (c ∷ l) 0 → (c.holds → ⊥) × First l 0
none_of c l n (inl h) = absurd (n (sym h.1))
none_of c l n (inr h) = h

none-holds : (l : List RefusalCase) → Numbered l → First l 0 → NoneHolds l
none-holds [] n h = tt
none-holds (c ∷ l) n h = let p = none_of c l n.0 h in (p.0, none-holds l n.1 p.1)

not-true : (b : Bool) → (b ≡ true → ⊥) → b ≡ false
not-true true f = absurd (f refl)
not-true false f = refl

-- none of a number's clauses applies
pub record None (n : Number) : Type 0 where
  pub of_frame : one n.of_frame ≡ false
  pub of_member : one n.of_member ≡ false

pub none-applies : (n : Number) → (applies n ≡ true → ⊥) → None n
none-applies n f =
    let p = or-none (one n.of_frame) (one n.of_member) (not-true (applies n) f) in record { of_frame = p.0; of_member = p.1 }

pub record Clear (limits : Limits) (s : State) (now : ℕ) (lent : List ℕ) (f : Frame) : Type 0 where
  pub no-2 : None (number2 limits s now f.header.exchange f.header.spi)
  pub no-3 : None (number3 s f.header.exchange f.header.message_id)
  pub no-4 : None (number4 f)
  pub no-5 : None (number5 lent f)
  pub no-6 : None (number6 s now f)
  pub no-7 : None (number7 limits s now f)
  pub no-8 : KeyConflictOf limits s now lent f → ⊥
  pub no_9 : KeyMissingOf limits s now lent f → ⊥
  pub no-over : OverHeldOf limits s now lent f → ⊥

pub clear : (limits : Limits) (s : State) (now : ℕ) (lent : List ℕ) (f : Frame) → FrameAnswers limits s now lent f 0 →
    Clear limits s now lent f
clear limits s now lent f a =
    let n : Numbered (conditions limits s now lent f) = (
      λ e. omega arith,
      (
        λ e. omega arith,
        (
          λ e. omega arith,
          (λ e. omega arith, (λ e. omega arith, (λ e. omega arith, (λ e. omega arith, (λ e. omega arith, (λ e. omega arith, tt)))))),
        ),
      ),
    ) in
    let p = none-holds (conditions limits s now lent f) n a in
    record {
      no-2 = none-applies (number2 limits s now f.header.exchange f.header.spi) p.0;
      no-3 = none-applies (number3 s f.header.exchange f.header.message_id) p.1.0;
      no-4 = none-applies (number4 f) p.1.1.0;
      no-5 = none-applies (number5 lent f) p.1.1.1.0;
      no-6 = none-applies (number6 s now f) p.1.1.1.1.0;
      no-7 = none-applies (number7 limits s now f) p.1.1.1.1.1.0;
      no-8 = p.1.1.1.1.1.1.0;
      no_9 = p.1.1.1.1.1.1.1.0;
      no-over = p.1.1.1.1.1.1.1.1.0;
    }

-- ---- an accepted frame, by its octets
pub record Taken (limits : Limits) (s : State) (now : ℕ) (lent : List ℕ) (next : State) (f : Frame) : Type 0 where
  pub is-clear : Clear limits s now lent f
  pub after : After limits s now lent f next

module _ (limits : Limits) (s : State) (now : ℕ) (lent : List ℕ) where
  judged-taken : (f : Frame) (n : ℕ) (next : State) → Judged limits s now lent f n next → n ≡ 0 → Taken limits s now lent next f
  judged-taken f _ _ (refused n a) e = absurd (omega arith)
  judged-taken f _ _ (accepted next a r) e = record { is-clear = clear limits s now lent f a; after = r }

  outcome-taken : (octets : List ℕ) (f : Frame) (n : ℕ) (next : State) → IsFrame s.profile octets f →
      Outcome limits s now lent octets n next → n ≡ 0 → Taken limits s now lent next f
  outcome-taken octets f _ _ e (no-layout none) z = absurd (omega arith)
  outcome-taken octets f _ _ e (by-tree h {n} {next} g j) z =
      subst (Taken limits s now lent next) (one-tree s.profile octets h f g e) (judged-taken h n next j z)

  pub taken : (octets : List ℕ) (f : Frame) (next : State) → IsFrame s.profile octets f → Outcome limits s now lent octets 0 next →
      Taken limits s now lent next f
  taken octets f next e o = outcome-taken octets f 0 next e o refl
