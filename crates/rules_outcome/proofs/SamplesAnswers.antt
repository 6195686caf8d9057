-- The answer to a frame, from the numbers that apply and those that do not.
use Prim.Native.Nat.{ℕ}
use mathlib.Core.Path.{◌≡◌, refl, sym, ◌∙◌}
use mathlib.Core.Bool.{true, false≢true, or-true}
use mathlib.Core.Logic.{inl, inr}
use mathlib.Core.List.{List}
use Rattle.state_keys.specs.Limits.{Limits}
use Rattle.wire_frames.specs.Frame.{Frame}
use Rattle.wire_frames.specs.Grammar.{IsFrame}
use Rattle.state.specs.declared.State.{State}
use Rattle.rules_refusals.specs.Refusals.{Number, one, applies, number2, number3, number4, number5, number6, number7}
use Rattle.rules_outcome.specs.Answer.{KeyConflictOf, KeyMissingOf}
use Rattle.rules_outcome.specs.After.{After}
use Rattle.rules_outcome.specs.Outcome.{refused, accepted, Outcome, by-tree}
use Rattle.rules_outcome.proofs.RunsClear.{None, Clear}

not-applies : (n : Number) → None n → applies n ≡ true → ⊥
not-applies n h e = false≢true (sym (rw (h.of_frame, h.of_member)) ∙ e)

pub applies-frame : (n : Number) → one n.of_frame ≡ true → applies n ≡ true
applies-frame n e = rw e

pub applies-member : (n : Number) → one n.of_member ≡ true → applies n ≡ true
applies-member n e = rw e (or-true (one n.of_frame))

module _ (limits : Limits) (s : State) (now : ℕ) (lent octets : List ℕ) (f : Frame) (e : IsFrame s.profile octets f) where
  pub outcome-0 : Clear limits s now lent f → (next : State) → After limits s now lent f next → Outcome limits s now lent octets 0 next
  outcome-0 c next a =
      by-tree f e
      (accepted next
      (inr (
        not-applies (number2 limits s now f.header.exchange f.header.spi) c.no-2,
        inr (
          not-applies (number3 s f.header.exchange f.header.message_id) c.no-3,
          inr (
            not-applies (number4 f) c.no-4,
            inr (
              not-applies (number5 lent f) c.no-5,
              inr (
                not-applies (number6 s now f) c.no-6,
                inr (
                  not-applies (number7 limits s now f) c.no-7,
                  inr (
                    c.no-8,
                    inr (c.no_9, inr (c.no-over, refl)),
                  ),
                ),
              ),
            ),
          ),
        ),
      )) a)

  module _ (n2 : None (number2 limits s now f.header.exchange f.header.spi)) where
    pub outcome-3 : applies (number3 s f.header.exchange f.header.message_id) ≡ true → Outcome limits s now lent octets 3 s
    outcome-3 h =
        by-tree f e
        (refused 2 (inr (not-applies (number2 limits s now f.header.exchange f.header.spi) n2, inl (h, refl))))

    module _ (n3 : None (number3 s f.header.exchange f.header.message_id)) (n4 : None (number4 f)) where
      pub outcome-5 : applies (number5 lent f) ≡ true → Outcome limits s now lent octets 5 s
      outcome-5 h =
          by-tree f e
          (refused 4
          (inr (
            not-applies (number2 limits s now f.header.exchange f.header.spi) n2,
            inr (
              not-applies (number3 s f.header.exchange f.header.message_id) n3,
              inr (not-applies (number4 f) n4, inl (h, refl)),
            ),
          )))

      module _ (n5 : None (number5 lent f)) (n6 : None (number6 s now f)) (n7 : None (number7 limits s now f)) where
        pub outcome-8 : KeyConflictOf limits s now lent f → Outcome limits s now lent octets 8 s
        outcome-8 h =
            by-tree f e
            (refused 7
            (inr (
              not-applies (number2 limits s now f.header.exchange f.header.spi) n2,
              inr (
                not-applies (number3 s f.header.exchange f.header.message_id) n3,
                inr (
                  not-applies (number4 f) n4,
                  inr (
                    not-applies (number5 lent f) n5,
                    inr (not-applies (number6 s now f) n6, inr (not-applies (number7 limits s now f) n7, inl (h, refl))),
                  ),
                ),
              ),
            )))

        pub outcome-9 : (KeyConflictOf limits s now lent f → ⊥) → KeyMissingOf limits s now lent f → Outcome limits s now lent octets 9 s
        outcome-9 n8 h =
            by-tree f e
            (refused 8
            (inr (
              not-applies (number2 limits s now f.header.exchange f.header.spi) n2,
              inr (
                not-applies (number3 s f.header.exchange f.header.message_id) n3,
                inr (
                  not-applies (number4 f) n4,
                  inr (
                    not-applies (number5 lent f) n5,
                    inr (
                      not-applies (number6 s now f) n6,
                      inr (not-applies (number7 limits s now f) n7, inr (n8, inl (h, refl))),
                    ),
                  ),
                ),
              ),
            )))
