-- In a rekey the lent key is not read: what a frame of exchange type 41 comes to is the same for any two lent keys.
use Prim.Native.Nat.{ℕ}
use mathlib.Core.Path.{◌≡◌, sym, ◌∙◌, subst}
use mathlib.Core.List.{List}
use Rattle.state_keys.specs.Limits.{Limits}
use Rattle.wire_frames.specs.Frame.{Frame}
use Rattle.wire_frames.specs.Grammar.{IsFrame}
use Rattle.wire_frames.specs.Exchange.{rekey}
use Rattle.state.specs.declared.State.{State}
use Rattle.rules_refusals.specs.Contents.{row_of, announced}
use Rattle.rules_refusals.specs.Number5.{number5_of_frame}
use Rattle.rules_chains.specs.Chain.{Root}
use Rattle.rules_outcome.specs.Roots.{roots_of, entries_of, wrapping_size}
use Rattle.rules_outcome.specs.Answer.{RefusalCase, First, conditions, FrameAnswers}
use Rattle.rules_outcome.specs.Holding.{new_rekey, rekey_copies, held_before, HeldNext}
use Rattle.rules_outcome.specs.After.{Enter, After}
use Rattle.rules_outcome.specs.Outcome.{Judged, refused, accepted, Outcome, no-layout, by-tree}
use Rattle.rules_outcome.proofs.Rows.{own-roots, own-size, not-judged}

module _ (limits : Limits) (s : State) (now : ℕ) (lent other : List ℕ) where
  module _ (f : Frame) (e : row_of f ≡ rekey) where
    same-roots : roots_of limits s now lent f ≡ roots_of limits s now other f
    same-roots = own-roots limits s now f e lent ∙ sym (own-roots limits s now f e other)

    same_size : wrapping_size limits s now lent f ≡ wrapping_size limits s now other f
    same_size = own-size limits s now f e lent ∙ sym (own-size limits s now f e other)

    same-number5 : number5_of_frame lent f ≡ number5_of_frame other f
    unfolding number5_of_frame
    same-number5 = rw (not-judged limits s now f e lent, not-judged limits s now f e other)

    same-conditions : conditions limits s now lent f ≡ conditions limits s now other f
    same-conditions = rw (same-number5, same-roots, same_size)

    same_answer : (n : ℕ) → FrameAnswers limits s now lent f n → FrameAnswers limits s now other f n
    same_answer n p = subst (λ (l : List RefusalCase). First l n) same-conditions p

    -- what holds of one's roots and size holds of the other's
    carried : (P : List Root → ℕ → Type 0) → P (roots_of limits s now lent f) (wrapping_size limits s now lent f) →
        P (roots_of limits s now other f) (wrapping_size limits s now other f)
    carried P x = subst (P (roots_of limits s now other f)) same_size (subst (λ r. P r (wrapping_size limits s now lent f)) same-roots x)

    same_after : (next : State) → After limits s now lent f next → After limits s now other f next
    same_after next a =
        record {
          new = a.new;
          enter = carried (λ r n. Enter r (entries_of f) n now f (announced f) a.new) a.enter;
          table = a.table;
          held =
              carried (λ r n. HeldNext r (entries_of f) n limits (new_rekey f) (rekey_copies f)
              (held_before limits (row_of f).registers s.held) next.held)
              a.held;
          least = a.least;
          profile = a.profile;
        }

    same-judged : (n : ℕ) (next : State) → Judged limits s now lent f n next → Judged limits s now other f n next
    same-judged _ _ (refused n p) = refused n (same_answer _ p)
    same-judged _ _ (accepted next p a) = accepted next (same_answer 0 p) (same_after next a)

  pub same_outcome : (octets : List ℕ) → ((f : Frame) → IsFrame s.profile octets f → row_of f ≡ rekey) → (n : ℕ) (next : State) →
      Outcome limits s now lent octets n next → Outcome limits s now other octets n next
  same_outcome octets e _ _ (no-layout none) = no-layout none
  same_outcome octets e n next (by-tree f d j) = by-tree f d (same-judged f (e f d) n next j)
