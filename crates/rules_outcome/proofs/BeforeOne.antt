-- THE OUTCOME OF THE RULES BEFORE T-11 IS ONE, so that `as_before` (AsBefore.antt) tells it.
use native.Mathlib.Omega.{arith}
use Prim.Native.Nat.{ℕ, suc}
use mathlib.Core.Path.{◌≡◌, refl, ap, sym, ◌∙◌, subst}
use mathlib.Core.Bool.{Bool, true, false}
use mathlib.Core.List.{List, map}
use Rattle.state_keys.specs.Limits.{Limits}
use Rattle.wire_frames.specs.Frame.{Frame}
use Rattle.wire_frames.proofs.FrameGrammar.{one-tree}
use Rattle.state.specs.declared.State.{State}
use Rattle.state.specs.declared.held.Held.{Held}
use Rattle.state.specs.Held.{held_of}
use Rattle.rules_refusals.specs.Contents.{row_of, announced, wrap_keys_of}
use Rattle.rules_chains.specs.Chain.{Root}
use Rattle.rules_chains.specs.Path.{Keys}
use Rattle.rules_chains.proofs.OnePath.{path-one, keys-one}
use Rattle.rules_outcome.specs.Roots.{wrapping_size}
use Rattle.rules_outcome.specs.Holding.{new_rekey, rekey_copies, held_from}
use Rattle.rules_outcome.specs.BeforeT11.{roots_before, conditions_before, HeldThen, AfterBefore, JudgedBefore, refused, accepted}
use Rattle.rules_outcome.specs.BeforeT11.{OutcomeBefore, no-layout, by-tree}
use Rattle.rules_outcome.proofs.First.{first_one}
use Rattle.rules_outcome.proofs.Determined.{enter_one}

module _ (limits : Limits) (s : State) (now : ℕ) (lent : List ℕ) where
  module _ (f : Frame) where
    abbrev R : List Root
    R = roots_before limits s now lent f

    abbrev n : ℕ
    n = wrapping_size limits s now lent f

    held_one : (r b : Bool) (h k : Held) → HeldThen limits s now lent f r b h → HeldThen limits s now lent f r b k → h ≡ k
    held_one true true h k p q =
        let e = path-one R (wrap_keys_of f) n (rekey_copies f) p.ids q.ids 0 0 p.path q.path in
        let d = keys-one R (wrap_keys_of f) n q.ids p.keys q.keys
        (subst (λ (i : List ℕ). Keys R (wrap_keys_of f) n i p.keys) e.0 p.are) q.are in
        p.is ∙ ap (λ (l : List Root). held_of limits (map held_from l)) d ∙ sym q.is
    held_one true false h k p q = p ∙ sym q
    held_one false true h k p q = p ∙ sym q
    held_one false false h k p q = p ∙ sym q

    after_one : (next after : State) → AfterBefore limits s now lent f next → AfterBefore limits s now lent f after → next ≡ after
    after_one next after p q =
        let e = enter_one R (wrap_keys_of f) n now f (announced f) p.new q.new p.enter q.enter in
        let a = p.table in
        let b = q.table in
        let t : next.table ≡ after.table = cc in
        let h = held_one (row_of f).registers (new_rekey f) next.held after.held p.held q.held in
        let l : next.least ≡ after.least = p.least ∙ sym q.least in
        let o : next.profile ≡ after.profile = p.profile ∙ sym q.profile in
        λ i. record { table = t i; held = h i; least = l i; profile = o i }

    judged-one : (k m : ℕ) (next after : State) → JudgedBefore limits s now lent f k next → JudgedBefore limits s now lent f m after →
        (k ≡ m) × (next ≡ after)
    judged-one _ _ _ _ (refused k p) (refused m q) = (first_one (conditions_before limits s now lent f) (suc k) (suc m) p q, refl)
    judged-one _ _ _ _ (refused k p) (accepted after q a) =
        let e = first_one (conditions_before limits s now lent f) (suc k) 0 p q in absurd (omega arith)
    judged-one _ _ _ _ (accepted next p a) (refused m q) =
        let e = first_one (conditions_before limits s now lent f) 0 (suc m) p q in absurd (omega arith)
    judged-one _ _ _ _ (accepted next p a) (accepted after q b) = (refl, after_one next after a b)

  pub before-one : (octets : List ℕ) (k m : ℕ) (next after : State) → OutcomeBefore limits s now lent octets k next →
      OutcomeBefore limits s now lent octets m after → (k ≡ m) × (next ≡ after)
  before-one octets _ _ _ _ (no-layout none) (no-layout no_other) = (refl, refl)
  before-one octets _ m _ after (no-layout none) (by-tree f d j) = absurd (none f d)
  before-one octets k _ next _ (by-tree f d j) (no-layout none) = absurd (none f d)
  before-one octets k m next after (by-tree f e j) (by-tree g d i) =
      judged-one g k m next after (subst (λ (x : Frame). JudgedBefore limits s now lent x k next) (one-tree false octets f g e d) j) i
