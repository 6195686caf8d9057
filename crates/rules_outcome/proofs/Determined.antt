-- THE OUTCOME IS ONE: two outcomes of the same member, frame, lent key and tick have the same number and leave the same member.
use native.Mathlib.Omega.{arith}
use Prim.Native.Nat.{ℕ, suc}
use mathlib.Core.Path.{◌≡◌, refl, ap₂, sym, ◌∙◌, subst}
use mathlib.Core.Bool.{Bool, true, false}
use mathlib.Core.List.{List, [], ◌∷◌, map}
use Rattle.state_keys.specs.Limits.{Limits}
use Rattle.wire_attributes.specs.Tree.{SaKey, WrapKey}
use Rattle.wire_policies.specs.Policy.{GroupSaPolicy}
use Rattle.wire_frames.specs.Frame.{Frame}
use Rattle.wire_frames.proofs.FrameGrammar.{one-tree}
use Rattle.state_sa.specs.declared.entry.Sa.{Sa}
use Rattle.state.specs.declared.State.{State}
use Rattle.state.specs.declared.held.Held.{Held}
use Rattle.rules_refusals.specs.Contents.{row_of, announced}
use Rattle.rules_chains.specs.Chain.{Root}
use Rattle.rules_chains.specs.Path.{Keys}
use Rattle.rules_chains.proofs.Determined.{key_one}
use Rattle.rules_chains.proofs.OnePath.{path-one, keys-one}
use Rattle.rules_outcome.specs.Roots.{roots_of, entries_of, wrapping_size, announced_as}
use Rattle.rules_outcome.specs.Answer.{conditions}
use Rattle.rules_outcome.specs.Holding.{new_rekey, rekey_copies, held_from, held_by_path, held_before, HoldsPath, HeldNext}
use Rattle.rules_outcome.specs.After.{Enter, no-sa, one_more, sa_from}
use Rattle.rules_outcome.specs.After.{After}
use Rattle.rules_outcome.specs.Outcome.{Judged, refused, accepted, Outcome, no-layout, by-tree}
use Rattle.rules_outcome.proofs.First.{first_one}

-- ---- the member after acceptance
module _ (roots : List Root) (entries : List WrapKey) (size : ℕ) where
  pub enter_one : (now : ℕ) (f : Frame) (l : List GroupSaPolicy) (m n : List Sa) → Enter roots entries size now f l m →
      Enter roots entries size now f l n →
      m ≡ n
  enter_one now f [] _ _ no-sa no-sa = refl
  enter_one now f (a ∷ l) _ _ (one_more {m = m} x k e) (one_more {m = n} y j d) =
      ap₂ (λ (z : List ℕ) (q : List Sa). sa_from now a z ∷ q) (key_one roots entries size (announced_as f a) x y k j)
      (enter_one now f l m n e d)

  -- the path is one, and so are its keys and the key it ends on
  path-held-one : (limits : Limits) (copies : List SaKey) (old h k : Held) → HoldsPath roots entries size limits copies old h →
      HoldsPath roots entries size limits copies old k → h ≡ k
  path-held-one limits copies old h k p q =
      let e = path-one roots entries size copies p.ids q.ids p.end q.end p.path q.path in
      let d = keys-one roots entries size q.ids p.keys q.keys
      (subst (λ (i : List ℕ). Keys roots entries size i p.keys) e.0 p.are) q.are in
      p.is ∙ ap₂ (λ (l : List Root) (i : ℕ). held_by_path limits (map held_from l) i old) d e.1 ∙ sym q.is

  pub held_one : (limits : Limits) (b : Bool) (copies : List SaKey) (old h k : Held) → HeldNext roots entries size limits b copies old h →
      HeldNext roots entries size limits b copies old k → h ≡ k
  held_one limits true copies old h k p q = path-held-one limits copies old h k p q
  held_one limits false copies old h k p q = p ∙ sym q

module _ (limits : Limits) (s : State) (now : ℕ) (lent : List ℕ) where
  module _ (f : Frame) where
    abbrev roots : List Root
    roots = roots_of limits s now lent f

    abbrev size : ℕ
    size = wrapping_size limits s now lent f

    pub after_one : (next after : State) → After limits s now lent f next → After limits s now lent f after → next ≡ after
    after_one next after p q =
        let e = enter_one roots (entries_of f) size now f (announced f) p.new q.new p.enter q.enter in
        let a = p.table in
        let b = q.table in
        let t : next.table ≡ after.table = cc in
        let h : next.held ≡ after.held =
        held_one roots (entries_of f) size limits (new_rekey f) (rekey_copies f) (held_before limits (row_of f).registers s.held)
        next.held after.held p.held q.held in
        let l : next.least ≡ after.least = p.least ∙ sym q.least in
        let o : next.profile ≡ after.profile = p.profile ∙ sym q.profile in
        λ i. record { table = t i; held = h i; least = l i; profile = o i }

    pub judged-one : (n m : ℕ) (next after : State) → Judged limits s now lent f n next → Judged limits s now lent f m after →
        (n ≡ m) × (next ≡ after)
    judged-one _ _ _ _ (refused n p) (refused m q) = (first_one (conditions limits s now lent f) (suc n) (suc m) p q, refl)
    judged-one _ _ _ _ (refused n p) (accepted after q a) =
        let e = first_one (conditions limits s now lent f) (suc n) 0 p q in absurd (omega arith)
    judged-one _ _ _ _ (accepted next p a) (refused m q) =
        let e = first_one (conditions limits s now lent f) 0 (suc m) p q in absurd (omega arith)
    judged-one _ _ _ _ (accepted next p a) (accepted after q b) = (refl, after_one next after a b)

  -- "Every public call's promise determines its answer and the member or lent storage after it, also on refusal, for all inputs": two
  -- outcomes of the same input are equal
  pub outcome-one : (octets : List ℕ) (n m : ℕ) (next after : State) → Outcome limits s now lent octets n next →
      Outcome limits s now lent octets m after → (n ≡ m) × (next ≡ after)
  outcome-one octets _ _ _ _ (no-layout none) (no-layout no_other) = (refl, refl)
  outcome-one octets _ m _ after (no-layout none) (by-tree f d j) = absurd (none f d)
  outcome-one octets n _ next _ (by-tree f d j) (no-layout none) = absurd (none f d)
  outcome-one octets n m next after (by-tree f e j) (by-tree g d k) =
      let t = one-tree s.profile octets f g e d in
      judged-one g n m next after (subst (λ (x : Frame). Judged limits s now lent x n next) t j) k
