-- NO INPUT IS WITHOUT AN OUTCOME. Which one it is takes the search of the code; here it is shown that there cannot be none: the conditions
-- have a first that holds or none holds, and in the second case there is a member afterwards.
use Prim.Native.Nat.{ℕ, zero, suc}
use mathlib.Core.Path.{◌≡◌, refl}
use mathlib.Core.Bool.{Bool, true, false}
use mathlib.Core.Logic.{inl, inr}
use mathlib.Core.List.{List, [], ◌∷◌, map}
use Rattle.state_keys.specs.Limits.{Limits}
use Rattle.wire_attributes.specs.Tree.{SaKey, WrapKey}
use Rattle.wire_policies.specs.Policy.{GroupSaPolicy}
use Rattle.wire_frames.specs.Frame.{Frame}
use Rattle.wire_frames.specs.Grammar.{IsFrame}
use Rattle.state_sa.specs.declared.entry.Sa.{Sa}
use Rattle.state_table.specs.Table.{table_of}
use Rattle.state.specs.declared.State.{State}
use Rattle.state.specs.declared.held.Held.{Held}
use Rattle.rules_refusals.specs.Contents.{row_of, announced}
use Rattle.rules_chains.specs.Chain.{In, Root}
use Rattle.rules_chains.specs.Refusals.{EntriesConflict, of-entries, of-copies}
use Rattle.rules_chains.specs.Path.{Opener}
use Rattle.rules_chains.proofs.Determined.{copies-one}
use Rattle.rules_chains.proofs.WorkingPath.{keys-exist}
use Rattle.rules_outcome.specs.Roots.{roots_of, entries_of, wrapping_size, announced_as, announced_keys}
use Rattle.rules_outcome.specs.Answer.{RefusalCase, First, conditions, FrameAnswers}
use Rattle.rules_outcome.specs.Holding.{new_rekey, rekey_copies, held_from, held_by_path, held_before, HoldsPath, HeldNext}
use Rattle.rules_outcome.specs.After.{Enter, no-sa, one_more, sa_from, insert_all, old_sas}
use Rattle.rules_outcome.specs.After.{least_afterwards, After}
use Rattle.rules_outcome.specs.Outcome.{refused, accepted, Outcome, no-layout, by-tree}
use Rattle.rules_outcome.proofs.Members.{in_head, in_tail, map-in}
use Rattle.rules_outcome.proofs.HeldList.{rekey-opener}
use Rattle.rules_outcome.proofs.PathSome.{path-some}
use Rattle.rules_outcome.proofs.Readings.{tree_of}
use Rattle.rules_outcome.proofs.Answering.{accepts}
use Rattle.rules_outcome.proofs.Accepting.{HasCopy, policy-missing}

-- a list of conditions has a first that holds, or none holds
first_some : (l : List RefusalCase) → ((n : ℕ) → First l n → ⊥) → ⊥
first_some [] none = none 0 refl
first_some (c ∷ l) none = first_some l (λ n p. none n (inr (λ h. none c.number (inl (h, refl)), p)))

-- ---- the held list
path-held : (limits : Limits) (roots : List Root) (entries : List WrapKey) (size : ℕ) (copies : List SaKey) (old : Held) →
    (EntriesConflict roots entries size → ⊥) → (q : List WrapKey) → Opener roots entries size copies q →
    ((h : Held) → HoldsPath roots entries size limits copies old h → ⊥) → ⊥
path-held limits roots entries size copies old none q o without =
    path-some roots entries size copies q o (λ ids end p.
    let k = keys-exist roots entries size none copies ids end p in
    without (held_by_path limits (map held_from k.keys) end old)
    (record { ids = ids; end = end; path = p; keys = k.keys; are = k.are; is = refl }))

-- ---- the member after a frame that no condition refuses
module _ (limits : Limits) (s : State) (now : ℕ) (lent : List ℕ) (f : Frame) (p : FrameAnswers limits s now lent f 0) where
  abbrev roots : List Root
  roots = roots_of limits s now lent f

  abbrev size : ℕ
  size = wrapping_size limits s now lent f

  opens-some : (a : GroupSaPolicy) → In a (announced f) → (HasCopy limits s now lent f a → ⊥) → ⊥
  opens-some a m none = (accepts limits s now lent f p).no-missing (policy-missing limits s now lent f a m none)

  enter-some : (l : List GroupSaPolicy) → ((a : GroupSaPolicy) → In a l → In a (announced f)) →
      ((m : List Sa) → Enter roots (entries_of f) size now f l m → ⊥) → ⊥
  unfolding announced_keys
  enter-some [] sub none = none [] no-sa
  enter-some (a ∷ l) sub none =
      let i = sub a (in_head a a l refl) in
      let b = announced_as f a in
      enter-some l (λ c m. sub c (in_tail c a l m)) (λ m e.
      opens-some a i (λ h.
      let one = copies-one roots (entries_of f) size b (λ c.
      (accepts limits s now lent f p).no-conflict (of-copies b (map-in (announced_as f) b (announced f) a i refl) c)) in
      none (sa_from now a h.0 ∷ m) (one_more h.0 (record { opens = h.1; every = λ y o. one y h.0 o h.1 }) e)))

  abbrev old : Held
  old = held_before limits (row_of f).registers s.held

  held-some : (new : List Sa) → Enter roots (entries_of f) size now f (announced f) new → (b : Bool) → new_rekey f ≡ b →
      ((h : Held) → HeldNext roots (entries_of f) size limits b (rekey_copies f) old h → ⊥) → ⊥
  held-some new e true g without =
      let o = rekey-opener f roots (entries_of f) size now new e g in
      path-held limits roots (entries_of f) size (rekey_copies f) old (λ c. (accepts limits s now lent f p).no-conflict (of-entries c)) o.0
      o.1 without
  held-some new e false g without = without old refl

  after-some : ((next : State) → After limits s now lent f next → ⊥) → ⊥
  after-some none =
      enter-some (announced f) (λ a m. m) (λ new e.
      held-some new e (new_rekey f) refl (λ h k.
      none (record { table = table_of limits (insert_all new (old_sas s now f)); held = h; least = least_afterwards s f; profile = s.profile })
      (record { new = new; enter = e; table = refl; held = k; least = refl; profile = refl })))

-- ---- THE THEOREM
module _ (limits : Limits) (s : State) (now : ℕ) (lent octets : List ℕ)
    (none : (n : ℕ) (next : State) → Outcome limits s now lent octets n next → ⊥) where
  by_number : (f : Frame) → IsFrame s.profile octets f → (n : ℕ) → First (conditions limits s now lent f) n → ⊥
  by_number f e zero p = after-some limits s now lent f p (λ next a. none 0 next (by-tree f e (accepted next p a)))
  by_number f e (suc n) p = none (suc n) s (by-tree f e (refused n p))

  pub each-answered : ⊥
  each-answered =
      let t = tree_of s.profile octets (λ no. none 1 s (no-layout no)) in
      first_some (conditions limits s now lent t.0) (by_number t.0 t.1)
