-- WHATEVER IS HANDED TO A MEMBER, from the new one on, it stays as it must be and blank in every unused place.
use native.Mathlib.Omega.{arith}
use Prim.Native.Nat.{ℕ, ◌≤◌}
use mathlib.Core.Path.{◌≡◌, refl, ap, sym, ◌∙◌, subst}
use mathlib.Core.Bool.{Bool, true, false}
use mathlib.Core.List.{List, [], ◌∷◌, ◌++◌}
use lib.Dec.{eqb}
use Rattle.state_keys.specs.Limits.{Limits, limits}
use Rattle.lists.specs.Lists.{any}
use Rattle.lists.proofs.Cases.{bool_cases, lt-cases, and_parts, and-whole, or-none}
use Rattle.wire_attributes.specs.Tree.{WrapKey}
use Rattle.wire_frames.specs.Frame.{Frame}
use Rattle.wire_frames.specs.Grammar.{IsFrame}
use Rattle.state_table.specs.Table.{table_formed}
use Rattle.state_table.specs.Blank.{TableBlank}
use Rattle.state_table.proofs.Kept.{table-formed}
use Rattle.state.specs.declared.State.{State}
use Rattle.state.specs.declared.held.Held.{Held}
use Rattle.state.specs.Held.{held_of, held_formed}
use Rattle.state.specs.State.{state_formed, new_state, swept_state}
use Rattle.state.specs.Blank.{AllKeysBlank, no_key, StateBlank}
use Rattle.state.proofs.Kept.{keys-of-held, no-key-formed, new-state-formed, new-state-blank, swept-state-formed, swept-state-blank}
use Rattle.rules_refusals.specs.Contents.{row_of, wrap_keys_of, fresh_keys_of}
use Rattle.rules_refusals.specs.Number6.{wrap_key_id, fresh_key_id, number6_of_frame}
use Rattle.rules_refusals.proofs.Clear.{no-clause}
use Rattle.rules_chains.specs.Chain.{Root}
use Rattle.rules_chains.specs.Refusals.{of-entries}
use Rattle.rules_outcome.specs.Roots.{roots_of, entries_of, wrapping_size}
use Rattle.rules_outcome.specs.Holding.{new_rekey, rekey_copies, held_before}
use Rattle.rules_outcome.specs.After.{After, insert_all, old_sas}
use Rattle.rules_outcome.specs.Outcome.{Judged, refused, accepted, Outcome, no-layout, by-tree}
use Rattle.rules_outcome.specs.Run.{Event, Takes, answered, swept, left, Run, ends, goes, Throughout}
use Rattle.rules_outcome.proofs.KeySizes.{size_fits}
use Rattle.rules_outcome.proofs.RunsClear.{Clear, clear}
use Rattle.rules_outcome.proofs.RunsAccepted.{clear-formed, table-fit, table-blank}
use Rattle.rules_outcome.proofs.RunsHeld.{HeldBlank, next-formed, next-blank}

none-of-both : {A : Type 0} (q : A → Bool) (l m : List A) → any q l ≡ false → any q m ≡ false → any q (l ++ m) ≡ false
unfolding any
none-of-both q [] m e g = g
none-of-both q (a ∷ l) m e g =
    let p = or-none (q a) (any q l) e in rw (p.0, none-of-both q l m p.1 g) refl

none-blank : (limits : Limits) → HeldBlank limits (held_of limits [])
none-blank limits =
    let e = keys-of-held limits [] in
    record { places = ap (held_of limits) (sym e); values = subst AllKeysBlank (sym e) no_key }

module _ (limits : Limits) where
  module _ (s : State) (now : ℕ) (lent : List ℕ) (f : Frame) (c : Clear limits s now lent f) where
    -- number 6 leaves no entry with Key ID 0
    no_zero : any (λ (k : WrapKey). eqb k.key_id 0) (entries_of f) ≡ false
    unfolding number6_of_frame wrap_key_id fresh_key_id
    no_zero =
        none-of-both (λ (k : WrapKey). eqb k.key_id 0) (wrap_keys_of f) (fresh_keys_of f)
        (no-clause (number6_of_frame f) 7 c.no-6.of_frame) (no-clause (number6_of_frame f) 9 c.no-6.of_frame)

    was-held : held_formed limits s.held ≡ true
    unfolding state_formed
    was-held = (and_parts (table_formed limits s.table) (held_formed limits s.held) (clear-formed limits s now lent f c)).1

    -- the list that a frame finds
    found-formed : (b : Bool) → held_formed limits (held_before limits b s.held) ≡ true
    found-formed true = no-key-formed limits
    found-formed false = was-held

    found-blank : (b : Bool) → HeldBlank limits s.held → HeldBlank limits (held_before limits b s.held)
    found-blank true was = none-blank limits
    found-blank false was = was

    module _ (next : State) (a : After limits s now lent f next) where
      abbrev roots : List Root
      roots = roots_of limits s now lent f

      abbrev size : ℕ
      size = wrapping_size limits s now lent f

      abbrev old : Held
      old = held_before limits (row_of f).registers s.held

      -- "Over 128 then is 7": what is accepted is not over
      room : next.held.count ≤ limits.held_keys
      room =
          lt-cases limits.held_keys next.held.count
          (λ g. absurd (c.no-over (record { list = next.held; leaves = a.held; over = omega (arith, g) }))) (λ g. g)

      next-held : held_formed limits next.held ≡ true
      next-held =
          next-formed limits roots (entries_of f) size (rekey_copies f) old next.held (size_fits limits s now lent f c)
          (λ x. c.no-8 (of-entries x)) no_zero (found-formed (row_of f).registers) (new_rekey f) a.held room

      held-blank : HeldBlank limits s.held → HeldBlank limits next.held
      held-blank was =
          next-blank limits roots (entries_of f) size (rekey_copies f) old next.held (found-blank (row_of f).registers was) (new_rekey f)
          a.held

      module _ (octets : List ℕ) (e : IsFrame s.profile octets f) where
        pub accepted-formed : state_formed limits next ≡ true
        unfolding state_formed
        accepted-formed =
            and-whole (table_formed limits next.table) (held_formed limits next.held)
            (ap (table_formed limits) a.table
            ∙ table-formed limits (insert_all a.new (old_sas s now f)) (table-fit limits s now lent f c octets e a.new a.enter))
            next-held

        pub accepted-blank : StateBlank limits s → StateBlank limits next
        accepted-blank b =
            let h = held-blank (record { places = b.held; values = b.values }) in
            record {
              table = subst (TableBlank limits) (sym a.table)
                  (table-blank limits s now lent f c octets e a.new a.enter b.table);
              held = h.places;
              values = h.values;
            }

  -- ---- each kind of step
  judged-formed : (s : State) (now : ℕ) (lent octets : List ℕ) (f : Frame) (n : ℕ) (next : State) → IsFrame s.profile octets f →
      Judged limits s now lent f n next → state_formed limits s ≡ true → state_formed limits next ≡ true
  judged-formed s now lent octets f _ _ e (refused n a) w = w
  judged-formed s now lent octets f _ _ e (accepted next a r) w =
      accepted-formed s now lent f (clear limits s now lent f a) next r octets e

  judged-blank : (s : State) (now : ℕ) (lent octets : List ℕ) (f : Frame) (n : ℕ) (next : State) → IsFrame s.profile octets f →
      Judged limits s now lent f n next → StateBlank limits s → StateBlank limits next
  judged-blank s now lent octets f _ _ e (refused n a) w = w
  judged-blank s now lent octets f _ _ e (accepted next a r) w =
      accepted-blank s now lent f (clear limits s now lent f a) next r octets e w

  pub outcome-formed : (s : State) (now : ℕ) (lent octets : List ℕ) (n : ℕ) (next : State) → Outcome limits s now lent octets n next →
      state_formed limits s ≡ true → state_formed limits next ≡ true
  outcome-formed s now lent octets _ _ (no-layout none) w = w
  outcome-formed s now lent octets _ _ (by-tree f {n} {next} e j) w = judged-formed s now lent octets f n next e j w

  pub outcome-blank : (s : State) (now : ℕ) (lent octets : List ℕ) (n : ℕ) (next : State) → Outcome limits s now lent octets n next →
      StateBlank limits s → StateBlank limits next
  outcome-blank s now lent octets _ _ (no-layout none) w = w
  outcome-blank s now lent octets _ _ (by-tree f {n} {next} e j) w = judged-blank s now lent octets f n next e j w

  takes-formed : (s : State) (x : Event) (e : State) → Takes limits s x e → state_formed limits s ≡ true → state_formed limits e ≡ true
  takes-formed s _ _ (answered octets lent now n {next} o) w = outcome-formed s now lent octets n next o w
  takes-formed s _ _ (swept now) w = swept-state-formed limits now s w
  takes-formed s _ _ left w = new-state-formed limits s.profile

  takes-blank : (s : State) (x : Event) (e : State) → Takes limits s x e → StateBlank limits s → StateBlank limits e
  takes-blank s _ _ (answered octets lent now n {next} o) w = outcome-blank s now lent octets n next o w
  takes-blank s _ _ (swept now) w = swept-state-blank limits now s w
  takes-blank s _ _ left w = new-state-blank limits s.profile

  -- ---- any run
  pub run-formed : {s e : State} {l : List Event} (r : Run limits s l e) → state_formed limits s ≡ true →
      Throughout limits (λ (m : State). state_formed limits m ≡ true) r
  run-formed (ends s) w = w
  run-formed (goes s {m} {e} {x} t r) w = (w, run-formed r (takes-formed s x m t w))

  pub run-blank : {s e : State} {l : List Event} (r : Run limits s l e) → StateBlank limits s → Throughout limits (StateBlank limits) r
  run-blank (ends s) w = w
  run-blank (goes s {m} {e} {x} t r) w = (w, run-blank r (takes-blank s x m t w))

  pub new-run-formed : (profile : Bool) {e : State} {l : List Event} (r : Run limits (new_state limits profile) l e) →
      Throughout limits (λ (m : State). state_formed limits m ≡ true) r
  new-run-formed profile r = run-formed r (new-state-formed limits profile)

  pub new-run-blank : (profile : Bool) {e : State} {l : List Event} (r : Run limits (new_state limits profile) l e) →
      Throughout limits (StateBlank limits) r
  new-run-blank profile r = run-blank r (new-state-blank limits profile)

  -- ---- the profile is "switched on for a member at creation": no step changes it
  judged-profile : (s : State) (now : ℕ) (lent : List ℕ) (f : Frame) (n : ℕ) (next : State) → Judged limits s now lent f n next →
      next.profile ≡ s.profile
  judged-profile s now lent f _ _ (refused n a) = refl
  judged-profile s now lent f _ _ (accepted next a r) = r.profile

  pub outcome-profile : (s : State) (now : ℕ) (lent octets : List ℕ) (n : ℕ) (next : State) → Outcome limits s now lent octets n next →
      next.profile ≡ s.profile
  outcome-profile s now lent octets _ _ (no-layout none) = refl
  outcome-profile s now lent octets _ _ (by-tree f {n} {next} e j) = judged-profile s now lent f n next j

  takes-profile : (s : State) (x : Event) (e : State) → Takes limits s x e → e.profile ≡ s.profile
  unfolding new_state swept_state
  takes-profile s _ _ (answered octets lent now n {next} o) = outcome-profile s now lent octets n next o
  takes-profile s _ _ (swept now) = bool_cases (state_formed limits s) (λ g. rw g refl) (λ g. rw g refl)
  takes-profile s _ _ left = refl

  pub run-profile : (profile : Bool) {s e : State} {l : List Event} (r : Run limits s l e) → s.profile ≡ profile →
      Throughout limits (λ (m : State). m.profile ≡ profile) r
  run-profile profile (ends s) w = w
  run-profile profile (goes s {m} {e} {x} t r) w = (w, run-profile profile r (takes-profile s x m t ∙ w))

-- what follows from P holds in each member of a run in which P does
pub each_of : (limits : Limits) (P Q : State → Type 0) → ((m : State) → P m → Q m) → {s e : State} {l : List Event} (r : Run limits s l e) →
    Throughout limits P r → Throughout limits Q r
each_of limits P Q f (ends s) t = f s t
each_of limits P Q f (goes s t r) u = (f s u.0, each_of limits P Q f r u.1)

-- the same with the limits of the code
pub members-formed : (profile : Bool) {e : State} {l : List Event} (r : Run limits (new_state limits profile) l e) →
    Throughout limits (λ (m : State). state_formed limits m ≡ true) r
members-formed profile r = new-run-formed limits profile r

pub members-blank : (profile : Bool) {e : State} {l : List Event} (r : Run limits (new_state limits profile) l e) →
    Throughout limits (StateBlank limits) r
members-blank profile r = new-run-blank limits profile r

-- "Leaving keeps the profile", and so does every other step
pub members-profile : (profile : Bool) {e : State} {l : List Event} (r : Run limits (new_state limits profile) l e) →
    Throughout limits (λ (m : State). m.profile ≡ profile) r
unfolding new_state
members-profile profile r = run-profile limits profile r refl
