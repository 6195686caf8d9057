-- NUMBER 8 IS GIVEN EXACTLY AS THE CUSTOMER'S WORDS SAY (specs/KeyConflictSays.antt). Nothing else is number 8: an entry or a copy that
-- fails the
-- check, or whose KWK ID names no key, "leads nowhere and is no fault".
use Prim.Native.Nat.{ℕ}
use mathlib.Core.Path.{◌≡◌, refl, ap, sym, subst, ◌∙◌}
use mathlib.Core.Logic.{◌↔◌}
use mathlib.Core.List.{List, [], ◌++◌}
use lib.ListN.{length}
use Rattle.state_keys.specs.Limits.{Limits}
use Rattle.wire_attributes.specs.Tree.{WrapKey}
use Rattle.wire_policies.specs.Policy.{GroupSaPolicy}
use Rattle.wire_frames.specs.Frame.{Frame}
use Rattle.wire_frames.specs.Grammar.{IsFrame}
use Rattle.state.specs.declared.State.{State}
use Rattle.rules_refusals.specs.Contents.{announced, wrap_keys_of, fresh_keys_of}
use Rattle.rules_chains.specs.Chain.{In, Root, Reached, CopyOpens}
use Rattle.rules_chains.specs.Refusals.{EntriesConflict, CopiesConflict, of-entries, of-copies}
use Rattle.rules_chains.specs.Refusals as refusals
use Rattle.rules_chains.proofs.Determined.{last_entry}
use Rattle.rules_outcome.specs.Roots.{own_key_of, roots_of, entries_of, wrapping_size, announced_as, announced_keys}
use Rattle.rules_outcome.specs.Answer.{KeyConflictOf}
use Rattle.rules_outcome.specs.NamedKey.{Registration, OpensUnder}
use Rattle.rules_outcome.specs.KeyConflictSays.{KeyConflictSays, key-of-wrong-size, key-of-two-values, fresh-of-wrong-size}
use Rattle.rules_outcome.specs.KeyConflictSays.{fresh-of-two-values, sa-of-wrong-size, sa-of-two-values}
use Rattle.rules_outcome.specs.Meets.{Meets}
use Rattle.rules_outcome.proofs.Rows.{registration-row, lent-size, rekeys, own-size}
use Rattle.rules_outcome.proofs.Meets.{meets-8, conflict-met}
use Rattle.rules_outcome.proofs.Demands.{passes-2-and-4}
use Rattle.rules_outcome.proofs.Members.{not-in-none, in_map, map-in}
use Rattle.rules_outcome.proofs.NamedKey.{Passes, registers, in-band, over-sa, to-under, under_to, to-lent, to-fresh}
use Rattle.rules_outcome.proofs.NamedKey.{given-reached, fresh-reached}

module _ (limits : Limits) (s : State) (now : ℕ) (lent : List ℕ) (f : Frame) where
  abbrev Says : Type 0
  Says = KeyConflictSays limits s now lent f

  abbrev roots : List Root
  roots = roots_of limits s now lent f

  abbrev size : ℕ
  size = wrapping_size limits s now lent f

  -- of what the layout and numbers 2 and 4 let pass
  size-lent : Registration f → size ≡ length lent
  size-lent g = lent-size limits s now f (registration-row f g) lent

  size-own : f.header.exchange ≡ 41 → size ≡ length (own_key_of limits s now)
  size-own x = own-size limits s now f (rekeys f.header.exchange x) lent

  -- an in-band rekey reaches nothing
  none-in-band : wrap_keys_of f ≡ [] → fresh_keys_of f ≡ [] → (k : ℕ) (x : List ℕ) → Reached roots (entries_of f) size k x → ⊥
  none-in-band none bare k x r =
      not-in-none r.last
      (subst (In r.last) (ap (λ (l : List WrapKey). l ++ fresh_keys_of f) none ∙ bare) (last_entry roots (entries_of f) size k x r).0)

  of-wrong-size : Passes limits s now lent f → (k : ℕ) (x : List ℕ) → Reached roots (entries_of f) size k x → (length x ≡ size → ⊥) → Says
  of-wrong-size (registers g none) k x r d =
      key-of-wrong-size g k x (to-lent limits s now lent f g none k x r) (λ e. d (e ∙ sym (size-lent g)))
  of-wrong-size (in-band y none bare) k x r d = absurd (none-in-band none bare k x r)
  of-wrong-size (over-sa y none) k x r d =
      fresh-of-wrong-size y k x (to-fresh limits s now lent f y none k x r) (λ e. d (e ∙ sym (size-own y)))

  of-two-values : Passes limits s now lent f → (k : ℕ) (x y : List ℕ) → Reached roots (entries_of f) size k x →
      Reached roots (entries_of f) size k y → (x ≡ y → ⊥) → Says
  of-two-values (registers g none) k x y r q d =
      key-of-two-values g k x y (to-lent limits s now lent f g none k x r) (to-lent limits s now lent f g none k y q) d
  of-two-values (in-band z none bare) k x y r q d = absurd (none-in-band none bare k x r)
  of-two-values (over-sa z none) k x y r q d =
      fresh-of-two-values z k x y (to-fresh limits s now lent f z none k x r) (to-fresh limits s now lent f z none k y q) d

  module _ (fit : Passes limits s now lent f) where
    of-entries-says : EntriesConflict roots (entries_of f) size → Says
    of-entries-says (refusals.wrong_size k x r d) = of-wrong-size fit k x r d
    of-entries-says (refusals.two-values k x y r q d) = of-two-values fit k x y r q d

    opens : (a : GroupSaPolicy) (x : List ℕ) → CopyOpens roots (entries_of f) size (announced_as f a).copies x →
        OpensUnder limits s now lent f a x
    opens a x o = to-under limits s now lent f fit a x o

    of-copies-says : (a : GroupSaPolicy) → In a (announced f) → CopiesConflict roots (entries_of f) size (announced_as f a) → Says
    of-copies-says a m (refusals.wrong_size x o d) = sa-of-wrong-size a m x (opens a x o) d
    of-copies-says a m (refusals.two-values x y o p d) = sa-of-two-values a m x y (opens a x o) (opens a y p) d

    key-conflict-says : KeyConflictOf limits s now lent f → Says
    unfolding announced_keys
    key-conflict-says (of-entries h) = of-entries-says h
    key-conflict-says (of-copies b m h) =
        let r = in_map (announced_as f) b (announced f) m in
        of-copies-says r.item r.stands (subst (CopiesConflict roots (entries_of f) size) r.is h)

    conflict-of-copies : (a : GroupSaPolicy) → In a (announced f) → CopiesConflict roots (entries_of f) size (announced_as f a) →
        KeyConflictOf limits s now lent f
    unfolding announced_keys
    conflict-of-copies a m h = of-copies (announced_as f a) (map-in (announced_as f) (announced_as f a) (announced f) a m refl) h

    under : (a : GroupSaPolicy) (x : List ℕ) → OpensUnder limits s now lent f a x →
        CopyOpens roots (entries_of f) size (announced_as f a).copies x
    under a x o = under_to limits s now lent f fit a x o

    says-key-conflict : Says → KeyConflictOf limits s now lent f
    says-key-conflict (key-of-wrong-size g k x r d) =
        of-entries (refusals.wrong_size k x (given-reached limits s now lent f fit fit g k x r) (λ e. d (e ∙ size-lent g)))
    says-key-conflict (key-of-two-values g k x y r q d) =
        of-entries
        (refusals.two-values k x y (given-reached limits s now lent f fit fit g k x r)
        (given-reached limits s now lent f fit fit g k y q) d)
    says-key-conflict (fresh-of-wrong-size g k x r d) =
        of-entries (refusals.wrong_size k x (fresh-reached limits s now lent f fit fit g k x r) (λ e. d (e ∙ size-own g)))
    says-key-conflict (fresh-of-two-values g k x y r q d) =
        of-entries
        (refusals.two-values k x y (fresh-reached limits s now lent f fit fit g k x r)
        (fresh-reached limits s now lent f fit fit g k y q) d)
    says-key-conflict (sa-of-wrong-size a m x o d) = conflict-of-copies a m (refusals.wrong_size x (under a x o) d)
    says-key-conflict (sa-of-two-values a m x y o p d) = conflict-of-copies a m (refusals.two-values x y (under a x o) (under a y p) d)

  -- THE CLAIM, of a frame that numbers 2 and 4 let pass ("each is judged only when the lower ones don't apply")
  pub key-conflict-exactly : (octets : List ℕ) → IsFrame s.profile octets f → (Meets limits s now lent octets 2 → ⊥) →
      (Meets limits s now lent octets 4 → ⊥) → Meets limits s now lent octets 8 ↔ KeyConflictSays limits s now lent f
  key-conflict-exactly octets e no-2 no-4 =
      let fit = passes-2-and-4 limits s now lent octets f e no-2 no-4 in (
        λ m. key-conflict-says fit (conflict-met limits s now lent octets f e m),
        λ h. meets-8 limits s now lent octets f e (says-key-conflict fit h),
      )
