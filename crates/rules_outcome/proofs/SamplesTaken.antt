-- The registration without a Rekey SA in which samples' entries stand is taken, with an empty held list; or it is 8.
use native.Mathlib.Omega.{arith}
use Prim.Native.Nat.{ℕ, ◌≤◌}
use mathlib.Core.Path.{◌≡◌, refl, ap, sym, subst, ◌∙◌}
use mathlib.Core.Bool.{false}
use mathlib.Core.List.{List, [], ◌∷◌, ◌++◌, append-nil, flat_map}
use borrow.Author.Tests.{eq-eqb}
use lib.Dec.{eqb}
use lib.ListN.{length}
use Rattle.octets.proofs.Order.{eq-same}
use Rattle.fips197.specs.Key.{Key}
use Rattle.rfc5649.specs.Wrap.{wrap_of}
use Rattle.state_keys.specs.Limits.{limits}
use Rattle.lists.specs.Lists.{any, keep, insert}
use Rattle.state_keys.specs.Algorithms.{is_row_of, needed_in, needed_by}
use Rattle.lists.proofs.Cases.{never}
use Rattle.wire_attributes.specs.Tree.{WrapKey}
use Rattle.wire_frames.specs.Frame.{Frame}
use Rattle.wire_frames.specs.Grammar.{IsFrame}
use Rattle.wire_frames.specs.declared.exchanges.Exchange.{Exchange}
use Rattle.state_table.specs.Table.{table_of}
use Rattle.state.specs.Held.{held_of}
use Rattle.state.specs.State.{new_state}
use Rattle.rules_refusals.specs.Number6.{under_itself}
use Rattle.rules_refusals.specs.Fitness.{sum, encryption_octets, key_wrap_octets}
use Rattle.rules_chains.specs.Chain.{In, Root}
use Rattle.rules_chains.specs.Refusals.{Announced, EntriesConflict, KeyConflict, of-entries, KeyMissing, KeyOf}
use Rattle.rules_outcome.specs.Answer.{KeyConflictOf, KeyMissingOf}
use Rattle.rules_outcome.specs.Roots.{key_zero_value, roots_of, entries_of, wrapping_size, copies_of, need_of, announced_as, announced_keys}
use Rattle.rules_outcome.specs.After.{lifetime_from, sa_from, old_sas, insert_all, one_more}
use Rattle.rules_outcome.specs.Holding.{new_rekey, rekey_copies, held_before, HeldAfterwards, OverHeld, OverHeldOf}
use Rattle.rules_outcome.specs.After.{no-sa, least_afterwards, After}
use Rattle.rules_outcome.specs.Outcome.{Outcome}
use Rattle.rules_outcome.specs.SampleFrames.{Around, esp_policy, registering, registered, Keying}
use Rattle.rules_chains.proofs.Members.{in-member}
use Rattle.rules_outcome.proofs.RunsLists.{none_passes}
use Rattle.rules_outcome.proofs.RunsClear.{Clear}
use Rattle.rules_outcome.proofs.Room.{room-in-registration}
use Rattle.rules_outcome.proofs.SamplesAnswers.{outcome-0, outcome-8}
use Rattle.rules_outcome.proofs.SamplesFrame.{row_of, fresh-2, fresh-3, fresh-4, fresh-5, fresh-6, fresh-7}
use Rattle.rules_outcome.proofs.SamplesChains.{key-size, zero_root, one_copy, copy-opens, no-conflict, no-missing, at_zero, ends-zero}

-- ---- what chains go by in that frame
module _ (r : Around) (now : ℕ) (lent w : List ℕ) (l : List WrapKey) where
  abbrev f : Frame
  f = registering r w l

  roots-are : roots_of limits (new_state limits r.profile) now lent f ≡ zero_root lent ∷ []
  unfolding roots_of key_zero_value
  roots-are = rw (row_of r.auth)

  entries-are : entries_of f ≡ l
  unfolding flat_map
  entries-are = append-nil (l ++ []) ∙ append-nil l

  size_is : wrapping_size limits (new_state limits r.profile) now lent f ≡ length lent
  unfolding wrapping_size key_zero_value
  size_is = rw (row_of r.auth)

  sa-is : announced_as f (esp_policy r) ≡ one_copy 0 20 w
  unfolding flat_map copies_of keep need_of encryption_octets key_wrap_octets sum needed_by needed_in is_row_of
  sa-is = rw (eq-same r.spi r.spi refl)

  keys-are : announced_keys f ≡ one_copy 0 20 w ∷ []
  unfolding announced_keys flat_map
  keys-are = ap (λ (a : Announced). a ∷ []) sa-is

module _ (r : Around) (now : ℕ) (lent x octets : List ℕ) (l : List WrapKey) (key : Key lent) (keying : Keying x)
    (reads : IsFrame r.profile octets (registering r (wrap_of lent x) l))
    (no_zero : any (λ (k : WrapKey). eqb k.key_id 0) l ≡ false) (no_self : any under_itself l ≡ false)
    (few : length l ≤ limits.wrap_keys) where
  abbrev w : List ℕ
  w = wrap_of lent x

  abbrev g : Frame
  g = registering r w l

  abbrev R : List Root
  R = zero_root lent ∷ []

  not-zero : (e : WrapKey) → In e l → e.key_id ≡ 0 → ⊥
  not-zero e m i =
      never (eqb e.key_id 0) (eq-eqb e.key_id 0 i)
      (none_passes (λ (k : WrapKey). eqb k.key_id 0) l no_zero e (in-member e l m))

  conflict-is : KeyConflictOf limits (new_state limits r.profile) now lent g ≡ KeyConflict R l (length lent) (one_copy 0 20 w ∷ [])
  conflict-is = λ i. KeyConflict (roots-are r now lent w l i) (entries-are r now lent w l i) (size_is r now lent w l i)
      (keys-are r now lent w l i)

  missing-is : KeyMissingOf limits (new_state limits r.profile) now lent g ≡ KeyMissing R l (length lent) (one_copy 0 20 w ∷ [])
  missing-is = λ i. KeyMissing (roots-are r now lent w l i) (entries-are r now lent w l i) (size_is r now lent w l i)
      (keys-are r now lent w l i)

  key-is : KeyOf R l (length lent) (one_copy 0 20 w) x ≡ KeyOf (roots_of limits (new_state limits r.profile) now lent g) (entries_of g)
      (wrapping_size limits (new_state limits r.profile) now lent g) (announced_as g (esp_policy r)) x
  key-is = sym (λ i.
      KeyOf (roots-are r now lent w l i) (entries-are r now lent w l i) (size_is r now lent w l i) (sa-is r now lent w l i) x)

  -- "the member's list starts empty": at most as many keys as entries are held
  never-over : (EntriesConflict R l (length lent) → ⊥) → OverHeldOf limits (new_state limits r.profile) now lent g → ⊥
  never-over none o =
      room-in-registration R l (length lent) limits (rekey_copies g) (new_rekey g) none few
      (subst (λ (A : Type 0). A)
      (λ i.
      OverHeld (roots-are r now lent w l i) (entries-are r now lent w l i) (size_is r now lent w l i) limits (new_rekey g) (rekey_copies g)
      (held_before limits (row_of r.auth i).registers (new_state limits r.profile).held))
      o)

  pub registers-8 : EntriesConflict R l (length lent) →
      Outcome limits (new_state limits r.profile) now lent octets 8 (new_state limits r.profile)
  unfolding new_state
  registers-8 h =
      outcome-8 limits (new_state limits r.profile) now lent octets g reads (fresh-2 r now w l) (fresh-3 r now w l) (fresh-4 r now w l)
      (fresh-5 r now w l lent (key-size (length lent) key.size)) (fresh-6 r now w l no_zero no_self) (fresh-7 r now w l few)
      (subst (λ (A : Type 0). A) (sym conflict-is) (of-entries h))

  module _ (none : EntriesConflict R l (length lent) → ⊥) where
    clear-registers : Clear limits (new_state limits r.profile) now lent g
    clear-registers = record {
      no-2 = fresh-2 r now w l;
      no-3 = fresh-3 r now w l;
      no-4 = fresh-4 r now w l;
      no-5 = fresh-5 r now w l lent (key-size (length lent) key.size);
      no-6 = fresh-6 r now w l no_zero no_self;
      no-7 = fresh-7 r now w l few;
      no-8 = λ h.
          no-conflict R l (length lent) 0 20 lent x key keying.octets keying.size (omega arith) (omega arith)
          (ends-zero lent l not-zero)
          (at_zero lent l not-zero) none (subst (λ (A : Type 0). A) conflict-is h);
      no_9 = λ h.
          no-missing R l (length lent) 0 20 lent x key keying.octets keying.size (omega arith) (omega arith)
          (ends-zero lent l not-zero)
          (at_zero lent l not-zero) (subst (λ (A : Type 0). A) missing-is h);
      no-over = never-over none;
    }

    -- no Rekey SA: the list that the frame finds
    held-set : HeldAfterwards limits (new_state limits r.profile) now lent g (held_of limits [])
    unfolding any flat_map
    held-set = subst (λ (e : Exchange). held_of limits [] ≡ held_before limits e.registers (new_state limits r.profile).held)
        (sym (row_of r.auth)) refl

    after-registers : After limits (new_state limits r.profile) now lent g (registered r x)
    unfolding flat_map new_state table_of keep old_sas insert_all insert sa_from lifetime_from least_afterwards any
    after-registers = record {
      new = sa_from now (esp_policy r) x ∷ [];
      enter =
          one_more x
          (subst (λ (A : Type 0). A) key-is
          (copy-opens R l (length lent) 0 20 lent x key keying.octets keying.size (omega arith) (omega arith)
          (ends-zero lent l not-zero) (at_zero lent l not-zero))) no-sa;
      table = refl;
      held = held-set;
      least = rw (row_of r.auth);
      profile = refl;
    }

    pub registers-0 : Outcome limits (new_state limits r.profile) now lent octets 0 (registered r x)
    unfolding new_state
    registers-0 = outcome-0 limits (new_state limits r.profile) now lent octets g reads clear-registers (registered r x) after-registers
