-- The registration with a Rekey SA in which samples' entries stand: numbers 4 to 7, that it is taken with the path to the key that its
-- SA_KEY names, or that it is 9.
use native.Mathlib.Omega.{arith}
use Prim.Native.Nat.{ℕ, ◌≤◌}
use mathlib.Core.Path.{◌≡◌, refl, ap, sym, subst, ◌∙◌}
use mathlib.Core.Bool.{true, false}
use mathlib.Core.List.{List, [], ◌∷◌, ◌++◌, append-nil, flat_map}
use borrow.Author.Tests.{le-ltb}
use lib.Dec.{eqb}
use lib.ListN.{length}
use Rattle.octets.proofs.Order.{eq-same}
use Rattle.rfc5649.specs.Wrap.{wrap_of}
use Rattle.state_keys.specs.Limits.{limits}
use Rattle.lists.specs.Lists.{all, any, count, keep, insert}
use Rattle.state_keys.specs.Algorithms.{is_row_of, needed_in, needed_by, is_wrapping_size}
use Rattle.wire_attributes.specs.Tree.{WrapKey, SaKey}
use Rattle.wire_frames.specs.Frame.{Frame}
use Rattle.state_table.specs.Table.{table_of}
use Rattle.state.specs.declared.State.{State}
use Rattle.state.specs.declared.held.HeldKey.{HeldKey}
use Rattle.state.specs.Held.{held_of}
use Rattle.state.specs.State.{new_state}
use Rattle.rules_refusals.specs.Fitness.{encryption_fits, key_wrap_fits, authentication_fits, one_group_address, exact_transforms, transforms_fit}
use Rattle.rules_refusals.specs.Fitness.{sum, encryption_octets, key_wrap_octets}
use Rattle.rules_refusals.specs.Number4.{critical_unknown, barred_member_bag, barred_delete, two_gsa, two_kd, gsa_without_kd, kd_without_gsa, neither}
use Rattle.rules_refusals.specs.Number4.{several_rekey_policies, several_group_wide, several_member_bags, gsa_without_sa_policy, key_length_twice}
use Rattle.rules_refusals.specs.Number4.{initial_message_id_twice, delay_twice, other_destination, lifetime_twice, number4_of_frame}
use Rattle.rules_refusals.specs.Number5.{ah_policy, ah_bag, other_transforms, delete_of_other, delete_of_none, lent_key_size, number5_of_frame}
use Rattle.rules_refusals.specs.Number6.{policy_unpaired, bag_unpaired, policy_twice, bag_twice, already_in_table, other_sa_key_count, sa_key_count}
use Rattle.rules_refusals.specs.Number6.{sa_key_id, esp_kwk_id, wrap_key_id, under_itself, wraps_itself, fresh_key_id, fresh_wraps_itself}
use Rattle.rules_refusals.specs.Number6.{number6_of_frame, number6_of_member}
use Rattle.rules_refusals.specs.Number7.{many_esp_policies, many_wrap_keys, many_sa_keys, many_deleted_spis, long_lifetime, many_sas}
use Rattle.rules_refusals.specs.Number7.{many_fresh_keys, number7_of_frame, number7_of_member}
use Rattle.rules_refusals.specs.Refusals.{one, number4, number5, number6, number7}
use Rattle.rules_chains.specs.Chain.{Root, ChainEnds, CopyOpens}
use Rattle.rules_chains.specs.Refusals.{Announced, EntriesConflict, CopiesConflict, wrong_size, two-values}
use Rattle.rules_chains.specs.Refusals.{KeyConflict, of-entries, of-copies, KeyMissing, KeyOf}
use Rattle.rules_outcome.specs.Answer.{KeyConflictOf, KeyMissingOf}
use Rattle.rules_outcome.specs.Roots.{roots_of, entries_of, wrapping_size, copies_of, need_of, announced_as, announced_keys}
use Rattle.rules_outcome.specs.Holding.{new_rekey, rekey_copies, held_before, HoldsPath, HeldAfterwards, OverHeld}
use Rattle.rules_outcome.proofs.Room.{room-in-registration}
use Rattle.rules_outcome.specs.After.{lifetime_from, sa_from, old_sas, insert_all, one_more, no-sa}
use Rattle.rules_outcome.specs.After.{initial_message_id, least_afterwards, After}
use Rattle.rules_outcome.specs.Outcome.{Outcome}
use Rattle.rules_outcome.specs.SampleFrames.{Around, rekey_policy, creating, created, Creates}
use Rattle.rules_outcome.proofs.Members.{in_head}
use Rattle.rules_outcome.proofs.Rows.{lent-roots, lent-size}
use Rattle.rules_outcome.proofs.RunsClear.{None, Clear}
use Rattle.rules_outcome.proofs.SamplesAnswers.{outcome-0, outcome-9}
use Rattle.rules_outcome.proofs.SamplesFrame.{row_of, fresh-2, fresh-3}
use Rattle.rules_outcome.proofs.SamplesChains.{key-size, zero_root, one_copy, one_entry, copy-opens, no-conflict, no-missing}

-- ---- numbers 4 to 7
module _ (r : Around) (now k : ℕ) (w : List ℕ) (l : List WrapKey) where
  abbrev f : Frame
  f = creating r k w l

  created-4 : one_group_address r.destination ≡ true → None (number4 f)
  unfolding one any count flat_map critical_unknown barred_member_bag barred_delete two_gsa two_kd gsa_without_kd kd_without_gsa neither
      several_rekey_policies several_group_wide several_member_bags gsa_without_sa_policy key_length_twice initial_message_id_twice delay_twice
      other_destination lifetime_twice number4_of_frame
  created-4 d = record { of_frame = rw (row_of r.auth, d); of_member = refl }

  pub transforms-fit : transforms_fit true (rekey_policy r) ≡ true
  unfolding all any count transforms_fit exact_transforms encryption_fits key_wrap_fits authentication_fits needed_by needed_in is_row_of
  transforms-fit = refl

  created-5 : (lent : List ℕ) → is_wrapping_size (length lent) ≡ true → None (number5 lent f)
  unfolding one any flat_map ah_policy ah_bag other_transforms delete_of_other delete_of_none lent_key_size number5_of_frame
  created-5 lent e = record { of_frame = rw (row_of r.auth, transforms-fit, e); of_member = refl }

  created-6 : any (λ (e : WrapKey). eqb e.key_id 0) l ≡ false → any under_itself l ≡ false →
      None (number6 (new_state limits r.profile) now f)
  unfolding one any count flat_map policy_unpaired bag_unpaired policy_twice bag_twice already_in_table other_sa_key_count sa_key_count sa_key_id esp_kwk_id
      wrap_key_id wraps_itself fresh_key_id fresh_wraps_itself number6_of_frame number6_of_member new_state table_of keep
  created-6 e d = record { of_frame = rw (row_of r.auth, eq-same r.spi r.spi refl, append-nil l, e, d); of_member = refl }

  created-7 : length l ≤ limits.wrap_keys → None (number7 limits (new_state limits r.profile) now f)
  unfolding one any count flat_map many_esp_policies many_wrap_keys many_sa_keys many_deleted_spis long_lifetime many_fresh_keys many_sas number7_of_frame
      number7_of_member
      new_state table_of keep
  created-7 h = record { of_frame = rw (append-nil l, le-ltb limits.wrap_keys (length l) h); of_member = refl }

-- ---- what chains go by in that frame
module _ (r : Around) (now : ℕ) (lent x : List ℕ) (k : ℕ) (v : List ℕ) (l : List WrapKey) (octets : List ℕ)
    (c : Creates r lent x k v l octets) (no_zero : any (λ (e : WrapKey). eqb e.key_id 0) l ≡ false)
    (no_self : any under_itself l ≡ false) (few : length l ≤ limits.wrap_keys) where
  abbrev s : State
  s = new_state limits r.profile

  abbrev w : List ℕ
  w = wrap_of v x

  abbrev g : Frame
  g = creating r k w l

  abbrev R : List Root
  R = zero_root lent ∷ []

  abbrev copy : SaKey
  copy = record { key_id = 0; kwk_id = k; wrapped = w }

  abbrev top : Announced
  top = one_copy k 36 w

  roots-are : roots_of limits s now lent g ≡ R
  roots-are = lent-roots limits s now g (row_of r.auth) lent

  size_is : wrapping_size limits s now lent g ≡ length lent
  size_is = lent-size limits s now g (row_of r.auth) lent

  entries-are : entries_of g ≡ l
  unfolding flat_map
  entries-are = append-nil (l ++ []) ∙ append-nil l

  sa-is : announced_as g (rekey_policy r) ≡ top
  unfolding flat_map copies_of keep need_of encryption_octets key_wrap_octets sum needed_by needed_in is_row_of
  sa-is = rw (eq-same r.spi r.spi refl)

  copies-are : rekey_copies g ≡ copy ∷ []
  unfolding rekey_copies flat_map copies_of keep
  copies-are = rw (eq-same r.spi r.spi refl)

  keys-are : announced_keys g ≡ top ∷ []
  unfolding announced_keys flat_map
  keys-are = ap (λ (a : Announced). a ∷ []) sa-is

  conflict-is : KeyConflictOf limits s now lent g ≡ KeyConflict R l (length lent) (top ∷ [])
  conflict-is = λ i. KeyConflict (roots-are i) (entries-are i) (size_is i) (keys-are i)

  missing-is : KeyMissingOf limits s now lent g ≡ KeyMissing R l (length lent) (top ∷ [])
  missing-is = λ i. KeyMissing (roots-are i) (entries-are i) (size_is i) (keys-are i)

  key-is : KeyOf R l (length lent) top x
      ≡ KeyOf (roots_of limits s now lent g) (entries_of g) (wrapping_size limits s now lent g) (announced_as g (rekey_policy r)) x
  key-is = sym (λ i. KeyOf (roots-are i) (entries-are i) (size_is i) (sa-is i) x)

  -- ---- no chain ends on the key that the SA_KEY names
  module _ (unnamed : (y : List ℕ) → ChainEnds R l (length lent) k y → ⊥) (none : EntriesConflict R l (length lent) → ⊥) where
    unopened : (y : List ℕ) → CopyOpens R l (length lent) (copy ∷ []) y → ⊥
    unopened y o =
        unnamed o.value
        (subst (λ (b : SaKey). ChainEnds R l (length lent) b.kwk_id o.value) (one_entry o.copy copy o.stands) o.named)

    no_copies : CopiesConflict R l (length lent) top → ⊥
    no_copies (wrong_size y o d) = unopened y o
    no_copies (two-values y z o q d) = unopened y o

    no-8 : KeyConflict R l (length lent) (top ∷ []) → ⊥
    no-8 (of-entries h) = none h
    no-8 (of-copies a m h) = no_copies (subst (CopiesConflict R l (length lent)) (one_entry a top m) h)

    missing : KeyMissing R l (length lent) (top ∷ [])
    missing = record { sa = top; stands = in_head top top [] refl; none = unopened }

    pub created-9 : Outcome limits s now lent octets 9 s
    unfolding new_state
    created-9 =
        outcome-9 limits s now lent octets g c.reads (fresh-2 r now w l) (fresh-3 r now w l) (created-4 r now k w l c.group)
        (created-5 r now k w l lent (key-size (length lent) c.key.size)) (created-6 r now k w l no_zero no_self)
        (created-7 r now k w l few) (λ h. no-8 (subst (λ (A : Type 0). A) conflict-is h)) (subst (λ (A : Type 0). A)
        (sym missing-is) missing)

  -- ---- each chain that ends on it gives one value, and the list is the path
  module _ (none : EntriesConflict R l (length lent) → ⊥) (ends : ChainEnds R l (length lent) k v)
      (only : (y : List ℕ) → ChainEnds R l (length lent) k y → y ≡ v) (keys : List HeldKey)
      (path : HoldsPath R l (length lent) limits (copy ∷ []) (held_of limits []) (held_of limits keys)) where
    clear-created : Clear limits s now lent g
    clear-created = record {
      no-2 = fresh-2 r now w l;
      no-3 = fresh-3 r now w l;
      no-4 = created-4 r now k w l c.group;
      no-5 = created-5 r now k w l lent (key-size (length lent) c.key.size);
      no-6 = created-6 r now k w l no_zero no_self;
      no-7 = created-7 r now k w l few;
      no-8 = λ h.
          no-conflict R l (length lent) k 36 v x c.fit.key c.small c.size (omega arith) (omega arith) ends only none
          (subst (λ (A : Type 0). A) conflict-is h);
      no_9 = λ h.
          no-missing R l (length lent) k 36 v x c.fit.key c.small c.size (omega arith) (omega arith) ends only
          (subst (λ (A : Type 0). A) missing-is h);
      no-over = λ o.
          room-in-registration R l (length lent) limits (copy ∷ []) (new_rekey g) none few
          (subst (λ (A : Type 0). A)
          (λ i.
          OverHeld (roots-are i) (entries-are i) (size_is i) limits (new_rekey g) (copies-are i)
          (held_before limits (row_of r.auth i).registers s.held))
          o);
    }

    abbrev next : State
    next = created r x keys

    held-set : HeldAfterwards limits s now lent g next.held
    unfolding any flat_map
    held-set =
        subst (λ (A : Type 0). A)
        (sym (λ i.
        HoldsPath (roots-are i) (entries-are i) (size_is i) limits (copies-are i)
        (held_before limits (row_of r.auth i).registers s.held) next.held))
        path

    after-created : After limits s now lent g next
    unfolding flat_map new_state table_of keep old_sas insert_all insert sa_from lifetime_from least_afterwards initial_message_id any
        encryption_octets key_wrap_octets sum needed_by needed_in is_row_of
    after-created = record {
      new = sa_from now (rekey_policy r) x ∷ [];
      enter =
          one_more x
          (subst (λ (A : Type 0). A) key-is
          (copy-opens R l (length lent) k 36 v x c.fit.key c.small c.size (omega arith) (omega arith) ends only)) no-sa;
      table = refl;
      held = held-set;
      least = refl;
      profile = refl;
    }

    pub created-0 : Outcome limits s now lent octets 0 next
    unfolding new_state
    created-0 = outcome-0 limits s now lent octets g c.reads clear-created next after-created
