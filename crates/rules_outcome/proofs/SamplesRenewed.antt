-- The rekey with fresh keys in which RFC 9838's tree comes anew: numbers 2 to 7, what chains go by, and that it is taken.
use native.Mathlib.Omega.{arith}
use Prim.Native.Nat.{ℕ, ◌-◌, ◌≤◌}
use mathlib.Core.Path.{◌≡◌, refl, ap, sym, ◌∙◌, subst}
use mathlib.Core.Bool.{true, false}
use mathlib.Core.List.{List, [], ◌∷◌, ◌++◌, append-nil, flat_map}
use borrow.Author.Tests.{le-leb, le-ltb}
use lib.Dec.{eqb}
use lib.ListN.{length, take, drop, replicate, length-drop, length-append, length-replicate}
use lib.Seq.{take-append_seam, take_at, drop-append-le}
use Rattle.octets.specs.Compare.{same}
use Rattle.octets.proofs.Order.{eq-same, same-eq}
use Rattle.fips197.specs.Key.{Key}
use Rattle.rfc5649.specs.Wrap.{wrap_of}
use Rattle.state_keys.specs.Limits.{limits}
use Rattle.lists.specs.Lists.{all, any, count, keep, rising, heads}
use Rattle.state_keys.specs.Algorithms.{size_of, is_row_of, needed_in, needed_by}
use Rattle.state_keys.specs.Kinds.{value_of, wrapping_of, rekey_sizes}
use Rattle.lists.proofs.Cases.{bool_cases}
use Rattle.wire_attributes.specs.Tree.{SaKey, WrapKey}
use Rattle.wire_frames.specs.Frame.{Frame}
use Rattle.state_sa.specs.Entry.{sa_spi, sa_sized, sa_formed, named, live_rekey, due, retired, rekey_sa}
use Rattle.state_sa.specs.declared.entry.Sa.{Sa}
use Rattle.state_table.specs.Table.{sas_of, table_of, table_formed, retired_if}
use Rattle.state.specs.declared.State.{State}
use Rattle.state.specs.declared.held.HeldKey.{HeldKey}
use Rattle.state.specs.Held.{held_of, key_formed, distinct, held_formed}
use Rattle.state.specs.State.{state_formed}
use Rattle.rules_refusals.specs.Fitness.{one_group_address, sum, encryption_octets, key_wrap_octets}
use Rattle.rules_refusals.specs.Number2.{not_due_sas, unwanted_member, other_spis}
use Rattle.rules_refusals.specs.Number3.{not_acceptable}
use Rattle.rules_refusals.specs.Number4.{critical_unknown, barred_member_bag, barred_delete, two_gsa, two_kd, gsa_without_kd, kd_without_gsa, neither}
use Rattle.rules_refusals.specs.Number4.{several_rekey_policies, several_group_wide, several_member_bags, gsa_without_sa_policy, key_length_twice}
use Rattle.rules_refusals.specs.Number4.{initial_message_id_twice, delay_twice, other_destination, lifetime_twice, number4_of_frame}
use Rattle.rules_refusals.specs.Number5.{ah_policy, ah_bag, other_transforms, delete_of_other, delete_of_none, lent_key_size, number5_of_frame}
use Rattle.rules_refusals.specs.Number6.{policy_unpaired, bag_unpaired, policy_twice, bag_twice, already_in_table, other_sa_key_count, sa_key_count}
use Rattle.rules_refusals.specs.Number6.{has_key_id, sa_key_id, esp_kwk_id, wrap_key_id, under_itself, wraps_itself, fresh_key_id, fresh_wraps_itself}
use Rattle.rules_refusals.specs.Number6.{number6_of_frame, number6_of_member}
use Rattle.rules_refusals.specs.Number7.{many_esp_policies, many_wrap_keys, many_sa_keys, many_deleted_spis, long_lifetime, many_sas}
use Rattle.rules_refusals.specs.Number7.{many_fresh_keys, number7_of_frame, number7_of_member}
use Rattle.rules_refusals.specs.Refusals.{one, number2, number3, number4, number5, number6, number7}
use Rattle.rules_chains.specs.Chain.{In, Root}
use Rattle.rules_chains.specs.Refusals.{Announced, KeyConflict, KeyMissing, KeyOf}
use Rattle.rules_outcome.specs.Roots.{own_key_of, roots_of, entries_of, wrapping_size, copies_of, need_of, announced_as, announced_keys}
use Rattle.rules_outcome.specs.Holding.{rekey_copies, from_key, path_before, HoldsPath, HeldAfterwards, OverHeld, OverHeldOf}
use Rattle.rules_outcome.specs.Answer.{KeyConflictOf, KeyMissingOf}
use Rattle.rules_outcome.specs.After.{delay_of, named_in_delete, replaced, old_sas, lifetime_from, sa_from, insert_all, one_more, no-sa}
use Rattle.rules_outcome.specs.After.{initial_message_id, least_afterwards, After}
use Rattle.rules_outcome.specs.Outcome.{Outcome}
use Rattle.rules_outcome.specs.SampleFrames.{Around, rekey_policy, entry, held_with, FitKey, copy_under, renewing, sample_rekey_sa}
use Rattle.rules_outcome.specs.SampleFrames.{holding, renewed, Renews}
use Rattle.rules_outcome.specs.Samples.{key-tree-anew, Says}
use Rattle.rules_outcome.proofs.Rows.{own-roots, own-size}
use Rattle.rules_outcome.proofs.OwnKey.{own-key-of-live}
use Rattle.rules_outcome.proofs.RunsClear.{None, Clear}
use Rattle.rules_outcome.proofs.Room.{room-for-both}
use Rattle.rules_outcome.proofs.SamplesAnswers.{outcome-0}
use Rattle.rules_outcome.proofs.SamplesAnew.{anew_roots, anew-fit, anew-path, anew-keys, anew-key, anew-8, anew-9}
use Rattle.rules_outcome.proofs.SamplesChains.{key-size}
use Rattle.rules_outcome.proofs.SamplesCreated.{transforms-fit}

-- ---- the octets of a held key, and of the old Rekey SA
value-is : (v : List ℕ) → value_of (wrapping_of v) ≡ v
value-is v = take-append_seam v (replicate (32 - length v) 0)

module _ (r : Around) (z : List ℕ) (sixteen : length r.spis ≡ 16) where
  abbrev pub old : Sa
  old = sample_rekey_sa r.spis z

  spi-is : sa_spi old ≡ r.spis
  unfolding rekey_sa
  spi-is =
      ap (λ (n : ℕ). take n (r.spis ++ replicate (16 - length r.spis) 0)) (sym sixteen)
      ∙ take-append_seam r.spis (replicate (16 - length r.spis) 0)

  over-it : named 6 r.spis old ≡ true
  unfolding named rekey_sa
  over-it = ap (λ (x : List ℕ). same x r.spis) spi-is ∙ eq-same r.spis r.spis refl

  not-it : (r.spis ≡ r.spi → ⊥) → named 6 r.spi old ≡ false
  unfolding named rekey_sa
  not-it another =
      ap (λ (x : List ℕ). same x r.spi) spi-is
      ∙ bool_cases (same r.spis r.spi) (λ e. absurd (another (same-eq r.spis r.spi e))) (λ e. e)

  module _ (v₂ v₅ v₁₁ : List ℕ) (k₂ : Key v₂) (k₅ : Key v₅) (k₁₁ : Key v₁₁) where
    abbrev pub before : List HeldKey
    before = held_with 2 v₂ ∷ held_with 5 v₅ ∷ held_with 11 v₁₁ ∷ []

    abbrev pub member : State
    member = holding r z before

    pub member-formed : state_formed limits member ≡ true
    unfolding state_formed table_formed held_formed key_formed distinct table_of held_of all any count heads rising sa_sized sa_formed live_rekey
        rekey_sa rekey_sizes size_of
    member-formed =
        rw (key-size (length v₂) k₂.size, key-size (length v₅) k₅.size, key-size (length v₁₁) k₁₁.size) refl

    module _ (now : ℕ) where
      pub stands-now : not_due_sas now member ≡ old ∷ []
      unfolding table_of keep due rekey_sa
      stands-now = refl

      renew-2 : None (number2 limits member now 41 r.spis)
      unfolding one unwanted_member other_spis any live_rekey rekey_sa
      renew-2 = record { of_frame = refl; of_member = rw (stands-now, over-it, member-formed) }

      renew-3 : None (number3 member 41 r.message_id)
      unfolding one not_acceptable
      renew-3 = record { of_frame = refl; of_member = rw (le-leb r.message_id r.message_id (omega arith)) }

      module _ (copies : List SaKey) (l : List WrapKey) (some : eqb (length copies) 0 ≡ false) (few-copies : length copies ≤ limits.sa_keys)
          (no-id : any has_key_id copies ≡ false) (no_zero : any (λ (e : WrapKey). eqb e.key_id 0) l ≡ false)
          (no_self : any under_itself l ≡ false) (few : length l ≤ limits.fresh_keys) where
        abbrev f : Frame
        f = renewing r copies l

        renew-4 : one_group_address r.destination ≡ true → None (number4 f)
        unfolding one any count flat_map critical_unknown barred_member_bag barred_delete two_gsa two_kd gsa_without_kd kd_without_gsa neither
            several_rekey_policies several_group_wide several_member_bags gsa_without_sa_policy key_length_twice initial_message_id_twice delay_twice
            other_destination lifetime_twice number4_of_frame
        renew-4 d = record { of_frame = rw d refl; of_member = refl }

        renew-5 : (lent : List ℕ) → None (number5 lent f)
        unfolding one any flat_map ah_policy ah_bag other_transforms delete_of_other delete_of_none lent_key_size number5_of_frame
        renew-5 lent = record { of_frame = rw (transforms-fit r now 0 [] []) refl; of_member = refl }

        renew-6 : (r.spis ≡ r.spi → ⊥) → None (number6 member now f)
        unfolding one any count flat_map policy_unpaired bag_unpaired policy_twice bag_twice already_in_table other_sa_key_count sa_key_count sa_key_id
            esp_kwk_id wrap_key_id wraps_itself fresh_key_id fresh_wraps_itself number6_of_frame number6_of_member
        renew-6 another =
            record {
              of_frame = rw (eq-same r.spi r.spi refl, some, no-id, append-nil l, no_zero, no_self) refl;
              of_member = rw (stands-now, not-it another) refl;
            }

        renew-7 : None (number7 limits member now f)
        unfolding one any count flat_map many_esp_policies many_wrap_keys many_sa_keys many_deleted_spis long_lifetime many_fresh_keys many_sas
            number7_of_frame number7_of_member
        renew-7 =
            record {
              of_frame =
                  rw (le-ltb limits.sa_keys (length copies) few-copies, append-nil l, le-ltb limits.fresh_keys (length l) few) refl;
              of_member = rw stands-now refl;
            }

-- ---- what chains go by in that frame, the path, and the member afterwards
module _ (r : Around) (now : ℕ) (lent z x v₂ v₅ v₁₁ v₁₅ v₁₆ w₁ w₆ octets : List ℕ) (k₂ : Key v₂) (k₅ : Key v₅) (k₁₁ : Key v₁₁)
    (fit₁₅ : FitKey (drop 20 z) v₁₅) (fit₁₆ : FitKey (drop 20 z) v₁₆)
    (c : Renews r z x (copy_under 1 w₁ ∷ copy_under 15 (wrap_of v₁₅ x) ∷ [])
    (entry 15 6 w₆ ∷ entry 15 16 (wrap_of v₁₆ v₁₅) ∷ entry 16 11 (wrap_of v₁₁ v₁₆) ∷ []) octets) where
  abbrev s : State
  s = member r z c.spi v₂ v₅ v₁₁ k₂ k₅ k₁₁

  abbrev own : List ℕ
  own = own_key_of limits s now

  abbrev size : ℕ
  size = length own

  abbrev l : List WrapKey
  l = entry 15 6 w₆ ∷ entry 15 16 (wrap_of v₁₆ v₁₅) ∷ entry 16 11 (wrap_of v₁₁ v₁₆) ∷ []

  abbrev copies : List SaKey
  copies = copy_under 1 w₁ ∷ copy_under 15 (wrap_of v₁₅ x) ∷ []

  abbrev g : Frame
  g = renewing r copies l

  -- key 0 is the end of the old Rekey SA's keying octets
  in_table : In (old r z c.spi) (sas_of s.table)
  unfolding table_of
  in_table = record { place = 0; inside = omega arith; is = refl }

  own_is : own ≡ drop 20 z
  unfolding rekey_sa live_rekey due
  own_is =
      let e = c.old-size in
      let pad = replicate {A = ℕ} (68 - length z) 0 in
      let n = length-append z pad in
      let m = length-replicate {A = ℕ} (68 - length z) 0 in
      let d = length-drop 20 z in
      own-key-of-live limits s now (member-formed r z c.spi v₂ v₅ v₁₁ k₂ k₅ k₁₁) (old r z c.spi) in_table refl refl
      (omega (arith, e, n, m))
      ∙ ap (take 16) (drop-append-le 20 z pad (omega (arith, e))) ∙ take_at (drop 20 z) pad 16 (omega (arith, d, e))

  fits : (v : List ℕ) → FitKey (drop 20 z) v → length v ≡ size
  fits v h = h.size ∙ sym (ap length own_is)

  abbrev R : List Root
  R = anew_roots own v₂ v₅ v₁₁ v₁₅ v₁₆ w₁ w₆ x k₁₁ fit₁₅.key fit₁₆.key size (fits v₁₅ fit₁₅) (fits v₁₆ fit₁₆) c.small c.size

  abbrev top : Announced
  top = record { copies = copies; need = 36 }

  roots-are : roots_of limits s now lent g ≡ R
  unfolding flat_map any keep held_of
  roots-are =
      own-roots limits s now g refl lent
      ∙ (λ i.
      record { id = 0; value = own } ∷ record { id = 2; value = value-is v₂ i } ∷ record { id = 5; value = value-is v₅ i }
      ∷ record { id = 11; value = value-is v₁₁ i } ∷ [])

  size_is : wrapping_size limits s now lent g ≡ size
  size_is = own-size limits s now g refl lent

  entries-are : entries_of g ≡ l
  unfolding flat_map
  entries-are = refl

  sa-is : announced_as g (rekey_policy r) ≡ top
  unfolding flat_map copies_of keep need_of encryption_octets key_wrap_octets sum needed_by needed_in is_row_of
  sa-is = rw (eq-same r.spi r.spi refl)

  copies-are : rekey_copies g ≡ copies
  unfolding rekey_copies flat_map copies_of keep
  copies-are = rw (eq-same r.spi r.spi refl)

  keys-are : announced_keys g ≡ top ∷ []
  unfolding announced_keys flat_map
  keys-are = ap (λ (a : Announced). a ∷ []) sa-is

  conflict-is : KeyConflictOf limits s now lent g ≡ KeyConflict R l size (top ∷ [])
  conflict-is = λ i. KeyConflict (roots-are i) (entries-are i) (size_is i) (keys-are i)

  missing-is : KeyMissingOf limits s now lent g ≡ KeyMissing R l size (top ∷ [])
  missing-is = λ i. KeyMissing (roots-are i) (entries-are i) (size_is i) (keys-are i)

  key-is : KeyOf R l size top x
      ≡ KeyOf (roots_of limits s now lent g) (entries_of g) (wrapping_size limits s now lent g) (announced_as g (rekey_policy r)) x
  key-is = sym (λ i. KeyOf (roots-are i) (entries-are i) (size_is i) (sa-is i) x)

  -- the path goes before 11; 2 and 5, which stand ahead of it, go
  abbrev after : List HeldKey
  after = held_with 15 v₁₅ ∷ held_with 16 v₁₆ ∷ held_with 11 v₁₁ ∷ []

  holds : HoldsPath R l size limits copies s.held (held_of limits after)
  unfolding held_of path_before from_key keep any
  holds = record {
    ids = 15 ∷ 16 ∷ [];
    end = 11;
    path = anew-path own v₂ v₅ v₁₁ v₁₅ v₁₆ w₁ w₆ x k₁₁ fit₁₅.key fit₁₆.key size (fits v₁₅ fit₁₅) (fits v₁₆ fit₁₆) c.small
        c.size;
    keys = record { id = 15; value = v₁₅ } ∷ record { id = 16; value = v₁₆ } ∷ [];
    are = anew-keys own v₂ v₅ v₁₁ v₁₅ v₁₆ w₁ w₆ x k₁₁ fit₁₅.key fit₁₆.key size (fits v₁₅ fit₁₅) (fits v₁₆ fit₁₆) c.small
        c.size;
    is = refl;
  }

  abbrev next : State
  next = renewed r now z x after

  held-set : HeldAfterwards limits s now lent g next.held
  unfolding any flat_map
  held-set =
      subst (λ (A : Type 0). A)
      (sym (λ i. HoldsPath (roots-are i) (entries-are i) (size_is i) limits (copies-are i) s.held next.held)) holds

  after-renewed : After limits s now lent g next
  unfolding flat_map table_of keep old_sas insert_all sa_from lifetime_from least_afterwards initial_message_id any delay_of named_in_delete replaced
      retired_if retired due rekey_sa encryption_octets key_wrap_octets sum needed_by needed_in is_row_of
  after-renewed = record {
    new = sa_from now (rekey_policy r) x ∷ [];
    enter = one_more x
        (subst (λ (A : Type 0). A) key-is
        (anew-key own v₂ v₅ v₁₁ v₁₅ v₁₆ w₁ w₆ x k₁₁ fit₁₅.key fit₁₆.key size (fits v₁₅ fit₁₅) (fits v₁₆ fit₁₆) c.small c.size))
        no-sa;
    table = refl;
    held = held-set;
    least = refl;
    profile = refl;
  }

  no-over : OverHeldOf limits s now lent g → ⊥
  unfolding held_of any flat_map
  no-over o =
      room-for-both R l size limits copies true s.held
      (anew-fit own v₂ v₅ v₁₁ v₁₅ v₁₆ w₁ w₆ x k₁₁ fit₁₅.key fit₁₆.key size (fits v₁₅ fit₁₅) (fits v₁₆ fit₁₆) c.small c.size)
      (omega arith)
      (subst (λ (A : Type 0). A) (λ i. OverHeld (roots-are i) (entries-are i) (size_is i) limits true (copies-are i) s.held) o)

  clear-renewed : Clear limits s now lent g
  unfolding any
  clear-renewed = record {
    no-2 = renew-2 r z c.spi v₂ v₅ v₁₁ k₂ k₅ k₁₁ now;
    no-3 = renew-3 r z c.spi v₂ v₅ v₁₁ k₂ k₅ k₁₁ now;
    no-4 = renew-4 r z c.spi v₂ v₅ v₁₁ k₂ k₅ k₁₁ now copies l refl (omega arith) refl refl refl (omega arith) c.group;
    no-5 = renew-5 r z c.spi v₂ v₅ v₁₁ k₂ k₅ k₁₁ now copies l refl (omega arith) refl refl refl (omega arith) lent;
    no-6 = renew-6 r z c.spi v₂ v₅ v₁₁ k₂ k₅ k₁₁ now copies l refl (omega arith) refl refl refl (omega arith) c.another;
    no-7 = renew-7 r z c.spi v₂ v₅ v₁₁ k₂ k₅ k₁₁ now copies l refl (omega arith) refl refl refl (omega arith);
    no-8 = λ h.
        anew-8 own v₂ v₅ v₁₁ v₁₅ v₁₆ w₁ w₆ x k₁₁ fit₁₅.key fit₁₆.key size (fits v₁₅ fit₁₅) (fits v₁₆ fit₁₆) c.small c.size
        (subst (λ (A : Type 0). A) conflict-is h);
    no_9 = λ h.
        anew-9 own v₂ v₅ v₁₁ v₁₅ v₁₆ w₁ w₆ x k₁₁ fit₁₅.key fit₁₆.key size (fits v₁₅ fit₁₅) (fits v₁₆ fit₁₆) c.small c.size
        (subst (λ (A : Type 0). A) missing-is h);
    no-over = no-over;
  }

  pub renewed-0 : Outcome limits s now lent octets 0 next
  renewed-0 = outcome-0 limits s now lent octets g c.reads clear-renewed next after-renewed

pub key-tree-anew-holds : Says key-tree-anew
key-tree-anew-holds = renewed-0
