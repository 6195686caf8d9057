-- The registration in which the samples' entries stand: numbers 2 to 7, and the copy of its SA's key.
use Prim.Native.Nat.{ℕ, ◌≤◌}
use mathlib.Core.Path.{◌≡◌, refl}
use mathlib.Core.Bool.{Bool, true, false, cond}
use mathlib.Core.List.{List, append-nil, flat_map}
use borrow.Author.Tests.{le-ltb}
use lib.Dec.{eqb}
use lib.ListN.{length}
use Rattle.octets.proofs.Order.{eq-same}
use Rattle.state_keys.specs.Limits.{limits}
use Rattle.lists.specs.Lists.{all, any, count, keep}
use Rattle.state_keys.specs.Algorithms.{size_of, is_row_of, needed_in, needed_by, is_wrapping_size}
use Rattle.wire_attributes.specs.Tree.{WrapKey}
use Rattle.wire_frames.specs.Exchange.{registration, exchange_of}
use Rattle.state_table.specs.Table.{table_of, empty_at}
use Rattle.state.specs.declared.State.{State}
use Rattle.state.specs.State.{new_state}
use Rattle.state.proofs.Kept.{new-state-formed}
use Rattle.rules_refusals.specs.Fitness.{encryption_fits, sequence_numbers_fit, exact_transforms, transforms_fit}
use Rattle.rules_refusals.specs.Number2.{unwanted_member, other_spis}
use Rattle.rules_refusals.specs.Number3.{not_acceptable}
use Rattle.rules_refusals.specs.Number4.{critical_unknown, barred_member_bag, barred_delete, two_gsa, two_kd, gsa_without_kd, kd_without_gsa, neither}
use Rattle.rules_refusals.specs.Number4.{several_rekey_policies, several_group_wide, several_member_bags, gsa_without_sa_policy, key_length_twice}
use Rattle.rules_refusals.specs.Number4.{initial_message_id_twice, delay_twice, other_destination, lifetime_twice, number4_of_frame}
use Rattle.rules_refusals.specs.Number5.{ah_policy, ah_bag, other_transforms, delete_of_other, delete_of_none, lent_key_size, number5_of_frame}
use Rattle.rules_refusals.specs.Number6.{policy_unpaired, bag_unpaired, policy_twice, bag_twice, already_in_table, other_sa_key_count, sa_key_count}
use Rattle.rules_refusals.specs.Number6.{sa_key_id, esp_kwk_id, wrap_key_id, under_itself, wraps_itself, fresh_key_id, fresh_wraps_itself}
use Rattle.rules_refusals.specs.Number6.{number6_of_frame}
use Rattle.rules_refusals.specs.Number6.{number6_of_member}
use Rattle.rules_refusals.specs.Number7.{many_esp_policies, many_wrap_keys, many_sa_keys, many_deleted_spis, long_lifetime, many_sas}
use Rattle.rules_refusals.specs.Number7.{many_fresh_keys, number7_of_frame, number7_of_member}
use Rattle.rules_refusals.specs.Refusals.{one, number2, number3, number4, number5, number6, number7}
use Rattle.rules_outcome.specs.SampleFrames.{Around, esp_policy, registering}
use Rattle.rules_outcome.specs.Samples.{lent-of-28, Says}
use Rattle.rules_outcome.proofs.RunsClear.{None}
use Rattle.rules_outcome.proofs.SamplesAnswers.{applies-frame, outcome-5}

abbrev fresh : Around → State
fresh r = new_state limits r.profile

-- both exchanges of a registration have one row
pub row_of : (b : Bool) → exchange_of (cond b 39 40) ≡ registration
row_of true = refl
row_of false = refl

module _ (r : Around) (now : ℕ) (w : List ℕ) (l : List WrapKey) where
  pub fresh-2 : None (number2 limits (fresh r) now (cond r.auth 39 40) r.spis)
  unfolding one unwanted_member other_spis empty_at new_state table_of all
  fresh-2 = record { of_frame = rw (row_of r.auth); of_member = rw (row_of r.auth, new-state-formed limits r.profile) }

  pub fresh-3 : None (number3 (fresh r) (cond r.auth 39 40) r.message_id)
  unfolding one not_acceptable
  fresh-3 = record { of_frame = refl; of_member = rw (row_of r.auth) }

  pub fresh-4 : None (number4 (registering r w l))
  unfolding one any count flat_map critical_unknown barred_member_bag barred_delete two_gsa two_kd gsa_without_kd kd_without_gsa neither
      several_rekey_policies several_group_wide several_member_bags gsa_without_sa_policy key_length_twice initial_message_id_twice delay_twice
      other_destination lifetime_twice number4_of_frame
  fresh-4 = record { of_frame = rw (row_of r.auth); of_member = refl }

  -- 5 looks at the lent key's size
  fits : transforms_fit true (esp_policy r) ≡ true
  unfolding all any count transforms_fit exact_transforms encryption_fits sequence_numbers_fit needed_by needed_in is_row_of
  fits = refl

  pub fresh-5 : (lent : List ℕ) → is_wrapping_size (length lent) ≡ true → None (number5 lent (registering r w l))
  unfolding one any flat_map ah_policy ah_bag other_transforms delete_of_other delete_of_none lent_key_size number5_of_frame
  fresh-5 lent e = record { of_frame = rw (row_of r.auth, fits, e); of_member = refl }

  pub fresh-6 : any (λ (k : WrapKey). eqb k.key_id 0) l ≡ false → any under_itself l ≡ false →
      None (number6 (fresh r) now (registering r w l))
  unfolding one any count flat_map policy_unpaired bag_unpaired policy_twice bag_twice already_in_table other_sa_key_count sa_key_count sa_key_id esp_kwk_id
      wrap_key_id wraps_itself fresh_key_id fresh_wraps_itself number6_of_frame number6_of_member new_state table_of keep
  fresh-6 e d = record { of_frame = rw (row_of r.auth, eq-same r.spi r.spi refl, append-nil l, e, d); of_member = refl }

  pub fresh-7 : length l ≤ limits.wrap_keys → None (number7 limits (fresh r) now (registering r w l))
  unfolding one any count flat_map many_esp_policies many_wrap_keys many_sa_keys many_deleted_spis long_lifetime many_fresh_keys many_sas number7_of_frame
      number7_of_member
      new_state table_of keep
  fresh-7 h = record { of_frame = rw (append-nil l, le-ltb limits.wrap_keys (length l) h); of_member = refl }

-- ---- the row on the lent key's size
lent-28 : (r : Around) (lent w : List ℕ) (l : List WrapKey) → length lent ≡ 28 → one (number5_of_frame lent (registering r w l)) ≡ true
unfolding one any flat_map ah_policy ah_bag other_transforms delete_of_other delete_of_none lent_key_size number5_of_frame size_of
lent-28 r lent w l e = rw (row_of r.auth, fits r 0 w l, e)

pub lent-of-28-holds : Says lent-of-28
unfolding new_state
lent-of-28-holds r now lent w octets l e g =
    let f = registering r w l in
    outcome-5 limits (fresh r) now lent octets f g (fresh-2 r now w l) (fresh-3 r now w l) (fresh-4 r now w l)
    (applies-frame (number5 lent f) (lent-28 r lent w l e))
