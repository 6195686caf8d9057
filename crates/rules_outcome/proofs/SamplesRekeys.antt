-- The samples on Message IDs: rekeys with D alone over a Rekey SA that stands at the tick.
use Rattle.rules_outcome.proofs.Room.{room-without-entries}
use lib.Dec.{leb}
use native.Mathlib.Omega.{arith}
use Prim.Native.Nat.{ℕ, ◌+◌, ◌≤◌}
use mathlib.Core.Path.{◌≡◌, refl, ap, sym, ◌∙◌, subst}
use mathlib.Core.Bool.{true, false, ◌&&◌}
use mathlib.Core.List.Memᴰ
use mathlib.Core.List.{List, [], ◌++◌, append-nil, Memᴰ, flat_map}
use borrow.Author.Tests.{le-ltb, ne_eqb, leb-true}
use lib.ListN.{length}
use Rattle.state_keys.specs.Limits.{limits}
use Rattle.lists.specs.Lists.{any, count, all}
use Rattle.lists.proofs.Cases.{and_parts}
use Rattle.wire_frames.specs.Frame.{Frame}
use Rattle.wire_frames.specs.Grammar.{IsFrame}
use Rattle.state_sa.specs.Entry.{due}
use Rattle.state_sa.specs.declared.entry.Sa.{Sa}
use Rattle.state_table.specs.Table.{sas_of, table_of, table_formed, stays}
use Rattle.state_table.proofs.Kept.{fit-keep, formed-fit}
use Rattle.state.specs.declared.State.{State}
use Rattle.state.specs.Held.{held_formed, key_formed, keys_of, distinct, ids_of}
use Rattle.state.specs.State.{state_formed}
use Rattle.state.specs.Least.{acceptable, after_id}
use Rattle.rules_refusals.specs.Number2.{not_due_sas, over_live_rekey, unwanted_member, other_spis}
use Rattle.rules_refusals.specs.Number3.{not_acceptable, number3_of_member}
use Rattle.rules_refusals.specs.Number4.{critical_unknown, barred_member_bag, barred_delete, two_gsa, two_kd, gsa_without_kd, kd_without_gsa, neither}
use Rattle.rules_refusals.specs.Number4.{several_rekey_policies, several_group_wide, several_member_bags, gsa_without_sa_policy, key_length_twice}
use Rattle.rules_refusals.specs.Number4.{initial_message_id_twice, delay_twice, other_destination, lifetime_twice, number4_of_frame}
use Rattle.rules_refusals.specs.Number5.{ah_policy, ah_bag, other_transforms, delete_of_other, delete_of_none, lent_key_size, number5_of_frame}
use Rattle.rules_refusals.specs.Number6.{policy_unpaired, bag_unpaired, policy_twice, bag_twice, already_in_table, sa_key_count, sa_key_id, esp_kwk_id}
use Rattle.rules_refusals.specs.Number6.{wrap_key_id, wraps_itself, fresh_key_id, fresh_wraps_itself, number6_of_frame, number6_of_member}
use Rattle.rules_refusals.specs.Number7.{many_esp_policies, many_wrap_keys, many_sa_keys, many_deleted_spis, long_lifetime, many_sas}
use Rattle.rules_refusals.specs.Number7.{many_fresh_keys, number7_of_frame, number7_of_member}
use Rattle.rules_refusals.specs.Refusals.{one, number2, number3, number4, number5, number6, number7}
use Rattle.rules_chains.specs.Chain.{In, Root, Reached}
use Rattle.rules_chains.specs.Refusals.{EntriesConflict, wrong_size, two-values, KeyConflict, of-entries, of-copies, KeyMissing}
use Rattle.rules_chains.proofs.Determined.{last_entry}
use Rattle.rules_outcome.specs.Answer.{KeyConflictOf, KeyMissingOf}
use Rattle.rules_outcome.specs.Roots.{announced_keys, roots_of, wrapping_size}
use Rattle.rules_outcome.specs.Holding.{new_rekey, OverHeldOf, rekey_copies}
use Rattle.rules_outcome.specs.After.{old_sas, insert_all, no-sa, least_afterwards, After}
use Rattle.rules_outcome.specs.Run.{StandsAt}
use Rattle.rules_outcome.specs.Outcome.{Outcome}
use Rattle.rules_outcome.specs.SampleFrames.{deleting}
use Rattle.rules_outcome.specs.Samples.{LaterRefused, least-seven, last-id, Says}
use Rattle.rules_chains.proofs.Members.{in-member}
use Rattle.rules_outcome.proofs.RunsClear.{None, Clear, taken}
use Rattle.rules_outcome.proofs.RunsAccepted.{clear-formed}
use Rattle.rules_outcome.proofs.RunsLive.{stands_live, accepted-stands}
use Rattle.rules_outcome.proofs.Runs.{outcome-formed, run-formed}
use Rattle.rules_outcome.proofs.RunsReplay.{last_of, all-past-then}
use Rattle.rules_outcome.proofs.SamplesAnswers.{applies-member, outcome-0, outcome-3}

-- ---- with no entry and no announced SA nothing is reached
module _ (roots : List Root) (size : ℕ) where
  none_in : {A : Type 0} (a : A) → In a [] → ⊥
  none_in a m = Memᴰ.not-nil (in-member a [] m)

  none-reached : (k : ℕ) (y : List ℕ) → Reached roots [] size k y → ⊥
  none-reached k y r = none_in r.last (last_entry roots [] size k y r).0

  no-entries : EntriesConflict roots [] size → ⊥
  no-entries (wrong_size k y r n) = none-reached k y r
  no-entries (two-values k y z r q n) = none-reached k y r

  none-conflict : KeyConflict roots [] size [] → ⊥
  none-conflict (of-entries h) = no-entries h
  none-conflict (of-copies a m h) = none_in a m

  none-missing : KeyMissing roots [] size [] → ⊥
  none-missing h = none_in h.sa h.stands

-- 2 does not apply to a rekey over a Rekey SA that stands at the tick
over-live : (s : State) (now : ℕ) (x : List ℕ) → state_formed limits s ≡ true → StandsAt now x s → None (number2 limits s now 41 x)
unfolding one unwanted_member other_spis
over-live s now x e k = record { of_frame = refl; of_member = rw (e, k) }

-- a rekey whose Message ID is not acceptable
pub rekey-refused : (s : State) (now : ℕ) (lent octets : List ℕ) (g : Frame) → IsFrame s.profile octets g → g.header.exchange ≡ 41 →
    state_formed limits s ≡ true → StandsAt now g.header.spi s → acceptable g.header.message_id s.least ≡ false →
    Outcome limits s now lent octets 3 s
unfolding one not_acceptable
rekey-refused s now lent octets g r x e k h =
    let y = g.header.exchange in
    let i = g.header.message_id in
    outcome-3 limits s now lent octets g r
    (subst (λ (z : ℕ). None (number2 limits s now z g.header.spi)) (sym x) (over-live s now g.header.spi e k))
    (applies-member (number3 s y i) (subst (λ (z : ℕ). one (number3_of_member s z i) ≡ true) (sym x) (rw h)))

-- ---- a rekey with D alone
module _ (s : State) (now : ℕ) (x : List ℕ) (i : ℕ) (l : List (List ℕ)) where
  no-4 : None (number4 (deleting x i l))
  unfolding one any count flat_map critical_unknown barred_member_bag barred_delete two_gsa two_kd gsa_without_kd kd_without_gsa neither
      several_rekey_policies several_group_wide several_member_bags gsa_without_sa_policy key_length_twice initial_message_id_twice delay_twice
      other_destination lifetime_twice number4_of_frame
  no-4 = record { of_frame = refl; of_member = refl }

  no-5 : (lent : List ℕ) → 1 ≤ length l → None (number5 lent (deleting x i l))
  unfolding one any flat_map ah_policy ah_bag other_transforms delete_of_other delete_of_none lent_key_size number5_of_frame
  no-5 lent h = record { of_frame = rw (ne_eqb (length l) 0 (λ e. omega arith)); of_member = refl }

  no-6 : None (number6 s now (deleting x i l))
  unfolding one any flat_map policy_unpaired bag_unpaired policy_twice bag_twice already_in_table sa_key_count sa_key_id esp_kwk_id wrap_key_id wraps_itself
      fresh_key_id fresh_wraps_itself number6_of_frame number6_of_member
  no-6 = record { of_frame = refl; of_member = refl }

  standing-few : state_formed limits s ≡ true → length (not_due_sas now s) ≤ limits.sas
  unfolding state_formed
  standing-few e =
      let t = (and_parts (table_formed limits s.table) (held_formed limits s.held) e).0 in
      (fit-keep limits (stays now) (sas_of s.table) (formed-fit limits s.table t)).room

  no-7 : state_formed limits s ≡ true → length l ≤ limits.deleted_spis → None (number7 limits s now (deleting x i l))
  unfolding one any count flat_map many_esp_policies many_wrap_keys many_sa_keys many_deleted_spis long_lifetime many_fresh_keys many_sas number7_of_frame
      number7_of_member
  no-7 e h =
      let k = standing-few e in
      let n : length (l ++ []) ≤ limits.deleted_spis =
      subst (λ (y : List (List ℕ)). length y ≤ limits.deleted_spis) (sym (append-nil l)) h in
      record {
        of_frame = rw (le-ltb limits.deleted_spis (length (l ++ [])) n);
        of_member = rw (le-ltb limits.sas (length (not_due_sas now s) + 0) (omega arith));
      }

  module _ (lent : List ℕ) (e : state_formed limits s ≡ true) (k : StandsAt now x s) where
    abbrev pub f : Frame
    f = deleting x i l

    no-8 : KeyConflictOf limits s now lent f → ⊥
    unfolding flat_map announced_keys
    no-8 = none-conflict (roots_of limits s now lent f) (wrapping_size limits s now lent f)

    no_9 : KeyMissingOf limits s now lent f → ⊥
    unfolding flat_map announced_keys
    no_9 = none-missing (roots_of limits s now lent f) (wrapping_size limits s now lent f)

    no-over : OverHeldOf limits s now lent f → ⊥
    unfolding flat_map any state_formed held_formed
    no-over =
        let h = (and_parts (table_formed limits s.table) (held_formed limits s.held) e).1 in
        room-without-entries (roots_of limits s now lent f) [] (wrapping_size limits s now lent f) limits (rekey_copies f) false s.held refl
        (leb-true s.held.count limits.held_keys
        (and_parts (leb s.held.count limits.held_keys)
        (all key_formed (keys_of s.held) && distinct (ids_of (keys_of s.held))) h).0)

    clear-delete : 1 ≤ length l → length l ≤ limits.deleted_spis → acceptable i s.least ≡ true → Clear limits s now lent f
    unfolding one not_acceptable
    clear-delete a b c = record {
      no-2 = over-live s now x e k;
      no-3 = record { of_frame = refl; of_member = rw c };
      no-4 = no-4;
      no-5 = no-5 lent a;
      no-6 = no-6;
      no-7 = no-7 e b;
      no-8 = no-8;
      no_9 = no_9;
      no-over = no-over;
    }

    -- the member after it
    abbrev pub deleted : State
    deleted = record { table = table_of limits (old_sas s now f); held = s.held; least = after_id i; profile = s.profile }

    after-delete : After limits s now lent f deleted
    unfolding flat_map insert_all least_afterwards any
    after-delete = record { new = []; enter = no-sa; table = refl; held = refl; least = refl; profile = refl }

    -- taken; then the Rekey SA stands at every tick at which it is not due
    module _ (octets : List ℕ) (g : IsFrame s.profile octets f) (a : 1 ≤ length l) (b : length l ≤ limits.deleted_spis)
        (c : acceptable i s.least ≡ true) where
      pub delete-taken : Outcome limits s now lent octets 0 deleted
      delete-taken = outcome-0 limits s now lent octets f g (clear-delete a b c) deleted after-delete

      pub deleted-stands : (tick : ℕ) (y : Sa) → Memᴰ y (not_due_sas now s) → over_live_rekey x y ≡ true → due tick y ≡ false →
          StandsAt tick x deleted
      unfolding flat_map any
      deleted-stands tick y = accepted-stands limits s now lent f (clear-delete a b c) deleted after-delete refl tick x y

      pub deleted-formed : state_formed limits deleted ≡ true
      deleted-formed = outcome-formed limits s now lent octets 0 deleted delete-taken e

-- ---- the rows
pub least-seven-holds : Says least-seven
unfolding after_id
least-seven-holds s x e n = (
  λ now lent octets k g r y z i.
      rekey-refused s now lent octets g r y e (subst (λ (w : List ℕ). StandsAt now w s) (sym z) k)
      (ap (λ (j : ℕ). acceptable j s.least) i ∙ ap (acceptable 6) n),
  λ now lent octets k w.
      let c = ap (acceptable 7) n in
      record {
        next = deleted s now x 7 w.spis lent e k;
        outcome = delete-taken s now x 7 w.spis lent e k octets w.reads w.some w.few c;
        after = tt;
      },
  λ now lent octets k w.
      let c = ap (acceptable 9) n in
      let formed = deleted-formed s now x 9 w.spis lent e k octets w.reads w.some w.few c in
      let next = deleted s now x 9 w.spis lent e k in
      record {
        next = next;
        outcome = delete-taken s now x 9 w.spis lent e k octets w.reads w.some w.few c;
        after = λ now' lent' octets' k' g r y z i.
            rekey-refused next now' lent' octets' g r y formed (subst (λ (w : List ℕ). StandsAt now' w next) (sym z) k')
            (ap (λ (j : ℕ). acceptable j next.least) i);
      },
)

pub later-refused : (s next : State) (now : ℕ) (lent octets : List ℕ) (f : Frame) → IsFrame s.profile octets f →
    f.header.exchange ≡ 41 →
    f.header.message_id ≡ 4294967295 → new_rekey f ≡ false → Outcome limits s now lent octets 0 next → LaterRefused next f.header.spi
later-refused s next now lent octets f e x i n o l z r quiet now' lent' octets' k g e' x' q =
    let y = f.header.spi in
    let j = g.header.message_id in
    let was = clear-formed limits s now lent f (taken limits s now lent octets f next e o).is-clear in
    let start = outcome-formed limits s now lent octets 0 next o was in
    let formed = last_of limits (λ (m : State). state_formed limits m ≡ true) r (run-formed limits r start) in
    let over = subst (λ (w : List ℕ). StandsAt now' w z) (sym q) k in
    rekey-refused z now' lent' octets' g e' x' formed over
    (all-past-then limits s next now lent octets f e x n o z l r quiet y (stands_live y z now' k) i j j (omega arith))

announces-none : (x : List ℕ) (i : ℕ) (l : List (List ℕ)) → new_rekey (deleting x i l) ≡ false
unfolding any flat_map
announces-none x i l = refl

pub last-id-holds : Says last-id
last-id-holds = record {
  any-frame = later-refused;
  taken = λ s x e c now lent octets k w.
      let o = delete-taken s now x 4294967295 w.spis lent e k octets w.reads w.some w.few c in
      let next = deleted s now x 4294967295 w.spis lent e k in
      let f = deleting x 4294967295 w.spis in
      record {
        next = next;
        outcome = o;
        after = later-refused s next now lent octets f w.reads refl refl (announces-none x 4294967295 w.spis) o;
      };
}
