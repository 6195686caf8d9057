-- Samples computed on the definitions: small frames, small members, and the numbers that document 01 gives them.
use mathlib.Core.Path.{◌≡◌, refl}
use Prim.Native.Nat.{ℕ, ◌+◌}
use mathlib.Core.List.{List, [], ◌∷◌, ◌++◌, map, flat_map}
use mathlib.Core.Bool.{Bool, cond}
use lib.Dec.{ltb}
use lib.ListN.{replicate}
use Rattle.octets.specs.Compare.{order_of, less, same}
use Rattle.lists.specs.Lists.{all, any, count, keep, heads, rising}
use Rattle.state_keys.specs.Limits.{Limits, limits, limits_before_t01}
use Rattle.state_keys.specs.Kinds.{rekey_sizes}
use Rattle.state_keys.specs.Algorithms.{is_row_of, needed_in, needed_by, size_of}
use Rattle.state_sa.specs.Clock.{elapsed_at_least}
use Rattle.state_sa.specs.Entry.{sa_before, named, sa_sized, sa_formed, live_rekey, due, esp_sa, rekey_sa}
use Rattle.state_table.specs.Table.{table_of, table_formed, empty_at}
use Rattle.state.specs.Held.{held_of, key_formed, distinct, held_formed}
use Rattle.state.specs.declared.State.{State}
use Rattle.state.specs.State.{new_state, state_formed}
use Rattle.state.proofs.ApartLimits.{apart}
use Rattle.wire_frames.specs.Frame.{Payload}
use Rattle.rules_refusals.specs.Fitness.{multicast, one_group_address, encryption_fits}
use Rattle.rules_refusals.specs.Fitness.{key_wrap_fits, sequence_numbers_fit, authentication_fits}
use Rattle.rules_refusals.specs.Fitness.{exact_transforms, transforms_fit, sum, encryption_octets, key_wrap_octets}
use Rattle.rules_refusals.specs.Number2.{unwanted_member, other_spis}
use Rattle.rules_refusals.specs.Number3.{not_acceptable}
use Rattle.rules_refusals.specs.Number4.{critical_unknown, barred_member_bag, barred_delete, two_gsa}
use Rattle.rules_refusals.specs.Number4.{two_kd, gsa_without_kd, kd_without_gsa, neither}
use Rattle.rules_refusals.specs.Number4.{several_rekey_policies, several_group_wide, several_member_bags}
use Rattle.rules_refusals.specs.Number4.{gsa_without_sa_policy, key_length_twice}
use Rattle.rules_refusals.specs.Number4.{initial_message_id_twice, delay_twice, other_destination, lifetime_twice, number4_of_frame}
use Rattle.rules_refusals.specs.Number5.{ah_policy, ah_bag, other_transforms, delete_of_other, delete_of_none, lent_key_size, number5_of_frame}
use Rattle.rules_refusals.specs.Number6.{policy_unpaired, bag_unpaired, policy_twice, bag_twice}
use Rattle.rules_refusals.specs.Number6.{already_in_table, other_sa_key_count, sa_key_count}
use Rattle.rules_refusals.specs.Number6.{sa_key_id, esp_kwk_id, wrap_key_id, wraps_itself, fresh_key_id, fresh_wraps_itself, number6_of_frame}
use Rattle.rules_refusals.specs.Number6.{number6_of_member}
use Rattle.rules_refusals.specs.Number7.{many_esp_policies, many_wrap_keys, many_sa_keys, many_deleted_spis, long_lifetime, many_sas}
use Rattle.rules_refusals.specs.Number7.{many_fresh_keys, number7_of_frame, number7_of_member}
use Rattle.rules_refusals.specs.Refusals.{Number, one, judged, number2, number4, number5, number6, number7, numbers, refusal}
use Rattle.rules_refusals.proofs.Halves.{frame_half}
use Rattle.rules_refusals.proofs.SampleParts.{live_spi, rekey_suite, group, sa_policy, frame_of, tick, Sample, answer_within}
use Rattle.rules_refusals.proofs.SamplesOf2And3.{samples_of2_and3}
use Rattle.rules_refusals.proofs.SamplesOf4.{samples_of4}
use Rattle.rules_refusals.proofs.SamplesOf5.{samples_of5}
use Rattle.rules_refusals.proofs.SamplesOf6.{samples_of6}
use Rattle.rules_refusals.proofs.SamplesOf7.{samples_of7}
use Rattle.rules_refusals.proofs.SamplesOfFresh.{samples_of_fresh}
use Rattle.rules_refusals.proofs.SamplesOfLimits.{samples_of_limits, samples_before_t01}
use Rattle.rules_refusals.proofs.SamplesOfLifetimes.{samples_of_lifetimes, samples_of_room}
use Rattle.rules_refusals.proofs.SamplesInband.{samples_inband}
use Rattle.rules_refusals.proofs.SamplesAlone.{Alone, alone2, alone4, alone5, alone6, alone7}

-- each has its number, under limits
abbrev pub AnsweredWithin : Limits → List Sample → Type 0
AnsweredWithin limits l = map (answer_within limits) l ≡ map (λ (s : Sample). s.number) l

abbrev pub Answered : List Sample → Type 0
Answered l = AnsweredWithin limits l

-- the places of those that apply, in a list of clauses counted from n
unfoldable pub places_from : ℕ → List Bool → List ℕ
places_from n [] = []
places_from n (b ∷ l) = cond b (n ∷ []) [] ++ places_from (n + 1) l

abbrev clauses_met : Number → List ℕ
clauses_met n = places_from 0 (n.of_frame ++ n.of_member)

-- each has its number, of whose clauses it meets the one that is told and no other
abbrev pub MetAlone : (Sample → Number) → List Alone → Type 0
MetAlone number l =
    Answered (map (λ (a : Alone). a.of) l) ×
    (map (λ (a : Alone). clauses_met (number a.of)) l ≡ map (λ (a : Alone). a.clause ∷ []) l)

abbrev two_of : Sample → Number
two_of s = number2 limits s.state tick s.frame.header.exchange s.frame.header.spi

abbrev number4_of : Sample → Number
number4_of s = number4 s.frame

abbrev number5_of : Sample → Number
number5_of s = number5 (replicate s.lent 0) s.frame

abbrev number6_of : Sample → Number
number6_of s = number6 s.state tick s.frame

abbrev number7_of : Sample → Number
number7_of s = number7 limits s.state tick s.frame

-- the number that it is given by clauses on the frame and the lent key alone
abbrev outside_of : Sample → ℕ
outside_of s = judged (map frame_half (numbers limits s.state tick (replicate s.lent 0) s.frame))

-- the first k clauses of a number, and no others, are on these
abbrev pub ByFrame : ℕ → List Alone → Type 0
ByFrame k l = map (λ (a : Alone). outside_of a.of) l ≡ map (λ (a : Alone). cond (ltb a.clause k) a.of.number 0) l

-- what a claim is made of
pub record Samples : Type 0 where
  pub of-2-and-3 : Answered samples_of2_and3
  pub of-4 : Answered samples_of4
  pub of-5 : Answered samples_of5
  pub of-6 : Answered samples_of6
  pub of-7 : Answered samples_of7
  -- document 02, T-07
  pub of-lifetimes : Answered samples_of_lifetimes
  -- document 02, T-11
  pub of-fresh : Answered samples_of_fresh
  pub of_room : AnsweredWithin apart samples_of_room
  pub of-inband : Answered samples_inband
  -- each clause that can be met alone, in each exchange that can meet it
  pub alone-2 : MetAlone two_of alone2
  pub alone-4 : MetAlone number4_of alone4
  pub alone-5 : MetAlone number5_of alone5
  pub alone-6 : MetAlone number6_of alone6
  pub alone-7 : MetAlone number7_of alone7
  -- of the member are "registration of a non-empty member", GSA_INBAND_REKEY of an empty one, "rekey whose two SPIs are not ..; a member
  -- value that breaks its list" (2), "already in the table" (6) and "over 16 SAs after the frame" (7; T-01: 64)
  pub halves : ByFrame 1 alone2 × ByFrame 17 alone4 × ByFrame 6 alone5 × ByFrame 11 alone6 × ByFrame 6 alone7
  -- under seven figures that differ
  pub of-limits : AnsweredWithin apart samples_of_limits
  -- under document 01's own figures, T-01's "old limits"
  pub before-t01 : AnsweredWithin limits_before_t01 samples_before_t01
  -- GSA_AUTH (39) and GSA_REGISTRATION (40) are answered alike, whatever their payloads
  pub alike : (s : State) (now : ℕ) (lent x : List ℕ) (id : ℕ) (l : List Payload) →
      refusal limits s now lent (frame_of x 39 id l) ≡ refusal limits s now lent (frame_of x 40 id l)
  -- GSA_INBAND_REKEY (42) is answered alike with any SPIs and any Message ID
  pub any-header : (s : State) (now : ℕ) (lent x y : List ℕ) (i j : ℕ) (l : List Payload) →
      refusal limits s now lent (frame_of x 42 i l) ≡ refusal limits s now lent (frame_of y 42 j l)

pub samples-answered : Samples
unfolding refusal judged one any all count keep heads rising new_state state_formed table_formed held_formed table_of held_of key_formed distinct
    sa_formed sa_sized sa_before less same order_of named live_rekey due esp_sa rekey_sa elapsed_at_least rekey_sizes size_of needed_by needed_in is_row_of
    empty_at
    flat_map sum exact_transforms multicast unwanted_member other_spis not_acceptable one_group_address encryption_fits key_wrap_fits
    sequence_numbers_fit
    authentication_fits transforms_fit critical_unknown barred_member_bag barred_delete two_gsa two_kd gsa_without_kd kd_without_gsa neither
    several_rekey_policies several_group_wide several_member_bags gsa_without_sa_policy key_length_twice initial_message_id_twice delay_twice
    other_destination lifetime_twice number4_of_frame ah_policy ah_bag other_transforms delete_of_other delete_of_none lent_key_size number5_of_frame
    policy_unpaired bag_unpaired policy_twice bag_twice already_in_table other_sa_key_count sa_key_count sa_key_id esp_kwk_id wrap_key_id wraps_itself
    fresh_key_id fresh_wraps_itself number6_of_frame number6_of_member many_esp_policies many_wrap_keys many_sa_keys many_deleted_spis long_lifetime
    many_fresh_keys many_sas number7_of_frame number7_of_member
    places_from
samples-answered =
    record {
      of-2-and-3 = refl;
      of-4 = refl;
      of-5 = refl;
      of-6 = refl;
      of-7 = refl;
      of-lifetimes = refl;
      of-fresh = refl;
      of_room = refl;
      of-inband = refl;
      alone-2 = (refl, refl);
      alone-4 = (refl, refl);
      alone-5 = (refl, refl);
      alone-6 = (refl, refl);
      alone-7 = (refl, refl);
      halves = (refl, refl, refl, refl, refl);
      of-limits = refl;
      before-t01 = refl;
      alike = λ s now lent x id l. refl;
      any-header = λ s now lent x y i j l. refl;
    }

-- the octets that a Rekey policy needs: 28 and 24
pub needed-octets :
    (encryption_octets (sa_policy 6 live_spi group rekey_suite []) ≡ 28) × (key_wrap_octets (sa_policy 6 live_spi group rekey_suite []) ≡ 24)
unfolding encryption_octets key_wrap_octets sum needed_by needed_in is_row_of
needed-octets = (refl, refl)
