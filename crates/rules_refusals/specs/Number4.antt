-- Number 4 is given exactly when: "critical unknown payload; Member bag in a rekey; D in a registration; two GSA or two KD; one without the
-- other; neither (unless a rekey has D); more than one Rekey policy, group-wide policy or Member bag; a GSA with no SA policy; Key Length,
-- GSA_INITIAL_MESSAGE_ID or the deactivation delay twice in one place; a Rekey destination that isn't one address (start equals end) in
-- 224.0.0.0/4 or ff00::/8 and one port". "A Member bag or D in it is number 4" (document 02, T-02, of GSA_INBAND_REKEY). GSA_KEY_LIFETIME
-- "twice in one policy" (document 02, T-07).
use mathlib.Core.List.{List, [], ◌∷◌, flat_map}
use Rattle.std.specs.Prelude.{Bool, not, ◌&&◌, ltb}
use Rattle.lists.specs.Lists.{any, count}
use Rattle.wire_policies.specs.Transform.{Transform}
use Rattle.wire_policies.specs.Policy.{GroupSaPolicy, GroupWidePolicy}
use Rattle.wire_frames.specs.Frame.{Frame, Payload, is_known}
use Rattle.rules_refusals.specs.Contents.{row_of, some, several, has_gsa, has_kd, policies_of_content, group_sa_in, announced}
use Rattle.rules_refusals.specs.Contents.{group_wides}
use Rattle.rules_refusals.specs.Contents.{member_bags, deletes_of}
use Rattle.rules_refusals.specs.Fitness.{is_rekey, one_group_address}

-- "critical unknown payload"
abbrev pub unknown_critical : Payload → Bool
unknown_critical p = p.critical && not (is_known p.kind)

unfoldable pub critical_unknown : Frame → Bool
critical_unknown f = any unknown_critical f.payloads

-- "Member bag in a rekey", of either kind
unfoldable pub barred_member_bag : Frame → Bool
barred_member_bag f = not (row_of f).allows_member_bag && some (member_bags f)

-- "D in a registration"; in GSA_INBAND_REKEY too (T-02)
unfoldable pub barred_delete : Frame → Bool
barred_delete f = not (row_of f).allows_deletes && some (deletes_of f)

-- "two GSA or two KD"
unfoldable pub two_gsa : Frame → Bool
two_gsa f = ltb 1 (count has_gsa f.payloads)

unfoldable pub two_kd : Frame → Bool
two_kd f = ltb 1 (count has_kd f.payloads)

-- "one without the other"
unfoldable pub gsa_without_kd : Frame → Bool
gsa_without_kd f = any has_gsa f.payloads && not (any has_kd f.payloads)

unfoldable pub kd_without_gsa : Frame → Bool
kd_without_gsa f = any has_kd f.payloads && not (any has_gsa f.payloads)

-- "neither (unless a rekey has D)": GSA_REKEY alone may have D
unfoldable pub neither : Frame → Bool
neither f =
    not (any has_gsa f.payloads) && (not (any has_kd f.payloads) && not ((row_of f).allows_deletes && some (deletes_of f)))

-- "more than one Rekey policy, group-wide policy or Member bag"
unfoldable pub several_rekey_policies : Frame → Bool
several_rekey_policies f = ltb 1 (count is_rekey (announced f))

unfoldable pub several_group_wide : Frame → Bool
several_group_wide f = several (group_wides f)

unfoldable pub several_member_bags : Frame → Bool
several_member_bags f = several (member_bags f)

-- "a GSA with no SA policy"
abbrev pub without_sa_policy : Payload → Bool
without_sa_policy p = has_gsa p && not (some (flat_map group_sa_in (policies_of_content p.content)))

unfoldable pub gsa_without_sa_policy : Frame → Bool
gsa_without_sa_policy f = any without_sa_policy f.payloads

-- "Key Length, GSA_INITIAL_MESSAGE_ID or the deactivation delay twice in one place"
abbrev pub twice_in_transform : Transform → Bool
twice_in_transform t = several t.key_lengths

unfoldable pub key_length_twice : Frame → Bool
key_length_twice f = any (λ (p : GroupSaPolicy). any twice_in_transform p.transforms) (announced f)

unfoldable pub initial_message_id_twice : Frame → Bool
initial_message_id_twice f = any (λ (p : GroupSaPolicy). several p.initial_message_ids) (announced f)

unfoldable pub delay_twice : Frame → Bool
delay_twice f = any (λ (w : GroupWidePolicy). several w.deactivation_delays) (group_wides f)

-- "a Rekey destination that isn't one address (start equals end) in 224.0.0.0/4 or ff00::/8 and one port"
unfoldable pub other_destination : Frame → Bool
other_destination f = any (λ (p : GroupSaPolicy). is_rekey p && not (one_group_address p.destination)) (announced f)

-- GSA_KEY_LIFETIME "twice in one policy" (document 02, T-07)
unfoldable pub lifetime_twice : Frame → Bool
lifetime_twice f = any (λ (p : GroupSaPolicy). several p.key_lifetimes) (announced f)

unfoldable pub number4_of_frame : Frame → List Bool
number4_of_frame f =
    critical_unknown f ∷ barred_member_bag f ∷ barred_delete f ∷ two_gsa f ∷ two_kd f ∷ gsa_without_kd f ∷ kd_without_gsa f ∷ neither f ∷
    several_rekey_policies f ∷ several_group_wide f ∷ several_member_bags f ∷ gsa_without_sa_policy f ∷
    key_length_twice f ∷ initial_message_id_twice f ∷ delay_twice f ∷ other_destination f ∷ lifetime_twice f ∷ []
