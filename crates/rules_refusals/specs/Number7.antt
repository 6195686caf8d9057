-- Number 7 is given exactly when: "over 8 ESP policies, 32 WRAP_KEY, 32 SA_KEY in a bag, 32 deleted SPIs in the frame, or over 16 SAs after
-- the frame, those already due when it arrives not counted"; by document 02, T-01, over 24 ESP policies, 128 WRAP_KEY or 64 SAs. The
-- figures are those of the record of limits. Document 02, T-07: a lifetime of "at most 2,000,000 seconds .. More seconds are number 7".
use Rattle.std.specs.Prelude.{ℕ, ◌+◌, List, [], ◌∷◌, Bool, length, ltb}
use Rattle.lists.specs.Lists.{any, count}
use Rattle.state_keys.specs.Limits.{Limits}
use Rattle.state_sa.specs.Entry.{most_seconds}
use Rattle.state.specs.declared.State.{State}
use Rattle.wire_policies.specs.Policy.{GroupSaPolicy}
use Rattle.wire_bags.specs.Bag.{GroupKeyBag}
use Rattle.wire_frames.specs.Frame.{Frame}
use Rattle.rules_refusals.specs.Contents.{announced, group_bags, wrap_keys_of, fresh_keys_of, deleted_spis}
use Rattle.rules_refusals.specs.Fitness.{is_esp}
use Rattle.rules_refusals.specs.Number2.{not_due_sas}

-- "over 8 ESP policies"; T-01: 24
unfoldable pub many_esp_policies : Limits → Frame → Bool
many_esp_policies limits f = ltb limits.esp_policies (count is_esp (announced f))

-- "32 WRAP_KEY"; T-01: 128
unfoldable pub many_wrap_keys : Limits → Frame → Bool
many_wrap_keys limits f = ltb limits.wrap_keys (length (wrap_keys_of f))

-- "32 SA_KEY in a bag"
unfoldable pub many_sa_keys : Limits → Frame → Bool
many_sa_keys limits f = any (λ (b : GroupKeyBag). ltb limits.sa_keys (length b.keys)) (group_bags f)

-- "32 deleted SPIs in the frame"
unfoldable pub many_deleted_spis : Limits → Frame → Bool
many_deleted_spis limits f = ltb limits.deleted_spis (length (deleted_spis f))

-- "More seconds are number 7" (document 02, T-07)
unfoldable pub long_lifetime : Frame → Bool
long_lifetime f = any (λ (p : GroupSaPolicy). any (λ (n : ℕ). ltb most_seconds n) p.key_lifetimes) (announced f)

-- "over 128 gives 7" (document 02, T-11): fresh tree keys, counted as they stand
unfoldable pub many_fresh_keys : Limits → Frame → Bool
many_fresh_keys limits f = ltb limits.fresh_keys (length (fresh_keys_of f))

-- "over 16 SAs after the frame, those already due when it arrives not counted"; T-01: 64. They are those that stand at the tick and those
-- announced
unfoldable pub many_sas : Limits → State → ℕ → Frame → Bool
many_sas limits s now f = ltb limits.sas (length (not_due_sas now s) + length (announced f))

unfoldable pub number7_of_frame : Limits → Frame → List Bool
number7_of_frame limits f =
    many_esp_policies limits f ∷ many_wrap_keys limits f ∷ many_sa_keys limits f ∷ many_deleted_spis limits f ∷ long_lifetime f ∷
    many_fresh_keys limits f ∷ []

unfoldable pub number7_of_member : Limits → State → ℕ → Frame → List Bool
number7_of_member limits s now f = many_sas limits s now f ∷ []
