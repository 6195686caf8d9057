-- Samples of GSA_INBAND_REKEY (document 02, T-02): each clause of numbers 2 to 7 that its row moves, met and just not met.
use Prim.Native.Nat.{ℕ, ◌+◌, ◌-◌}
use mathlib.Core.Bool.{false}
use mathlib.Core.List.{List, [], ◌∷◌, map}
use lib.ListN.{replicate}
use Rattle.state_keys.specs.Limits.{limits}
use Rattle.state_sa.specs.Entry.{blank_sa}
use Rattle.state_sa.specs.declared.entry.Condition.TheVariants.{Live}
use Rattle.state.specs.declared.State.{State}
use Rattle.state.specs.declared.least.Least.TheVariants.{Id, NoneAnyMore}
use Rattle.state.specs.Held.{held_of}
use Rattle.wire_frames.specs.Frame.{Content, gsa, kd, unread}
use Rattle.rules_refusals.proofs.SampleParts.{spi, live_spi, next_spi, transform, policy, esp_policy}
use Rattle.rules_refusals.proofs.SampleParts.{rekey_policy, sa_key, wrap_key, bag, esp_bag}
use Rattle.rules_refusals.proofs.SampleParts.{rekey_bag, member_bag, payload, frame_of, inband}
use Rattle.rules_refusals.proofs.SampleParts.{deletes, deletion, esp_at, rekey_at, due_now}
use Rattle.rules_refusals.proofs.SampleParts.{due_later, held_key, member_of, holding, member, fresh, Sample, sample, own}

-- what announces an ESP SA, and what announces a Rekey SA with n copies of its key
abbrev esp : List Content
esp = gsa (esp_policy 1 ∷ []) ∷ kd (esp_bag 1 ∷ []) ∷ []

abbrev rekey : ℕ → List Content
rekey n = gsa (rekey_policy next_spi ∷ []) ∷ kd (rekey_bag next_spi n ∷ []) ∷ []

-- a table that says to have one SA more than it may
abbrev overfull : State
overfull = record {
  table = record { sas = rekey_at Live ∷ replicate (limits.sas - 1) blank_sa; count = limits.sas + 1 };
  held = held_of limits [];
  least = Id 0;
  profile = false;
}

abbrev pub samples_inband : List Sample
samples_inband =
    -- "a fourth exchange": its SPIs and its Message ID are free, below the least acceptable and after "none any more" too
    own (inband esp) 0 ∷
    own (inband (rekey 1)) 0 ∷
    own (frame_of live_spi 42 6 (map payload esp)) 0 ∷
    own (frame_of next_spi 42 4294967295 (map payload esp)) 0 ∷
    sample (member NoneAnyMore) 16 (inband esp) 0 ∷
    -- 2: an empty member, new or with SAs that are all due; one SA that is not due is enough, an ESP SA too
    sample fresh 16 (inband esp) 2 ∷
    sample fresh 16 (inband []) 2 ∷
    sample fresh 15 (inband (rekey 2)) 2 ∷
    sample (member_of (esp_at 9 due_now ∷ rekey_at due_now ∷ []) (Id 0)) 16 (inband esp) 2 ∷
    sample (member_of (esp_at 9 due_later ∷ []) (Id 0)) 16 (inband esp) 0 ∷
    sample (member_of (esp_at 9 Live ∷ []) (Id 0)) 16 (inband (rekey 1)) 0 ∷
    sample (member_of (esp_at 8 due_now ∷ esp_at 9 due_later ∷ []) (Id 0)) 16 (inband (rekey 1)) 0 ∷
    sample (member_of (rekey_at due_later ∷ []) (Id 0)) 16 (inband esp) 0 ∷
    -- 2: a member value that breaks its list; the exchange type beside it
    sample overfull 16 (inband esp) 2 ∷
    sample (holding (rekey_at Live ∷ []) (held_key 0 16 ∷ [])) 16 (inband esp) 2 ∷
    sample (holding (rekey_at Live ∷ []) (held_key 9 16 ∷ [])) 16 (inband esp) 0 ∷
    own (frame_of live_spi 43 9 (map payload esp)) 2 ∷
    -- 4: "A Member bag or D in it", an empty bag too; neither GSA nor KD, and D alone
    own (inband (gsa (esp_policy 1 ∷ []) ∷ kd (esp_bag 1 ∷ member_bag (wrap_key 5 0 ∷ []) ∷ []) ∷ [])) 4 ∷
    own (inband (gsa (esp_policy 1 ∷ []) ∷ kd (member_bag [] ∷ esp_bag 1 ∷ []) ∷ [])) 4 ∷
    own (inband (gsa (esp_policy 1 ∷ []) ∷ kd (esp_bag 1 ∷ []) ∷ deletion ∷ [])) 4 ∷
    own (inband (gsa (esp_policy 1 ∷ []) ∷ kd (esp_bag 1 ∷ []) ∷ deletes 3 [] ∷ [])) 4 ∷
    own (inband (deletion ∷ [])) 4 ∷
    own (inband []) 4 ∷
    own (inband (unread ∷ [])) 4 ∷
    own (inband (gsa (esp_policy 1 ∷ []) ∷ [])) 4 ∷
    -- 5: "the lent key's size as in a registration"; controller authentication in a Rekey policy
    sample (member (Id 7)) 24 (inband esp) 0 ∷
    sample (member (Id 7)) 32 (inband esp) 0 ∷
    sample (member (Id 7)) 0 (inband esp) 5 ∷
    sample (member (Id 7)) 15 (inband esp) 5 ∷
    sample (member (Id 7)) 20 (inband esp) 5 ∷
    own (inband (gsa (policy 6 next_spi (transform 13 2 [] ∷ transform 1 20 (192 ∷ []) ∷ []) ∷ []) ∷ kd (rekey_bag next_spi 1 ∷ []) ∷ [])) 5 ∷
    -- 6: "a Rekey SA has exactly one SA_KEY", under a KWK ID that is not 0 too; an ESP SA's has KWK ID 0
    own (inband (rekey 0)) 6 ∷
    own (inband (rekey 2)) 6 ∷
    own (inband (gsa (esp_policy 1 ∷ []) ∷ kd (bag 3 (spi 1) (sa_key 0 9 ∷ []) ∷ []) ∷ [])) 6 ∷
    own (inband (gsa (esp_policy 1 ∷ []) ∷ kd (bag 3 (spi 1) (sa_key 0 0 ∷ sa_key 0 0 ∷ []) ∷ []) ∷ [])) 6 ∷
    -- 6: the table as it stands at the tick
    own (inband (gsa (rekey_policy live_spi ∷ []) ∷ kd (rekey_bag live_spi 1 ∷ []) ∷ [])) 6 ∷
    sample (member_of (esp_at 1 Live ∷ []) (Id 0)) 16 (inband esp) 6 ∷
    sample (member_of (esp_at 1 due_now ∷ esp_at 9 Live ∷ []) (Id 0)) 16 (inband esp) 0 ∷
    []
