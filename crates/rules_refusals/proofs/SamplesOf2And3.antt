-- Samples of numbers 2 and 3.
use Prim.Native.Nat.{ℕ}
use mathlib.Core.Bool.{false}
use mathlib.Core.List.{List, [], ◌∷◌, ◌++◌, map}
use lib.ListN.{replicate}
use Rattle.state_keys.specs.Limits.{limits}
use Rattle.state_keys.specs.Kinds.{esp_of, rekey_of}
use Rattle.state_sa.specs.Entry.{esp_sa, rekey_sa}
use Rattle.state_sa.specs.declared.entry.Condition.{Condition}
use Rattle.state_sa.specs.declared.entry.Condition.TheVariants.{Live}
use Rattle.state_sa.specs.declared.entry.Lifetime.TheVariants.{Unlimited}
use Rattle.state_table.specs.Table.{table_of}
use Rattle.state.specs.declared.State.{State}
use Rattle.state.specs.declared.held.HeldKey.{HeldKey}
use Rattle.state.specs.declared.least.Least.TheVariants.{Id, NoneAnyMore}
use Rattle.state.specs.Held.{held_of}
use Rattle.rules_refusals.proofs.SampleParts.{spi, live_spi, next_spi, payload, frame_of, registers, fit, deletion, deleting}
use Rattle.rules_refusals.proofs.SampleParts.{esp_at, rekey_at, due_now, due_later, held_key, member_of}
use Rattle.rules_refusals.proofs.SampleParts.{holding, fresh, member, Sample, sample}
use Rattle.rules_refusals.proofs.SampleParts.{up_to, having, anew, later}

-- a table of 64 places that says to have 65 SAs
abbrev overfull : State
overfull = record {
  table = record { sas = (table_of limits (rekey_at Live ∷ [])).sas; count = 65 };
  held = held_of limits [];
  least = Id 0;
  profile = false;
}

-- Key IDs 1 to n
abbrev keys_to : ℕ → List HeldKey
keys_to n = map (λ (i : ℕ). held_key i 16) (up_to n)

-- an ESP SA with n keying octets beside the live Rekey SA; a Rekey SA in this condition beside another that is live
abbrev with_esp : ℕ → State
with_esp n = member_of (esp_sa (spi 1) (esp_of (replicate n 0)) Unlimited ∷ rekey_at Live ∷ []) (Id 0)

abbrev with_rekey : Condition → State
with_rekey c = member_of (rekey_at c ∷ rekey_sa next_spi (rekey_of (replicate 44 0) 28 16) Unlimited ∷ []) (Id 0)

abbrev pub samples_of2_and3 : List Sample
samples_of2_and3 =
    -- 3: below the least acceptable Message ID; none acceptable. A registration's is not compared
    sample (member (Id 7)) 0 (deleting live_spi 6) 3 ∷
    sample (member (Id 7)) 0 (deleting live_spi 7) 0 ∷
    sample (member (Id 7)) 0 (deleting live_spi 9) 0 ∷
    sample (member NoneAnyMore) 0 (deleting live_spi 9) 3 ∷
    sample (member NoneAnyMore) 0 (deleting live_spi 4294967295) 3 ∷
    sample (member (Id 4294967295)) 0 (deleting live_spi 4294967294) 3 ∷
    sample (member (Id 4294967295)) 0 (deleting live_spi 4294967295) 0 ∷
    sample (member_of [] (Id 7)) 16 (registers fit) 0 ∷
    sample (member_of [] NoneAnyMore) 16 (registers fit) 0 ∷
    sample (member_of [] NoneAnyMore) 16 (frame_of [] 40 0 (map payload fit)) 0 ∷
    -- Message IDs are compared as numbers without a sign
    sample (member (Id 7)) 0 (deleting live_spi 2147483648) 0 ∷
    sample (member (Id 2147483648)) 0 (deleting live_spi 7) 3 ∷
    -- 3 before 4, and 2 before 3
    sample (member (Id 7)) 0 (frame_of live_spi 41 6 []) 3 ∷
    sample (member (Id 7)) 0 (deleting next_spi 6) 2 ∷
    -- 2: other SPIs, in each octet; no live Rekey SA, or one that retires, due or not
    later (deleting next_spi 9) 2 ∷
    later (deleting (8 ∷ replicate 15 7) 9) 2 ∷
    later (deleting (replicate 7 7 ++ 8 ∷ replicate 8 7) 9) 2 ∷
    later (deleting (replicate 15 7 ++ 8 ∷ []) 9) 2 ∷
    sample fresh 0 (deleting live_spi 9) 2 ∷
    sample (member_of (rekey_at due_later ∷ []) (Id 0)) 0 (deleting live_spi 9) 2 ∷
    sample (member_of (rekey_at due_now ∷ []) (Id 0)) 0 (deleting live_spi 9) 2 ∷
    sample (with_rekey due_later) 0 (deleting live_spi 9) 2 ∷
    -- 2: a registration of a member that is not empty; one whose SAs are all due is
    sample (member (Id 0)) 16 (registers fit) 2 ∷
    sample (member_of (esp_at 9 due_later ∷ []) (Id 0)) 16 (registers fit) 2 ∷
    sample (member_of (esp_at 9 due_now ∷ []) (Id 0)) 16 (registers fit) 0 ∷
    sample (member_of (esp_at 8 due_now ∷ esp_at 9 Live ∷ []) (Id 0)) 16 (registers fit) 2 ∷
    sample (member_of (esp_at 8 Live ∷ esp_at 9 due_now ∷ []) (Id 0)) 16 (registers fit) 2 ∷
    sample (member_of (esp_at 9 Live ∷ []) (Id 0)) 16 (frame_of [] 40 0 (map payload fit)) 2 ∷
    -- 2: another exchange than GSA_AUTH 39, GSA_REGISTRATION 40, GSA_REKEY 41 and GSA_INBAND_REKEY 42, and that of a new member
    anew (frame_of [] 0 0 (map payload fit)) 2 ∷
    anew (frame_of [] 38 0 (map payload fit)) 2 ∷
    anew (frame_of [] 39 0 (map payload fit)) 0 ∷
    anew (frame_of [] 40 0 (map payload fit)) 0 ∷
    anew (frame_of [] 42 0 (map payload fit)) 2 ∷
    anew (frame_of [] 43 0 (map payload fit)) 2 ∷
    later (frame_of live_spi 43 9 (payload deletion ∷ [])) 2 ∷
    -- 2: a member value that breaks its list: 65 SAs, falling SPIs, keying octets of a size that nothing needs, two live Rekey SAs
    sample (having 62 Live) 0 (deleting live_spi 9) 0 ∷
    sample (having 63 Live) 0 (deleting live_spi 9) 2 ∷
    sample (having 63 due_now) 0 (deleting live_spi 9) 2 ∷
    sample overfull 0 (deleting live_spi 9) 2 ∷
    sample (member_of (esp_at 9 due_now ∷ esp_at 8 due_now ∷ []) (Id 0)) 16 (registers fit) 2 ∷
    sample (member_of (esp_at 8 due_now ∷ esp_at 9 due_now ∷ []) (Id 0)) 16 (registers fit) 0 ∷
    sample (with_esp 28) 0 (deleting live_spi 9) 0 ∷
    sample (with_esp 24) 0 (deleting live_spi 9) 2 ∷
    sample (with_rekey Live) 0 (deleting next_spi 9) 2 ∷
    sample (with_rekey due_later) 0 (deleting next_spi 9) 0 ∷
    -- the same: 129 held keys, Key ID 0, a value of 20 octets, a Key ID twice; Key IDs need not rise (document 02, T-04)
    sample (holding [] (keys_to 128)) 16 (registers fit) 0 ∷
    sample (holding [] (keys_to 129)) 16 (registers fit) 2 ∷
    sample (holding [] (held_key 0 16 ∷ [])) 16 (registers fit) 2 ∷
    sample (holding [] (held_key 5 20 ∷ [])) 16 (registers fit) 2 ∷
    sample (holding [] (held_key 5 24 ∷ [])) 16 (registers fit) 0 ∷
    sample (holding [] (held_key 5 16 ∷ held_key 5 16 ∷ [])) 16 (registers fit) 2 ∷
    sample (holding [] (held_key 5 16 ∷ held_key 9 32 ∷ held_key 5 16 ∷ [])) 16 (registers fit) 2 ∷
    sample (holding [] (held_key 5 16 ∷ held_key 9 32 ∷ [])) 16 (registers fit) 0 ∷
    sample (holding [] (held_key 9 16 ∷ held_key 5 32 ∷ [])) 16 (registers fit) 0 ∷
    -- in a rekey too, and where another number would be given
    sample (holding (rekey_at Live ∷ []) (held_key 5 24 ∷ [])) 0 (deleting live_spi 9) 0 ∷
    sample (holding (rekey_at Live ∷ []) (held_key 5 20 ∷ [])) 0 (deleting live_spi 9) 2 ∷
    sample (holding [] (held_key 0 16 ∷ [])) 16 (registers (deletion ∷ fit)) 2 ∷
    sample overfull 16 (registers (deletion ∷ fit)) 2 ∷
    []
