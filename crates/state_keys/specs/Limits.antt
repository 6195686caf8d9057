-- The limits: document 01's, four of which document 02, T-01, raises: "Raise the table to 64 SAs, ESP policies in a frame to 24, WRAP_KEY
-- entries and the held list to 128." Definitions that speak of a limit take the record as a parameter; the code has the figures of
-- `limits`.
use Rattle.std.specs.Prelude.{ℕ}

pub record Limits : Type 0 where
  -- "a table of at most 16 SAs"; by T-01 64
  pub sas : ℕ
  -- "a held list of at most 32 wrapping keys"; by T-01 128
  pub held_keys : ℕ
  -- number 7: "over 8 ESP policies, 32 WRAP_KEY, 32 SA_KEY in a bag, 32 deleted SPIs in the frame"; by T-01 24 and 128, then 32 and 32
  pub esp_policies : ℕ
  pub wrap_keys : ℕ
  pub sa_keys : ℕ
  pub deleted_spis : ℕ
  -- "over 128 gives 7" (T-11): fresh tree keys in a rekey
  pub fresh_keys : ℕ

abbrev pub limits : Limits
limits = record { sas = 64; held_keys = 128; esp_policies = 24; wrap_keys = 128; sa_keys = 32; deleted_spis = 32; fresh_keys = 128 }

-- document 01's own figures, which are T-01's "old limits", with T-11's for what they do not name. The theorem between the two records
-- (rules_outcome/proofs/Wider) and the samples of these figures (rules_refusals/proofs/SamplesOfLimits) alone cite this one
abbrev pub limits_before_t01 : Limits
limits_before_t01 = record { sas = 16; held_keys = 32; esp_policies = 8; wrap_keys = 32; sa_keys = 32; deleted_spis = 32; fresh_keys = 128 }
