-- THE RULES AS THEY WERE BEFORE FRESH TREE KEYS (document 02, T-11): definitions that see no fresh key, for the theorem that nothing
-- differs where none is read (proofs/AsBefore.antt). "Elsewhere, and with the profile off, the attribute is skipped." No contract cites
-- this file.
use Rattle.std.specs.Prelude.{ℕ, suc, ◌≡◌, Bool, true, false, cond, List, [], ◌∷◌, ◌++◌, map}
use Rattle.state_keys.specs.Limits.{Limits}
use Rattle.wire_frames.specs.Frame.{Frame}
use Rattle.wire_frames.specs.Grammar.{IsFrame}
use Rattle.state_sa.specs.declared.entry.Sa.{Sa}
use Rattle.state_table.specs.Table.{table_of}
use Rattle.state.specs.declared.State.{State}
use Rattle.state.specs.declared.held.Held.{Held}
use Rattle.state.specs.Held.{keys_of, held_of}
use Rattle.rules_refusals.specs.Contents.{row_of, announced, wrap_keys_of}
use Rattle.rules_refusals.specs.Number6.{policy_unpaired, bag_unpaired, policy_twice, bag_twice, sa_key_count, sa_key_id, esp_kwk_id, wrap_key_id}
use Rattle.rules_refusals.specs.Number6.{wraps_itself, number6_of_member}
use Rattle.rules_refusals.specs.Number7.{many_esp_policies, many_wrap_keys, many_sa_keys, many_deleted_spis, long_lifetime, number7_of_member}
use Rattle.rules_refusals.specs.Refusals.{Number, number2, number3, number4, number5}
use Rattle.rules_chains.specs.Chain.{Root}
use Rattle.rules_chains.specs.Refusals.{KeyConflict, KeyMissing}
use Rattle.rules_chains.specs.Path.{KeyPath, Keys}
use Rattle.rules_outcome.specs.Roots.{key_zero_value, held_root, wrapping_size, announced_keys}
use Rattle.rules_outcome.specs.Holding.{new_rekey, rekey_copies, held_from}
use Rattle.rules_outcome.specs.Answer.{RefusalCase, First, by_clauses}
use Rattle.rules_outcome.specs.After.{Enter, insert_all, old_sas, least_afterwards}
use Rattle.rules_outcome.specs.Outcome.{NoTree}

-- numbers 6 and 7 without T-11's clauses
abbrev pub number6_before : State → ℕ → Frame → Number
number6_before s now f = record {
  number = 6;
  of_frame =
      policy_unpaired f ∷ bag_unpaired f ∷ policy_twice f ∷ bag_twice f ∷ sa_key_count f ∷ sa_key_id f ∷ esp_kwk_id f ∷ wrap_key_id f ∷ wraps_itself f
      ∷ [];
  of_member = number6_of_member s now f;
}

abbrev pub number7_before : Limits → State → ℕ → Frame → Number
number7_before limits s now f = record {
  number = 7;
  of_frame = many_esp_policies limits f ∷ many_wrap_keys limits f ∷ many_sa_keys limits f ∷ many_deleted_spis limits f ∷ long_lifetime f ∷ [];
  of_member = number7_of_member limits s now f;
}

module _ (limits : Limits) (s : State) (now : ℕ) (lent : List ℕ) (f : Frame) where
  -- every held key starts chains in a GSA_REKEY; the entries are the WRAP_KEYs
  abbrev pub roots_before : List Root
  roots_before =
      record { id = 0; value = key_zero_value limits s now lent f } ∷ cond (row_of f).names_held_keys (map held_root (keys_of s.held)) []

  -- numbers 2 to 9, in rising order
  abbrev pub conditions_before : List RefusalCase
  conditions_before =
      map by_clauses
      (number2 limits s now f.header.exchange f.header.spi ∷ number3 s f.header.exchange f.header.message_id ∷ number4 f
      ∷ number5 lent f ∷ number6_before s now f ∷ number7_before limits s now f ∷ [])
      ++ (record { number = 8; holds = KeyConflict roots_before (wrap_keys_of f) (wrapping_size limits s now lent f) (announced_keys f) }
      ∷ record { number = 9; holds = KeyMissing roots_before (wrap_keys_of f) (wrapping_size limits s now lent f) (announced_keys f) } ∷ [])

  -- T-04: with a Rekey SA the list is the path, which ends on key 0
  pub record PathHeld (h : Held) : Type 0 where
    pub ids : List ℕ
    pub path : KeyPath roots_before (wrap_keys_of f) (wrapping_size limits s now lent f) (rekey_copies f) ids 0
    pub keys : List Root
    pub are : Keys roots_before (wrap_keys_of f) (wrapping_size limits s now lent f) ids keys
    pub is : h ≡ held_of limits (map held_from keys)

  -- by whether the frame registers and whether it announces a Rekey SA: "a rekey leaves it"
  abbrev pub HeldThen : Bool → Bool → Held → Type 0
  HeldThen true true h = PathHeld h
  HeldThen true false h = h ≡ held_of limits []
  HeldThen false b h = h ≡ s.held

  pub record AfterBefore (next : State) : Type 0 where
    pub new : List Sa
    pub enter : Enter roots_before (wrap_keys_of f) (wrapping_size limits s now lent f) now f (announced f) new
    pub table : next.table ≡ table_of limits (insert_all new (old_sas s now f))
    pub held : HeldThen (row_of f).registers (new_rekey f) next.held
    pub least : next.least ≡ least_afterwards s f
    pub profile : next.profile ≡ s.profile

  pub data JudgedBefore : ℕ → State → Type 0 where
    refused : (n : ℕ) → First conditions_before (suc n) → JudgedBefore (suc n) s
    accepted : (next : State) → First conditions_before 0 → AfterBefore next → JudgedBefore 0 next

-- the layout reads no fresh key
pub data OutcomeBefore (limits : Limits) (s : State) (now : ℕ) (lent octets : List ℕ) : ℕ → State → Type 0 where
  no-layout : NoTree false octets → OutcomeBefore limits s now lent octets 1 s
  by-tree : (f : Frame) {n : ℕ} {next : State} → IsFrame false octets f → JudgedBefore limits s now lent f n next →
      OutcomeBefore limits s now lent octets n next
