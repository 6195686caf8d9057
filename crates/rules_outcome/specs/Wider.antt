-- Document 02, T-01: "Frames not refused for room keep their answers, on any member within the old limits." The words of that sentence,
-- over any two records of limits. "Refused for room" is number 7. No contract cites this file.
use Rattle.std.specs.Prelude.{ℕ, ◌≤◌, ◌≡◌, List}
use Rattle.state_keys.specs.Limits.{Limits}
use Rattle.state_table.specs.Table.{sas_of, table_of}
use Rattle.state.specs.declared.State.{State}
use Rattle.state.specs.Held.{keys_of, held_of}
use Rattle.rules_outcome.specs.Outcome.{Outcome}

-- limits `b` allow at least what limits `a` allow
pub record Wider (a b : Limits) : Type 0 where
  pub sas : a.sas ≤ b.sas
  pub held_keys : a.held_keys ≤ b.held_keys
  pub esp_policies : a.esp_policies ≤ b.esp_policies
  pub wrap_keys : a.wrap_keys ≤ b.wrap_keys
  pub sa_keys : a.sa_keys ≤ b.sa_keys
  pub deleted_spis : a.deleted_spis ≤ b.deleted_spis
  pub fresh_keys : a.fresh_keys ≤ b.fresh_keys

-- "any member within the old limits": its two counts are within `limits`. It need not keep its list otherwise
pub record Within (limits : Limits) (s : State) : Type 0 where
  pub sas : s.table.count ≤ limits.sas
  pub held_keys : s.held.count ≤ limits.held_keys

-- `s` and `t` are the same member: the same SAs, held keys, least Message ID and profile. Their unused places may differ, in content and
-- in number
pub record SameMember (s t : State) : Type 0 where
  pub sas : sas_of s.table ≡ sas_of t.table
  pub sa-count : s.table.count ≡ t.table.count
  pub keys : keys_of s.held ≡ keys_of t.held
  pub key-count : s.held.count ≡ t.held.count
  pub least : s.least ≡ t.least
  pub profile : s.profile ≡ t.profile

-- member `s` with as many places as `limits` give it
abbrev pub in_places : Limits → State → State
in_places limits s = record {
  table = table_of limits (sas_of s.table);
  held = held_of limits (keys_of s.held);
  least = s.least;
  profile = s.profile;
}

-- under `limits`, member `t` gives the answer `n` and is afterwards the same member as `next`
pub record AnswerKept (limits : Limits) (t : State) (now : ℕ) (lent octets : List ℕ) (n : ℕ) (next : State) : Type 0 where
  pub then : State
  pub outcome : Outcome limits t now lent octets n then
  pub same : SameMember next then

-- THE SENTENCE, of two records of limits: where the outcome under the first is not 7, the outcome of the same member under the second has
-- the same number and the same member afterwards
abbrev pub AnswersKept : Limits → Limits → Type 0
AnswersKept a b =
    (s t : State) → Within a s → SameMember s t → (now : ℕ) (lent octets : List ℕ) (n : ℕ) (next : State) →
    Outcome a s now lent octets n next → (n ≡ 7 → ⊥) → AnswerKept b t now lent octets n next
