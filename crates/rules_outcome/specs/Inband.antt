-- REKEYS OVER THE MEMBER'S OWN CHANNEL (document 02, T-02): the vocabulary of its theorems (proofs/Inband.antt). No contract cites this
-- file.
use Rattle.std.specs.Prelude.{ℕ, ◌≡◌, ◌⊎◌, List}
use Rattle.rfc5649.specs.Opens.{Opens}
use Rattle.state_keys.specs.Limits.{Limits}
use Rattle.wire_attributes.specs.Tree.{SaKey}
use Rattle.wire_policies.specs.Policy.{GroupSaPolicy}
use Rattle.wire_frames.specs.Frame.{Frame}
use Rattle.state.specs.declared.State.{State}
use Rattle.rules_outcome.specs.Outcome.{Outcome}
use Rattle.rules_outcome.specs.NamedKey.{InOwnBag}

-- "Its key 0 is the lent key; held keys, in demand 3 too, are for GSA_REKEY only": an SA_KEY of the policy's own Group Key Bag names KWK ID
-- 0 and opens under the lent key
pub record UnderLent (lent : List ℕ) (f : Frame) (a : GroupSaPolicy) (x : List ℕ) : Type 0 where
  pub copy : SaKey
  pub own : InOwnBag f a copy
  pub names-zero : copy.kwk_id ≡ 0
  pub opens : Opens lent copy.wrapped x

-- Member `s` answered a frame of this exchange with `n` and became `next`. Another member `t` gives the same answer to it and has the same
-- table afterwards. "The held list stays. The least Message ID changes only if a new Rekey SA comes.": each member keeps its own least
-- Message ID, or both have the new Rekey SA's.
pub record Beside (limits : Limits) (s t : State) (now : ℕ) (lent octets : List ℕ) (n : ℕ) (next : State) : Type 0 where
  pub after : State
  pub outcome : Outcome limits t now lent octets n after
  pub table : after.table ≡ next.table
  pub held : (next.held ≡ s.held) × (after.held ≡ t.held)
  pub least : ((next.least ≡ s.least) × (after.least ≡ t.least)) ⊎ (after.least ≡ next.least)
