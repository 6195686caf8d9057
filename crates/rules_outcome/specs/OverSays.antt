-- WHEN THE LAST 7 IS GIVEN, in the customer's words: "Over 128 then is 7, judged after 9" (document 02, T-11). The vocabulary of the
-- theorem `over-then-exactly` (proofs/OverSays.antt). No contract cites this file.
use Rattle.std.specs.Prelude.{ℕ, ◌≤◌, ◌<◌, ◌≡◌, true, not, List, ◌∷◌, ◌++◌, length}
use Rattle.ikev2_numbers.specs.Codes.{gsa_rekey}
use Rattle.lists.specs.Lists.{keep}
use Rattle.state_keys.specs.Limits.{Limits}
use Rattle.wire_policies.specs.Policy.{GroupSaPolicy}
use Rattle.wire_frames.specs.Frame.{Frame}
use Rattle.state.specs.declared.State.{State}
use Rattle.state.specs.declared.held.HeldKey.{HeldKey}
use Rattle.state.specs.Held.{keys_of}
use Rattle.rules_outcome.specs.Holding.{on_path}
use Rattle.rules_outcome.specs.NamedKey.{Carries}
use Rattle.rules_outcome.specs.RestSays.{NewRekey}
use Rattle.rules_outcome.specs.Demand3.{FreshPath}

pub record OverSays (limits : Limits) (s : State) (now : ℕ) (lent : List ℕ) (f : Frame) : Type 0 where
  -- "new tree keys in the multicast rekey", "when their profile is switched on for a member at creation"
  pub profile : s.profile ≡ true
  pub rekey : f.header.exchange ≡ gsa_rekey
  -- "in the Rekey SA's Group Key Bag": the frame announces a Rekey SA
  pub policy : GroupSaPolicy
  pub new : NewRekey f policy
  -- its fresh path is not empty: "an empty fresh path changes nothing"
  pub path : List HeldKey
  pub end : ℕ
  pub fresh : FreshPath limits s now lent f path end
  pub some : 1 ≤ length path
  -- it ends on a held key that is not carried anew. One that ends on the default key is the whole list, and number 7 leaves no frame with
  -- over 128 fresh keys
  pub ahead : List HeldKey
  pub key : HeldKey
  pub behind : List HeldKey
  pub found : keys_of s.held ≡ ahead ++ (key ∷ behind)
  pub ends : key.id ≡ end
  pub not_carried : Carries f end → ⊥
  -- "held keys ahead of that one go, and so does any held key whose ID the fresh path has; the others behind it stay. .. Over 128 then"
  pub over : limits.held_keys < length (path ++ (key ∷ keep (λ (k : HeldKey). not (on_path path k)) behind))
