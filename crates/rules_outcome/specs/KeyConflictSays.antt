-- NUMBER 8 IN THE CUSTOMER'S WORDS: "a reached wrapping opens to a wrong size, or two reached ones give one key two values"; "in number 8
-- they [the copies] count as reached wrappings of that SA's key". No contract cites this file: number 8 is given exactly then
-- (proofs/KeyConflictSays.antt).
use Rattle.std.specs.Prelude.{ℕ, ◌≡◌, List, length}
use Rattle.ikev2_numbers.specs.Codes.{gsa_rekey}
use Rattle.state_keys.specs.Limits.{Limits}
use Rattle.wire_policies.specs.Policy.{GroupSaPolicy}
use Rattle.wire_frames.specs.Frame.{Frame}
use Rattle.state.specs.declared.State.{State}
use Rattle.rules_refusals.specs.Contents.{announced}
use Rattle.rules_chains.specs.Chain.{In}
use Rattle.rules_outcome.specs.Roots.{own_key_of, need_of}
use Rattle.rules_outcome.specs.NamedKey.{Registration, Given, FreshGiven, OpensUnder}

pub data KeyConflictSays (limits : Limits) (s : State) (now : ℕ) (lent : List ℕ) (f : Frame) : Type 0 where
  -- a wrapping key of another size than the lent default key
  key-of-wrong-size : Registration f → (k : ℕ) (x : List ℕ) → Given lent f k x → (length x ≡ length lent → ⊥) →
      KeyConflictSays limits s now lent f
  key-of-two-values : Registration f → (k : ℕ) (x y : List ℕ) → Given lent f k x → Given lent f k y → (x ≡ y → ⊥) →
      KeyConflictSays limits s now lent f
  -- a fresh tree key of another size than the Rekey SA's default key (T-11); a held key of that Key ID has no say
  fresh-of-wrong-size : f.header.exchange ≡ gsa_rekey → (k : ℕ) (x : List ℕ) → FreshGiven limits s now lent f k x →
      (length x ≡ length (own_key_of limits s now) → ⊥) → KeyConflictSays limits s now lent f
  fresh-of-two-values : f.header.exchange ≡ gsa_rekey → (k : ℕ) (x y : List ℕ) → FreshGiven limits s now lent f k x →
      FreshGiven limits s now lent f k y → (x ≡ y → ⊥) → KeyConflictSays limits s now lent f
  -- an announced SA's key with other octets than its policy needs
  sa-of-wrong-size : (a : GroupSaPolicy) → In a (announced f) → (x : List ℕ) → OpensUnder limits s now lent f a x →
      (length x ≡ need_of a → ⊥) → KeyConflictSays limits s now lent f
  sa-of-two-values : (a : GroupSaPolicy) → In a (announced f) → (x y : List ℕ) → OpensUnder limits s now lent f a x →
      OpensUnder limits s now lent f a y → (x ≡ y → ⊥) → KeyConflictSays limits s now lent f
