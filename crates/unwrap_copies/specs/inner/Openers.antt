-- The KWK IDs of the copies that open. Document 02, T-11: "The path rule of T-04 applies over all copies". Inner.
use Rattle.std.specs.Prelude.{ℕ, ◌+◌, ◌<◌, ◌≤◌, ◌≡◌, List, [], ◌∷◌, ◌++◌, length, take}
use Rattle.state_keys.specs.Limits.{limits}
use Rattle.rfc5649.specs.Opens as rfc5649
use Rattle.wire_attributes.specs.Tree.{SaKey, WrapKey}
use Rattle.rules_chains.specs.Chain.{In, Root, ChainEnds}
use Rattle.rules_chains.specs.Refusals.{Announced}
use Rattle.unwrap_copies.specs.inner.Answer.{CopyAnswers}
use Rattle.unwrap_copies.specs.declared.answer.CopyFound.{CopyFound}
use Rattle.unwrap_copies.specs.declared.answer.CopyFound.TheVariants.{Key}
use Rattle.unwrap_copies.specs.declared.answer.Openers.{Openers}
use Rattle.unwrap_copies.specs.declared.answer.Copied.{Copied}

-- the KWK IDs that `o` lists
abbrev pub openers_of : Openers → List ℕ
openers_of o = take o.count o.ids

-- `r` is `o` with the KWK ID `kwk` of a copy, if the result `found` of the copy says that it opened and the list is not full
pub record Noted (found : CopyFound) (kwk : ℕ) (o r : Openers) : Type 0 where
  pub listed : found ≡ Key → o.count < limits.sa_keys → openers_of r ≡ openers_of o ++ (kwk ∷ [])
  pub full : found ≡ Key → limits.sa_keys ≤ o.count → r ≡ o
  pub kept : (found ≡ Key → ⊥) → r ≡ o
  pub few : r.count ≤ o.count + 1

module _ (roots : List Root) (entries : List WrapKey) (size : ℕ) where
  -- copy `c` opens under the key that its KWK ID names
  pub record OneOpens (c : SaKey) : Type 0 where
    pub value : List ℕ
    pub named : ChainEnds roots entries size c.kwk_id value
    pub octets : List ℕ
    pub opens : rfc5649.Opens value c.wrapped octets

  -- `ids` are the KWK IDs of those of `copies` that open
  pub record OpenersAre (copies : List SaKey) (ids : List ℕ) : Type 0 where
    pub each : (i : ℕ) → In i ids → (c : SaKey) × In c copies × OneOpens c × (c.kwk_id ≡ i)
    pub all : (c : SaKey) → In c copies → OneOpens c → In c.kwk_id ids

  -- the result for the copies of an announced SA. If its key is known, the openers are listed: number 7 leaves no more copies than the list
  -- takes
  pub record CopiesAnswer (a : Announced) (r : Copied) : Type 0 where
    pub answers : CopyAnswers roots entries size a r.opened
    pub openers : r.opened.found ≡ Key → length a.copies ≤ limits.sa_keys → OpenersAre a.copies (openers_of r.openers)
