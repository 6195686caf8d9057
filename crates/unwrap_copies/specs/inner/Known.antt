-- The keys that a copy's KWK ID can name: "key 0 or a reached or held one". A frame's own keys and held ones are lists of keys, so that two
-- lists and key 0 serve every exchange.
use Rattle.std.specs.Prelude.{ℕ, ◌≡◌, List, length}
use Rattle.wire_attributes.specs.Tree.{WrapKey}
use Rattle.rules_chains.specs.Chain.{Root, ChainEnds}
use Rattle.state_keys.specs.Kinds.{value_of}
use Rattle.state_keys.specs.declared.kinds.WrappingKey.{WrappingKey}
use Rattle.state.specs.declared.held.HeldKey.{HeldKey}
use Rattle.unwrap_lending.specs.inner.Named.{octets_named}

-- a Key ID and the value of the key that it names
pub data Known (zero : WrappingKey) (fresh held : List HeldKey) : ℕ → List ℕ → Type 0 where
  key-zero : Known zero fresh held 0 (value_of zero)
  named : (id : ℕ) → (id ≡ 0 → ⊥) → (length (octets_named id fresh held) ≡ 0 → ⊥) → Known zero fresh held id (octets_named id fresh held)

-- chains over these roots and entries end on exactly key 0 (`zero`) and the keys that the two lists name
pub record Agrees (roots : List Root) (entries : List WrapKey) (size : ℕ) (zero : WrappingKey) (fresh held : List HeldKey) : Type 0 where
  pub ends : (k : ℕ) (v : List ℕ) → Known zero fresh held k v → ChainEnds roots entries size k v
  pub known : (k : ℕ) (v : List ℕ) → ChainEnds roots entries size k v → Known zero fresh held k v
