-- A list of all keys that are reached: the keys under which the copies of a registration are opened. Inner.
use Rattle.std.specs.Prelude.{ℕ, ◌≡◌, true, List}
use Rattle.lists.specs.Lists.{rising}
use Rattle.state_keys.specs.Limits.{Limits}
use Rattle.state_keys.specs.Kinds.{wrapping_of}
use Rattle.wire_attributes.specs.Tree.{WrapKey}
use Rattle.state.specs.declared.held.HeldKey.{HeldKey}
use Rattle.state.specs.declared.held.Held.{Held}
use Rattle.state.specs.Held.{held_of}
use Rattle.state.specs.inner.Entering.{id_before}
use Rattle.rules_chains.specs.Chain.{In, Root}
use Rattle.rules_chains.specs.Refusals.{Value}

module _ (roots : List Root) (entries : List WrapKey) (size : ℕ) where
  -- key `k` has the value that every chain ending on its Key ID gives, and there is at least one such chain
  pub record HoldsKey (k : HeldKey) : Type 0 where
    pub x : List ℕ
    pub key-is : k.key ≡ wrapping_of x
    pub value : Value roots entries size k.id x

  -- exactly the Key IDs to which a chain of one or more entries leads, each once, rising, with the value that every chain ending on it
  -- gives
  pub record HeldAre (limits : Limits) (h : Held) : Type 0 where
    pub keys : List HeldKey
    pub is : h ≡ held_of limits keys
    pub rise : rising id_before keys ≡ true
    pub each : (k : HeldKey) → In k keys → HoldsKey k
    pub all : (i : ℕ) (x : List ℕ) → Value roots entries size i x → In (record { id = i; key = wrapping_of x }) keys
