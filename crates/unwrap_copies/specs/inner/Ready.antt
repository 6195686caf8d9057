-- The key that a KWK ID names, ready to open copies. Inner.
use Rattle.std.specs.Prelude.{ℕ, ◌≡◌, List, [], ◌∷◌, Option, Some, None}
use Rattle.aes.specs.inner.Schedule.{ExpandsInverse, ExpandedInverse}
use Rattle.aes.specs.declared.InverseSchedule.{InverseSchedule}
use Rattle.wire_attributes.specs.Tree.{SaKey}
use Rattle.state.specs.declared.held.HeldKey.{HeldKey}
use Rattle.unwrap_copies.specs.inner.Named.{try_of, try_for}
use Rattle.unwrap_copies.specs.declared.ready.ReadyKey.{ReadyKey}

-- a schedule that is known is that of some key
abbrev pub IsExpanded : Option InverseSchedule → Type 0
IsExpanded (Some s) = ExpandedInverse s.words
IsExpanded None = Unit {0}

module _ (v : List ℕ) (new old : List HeldKey) where
  -- a copy with this KWK ID is tried under the key of value x
  abbrev pub TriedUnder : ℕ → List ℕ → Type 0
  TriedUnder id x = (c : SaKey) → c.kwk_id ≡ id → try_for v new old c ≡ try_of x c ∷ []

  -- a copy with this KWK ID is not tried
  abbrev pub Untried : ℕ → Type 0
  Untried id = (c : SaKey) → c.kwk_id ≡ id → try_for v new old c ≡ []

  -- k is the key that its KWK ID names: its schedule is that of the key under which a copy with this ID is tried, and where there is no
  -- such key, it has none
  pub record IsReady (k : ReadyKey) : Type 0 where
    pub known : (s : InverseSchedule) → k.schedule ≡ Some s → (x : List ℕ) × ExpandsInverse x s.words × TriedUnder k.id x
    pub none : k.schedule ≡ None → Untried k.id
