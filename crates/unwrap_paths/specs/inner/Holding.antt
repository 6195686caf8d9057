-- The keys of a path as a held list has them, and the list that it leaves. Inner.
use Rattle.std.specs.Prelude.{ℕ, ◌≤◌, ◌<◌, ◌≡◌, true, false, List, length}
use Rattle.octets.specs.Numbers.{oct}
use Rattle.wire_attributes.specs.Tree.{WrapKey, SaKey}
use Rattle.rules_chains.specs.Chain.{Root}
use Rattle.state_keys.specs.Limits.{limits}
use Rattle.state.specs.Held.{held_key, held_of}
use Rattle.state.specs.declared.held.HeldKey.{HeldKey}
use Rattle.state.specs.declared.held.Held.{Held}
use Rattle.rules_outcome.specs.Holding.{path_before, HoldsPath, OverHeld}
use Rattle.unwrap_paths.specs.declared.back.Trail.{Trail}
use Rattle.unwrap_paths.specs.declared.held.PathHeld.{PathHeld}
use Rattle.state_keys.specs.Kinds.{key_or_blank}

-- the key of the entry at place i: its Key ID is among `ids`, and its value is that of the reached key
abbrev pub held_at : List ℕ → Held → ℕ → HeldKey
held_at ids reached i = record { id = oct ids i; key = key_or_blank (held_key limits (oct ids i) reached) }

-- a trail with places that links have
pub record TrailFits (trail : Trail) : Type 0 where
  pub few : trail.count ≤ limits.wrap_keys
  pub inside : (i : ℕ) → i < trail.count → oct trail.places i < limits.wrap_keys

-- `r` is the list of the path before those of the old keys that stay, or says that it is longer than a held list may be
pub record GoesBefore (path : List HeldKey) (end : ℕ) (old : List HeldKey) (r : PathHeld) : Type 0 where
  pub kept : r.over ≡ false → r.held ≡ held_of limits (path_before path end old)
  pub few : r.over ≡ false → r.held.count ≤ limits.held_keys
  pub beyond : r.over ≡ true → limits.held_keys < length (path_before path end old)

-- `r` is the held list that follows `old` by the path of these copies, or says that it is over its limit
pub record PathTells (roots : List Root) (l : List WrapKey) (size : ℕ) (copies : List SaKey) (old : Held) (r : PathHeld) : Type 0 where
  pub kept : r.over ≡ false → HoldsPath roots l size limits copies old r.held
  pub few : r.over ≡ false → r.held.count ≤ limits.held_keys
  pub beyond : r.over ≡ true → OverHeld roots l size limits true copies old
