-- The theorems that docs/CLAIMS.md cites under "Document 02: T-04, the held list is the working key path".
use Prim.Native.Nat.{ℕ, ◌≤◌}
use mathlib.Core.Bool.{Bool, true, false}
use mathlib.Core.List.{List, Memᴰ}
use mathlib.Core.Logic.{◌⊎◌}
use mathlib.Core.Path.{◌≡◌}
use lib.Dec.{T, eqb}
use lib.ListN.{length}
use Rattle.fips197.specs.Key.{Key, is_key}
use Rattle.wire_attributes.specs.Tree.{WrapKey, SaKey}
use Rattle.state_keys.specs.Algorithms.{is_wrapping_size}
use Rattle.state_keys.specs.Limits.{Limits}
use Rattle.lists.specs.Lists.{any}
use Rattle.state.specs.Held.{held_formed}
use Rattle.state.specs.declared.held.Held.{Held}
use Rattle.rules_chains.specs.Chain.{In, Root, CopyOpens}
use Rattle.rules_chains.specs.Path.{Opener, KeyPath, Keys}
use Rattle.rules_chains.specs.Refusals.{EntriesConflict}
use Rattle.rules_chains.proofs.SomePath.{Exists}
use Rattle.rules_chains.proofs.WorkingPath.{Distinct, Valued}
use Rattle.rules_outcome.specs.Holding.{HeldNext}
use Rattle.rules_chains.proofs.OnePath as ofOnePath
use Rattle.rules_chains.proofs.SomePath as ofSomePath
use Rattle.rules_chains.proofs.WorkingPath as ofWorkingPath
use Rattle.rules_outcome.proofs.Determined as ofDetermined
use Rattle.rules_outcome.proofs.PathSome as ofPathSome
use Rattle.rules_outcome.proofs.RunsHeld as ofRunsHeld
pub use Rattle.rules_chains.proofs.PathSamples.{written_back, smaller, path-smallest, smallest-alone, path-fewest, path-falling}
pub use Rattle.rules_chains.proofs.PathSamples.{path_empty, path-of-any}

pub path-one : (roots : List Root) (entries : List WrapKey) (size : ℕ) (copies : List SaKey) (ids other : List ℕ)
    (end last : ℕ) → KeyPath roots entries size copies ids end → KeyPath roots entries size copies other last → (ids ≡ other) × (end ≡ last)
path-one = ofOnePath.path-one

pub keys-one : (roots : List Root) (entries : List WrapKey) (size : ℕ) (ids : List ℕ) (l m : List Root) →
    Keys roots entries size ids l → Keys roots entries size ids m → l ≡ m
keys-one = ofOnePath.keys-one

pub held_one : (roots : List Root) (entries : List WrapKey) (size : ℕ) (limits : Limits) (b : Bool) (copies : List SaKey)
    (old h k : Held) → HeldNext roots entries size limits b copies old h → HeldNext roots entries size limits b copies old k → h ≡ k
held_one = ofDetermined.held_one

pub path-distinct : (roots : List Root) (entries : List WrapKey) (size : ℕ) (none : EntriesConflict roots entries size → ⊥)
    (copies : List SaKey) (ids : List ℕ) (end : ℕ) → KeyPath roots entries size copies ids end → Distinct ids
path-distinct = ofWorkingPath.path-distinct

pub path-nonzero : (roots : List Root) (entries : List WrapKey) (size : ℕ) (copies : List SaKey) (ids : List ℕ)
    (end : ℕ) → KeyPath roots entries size copies ids end → ((e : WrapKey) → In e entries → e.key_id ≡ 0 → ⊥) → Memᴰ 0 ids → ⊥
path-nonzero = ofWorkingPath.path-nonzero

pub path-fits : (roots : List Root) (entries : List WrapKey) (size : ℕ) (none : EntriesConflict roots entries size → ⊥)
    (copies : List SaKey) (ids : List ℕ) (end : ℕ) → KeyPath roots entries size copies ids end → length ids ≤ length entries
path-fits = ofWorkingPath.path-fits

pub keys-exist : (roots : List Root) (entries : List WrapKey) (size : ℕ) (none : EntriesConflict roots entries size → ⊥)
    (copies : List SaKey) (ids : List ℕ) (end : ℕ) → KeyPath roots entries size copies ids end → Valued roots entries size none ids
keys-exist = ofWorkingPath.keys-exist

pub path-exists : (roots : List Root) (entries : List WrapKey) (size : ℕ) (copies : List SaKey) (is-size : T (is_key size))
    (root-keys : (r : Root) → In r roots → Key r.value) (none : EntriesConflict roots entries size → ⊥) (x : List ℕ) →
    CopyOpens roots entries size copies x → Exists roots entries size copies is-size root-keys none
path-exists = ofSomePath.path-exists

pub path-some : (roots : List Root) (entries : List WrapKey) (size : ℕ) (copies : List SaKey) (q : List WrapKey) →
    Opener roots entries size copies q → ((ids : List ℕ) (end : ℕ) → KeyPath roots entries size copies ids end → ⊥) → ⊥
path-some = ofPathSome.path-some

pub next-formed : (limits : Limits) (roots : List Root) (entries : List WrapKey) (size : ℕ) (copies : List SaKey) (old h : Held)
    (fits : (size ≡ 0) ⊎ (is_wrapping_size size ≡ true)) (none : EntriesConflict roots entries size → ⊥)
    (no_zero : any (λ (k : WrapKey). eqb k.key_id 0) entries ≡ false) (was : held_formed limits old ≡ true) (b : Bool) →
    HeldNext roots entries size limits b copies old h → h.count ≤ limits.held_keys → held_formed limits h ≡ true
next-formed = ofRunsHeld.next-formed
