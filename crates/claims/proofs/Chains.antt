-- The theorems that docs/CLAIMS.md cites under "Document 01: which keys a chain reaches".
use Prim.Native.Nat.{ℕ, ◌≤◌, ◌*◌, ◌+◌}
use mathlib.Core.List.{List}
use mathlib.Core.Logic.{◌↔◌, ◌⊎◌}
use mathlib.Core.Path.{◌≡◌}
use lib.ListN.{length}
use Rattle.octets.specs.Octets.{Octets}
use Rattle.fips197.specs.Key.{Key}
use Rattle.rfc5649.specs.Opens.{Opens}
use Rattle.rfc5649.specs.Wrap.{wrap_of, blocks}
use Rattle.wire_attributes.specs.Tree.{WrapKey, SaKey}
use Rattle.wire_policies.specs.Policy.{GroupSaPolicy, group_sa}
use Rattle.wire_bags.specs.Bag.{GroupKeyBag, group_keys}
use Rattle.wire_frames.specs.Frame.{Frame}
use Rattle.rules_refusals.specs.Contents.{announced, group_bags, deleted_spis}
use Rattle.rules_chains.specs.Chain.{In, Root, Reached, ChainEnds, CopyOpens}
use Rattle.rules_chains.specs.Refusals.{EntriesConflict}
use Rattle.rules_outcome.specs.Stands.{HasPolicy, HasBag, HasSpi}
use Rattle.rules_outcome.proofs.Stands as ofStands
use Rattle.rules_chains.proofs.Closure as ofClosure
use Rattle.rules_chains.proofs.Faults as ofFaults
use Rattle.rfc5649.proofs.Wrapping as ofWrapping
pub use Rattle.rules_chains.proofs.Faults.{copy-no-fault}

pub announced-are : (f : Frame) (p : GroupSaPolicy) → In p (announced f) ↔ HasPolicy f (group_sa p)
announced-are = ofStands.announced-are

pub group-bags-are : (f : Frame) (b : GroupKeyBag) → In b (group_bags f) ↔ HasBag f (group_keys b)
group-bags-are = ofStands.group-bags-are

pub deleted-are : (f : Frame) (x : List ℕ) → In x (deleted_spis f) ↔ HasSpi f x
deleted-are = ofStands.deleted-are

pub reached-first : (roots : List Root) (entries : List WrapKey) (size : ℕ) (r : Root) → In r roots → (e : WrapKey) → In e entries →
    e.kwk_id ≡ r.id → (x : List ℕ) → Opens r.value e.wrapped x → Reached roots entries size e.key_id x
reached-first = ofClosure.reached-first

pub reached-on : (roots : List Root) (entries : List WrapKey) (size : ℕ) (k : ℕ) (v : List ℕ) → Reached roots entries size k v →
    length v ≡ size → (e : WrapKey) → In e entries → e.kwk_id ≡ k → (x : List ℕ) → Opens v e.wrapped x →
    Reached roots entries size e.key_id x
reached-on = ofClosure.reached-on

pub reached-least : (roots : List Root) (entries : List WrapKey) (size : ℕ) (P : ℕ → List ℕ → Type 0) (first : (r : Root) → In r roots → (e
    : WrapKey) → In e entries → e.kwk_id ≡ r.id → (x : List ℕ) → Opens r.value e.wrapped x → P e.key_id x) (on : (k : ℕ) (v : List
    ℕ) → P k v → length v ≡ size → (e : WrapKey) → In e entries → e.kwk_id ≡ k → (x : List ℕ) → Opens v e.wrapped x → P e.key_id x)
    (k : ℕ) (x : List ℕ) → Reached roots entries size k x → P k x
reached-least = ofClosure.reached-least

pub leads-nowhere : (roots : List Root) (size : ℕ) (entries more : List WrapKey) (added : WrapKey)
    (adds : (e : WrapKey) → In e more ↔ ((e ≡ added) ⊎ In e entries))
    (fails : (v x : List ℕ) → ChainEnds roots entries size added.kwk_id v → Opens v added.wrapped x → ⊥) (k : ℕ) (x : List ℕ) →
    Reached roots more size k x ↔ Reached roots entries size k x
leads-nowhere = ofFaults.leads-nowhere

pub entry-no-fault : (roots : List Root) (size : ℕ) (entries more : List WrapKey) (added : WrapKey)
    (adds : (e : WrapKey) → In e more ↔ ((e ≡ added) ⊎ In e entries))
    (fails : (v x : List ℕ) → ChainEnds roots entries size added.kwk_id v → Opens v added.wrapped x → ⊥) →
    EntriesConflict roots more size ↔ EntriesConflict roots entries size
entry-no-fault = ofFaults.entry-no-fault

pub opens-nothing : (roots : List Root) (size : ℕ) (entries : List WrapKey) (copies more : List SaKey) (need : ℕ) (added : SaKey)
    (adds : (c : SaKey) → In c more ↔ ((c ≡ added) ⊎ In c copies))
    (fails : (v x : List ℕ) → ChainEnds roots entries size added.kwk_id v → Opens v added.wrapped x → ⊥) (x : List ℕ) →
    CopyOpens roots entries size more x ↔ CopyOpens roots entries size copies x
opens-nothing = ofFaults.opens-nothing

pub length-wrap : (key x : List ℕ) → Key key → Octets x → 1 ≤ length x → length x ≤ 256 →
    length (wrap_of key x) ≡ 8 * (blocks (length x) + 1)
length-wrap = ofWrapping.length-wrap
