-- THE KEYS OF THE PATH by which a held list follows another: their Key IDs are the path's and distinct, each has its value, and there are
-- at most as many as entries.
use native.Mathlib.Omega.{arith}
use Prim.Native.Nat.{ℕ, ◌≤◌}
use mathlib.Core.Path.{◌≡◌, refl, ap, sym, ◌∙◌, subst}
use mathlib.Core.Bool.{true}
use mathlib.Core.Logic.{⊎_elim}
use mathlib.Core.List.Memᴰ
use mathlib.Core.List.{List, [], ◌∷◌, map, Memᴰ}
use lib.ListN.{length, length-map}
use Rattle.state_keys.specs.Limits.{Limits}
use Rattle.state_keys.specs.Kinds.{wrapping_of}
use Rattle.wire_attributes.specs.Tree.{SaKey, WrapKey}
use Rattle.state.specs.declared.held.HeldKey.{HeldKey}
use Rattle.state.specs.declared.held.Held.{Held}
use Rattle.state.specs.Held.{keys_of, held_of, ids_of, distinct}
use Rattle.state.proofs.Kept.{keys-of-held}
use Rattle.rules_chains.specs.Chain.{Root}
use Rattle.rules_chains.specs.Refusals.{EntriesConflict, Value}
use Rattle.rules_chains.specs.Path.{Keys, no_key, one_more}
use Rattle.rules_chains.proofs.WorkingPath.{path-distinct, path-fits}
use Rattle.rules_outcome.specs.Holding.{held_from, path_before, held_by_path, HoldsPath}
use Rattle.rules_outcome.proofs.PathBefore.{distinct-is, before-none}

-- a registration's list starts empty, so that it is the path (T-04)
pub from-none : (limits : Limits) (path : List HeldKey) (end : ℕ) → held_by_path limits path end (held_of limits []) ≡ held_of limits path
from-none limits [] end = refl
from-none limits (k ∷ path) end =
    ap (held_of limits)
    (ap (path_before (k ∷ path) end) (keys-of-held limits []) ∙ before-none (k ∷ path) end)

module _ (roots : List Root) (entries : List WrapKey) (size : ℕ) where
  -- held key `k` has the value that every chain ending on its Key ID gives, and there is such a chain
  pub record HoldsKey (k : HeldKey) : Type 0 where
    pub x : List ℕ
    pub key-is : k.key ≡ wrapping_of x
    pub value : Value roots entries size k.id x

  keys-ids : (ids : List ℕ) (keys : List Root) → Keys roots entries size ids keys → ids_of (map held_from keys) ≡ ids
  keys-ids _ _ no_key = refl
  keys-ids _ _ (one_more {i = i} {l = l} {x = x} {m = m} v k) = ap (λ (n : List ℕ). i ∷ n) (keys-ids l m k)

  each-key : (ids : List ℕ) (keys : List Root) → Keys roots entries size ids keys → (k : HeldKey) → Memᴰ k (map held_from keys) →
      HoldsKey k
  each-key _ _ no_key k n = absurd (Memᴰ.not-nil n)
  each-key _ _ (one_more {i = i} {l = l} {x = x} {m = m} v t) k n =
      ⊎_elim
      (λ e.
      record {
        x = x;
        key-is = ap (λ (a : HeldKey). a.key) e;
        value = subst (λ (j : ℕ). Value roots entries size j x) (sym (ap (λ (a : HeldKey). a.id) e)) v;
      })
      (λ z. each-key l m t k z) (Memᴰ.cases_cons n)

  module _ (limits : Limits) (copies : List SaKey) (old h : Held) (p : HoldsPath roots entries size limits copies old h) where
    pub path-ids : ids_of (map held_from p.keys) ≡ p.ids
    path-ids = keys-ids p.ids p.keys p.are

    pub holds-key : (k : HeldKey) → Memᴰ k (map held_from p.keys) → HoldsKey k
    holds-key k m = each-key p.ids p.keys p.are k m

    -- where the list was empty it is the path
    pub held-keys : old ≡ held_of limits [] → keys_of h ≡ map held_from p.keys
    held-keys e =
        ap keys_of (p.is ∙ ap (held_by_path limits (map held_from p.keys) p.end) e ∙ from-none limits (map held_from p.keys) p.end)
        ∙ keys-of-held limits (map held_from p.keys)

    pub held-ids : old ≡ held_of limits [] → ids_of (keys_of h) ≡ p.ids
    held-ids e = ap ids_of (held-keys e) ∙ path-ids

    module _ (none : EntriesConflict roots entries size → ⊥) where
      -- "A member's Key IDs are then distinct"
      pub path-once : distinct (ids_of (map held_from p.keys)) ≡ true
      path-once = ap distinct path-ids ∙ distinct-is p.ids (path-distinct roots entries size none copies p.ids p.end p.path)

      pub path-few : length (map held_from p.keys) ≤ length entries
      path-few =
          let f = path-fits roots entries size none copies p.ids p.end p.path in
          let n : length (ids_of (map held_from p.keys)) ≡ length (map held_from p.keys) =
          length-map (map held_from p.keys) (λ (k : HeldKey). k.id) in
          let e : length (ids_of (map held_from p.keys)) ≡ length p.ids = ap length path-ids in
          omega (arith, f, n, e)
