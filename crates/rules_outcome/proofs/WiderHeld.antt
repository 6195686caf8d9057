-- A held list that follows another under some limits follows one with the same keys under others too, with the same keys.
use Prim.Native.Nat.{ℕ}
use mathlib.Core.Path.{◌≡◌, refl, ap, sym, ◌∙◌, subst}
use mathlib.Core.Bool.{Bool, true, false}
use mathlib.Core.List.{List, [], ◌∷◌, map}
use lib.ListN.{length}
use Rattle.state_keys.specs.Limits.{Limits}
use Rattle.wire_attributes.specs.Tree.{SaKey, WrapKey}
use Rattle.state.specs.declared.held.HeldKey.{HeldKey}
use Rattle.state.specs.declared.held.Held.{Held}
use Rattle.state.specs.Held.{keys_of, held_of}
use Rattle.state.proofs.Kept.{keys-of-held}
use Rattle.rules_chains.specs.Chain.{Root}
use Rattle.rules_outcome.specs.Holding.{held_from, path_before, held_by_path, held_before, HeldNext}

module _ (a b : Limits) (roots : List Root) (entries : List WrapKey) (size : ℕ) (copies : List SaKey) where
  -- lists with the same keys
  pub record SameKeys (h k : Held) : Type 0 where
    pub keys : keys_of h ≡ keys_of k
    pub count : h.count ≡ k.count

  by-path : (path : List HeldKey) (end : ℕ) (h k : Held) → SameKeys h k → SameKeys (held_by_path a path end h) (held_by_path b path end k)
  unfolding held_of
  by-path [] end h k e = e
  by-path (p ∷ path) end h k e =
      let l = path_before (p ∷ path) end (keys_of h) in
      let m = path_before (p ∷ path) end (keys_of k) in
      let q : l ≡ m = ap (path_before (p ∷ path) end) e.keys in
      record { keys = keys-of-held a l ∙ q ∙ sym (keys-of-held b m); count = ap length q }

  pub found : (r : Bool) (h k : Held) → SameKeys h k → SameKeys (held_before a r h) (held_before b r k)
  unfolding held_of
  found true h k e = record { keys = keys-of-held a [] ∙ sym (keys-of-held b []); count = refl }
  found false h k e = e

  -- the list that follows under some limits, and what follows a list with the same keys under others
  pub record NextThen (old : Held) (n : Bool) (next : Held) : Type 0 where
    pub then : Held
    pub same : SameKeys next then
    pub next-is : HeldNext roots entries size b n copies old then

  pub next-then : (h k next : Held) → SameKeys h k → (n : Bool) → HeldNext roots entries size a n copies h next → NextThen k n next
  next-then h k next e true x =
      let path = map held_from x.keys in
      record {
        then = held_by_path b path x.end k;
        same = subst (λ (g : Held). SameKeys g (held_by_path b path x.end k)) (sym x.is) (by-path path x.end h k e);
        next-is = record { ids = x.ids; end = x.end; path = x.path; keys = x.keys; are = x.are; is = refl };
      }
  next-then h k next e false x =
      record { then = k; same = subst (λ (g : Held). SameKeys g k) (sym x) e; next-is = refl }
