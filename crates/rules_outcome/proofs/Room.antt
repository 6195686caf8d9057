-- WHERE THE HELD LIST CANNOT BE OVER ITS LIMIT, so that the 7 that is judged after 9 is never given (document 02, T-11): in a registration
-- that number 7 lets pass, where there is no entry, and where the entries and the keys held are together within it.
use native.Mathlib.Omega.{arith}
use Prim.Native.Nat.{ℕ, ◌+◌, ◌≤◌}
use mathlib.Core.Path.{◌≡◌, ap, ◌∙◌}
use mathlib.Core.Bool.{Bool, true, false}
use mathlib.Core.List.{List, [], ◌∷◌, map}
use lib.ListN.{length, length-take}
use Rattle.state_keys.specs.Limits.{Limits}
use Rattle.wire_attributes.specs.Tree.{SaKey, WrapKey}
use Rattle.state.specs.declared.held.HeldKey.{HeldKey}
use Rattle.state.specs.declared.held.Held.{Held}
use Rattle.state.specs.Held.{keys_of, held_of}
use Rattle.rules_chains.specs.Chain.{Root}
use Rattle.rules_chains.specs.Refusals.{EntriesConflict}
use Rattle.rules_outcome.specs.Holding.{held_from, held_by_path, HeldNext, OverHeld}
use Rattle.rules_outcome.proofs.PathBefore.{before-shorter}
use Rattle.rules_outcome.proofs.PathKeys.{from-none, path-few}
use Rattle.rules_outcome.proofs.HeldList.{no-entry-stays}

module _ (roots : List Root) (entries : List WrapKey) (size : ℕ) (limits : Limits) (copies : List SaKey) where
  -- a list that starts empty has no more keys than there are entries
  set-few : (b : Bool) (h : Held) → (EntriesConflict roots entries size → ⊥) →
      HeldNext roots entries size limits b copies (held_of limits []) h → h.count ≤ length entries
  unfolding held_of
  set-few true h none p =
      let f = path-few roots entries size limits copies (held_of limits []) h p none in
      let e : h.count ≡ length (map held_from p.keys) =
      ap (λ (x : Held). x.count) (p.is ∙ from-none limits (map held_from p.keys) p.end) in
      omega (arith, f, e)
  set-few false h none p = let e : h.count ≡ 0 = ap (λ (x : Held). x.count) p in omega (arith, e)

  pub room-in-registration : (b : Bool) → (EntriesConflict roots entries size → ⊥) → length entries ≤ limits.held_keys →
      OverHeld roots entries size limits b copies (held_of limits []) → ⊥
  room-in-registration b none few o =
      let n = set-few b o.list none o.leaves in let g = o.over in omega (arith, n, g, few)

  pub room-without-entries : (b : Bool) (old : Held) → entries ≡ [] → old.count ≤ limits.held_keys →
      OverHeld roots entries size limits b copies old → ⊥
  room-without-entries b old none few o =
      let e = no-entry-stays roots entries size limits b copies old o.list none o.leaves in
      let n : o.list.count ≡ old.count = ap (λ (x : Held). x.count) e in
      let g = o.over in omega (arith, n, g, few)

  grown : (path : List HeldKey) (end : ℕ) (old : Held) → (held_by_path limits path end old).count ≤ length path + old.count
  unfolding held_of
  grown [] end old = omega arith
  grown (a ∷ path) end old =
      let n = before-shorter (a ∷ path) end (keys_of old) in
      let m = length-take old.count old.keys in omega (arith, n, m)

  pub room-for-both : (b : Bool) (old : Held) → (EntriesConflict roots entries size → ⊥) → length entries + old.count ≤ limits.held_keys →
      OverHeld roots entries size limits b copies old → ⊥
  room-for-both true old none few o =
      let p = o.leaves in
      let f = path-few roots entries size limits copies old o.list p none in
      let n = grown (map held_from p.keys) p.end old in
      let e : o.list.count ≡ (held_by_path limits (map held_from p.keys) p.end old).count = ap (λ (x : Held). x.count) p.is in
      let g = o.over in omega (arith, f, n, e, g, few)
  room-for-both false old none few o =
      let e : o.list.count ≡ old.count = ap (λ (x : Held). x.count) o.leaves in
      let g = o.over in omega (arith, e, g, few)
