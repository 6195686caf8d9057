-- THE PATH IS ONE, and so are its keys. This file is checked before those that make a path: a definition that leaves two of them is refused
-- here.
use native.Mathlib.Omega.{arith}
use Prim.Native.Nat.{ℕ}
use mathlib.Core.Path.{◌≡◌, refl, ap₂, sym, ◌∙◌, subst}
use mathlib.Core.Logic.{inl, inr}
use mathlib.Core.List.{List, [], ◌∷◌}
use Rattle.wire_attributes.specs.Tree.{WrapKey, SaKey}
use Rattle.rules_chains.specs.Chain.{Root}
use Rattle.rules_chains.specs.Path.{NotAfter, KeyPath, Keys, no_key, one_more}
use Rattle.rules_chains.proofs.Determined.{value-one}

-- of two lists none comes after the other only if they are the same
pub both_ways : (l m : List ℕ) → NotAfter l m → NotAfter m l → l ≡ m
both_ways [] [] f g = refl
both_ways [] (b ∷ m) f g = absurd g
both_ways (a ∷ l) [] f g = absurd f
both_ways (a ∷ l) (b ∷ m) (inl f) (inl g) = absurd (omega arith)
both_ways (a ∷ l) (b ∷ m) (inl f) (inr g) = let e = g.0 in absurd (omega arith)
both_ways (a ∷ l) (b ∷ m) (inr f) (inl g) = let e = f.0 in absurd (omega arith)
both_ways (a ∷ l) (b ∷ m) (inr f) (inr g) = ap₂ (λ (x : ℕ) (y : List ℕ). x ∷ y) f.0 (both_ways l m f.1 g.1)

module _ (roots : List Root) (entries : List WrapKey) (size : ℕ) where
  pub path-one : (copies : List SaKey) (ids other : List ℕ) (end last : ℕ) → KeyPath roots entries size copies ids end →
      KeyPath roots entries size copies other last → (ids ≡ other) × (end ≡ last)
  path-one copies ids other end last p q =
      let a = p.fewest q.passed q.opener in
      let b = q.fewest p.passed p.opener in
      let f = p.smallest q.passed q.opener (omega (arith, a, b)) in
      let g = q.smallest p.passed p.opener (omega (arith, a, b)) in
      let e = both_ways ids other (subst (NotAfter ids) q.written f) (subst (NotAfter other) p.written g) in
      let c = p.lowest q.passed q.opener (q.written ∙ sym e) in
      let d = q.lowest p.passed p.opener (p.written ∙ e) in
      let h = q.ends in
      let k = p.ends in (e, omega (arith, c, d, h, k))

  pub keys-one : (ids : List ℕ) (l m : List Root) → Keys roots entries size ids l → Keys roots entries size ids m → l ≡ m
  keys-one [] _ _ no_key no_key = refl
  keys-one (i ∷ ids) _ _ (one_more {x = x} v k) (one_more {x = y} w n) =
      ap₂ (λ (z : List ℕ) (r : List Root). record { id = i; value = z } ∷ r) (value-one roots entries size i x y v w)
      (keys-one ids _ _ k n)
