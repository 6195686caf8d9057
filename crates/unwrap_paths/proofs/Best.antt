-- What is read off the levels is a walk of as many entries as its level says, and no walk of that length has a smaller trail.
use native.Mathlib.Omega.{arith}
use Prim.Native.Nat.{ℕ, suc, ◌≤◌, ◌<◌}
use mathlib.Core.Path.{◌≡◌, refl, ap, sym, subst}
use mathlib.Core.Bool.{Bool}
use mathlib.Core.Logic.{inl, inr}
use mathlib.Core.List.{List, [], ◌∷◌, map}
use lib.ListN.{length}
use Rattle.rules_chains.specs.Path.{NotAfter}
use Rattle.unwrap_paths.specs.inner.Levels.{Walk, starts, goes, Levelled, Best, at-root, back}
use Rattle.unwrap_search.proofs.Statuses.{eq-cases}

module _ (n : ℕ) (id kwk : ℕ → ℕ) (opened : ℕ → Bool) (is_root : ℕ → Bool) (L : ℕ → ℕ) (is : Levelled n id kwk opened is_root L) where
  abbrev W : List ℕ → ℕ → Type 0
  W = Walk n id kwk opened is_root

  abbrev B : ℕ → ℕ → List ℕ → List ℕ → Type 0
  B = Best n id kwk opened is_root L

  -- it is a walk, of that many entries, and goes by those KWK IDs
  pub best-walk : (k d : ℕ) (p t : List ℕ) → B k d p t → W p k
  best-walk k _ _ _ (at-root _ r) = starts k r
  best-walk k _ _ _ (back {d = d} {p = p} {t = t} i h e r l o low least b) = goes i h o e (best-walk (kwk i) d p t b)

  pub best-length : (k d : ℕ) (p t : List ℕ) → B k d p t → length p ≡ d
  best-length k _ _ _ (at-root _ r) = refl
  best-length k _ _ _ (back {d = d} {p = p} {t = t} i h e r l o low least b) = ap suc (best-length (kwk i) d p t b)

  pub best-trail : (k d : ℕ) (p t : List ℕ) → B k d p t → map kwk p ≡ t
  best-trail k _ _ _ (at-root _ r) = refl
  best-trail k _ _ _ (back {d = d} {p = p} {t = t} i h e r l o low least b) =
      ap (λ (x : List ℕ). kwk i ∷ x) (best-trail (kwk i) d p t b)

  -- "the smallest when their Key ID lists are compared number by number", by the KWK IDs that they go by
  pub best-smallest : (k d : ℕ) (p t : List ℕ) → B k d p t → (q : List ℕ) → W q k → length q ≡ d → NotAfter t (map kwk q)
  best-smallest k _ _ _ (at-root _ r) q w e = tt
  best-smallest k _ _ _ (back i h e r l o low least b) [] w z = absurd (omega arith)
  best-smallest k _ _ _ (back {d = d} {p = p} {t = t} i h e r l o low least b) (j ∷ q) (goes _ g c f w) z =
      let m = is.least j k q (goes j g c f w) in
      let x = low j g f m.0 in
      let y = m.1 in
      let v = least j g f (omega arith) in
      eq-cases (kwk i) (kwk j)
      (λ s. inr (s, best-smallest (kwk i) d p t b q (subst (W q) (sym s) w) (omega arith)))
      (λ s. inl (lower (kwk i) (kwk j) v s))
    where
      lower : (a b : ℕ) → a ≤ b → (a ≡ b → ⊥) → a < b
      lower a b u f = omega arith
