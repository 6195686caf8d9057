-- What is asked of the one name of a policy or key bag, if it has one.
use Prim.Native.Nat.{ℕ, ◌+◌}
use mathlib.Core.Path.{◌≡◌, refl, ap, sym, ◌∙◌}
use mathlib.Core.List.{List, [], ◌∷◌, ◌++◌}
use mathlib.Core.Bool.{Bool, true, false, cond, or-false}
use borrow.Author.Tests.{eq-eqb, ne_eqb}
use lib.Dec.{eqb}
use Rattle.octets.specs.Compare.{same}
use Rattle.lists.specs.Lists.{any, count}
use Rattle.check_pairing.specs.inner.Names.{Name, name_of, is_named}

module _ (q : Name → Bool) (p : ℕ) (x : List ℕ) where
  pub no_name : p ≡ 0 → false ≡ any q (name_of p x)
  unfolding any
  no_name e = simp (eq-eqb p 0 e)

  pub a-name : (b : Bool) → (p ≡ 0 → ⊥) → b ≡ q (record { protocol = p; spi = x }) → b ≡ any q (name_of p x)
  unfolding any
  a-name b e f = f ∙ simp (ne_eqb p 0 e, or-false)

module _ (q : Name → Bool) (m : List Name) where
  counted-in : (t : Bool) (n : Name) → count q (cond t [] (n ∷ []) ++ m) ≡ cond (any q (cond t [] (n ∷ []))) (count q m + 1) (count q m)
  unfolding any count
  counted-in true n = refl
  counted-in false n = ap (λ (b : Bool). cond b (count q m + 1) (count q m)) (sym (or-false (q n)))

  pub name-counted : (p : ℕ) (x : List ℕ) → count q (name_of p x ++ m) ≡ cond (any q (name_of p x)) (count q m + 1) (count q m)
  name-counted p x = counted-in (eqb p 0) (record { protocol = p; spi = x })

-- ---- whether it is this protocol and SPI
module _ (protocol : ℕ) (spi : List ℕ) (first : ℕ) (x : List ℕ) (f : first ≡ 0 → ⊥) where
  abbrev Answer : Bool → Type 0
  Answer b = b ≡ any (is_named protocol spi) (name_of first x)

  pub named-so : (b : Bool) → first ≡ protocol → b ≡ same x spi → Answer b
  named-so b g h = a-name (is_named protocol spi) first x b f (h ∙ simp (eq-eqb first protocol g))

  pub named_other : (first ≡ protocol → ⊥) → Answer false
  named_other g = a-name (is_named protocol spi) first x false f (simp (ne_eqb first protocol g))
