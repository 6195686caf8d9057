-- The pass over a list that writes those that pass a test to an array, each of them changed.
use native.Mathlib.Omega.{arith}
use native.Mathlib.Numerals.{add-one}
use Prim.Native.Nat.{ℕ, ◌+◌, ◌≤◌, ◌<◌}
use mathlib.Core.Path.{◌≡◌, refl, ap, sym, ◌∙◌}
use mathlib.Core.Bool.{Bool, true, false}
use mathlib.Core.List.{List, [], ◌∷◌, ◌++◌, map}
use borrow.Author.Tests.{eq-eqb, ne_eqb}
use lib.ListN.{length, take, drop, get_or, set, replicate, drop_of_length-le}
use lib.Seq.{drop-cons}
use Rattle.lists.specs.Lists.{keep}
use Rattle.lists.proofs.Fill.{Filled, filled_none, filled_more, written-more}
use Rattle.state_sa.specs.Entry.{rekey_protocol, retired}
use Rattle.state_sa.specs.declared.entry.Sa.{Sa}
use Rattle.state_table.specs.Table.{retired_if}
use Rattle.apply.specs.inner.Tables.{outdated}

module _ {A : Type 0} (m : ℕ) (b : A) (p : A → Bool) (f : A → A) (l : List A) where
  -- where it stands at i: k were written
  pub record Renewed (out : List A) (k i : ℕ) : Type 0 where
    pub filled : Filled m b out k
    pub few : k ≤ i
    pub rest : take k out ++ map f (keep p (drop i l)) ≡ map f (keep p l)

  pub renewed-start : (s : A) → s ≡ b → Renewed (replicate m s) 0 0
  renewed-start s e = record { filled = filled_none m b s e; few = omega arith; rest = refl }

  module _ (r : length l ≤ m) (out : List A) (k i : ℕ) (q : Renewed out k i) where
    module _ (d : A) (g : i < length l) where
      here : drop i l ≡ get_or l i d ∷ drop (i + 1) l
      here = rw add-one (drop-cons l i d g)

      pub renewed-no : false ≡ p (get_or l i d) → Renewed out k (i + 1)
      unfolding keep
      renewed-no e =
          let w = q.few in
          let z : keep p (drop i l) ≡ keep p (drop (i + 1) l) = rw (here, ← e) refl in
          record {
            filled = q.filled;
            few = omega arith;
            rest = ap (λ (x : List A). take k out ++ map f x) (sym z) ∙ q.rest;
          }

      pub renewed-yes : true ≡ p (get_or l i d) → (y : A) → y ≡ f (get_or l i d) → Renewed (set out k y) (k + 1) (i + 1)
      unfolding keep
      renewed-yes e y z =
          let w = q.few in
          let others = map f (keep p (drop (i + 1) l)) in
          let v : keep p (drop i l) ≡ get_or l i d ∷ keep p (drop (i + 1) l) = rw (here, ← e) refl in
          record {
            filled = filled_more m b out k q.filled (omega arith) y;
            few = omega arith;
            rest =
                written-more m b out k q.filled (omega arith) y others ∙ ap (λ (x : A). take k out ++ (x ∷ others)) z
                ∙ ap (λ (x : List A). take k out ++ map f x) (sym v) ∙ q.rest;
          }

    pub renewed-end : length l ≤ i → take k out ++ [] ≡ map f (keep p l)
    unfolding keep
    renewed-end e = ap (λ (x : List A). take k out ++ map f (keep p x)) (sym (drop_of_length-le l {i = i} e)) ∙ q.rest

-- ---- the old Rekey SA
module _ (now delay : ℕ) (s : Sa) where
  pub left-old : s.protocol ≡ rekey_protocol → retired now delay s ≡ retired_if (outdated true) now delay s
  unfolding retired_if
  left-old e = rw (eq-eqb s.protocol rekey_protocol e)

  pub left_other : (s.protocol ≡ rekey_protocol → ⊥) → s ≡ retired_if (outdated true) now delay s
  unfolding retired_if
  left_other e = rw (ne_eqb s.protocol rekey_protocol e)

  pub left-all : s ≡ retired_if (outdated false) now delay s
  unfolding retired_if
  left-all = refl
