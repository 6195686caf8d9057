-- The pass over the first n of a list that writes those that pass a test to an array.
use native.Mathlib.Omega.{arith}
use Prim.Native.Nat.{ℕ, ◌+◌, ◌-◌, ◌≤◌, ◌<◌}
use mathlib.Core.Path.{◌≡◌, refl, ap, sym, ◌∙◌}
use mathlib.Core.Bool.{Bool, true, false}
use mathlib.Core.List.{List, [], ◌++◌}
use lib.ListN.{length, take, drop, get_or, set, replicate}
use Rattle.lists.specs.Lists.{keep}
use Rattle.lists.proofs.Lists.{keep-yes, keep-no, keep-end}
use Rattle.lists.proofs.Fill.{Filled, filled_none, filled_more, written-more, filled-count, filled-all}

module _ {A : Type 0} (m : ℕ) (b : A) (p : A → Bool) (l : List A) (n : ℕ) where
  -- where it stands at i: k were written
  pub record Keeping (out : List A) (k i : ℕ) : Type 0 where
    pub filled : Filled m b out k
    pub few : k ≤ i
    pub rest : take k out ++ keep p (drop i (take n l)) ≡ keep p (take n l)

  pub keeping_start : (s : A) → s ≡ b → Keeping (replicate m s) 0 0
  keeping_start s e = record { filled = filled_none m b s e; few = omega arith; rest = refl }

  module _ (h : n ≤ length l) (r : n ≤ m) (out : List A) (k i : ℕ) (q : Keeping out k i) where
    module _ (d : A) (g : i < n) where
      pub keeping-no : false ≡ p (get_or l i d) → Keeping out k (i + 1)
      keeping-no e =
          let f = q.few in
          record {
            filled = q.filled;
            few = omega arith;
            rest = ap (λ (x : List A). take k out ++ x) (sym (keep-no p l n h i d g e)) ∙ q.rest;
          }

      pub keeping-yes : true ≡ p (get_or l i d) → Keeping (set out k (get_or l i d)) (k + 1) (i + 1)
      keeping-yes e =
          let f = q.few in
          record {
            filled = filled_more m b out k q.filled (omega arith) (get_or l i d);
            few = omega arith;
            rest =
                written-more m b out k q.filled (omega arith) (get_or l i d) (keep p (drop (i + 1) (take n l)))
                ∙ ap (λ (x : List A). take k out ++ x) (sym (keep-yes p l n h i d g e)) ∙ q.rest;
          }

    module _ (e : n ≡ i) where
      last : take k out ++ [] ≡ keep p (take n l)
      last = ap (λ (x : List A). take k out ++ x) (sym (keep-end p l n h i (omega arith))) ∙ q.rest

      pub keeping-count : k ≡ length (keep p (take n l))
      keeping-count = let f = q.few in filled-count m b out (keep p (take n l)) k q.filled (omega arith) last

      pub keeping_all : out ≡ keep p (take n l) ++ replicate (m - length (keep p (take n l))) b
      keeping_all = let f = q.few in filled-all m b out (keep p (take n l)) k q.filled (omega arith) last
