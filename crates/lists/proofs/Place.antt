-- An element put in its place by one pass over a list.
use native.Mathlib.Omega.{arith}
use Prim.Native.Nat.{ℕ, ◌+◌, ◌-◌, ◌≤◌, ◌<◌}
use mathlib.Core.Path.{◌≡◌, refl, ap, sym, ◌∙◌}
use mathlib.Core.Bool.{Bool, true, false, ◌||◌, false≢true}
use mathlib.Core.List.{List, [], ◌∷◌, ◌++◌}
use lib.ListN.{length, take, drop, get_or, set, replicate}
use Rattle.lists.specs.Lists.{insert}
use Rattle.lists.proofs.Parts.{part-cons, part_end}
use Rattle.lists.proofs.Fill.{Filled, filled_none, filled_more, written-more, filled-count, filled-all}

module _ {A : Type 0} (before : A → A → Bool) where
  -- what is still to be written: the carried element goes first where one has its place already, and is to be put in its place where not
  abbrev in_place : Bool → A → List A → List A
  in_place true a l = a ∷ l
  in_place false a l = insert before a l

  module _ (l : List A) (n : ℕ) (h : n ≤ length l) (j : ℕ) where
    place-ahead : (d : A) → j < n → (placed : Bool) (a : A) → true ≡ (placed || before a (get_or l j d)) →
        in_place placed a (drop j (take n l)) ≡ a ∷ in_place true (get_or l j d) (drop (j + 1) (take n l))
    unfolding insert
    place-ahead d g true a e = rw (part-cons l n h j d g)
    place-ahead d g false a e = rw (part-cons l n h j d g, ← e)

    place-behind : (d : A) → j < n → (placed : Bool) (a : A) → false ≡ (placed || before a (get_or l j d)) →
        in_place placed a (drop j (take n l)) ≡ get_or l j d ∷ in_place placed a (drop (j + 1) (take n l))
    unfolding insert
    place-behind d g true a e = absurd (false≢true e)
    place-behind d g false a e = rw (part-cons l n h j d g, ← e)

    place_end : n ≤ j → (placed : Bool) (a : A) → in_place placed a (drop j (take n l)) ≡ a ∷ []
    unfolding insert
    place_end g true a = rw (part_end l n h j g)
    place_end g false a = rw (part_end l n h j g)

  -- the pass over the first n of l, which puts a in its place in an array of m: where it stands at i
  module _ (m : ℕ) (b : A) (l : List A) (n : ℕ) (a : A) where
    pub record Placing (out : List A) (carried : A) (placed : Bool) (i : ℕ) : Type 0 where
      pub filled : Filled m b out i
      pub rest : take i out ++ in_place placed carried (drop i (take n l)) ≡ insert before a (take n l)

    pub placing-start : (s : A) → s ≡ b → Placing (replicate m s) a false 0
    placing-start s e = record { filled = filled_none m b s e; rest = refl }

    module _ (h : n ≤ length l) (out : List A) (carried : A) (placed : Bool) (i : ℕ) (p : Placing out carried placed i) (lt : n < m) where
      module _ (d : A) (g : i < n) where
        pub placing-ahead : true ≡ (placed || before carried (get_or l i d)) → Placing (set out i carried) (get_or l i d) true (i + 1)
        placing-ahead e =
            record {
              filled = filled_more m b out i p.filled (omega arith) carried;
              rest =
                  written-more m b out i p.filled (omega arith) carried (get_or l i d ∷ drop (i + 1) (take n l))
                  ∙ ap (λ (r : List A). take i out ++ r) (sym (place-ahead l n h i d g placed carried e)) ∙ p.rest;
            }

        pub placing-behind : false ≡ (placed || before carried (get_or l i d)) → Placing (set out i (get_or l i d)) carried placed (i + 1)
        placing-behind e =
            record {
              filled = filled_more m b out i p.filled (omega arith) (get_or l i d);
              rest =
                  written-more m b out i p.filled (omega arith) (get_or l i d) (in_place placed carried (drop (i + 1) (take n l)))
                  ∙ ap (λ (r : List A). take i out ++ r) (sym (place-behind l n h i d g placed carried e)) ∙ p.rest;
            }

      -- where it ends, the carried element goes last
      module _ (e : n ≡ i) where
        last : take (i + 1) (set out i carried) ++ [] ≡ insert before a (take n l)
        last =
            written-more m b out i p.filled (omega arith) carried []
            ∙ ap (λ (r : List A). take i out ++ r) (sym (place_end l n h i (omega arith) placed carried)) ∙ p.rest

        pub placing-count : n + 1 ≡ length (insert before a (take n l))
        placing-count =
            ap (λ (k : ℕ). k + 1) e
            ∙ filled-count m b (set out i carried) (insert before a (take n l)) (i + 1)
            (filled_more m b out i p.filled (omega arith) carried) (omega arith) last

        pub placing-all : set out i carried ≡ insert before a (take n l) ++ replicate (m - length (insert before a (take n l))) b
        placing-all =
            filled-all m b (set out i carried) (insert before a (take n l)) (i + 1)
            (filled_more m b out i p.filled (omega arith) carried) (omega arith) last
