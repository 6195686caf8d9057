-- Loops that change SAs in their places.
use native.Mathlib.Omega.{arith}
use native.Mathlib.Numerals.{add-one}
use Prim.Native.Nat.{ℕ, zero, suc, ◌+◌, ◌<◌}
use mathlib.Core.Path.{◌≡◌, refl, ap, ap₂, sym, ◌∙◌, subst}
use mathlib.Core.Bool.{Bool, true, false, ◌||◌, false≢true}
use mathlib.Core.List.{List, [], ◌∷◌, ◌++◌, map, append_assoc}
use lib.ListN.{length, take, drop, get_or, set, length-set, length-map, take-append-drop}
use lib.Seq.{drop-cons, drop-drop, drop-set-lt, get_or-drop, get_or-append_seam, length-take-le, set_at, set-get_or, take-suc, take-suc-set}
use Rattle.lists.specs.Lists.{insert}
use Rattle.lists.proofs.Parts.{part-cons, part_end}

map_last : {A : Type 0} (f : A → A) (l : List A) (a : A) → map f (l ++ (a ∷ [])) ≡ map f l ++ (f a ∷ [])
map_last f [] a = refl
map_last f (b ∷ l) a = ap (λ x. f b ∷ x) (map_last f l a)

-- ---- each element changed, one after the other
module _ {A : Type 0} (f : A → A) (s₀ : List A) where
  abbrev pub Turned : List A → ℕ → Type 0
  Turned s i = s ≡ map f (take i s₀) ++ drop i s₀

  module _ (s : List A) (i : ℕ) (d : A) (h : i < length s₀) (t : Turned s i) where
    abbrev y : A
    y = get_or s₀ i d

    abbrev p : List A
    p = map f (take i s₀)

    p-length : length p ≡ i
    p-length = length-map (take i s₀) f ∙ length-take-le i s₀ (omega arith)

    split : s ≡ p ++ (y ∷ drop (suc i) s₀)
    split = t ∙ ap (λ (x : List A). p ++ x) (drop-cons s₀ i d h)

    turned-at : get_or s i d ≡ y
    turned-at = ap₂ (λ (x : List A) (n : ℕ). get_or x n d) split (sym p-length) ∙ get_or-append_seam p y (drop (suc i) s₀) d

    pub turned_more : (r : A) → r ≡ f (get_or s i d) → Turned (set s i r) (i + 1)
    turned_more r e =
        let g : take (i + 1) s₀ ≡ take i s₀ ++ (y ∷ []) = ap (λ (n : ℕ). take n s₀) (add-one i) ∙ take-suc s₀ i d h in
        ap (λ (x : List A). set x i r) split ∙ set_at p y (drop (suc i) s₀) r i p-length
        ∙ ap₂ (λ (a : A) (n : ℕ). p ++ (a ∷ drop n s₀)) (e ∙ ap f turned-at) (sym (add-one i))
        ∙ sym (append_assoc p (f y ∷ []) (drop (i + 1) s₀))
        ∙ ap (λ (x : List A). x ++ drop (i + 1) s₀) (sym (map_last f (take i s₀) y) ∙ ap (map f) (sym g))

    -- an element that stays
    pub turned_same : get_or s i d ≡ f (get_or s i d) → Turned s (i + 1)
    turned_same e = subst (λ (x : List A). Turned x (i + 1)) (set-get_or s i d) (turned_more (get_or s i d) e)

-- what was changed is changed once more; none is changed
pub turned-twice : {A : Type 0} (f g : A → A) (n : ℕ) (s : List A) →
    map g (take n (map f (take n s) ++ drop n s)) ++ drop n (map f (take n s) ++ drop n s)
    ≡ map (λ (a : A). g (f a)) (take n s) ++ drop n s
turned-twice f g zero s = refl
turned-twice f g (suc n) [] = refl
turned-twice f g (suc n) (a ∷ s) = ap (λ x. g (f a) ∷ x) (turned-twice f g n s)

pub turned_none : {A : Type 0} (f : A → A) → ((a : A) → f a ≡ a) → (n : ℕ) (s : List A) → map f (take n s) ++ drop n s ≡ s
turned_none f e zero s = refl
turned_none f e (suc n) [] = refl
turned_none f e (suc n) (a ∷ s) = ap₂ (λ x y. x ∷ y) (e a) (turned_none f e n s)

-- ---- one element more, put in its place among the first n
module _ {A : Type 0} (before : A → A → Bool) where
  -- what is still to be put: the carried element goes first where one has its place already, and is to be put in its place where not
  abbrev pub in_place : Bool → A → List A → List A
  in_place true a l = a ∷ l
  in_place false a l = insert before a l

  ahead : (placed : Bool) (c b : A) (l : List A) → true ≡ (placed || before c b) → in_place placed c (b ∷ l) ≡ c ∷ in_place true b l
  unfolding insert
  ahead true c b l e = refl
  ahead false c b l e = rw (← e)

  aside : (placed : Bool) (c b : A) (l : List A) → false ≡ (placed || before c b) → in_place placed c (b ∷ l) ≡ b ∷ in_place placed c l
  unfolding insert
  aside true c b l e = absurd (false≢true e)
  aside false c b l e = rw (← e)

  lonely : (placed : Bool) (c : A) → in_place placed c [] ≡ c ∷ []
  unfolding insert
  lonely true c = refl
  lonely false c = refl

  module _ (s₀ : List A) (n : ℕ) (a : A) where
    -- the places before i are as they will be, those from i on as they were
    pub record Moving (s : List A) (carried : A) (placed : Bool) (i : ℕ) : Type 0 where
      pub same : length s ≡ length s₀
      pub others : drop i s ≡ drop i s₀
      pub rest : take i s ++ in_place placed carried (drop i (take n s₀)) ≡ insert before a (take n s₀)

    pub moving-start : Moving s₀ a false 0
    moving-start = record { same = refl; others = refl; rest = refl }

    module _ (h : n < length s₀) (s : List A) (carried : A) (placed : Bool) (i : ℕ) (m : Moving s carried placed i) where
      module _ (d : A) (g : i < n) where
        abbrev b : A
        b = get_or s i d

        here : b ≡ get_or s₀ i d
        here =
            let z : i ≡ i + 0 = omega arith in
            ap (λ (k : ℕ). get_or s k d) z ∙ sym (get_or-drop i s 0 d) ∙ ap (λ (l : List A). get_or l 0 d) m.others ∙ get_or-drop i s₀ 0 d
            ∙ ap (λ (k : ℕ). get_or s₀ k d) (sym z)

        left : drop i (take n s₀) ≡ b ∷ drop (i + 1) (take n s₀)
        left = part-cons s₀ n (omega arith) i d g ∙ ap (λ (x : A). x ∷ drop (i + 1) (take n s₀)) (sym here)

        next-others : drop (i + 1) s ≡ drop (i + 1) s₀
        next-others = sym (drop-drop 1 i s) ∙ ap (drop 1) m.others ∙ drop-drop 1 i s₀

        pub moving-ahead : true ≡ (placed || before carried b) → Moving (set s i carried) b true (i + 1)
        moving-ahead e =
            let l = m.same in
            let r = drop (i + 1) (take n s₀) in
            record {
              same = length-set s i carried ∙ l;
              others = drop-set-lt (i + 1) s i carried (omega arith) ∙ next-others;
              rest =
                  ap (λ (x : List A). x ++ in_place true b r)
                  (ap (λ (k : ℕ). take k (set s i carried)) (add-one i) ∙ take-suc-set s i carried (omega arith))
                  ∙ append_assoc (take i s) (carried ∷ []) (in_place true b r)
                  ∙ ap (λ (x : List A). take i s ++ x) (sym (ahead placed carried b r e) ∙ ap (in_place placed carried) (sym left))
                  ∙ m.rest;
            }

        pub moving-aside : false ≡ (placed || before carried b) → Moving s carried placed (i + 1)
        moving-aside e =
            let l = m.same in
            let r = drop (i + 1) (take n s₀) in
            record {
              same = l;
              others = next-others;
              rest =
                  ap (λ (x : List A). x ++ in_place placed carried r)
                  (ap (λ (k : ℕ). take k s) (add-one i) ∙ take-suc s i d (omega arith))
                  ∙ append_assoc (take i s) (b ∷ []) (in_place placed carried r)
                  ∙ ap (λ (x : List A). take i s ++ x) (sym (aside placed carried b r e) ∙ ap (in_place placed carried) (sym left))
                  ∙ m.rest;
            }

      pub moving-end : n ≡ i → set s i carried ≡ insert before a (take n s₀) ++ drop (n + 1) s₀
      moving-end e =
          let l = m.same in
          let t = set s i carried in
          let z : drop i (take n s₀) ≡ [] = part_end s₀ n (omega arith) i (omega arith) in
          let q : take (i + 1) t ≡ insert before a (take n s₀) =
          ap (λ (k : ℕ). take k t) (add-one i) ∙ take-suc-set s i carried (omega arith)
          ∙ ap (λ (x : List A). take i s ++ x) (sym (lonely placed carried) ∙ ap (in_place placed carried) (sym z)) ∙ m.rest in
          let o : drop (i + 1) t ≡ drop (i + 1) s₀ =
          drop-set-lt (i + 1) s i carried (omega arith) ∙ sym (drop-drop 1 i s) ∙ ap (drop 1) m.others ∙ drop-drop 1 i s₀ in
          sym (take-append-drop (i + 1) t)
          ∙ ap₂ (λ (x y : List A). x ++ y) q (o ∙ ap (λ (k : ℕ). drop (k + 1) s₀) (sym e))
