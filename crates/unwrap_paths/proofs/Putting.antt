-- The list of a path before those of the old keys that stay: the loop over the old keys.
use native.Mathlib.Omega.{arith}
use Prim.Native.Nat.{ℕ, suc, ◌+◌, ◌-◌, ◌≤◌, ◌<◌}
use mathlib.Core.Path.{◌≡◌, refl, ap, sym, ◌∙◌, subst}
use mathlib.Core.Bool.{Bool, true, false, not, cond, ◌&&◌, ◌||◌, false≢true}
use mathlib.Core.List.{List, [], ◌∷◌, ◌++◌, append-nil}
use borrow.Author.Tests.{le-leb, eq-eqb, ne_eqb}
use lib.Dec.{eqb}
use lib.ListN.{length, take, drop, get_or, set, replicate, length-append, length-replicate, drop_of_length-le}
use lib.Seq.{drop-cons, take-append_seam, drop-append_seam, length-take-le}
use Rattle.std.proofs.Math.Numerals.{add-one}
use Rattle.lists.specs.Lists.{any, keep}
use Rattle.state_keys.specs.Limits.{limits}
use Rattle.lists.proofs.Cases.{bool_cases}
use Rattle.lists.proofs.Fill.{Filled, filled_more, written-more, filled-all, filled-count}
use Rattle.state.specs.Held.{keys_of, held_of, blank_key, key_with, held_key}
use Rattle.state.specs.declared.held.HeldKey.{HeldKey}
use Rattle.state.specs.declared.held.Held.{Held}
use Rattle.rules_outcome.specs.Holding.{from_key, on_path, path_before}
use Rattle.unwrap_paths.specs.inner.Holding.{GoesBefore}
use Rattle.std.specs.Prelude.{is_some}

-- ---- the test
-- a key of the path is found by its Key ID
with-id : (l : List HeldKey) (i : ℕ) → is_some (key_with i l) ≡ any (λ (p : HeldKey). eqb p.id i) l
unfolding key_with any
with-id [] i = refl
with-id (k ∷ l) i = bool_cases (eqb k.id i) (λ e. rw e refl) (λ e. rw e (with-id l i))

flipped : (r b : Bool) → not r ≡ b → r ≡ not b
flipped true b e = ap not e
flipped false b e = ap not e

module _ (path : Held) (few : path.count ≤ limits.held_keys) (met : Bool) (k : HeldKey) where
  found-on : is_some (held_key limits k.id path) ≡ on_path (keys_of path) k
  unfolding held_key
  found-on = rw (le-leb path.count limits.held_keys few) (with-id (keys_of path) k.id)

  pub stays-is : met ≡ true → (r : Bool) → is_some (held_key limits k.id path) ≡ not r → r ≡ (met && not (on_path (keys_of path) k))
  stays-is e r f = rw e (flipped r (on_path (keys_of path) k) (sym f ∙ found-on))

-- ---- the loop
module _ (path : List HeldKey) (end : ℕ) where
  abbrev off : HeldKey → Bool
  off k = not (on_path path k)

  -- what is still to be put, by whether the key that the path ends on was met
  unfoldable pub left : Bool → List HeldKey → List HeldKey
  left met l = keep off (cond met l (from_key end l))

  left-next : (met : Bool) (k : HeldKey) (l : List HeldKey) →
      left met (k ∷ l) ≡ cond ((met || eqb k.id end) && off k) (k ∷ left (met || eqb k.id end) l) (left (met || eqb k.id end) l)
  unfolding left keep from_key
  left-next met k l =
      bool_cases met (λ e. bool_cases (off k) (λ o. rw (e, o) refl) (λ o. rw (e, o) refl))
      (λ e.
      bool_cases (eqb k.id end) (λ g. bool_cases (off k) (λ o. rw (e, g, o) refl) (λ o. rw (e, g, o) refl)) (λ g. rw (e, g) refl))

  module _ (old : List HeldKey) where
    pub record Putting (keys : List HeldKey) (count : ℕ) (met : Bool) (i : ℕ) : Type 0 where
      pub filled : Filled limits.held_keys blank_key keys count
      pub few : count ≤ limits.held_keys
      pub are : take count keys ++ left met (drop i old) ≡ path ++ left false old

    pub put-none : (h : Held) → h ≡ held_of limits path → h.count ≤ limits.held_keys → Putting h.keys h.count false 0
    unfolding held_of
    put-none h e f =
        let m : h.count ≡ length path = ap (λ (x : Held). x.count) e in
        let g : length path ≤ limits.held_keys = omega (arith, m, f) in
        subst (λ (x : Held). Putting x.keys x.count false 0) (sym e) (start g)
      where
        start : length path ≤ limits.held_keys → Putting (held_of limits path).keys (held_of limits path).count false 0
        start g =
            let b = replicate (limits.held_keys - length path) blank_key in
            let x = length-append path b in
            let y = length-replicate (limits.held_keys - length path) blank_key in
            record {
              filled = record { long = omega (arith, x, y, g); blank = drop-append_seam path b };
              few = g;
              are = ap (λ (l : List HeldKey). l ++ left false old) (take-append_seam path b);
            }

    module _ (keys : List HeldKey) (count : ℕ) (met : Bool) (i : ℕ) (b : Putting keys count met i) (g : i < length old)
        (d : HeldKey) where
      abbrev k : HeldKey
      k = get_or old i d

      abbrev now : Bool
      now = met || eqb k.id end

      rest-is : drop i old ≡ k ∷ drop (i + 1) old
      rest-is = rw add-one (drop-cons old i d g)

      passed_on : (now && off k) ≡ false → left met (drop i old) ≡ left now (drop (i + 1) old)
      passed_on e = ap (left met) rest-is ∙ left-next met k (drop (i + 1) old) ∙ rw e refl

      put_on : (now && off k) ≡ true → left met (drop i old) ≡ k ∷ left now (drop (i + 1) old)
      put_on e = ap (left met) rest-is ∙ left-next met k (drop (i + 1) old) ∙ rw e refl

      -- by what the code answers: whether the key was met, and whether it stays
      module _ (m stay : Bool) (m-is : m ≡ now) (stay-is : stay ≡ (m && off k)) where
        told : (now && off k) ≡ stay
        told = ap (λ (x : Bool). x && off k) (sym m-is) ∙ sym stay-is

        pub put-not : stay ≡ false → Putting keys count m (i + 1)
        put-not e =
            subst (λ (x : Bool). Putting keys count x (i + 1)) (sym m-is)
            (record {
              filled = b.filled;
              few = b.few;
              are = ap (λ (l : List HeldKey). take count keys ++ l) (sym (passed_on (told ∙ e))) ∙ b.are;
            })

        pub put_next : stay ≡ true → count < limits.held_keys → Putting (set keys count k) (count + 1) m (i + 1)
        put_next e f =
            subst (λ (x : Bool). Putting (set keys count k) (count + 1) x (i + 1)) (sym m-is)
            (record {
              filled = filled_more limits.held_keys blank_key keys count b.filled f k;
              few = omega arith;
              are = written-more limits.held_keys blank_key keys count b.filled f k (left now (drop (i + 1) old))
                  ∙ ap (λ (l : List HeldKey). take count keys ++ l) (sym (put_on (told ∙ e))) ∙ b.are;
            })

        -- no room for one more
        pub put-over : stay ≡ true → limits.held_keys ≤ count → limits.held_keys < length (path ++ left false old)
        put-over e f =
            let l = left now (drop (i + 1) old) in
            let a = ap length (sym b.are ∙ ap (λ (m : List HeldKey). take count keys ++ m) (put_on (told ∙ e))) in
            let x = length-append (take count keys) (k ∷ l) in
            let c = b.filled.long in
            let d = b.few in
            let y = length-take-le count keys (let z : count ≤ length keys = omega arith in z) in
            let w : length (k ∷ l) ≡ suc (length l) = refl in
            omega (arith, a, x, y, w, f)

    pub put-end : (keys : List HeldKey) (count : ℕ) (met : Bool) (i : ℕ) → length old ≤ i → Putting keys count met i →
        record { keys = keys; count = count } ≡ held_of limits (path ++ left false old)
    unfolding held_of left keep from_key
    put-end keys count met i g b =
        let none : left met (drop i old) ≡ [] =
        ap (left met) (drop_of_length-le old g) ∙ bool_cases met (λ e. rw e refl) (λ e. rw e refl) in
        let all : take count keys ++ [] ≡ path ++ left false old =
        ap (λ (l : List HeldKey). take count keys ++ l) (sym none) ∙ b.are in
        let x = filled-all limits.held_keys blank_key keys (path ++ left false old) count b.filled b.few all in
        let y = filled-count limits.held_keys blank_key keys (path ++ left false old) count b.filled b.few all in
        λ t. record { keys = x t; count = y t }

  -- ---- the answers
  pub before-is : (old : List HeldKey) → (end ≡ 0 → ⊥) → path ++ left false old ≡ path_before path end old
  unfolding left path_before
  before-is old f = rw (ne_eqb end 0 f) refl

  pub at_default : (old : List HeldKey) → end ≡ 0 → (h : Held) → h ≡ held_of limits path → h.count ≤ limits.held_keys →
      GoesBefore path end old (record { over = false; held = h })
  unfolding path_before
  at_default old e h q f =
      record {
        kept = λ z. q ∙ ap (held_of limits) (rw (eq-eqb end 0 e) (sym (append-nil path)));
        few = λ z. f;
        beyond = λ z. absurd (false≢true z);
      }

  pub at-end : (old : List HeldKey) → (end ≡ 0 → ⊥) → (h : Held) → h ≡ held_of limits (path ++ left false old) →
      h.count ≤ limits.held_keys → GoesBefore path end old (record { over = false; held = h })
  at-end old f h q few =
      record { kept = λ z. q ∙ ap (held_of limits) (before-is old f); few = λ z. few; beyond = λ z. absurd (false≢true z) }

  pub at-over : (old : List HeldKey) → (end ≡ 0 → ⊥) → (h : Held) → limits.held_keys < length (path ++ left false old) →
      GoesBefore path end old (record { over = true; held = h })
  at-over old f h g =
      record {
        kept = λ z. absurd (false≢true (sym z));
        few = λ z. absurd (false≢true (sym z));
        beyond = λ z. subst (λ (l : List HeldKey). limits.held_keys < length l) (before-is old f) g;
      }
