-- An array that a loop fills from the front: its first k places are written, the others are blank.
use native.Mathlib.Omega.{arith}
use native.Mathlib.Numerals.{add-one}
use Prim.Native.Nat.{ℕ, suc, ◌+◌, ◌-◌, ◌≤◌, ◌<◌}
use mathlib.Core.Path.{◌≡◌, ap, sym, ◌∙◌}
use mathlib.Core.List.{List, [], ◌∷◌, ◌++◌, append-nil}
use lib.ListN.{length, take, drop, set, replicate, length-set, length-replicate, take-append-drop}
use lib.Seq.{drop-drop, drop-set-lt, take-suc-set, append_snoc, length-take-le}

module _ {A : Type 0} (n : ℕ) (b : A) where
  pub record Filled (out : List A) (k : ℕ) : Type 0 where
    pub long : length out ≡ n
    pub blank : drop k out ≡ replicate (n - k) b

  pub filled_none : (a : A) → a ≡ b → Filled (replicate n a) 0
  filled_none a e =
      let z : n ≡ n - 0 = omega arith in
      record { long = length-replicate n a; blank = ap (replicate n) e ∙ ap (λ (m : ℕ). replicate m b) z }

  module _ (out : List A) (k : ℕ) (f : Filled out k) (lt : k < n) (x : A) where
    pub filled_more : Filled (set out k x) (k + 1)
    filled_more =
        let g : k < k + 1 = omega arith in
        let s : n - k ≡ suc (n - (k + 1)) = omega arith in
        record {
          long = length-set out k x ∙ f.long;
          blank = drop-set-lt (k + 1) out k x g ∙ sym (drop-drop 1 k out) ∙ ap (drop 1) (f.blank ∙ ap (λ (m : ℕ). replicate m b) s);
        }

    -- what was written, and what is still to be
    pub written-more : (rest : List A) → take (k + 1) (set out k x) ++ rest ≡ take k out ++ (x ∷ rest)
    written-more rest =
        let e = f.long in
        let g : k < length out = omega arith in
        rw (add-one, take-suc-set, append_snoc)

  module _ (out l : List A) (k : ℕ) (f : Filled out k) (le : k ≤ n) (e : take k out ++ [] ≡ l) where
    pub filled-count : k ≡ length l
    filled-count =
        let g = f.long in
        sym (length-take-le k out (omega arith)) ∙ ap length (sym (append-nil (take k out)) ∙ e)

    pub filled-all : out ≡ l ++ replicate (n - length l) b
    filled-all =
        let p : take k out ≡ l = sym (append-nil (take k out)) ∙ e in
        sym (take-append-drop k out) ∙ ap (λ (x : List A). x ++ drop k out) p
        ∙ ap (λ (x : List A). l ++ x) (f.blank ∙ ap (λ (m : ℕ). replicate (n - m) b) filled-count)
