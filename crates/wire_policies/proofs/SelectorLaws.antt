-- What the code's tests say of the selector that some octets start with.
use Rattle.std.specs.Prelude.{Ok}
use Prim.Native.Nat.{ℕ, ◌<◌, ◌≤◌}
use mathlib.Core.Path.{◌≡◌, refl, ap, sym, ◌∙◌}
use mathlib.Core.List.{List}
use mathlib.Core.Bool.{Bool, true, false, cond, ◌&&◌}
use native.Mathlib.Omega.{arith}
use borrow.Author.Tests.{le-leb, lt-leb, leb-true, lt-ltb, ltb-true, eq-eqb, ne_eqb}
use lib.Dec.{leb, ltb, eqb}
use lib.ListN.{length, drop}
use Rattle.lists.proofs.Cases.{and_parts}
use Rattle.octets.specs.Numbers.{oct}
use Rattle.octets.specs.Walk.{be16, whole, opened}
use Rattle.octets.proofs.Walks.{Takes, took, begun-none, begun-some, takes-begun, opened-is, opened-not, takes-opened}
use Rattle.wire_attributes.specs.Answers.{broken_at, spot_of}
use Rattle.wire_attributes.proofs.Loops.{ends_at}
use Rattle.wire_policies.specs.Selector.{selector_size, selector_of, selector_fits, selector}

-- a selector has at least 16 octets
pub size-some : {n : ℕ} (t : ℕ) → (n ≡ 0 → ⊥) → n ≡ selector_size t → 16 ≤ n
size-some {n} t z f = go (eqb t 7) (eqb t 8) f
  where
    go : (x y : Bool) → n ≡ cond x 16 (cond y 40 0) → 16 ≤ n
    go true y e = omega arith
    go false true e = omega arith
    go false false e = absurd (z e)

module _ (h b : ℕ) (s : List ℕ) where
  pub missing : length s ≡ 0 → broken_at h ≡ spot_of s (selector h b s)
  unfolding selector
  missing e = sym (ap (spot_of s) (begun-none h s (opened b (selector_fits s) (whole (selector_of s) (drop (selector_size (oct s 0)) s))) e))

  module _ (some : length s ≡ 0 → ⊥) where
    is : selector h b s ≡ opened b (selector_fits s) (whole (selector_of s) (drop (selector_size (oct s 0)) s))
    unfolding selector
    is = begun-some h s (opened b (selector_fits s) (whole (selector_of s) (drop (selector_size (oct s 0)) s))) some

    bad : selector_fits s ≡ false → broken_at b ≡ spot_of s (selector h b s)
    bad e = sym (ap (spot_of s) (is ∙ opened-not b (selector_fits s) (whole (selector_of s) (drop (selector_size (oct s 0)) s)) e))

    module _ (t n : ℕ) (e : t ≡ oct s 0) (f : n ≡ selector_size t) where
      size_is : selector_size (oct s 0) ≡ n
      size_is = ap selector_size (sym e) ∙ sym f

      pub no-type : n ≡ 0 → broken_at b ≡ spot_of s (selector h b s)
      no-type z = bad (rw size_is (rw z refl))

      module _ (z : n ≡ 0 → ⊥) where
        pub cut : length s < n → broken_at b ≡ spot_of s (selector h b s)
        cut k = bad (rw (size_is, lt-ltb 0 n (omega arith), lt-leb n (length s) k))

        module _ (k : n ≤ length s) (m : ℕ) (g : m ≡ be16 s 2) where
          pub fits : m ≡ n → Ok n ≡ spot_of s (selector h b s)
          fits q =
              let u : selector_fits s ≡ true =
              rw (size_is, lt-ltb 0 n (omega arith), le-leb n (length s) k) (eq-eqb (be16 s 2) n (sym g ∙ q)) in
              ends_at s (selector_of s) n k ∙ ap (λ (y : ℕ). spot_of s (whole (selector_of s) (drop y s))) (sym size_is)
              ∙ sym (ap (spot_of s) (is ∙ opened-is b (selector_fits s) (whole (selector_of s) (drop (selector_size (oct s 0)) s)) u))

          pub wrong : (m ≡ n → ⊥) → broken_at b ≡ spot_of s (selector h b s)
          wrong q =
              bad (rw (size_is, lt-ltb 0 n (omega arith), le-leb n (length s) k) (ne_eqb (be16 s 2) n (λ u. q (g ∙ u))))

pub takes : (h b : ℕ) (s : List ℕ) → Takes s (selector h b s)
unfolding selector
takes h b s =
    let n = selector_size (oct s 0) in
    takes-begun h s (opened b (selector_fits s) (whole (selector_of s) (drop (selector_size (oct s 0)) s)))
    (takes-opened s b (selector_fits s) (whole (selector_of s) (drop (selector_size (oct s 0)) s))
    (λ e.
    let f = and_parts (ltb 0 n) (leb n (length s) && eqb (be16 s 2) n) e in
    let g = and_parts (leb n (length s)) (eqb (be16 s 2) n) f.1 in
    took s n (ltb-true 0 n f.0) (leb-true n (length s) g.0)))
