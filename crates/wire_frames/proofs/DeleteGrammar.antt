-- The SPIs of a Delete payload: cut into stretches exactly when they are the SPIs one after the other.
use Prim.Native.Nat.{ℕ, zero, suc, ◌+◌, ◌*◌}
use mathlib.Core.Path.{◌≡◌, refl, ap, sym, ◌∙◌}
use mathlib.Core.List.{List, [], ◌∷◌, ◌++◌}
use mathlib.Core.Bool.{Bool, true, false, cond, ◌&&◌}
use native.Mathlib.Nat.{mul-suc, mul-zero}
use native.Mathlib.Omega.{arith}
use borrow.Author.Tests.{le-leb, leb-true, eq-eqb, eqb-true}
use lib.Dec.{leb, eqb}
use lib.ListN.{length, take, drop, length-append, length-drop, take-append-drop}
use lib.Seq.{length-take-le, take_at, drop_at}
use Rattle.lists.proofs.Cases.{and_parts}
use Rattle.octets.specs.Numbers.{oct}
use Rattle.octets.specs.Walk.{be16}
use Rattle.wire_frames.specs.Delete.{Delete, stretches, delete_of, delete_fits}
use Rattle.wire_frames.specs.Grammar.{Each, none, more, joined, IsDelete}

record Cut (n k : ℕ) (s : List ℕ) : Type 0 where
  each : Each k (stretches n k s)
  count : length (stretches n k s) ≡ n
  whole : joined (stretches n k s) ≡ s

empty : (s : List ℕ) → length s ≡ 0 → [] ≡ s
empty [] e = refl
empty (x ∷ s) e = absurd (omega arith)

cuts : (n k : ℕ) (s : List ℕ) → length s ≡ k * n → Cut n k s
unfolding stretches joined
cuts zero k s e = record { each = none; count = refl; whole = empty s (e ∙ mul-zero k) }
cuts (suc n) k s e =
    let l : length s ≡ k * n + k = e ∙ mul-suc k n in
    let f = cuts n k (drop k s) (rw length-drop (omega arith)) in
    record {
      each = more (length-take-le k s (omega arith)) f.each;
      count = ap suc f.count;
      whole = ap (λ (y : List ℕ). take k s ++ y) f.whole ∙ take-append-drop k s;
    }

back : (k : ℕ) {l : List (List ℕ)} → Each k l → stretches (length l) k (joined l) ≡ l
unfolding stretches joined
back k none = refl
back k (more {o} {l} e r) =
    (λ i. take_at o (joined l) k e i ∷ stretches (length l) k (drop_at o (joined l) k e i)) ∙ ap (λ (y : List (List ℕ)). o ∷ y) (back k r)

filled : (k : ℕ) {l : List (List ℕ)} → Each k l → length (joined l) ≡ k * length l
unfolding joined
filled k none = sym (mul-zero k)
filled k (more {o} {l} e r) =
    let h = filled k r in
    omega (arith, length-append o (joined l), mul-suc k (length l))

module _ (s : List ℕ) where
  pub delete-to : delete_fits s ≡ true → IsDelete s (delete_of s)
  delete-to e =
      let last = cond (eqb (oct s 0) 3) (eqb (oct s 1) 4) true in
      let f = and_parts (leb 4 (length s)) (eqb (4 + oct s 1 * be16 s 2) (length s) && last) e in
      let g = and_parts (eqb (4 + oct s 1 * be16 s 2) (length s)) last f.1 in
      let n = eqb-true (4 + oct s 1 * be16 s 2) (length s) g.0 in
      let c = cuts (be16 s 2) (oct s 1) (drop 4 s) (rw length-drop (omega arith)) in
      record {
        least = leb-true 4 (length s) f.0;
        protocol = refl;
        count = sym c.count;
        each = c.each;
        spis = sym c.whole;
        esp = λ p. eqb-true (oct s 1) 4 (ap (λ (t : Bool). cond t (eqb (oct s 1) 4) true) (sym (eq-eqb (oct s 0) 3 p)) ∙ g.1);
      }

  pub delete-from : (d : Delete) → IsDelete s d → (delete_fits s ≡ true) × (delete_of s ≡ d)
  delete-from d i =
      let l = i.least in
      let n : 4 + oct s 1 * be16 s 2 ≡ length s =
      omega (arith, ap (λ (y : ℕ). oct s 1 * y) i.count, filled (oct s 1) i.each, ap length i.spis, length-drop 4 s) in
      let e : cond (eqb (oct s 0) 3) (eqb (oct s 1) 4) true ≡ true = last (eqb (oct s 0) 3) refl in (
        ap (λ (t : Bool). t && (eqb (4 + oct s 1 * be16 s 2) (length s) && cond (eqb (oct s 0) 3) (eqb (oct s 1) 4) true))
            (le-leb 4 (length s) l)
            ∙ ap (λ (t : Bool). t && cond (eqb (oct s 0) 3) (eqb (oct s 1) 4) true) (eq-eqb (4 + oct s 1 * be16 s 2) (length s) n)
            ∙ e,
        λ j. record {
          protocol = i.protocol j;
          spis = ((λ h. stretches (i.count h) (oct s 1) (i.spis h)) ∙ back (oct s 1) i.each) j;
        },
      )
    where
      last : (t : Bool) → eqb (oct s 0) 3 ≡ t → cond t (eqb (oct s 1) 4) true ≡ true
      last true e = eq-eqb (oct s 1) 4 (i.esp (sym i.protocol ∙ eqb-true (oct s 0) 3 e))
      last false e = refl
