-- The body of a Delete payload: its fields, and each SPI by its place.
use Prim.Native.Nat.{ℕ, zero, suc, ◌+◌, ◌-◌, ◌*◌, ◌<◌, ◌≤◌}
use mathlib.Core.Path.{◌≡◌, ap, sym, ◌∙◌}
use mathlib.Core.List.{List, []}
use mathlib.Core.Bool.{true, cond, ◌&&◌}
use native.Mathlib.Nat.{mul-suc, mul-zero, mul-le-mul_left}
use native.Mathlib.Omega.{arith}
use borrow.Author.Tests.{eqb-true}
use lib.Dec.{leb, eqb}
use lib.ListN.{length, take, drop, get_or}
use lib.Seq.{drop-drop}
use Rattle.lists.proofs.Cases.{and_parts}
use Rattle.octets.specs.Numbers.{oct}
use Rattle.octets.specs.Walk.{be16, part}
use Rattle.wire_frames.specs.Delete.{stretches, delete_of, delete_fits}
use Rattle.wire_frames.proofs.DeleteGrammar.{delete-to}
use Rattle.check_payloads.specs.inner.Deletion.{DeleteIs}

-- the stretch i of n stretches of k octets
pub stretch-at : (n k : ℕ) (s : List ℕ) (i : ℕ) → i < n → get_or (stretches n k s) i [] ≡ take k (drop (k * i) s)
unfolding stretches
stretch-at zero k s i h = absurd (omega arith)
stretch-at (suc n) k s zero h = ap (λ (m : ℕ). take k (drop m s)) (sym (mul-zero k))
stretch-at (suc n) k s (suc i) h =
    stretch-at n k (drop k s) i (omega arith)
    ∙ ap (take k) (drop-drop (k * i) k s ∙ ap (λ (m : ℕ). drop m s) (let m : k + k * i ≡ k * suc i = omega (arith, mul-suc k i) in m))

module _ (o : List ℕ) (e : delete_fits o ≡ true) where
  pub least : 4 ≤ length o
  least = (delete-to o e).least

  pub counted : be16 o 2 ≡ length (delete_of o).spis
  counted = (delete-to o e).count

  filled : 4 + oct o 1 * be16 o 2 ≡ length o
  filled =
      let last = cond (eqb (oct o 0) 3) (eqb (oct o 1) 4) true in
      let f = and_parts (leb 4 (length o)) (eqb (4 + oct o 1 * be16 o 2) (length o) && last) e in
      let g = and_parts (eqb (4 + oct o 1 * be16 o 2) (length o)) last f.1 in
      eqb-true (4 + oct o 1 * be16 o 2) (length o) g.0

  pub delete-is : (p z n : ℕ) → p ≡ oct o 0 → z ≡ oct o 1 → n ≡ be16 o 2 → n < 65536
      → DeleteIs o (record { protocol = p; size = z; count = n })
  delete-is p z n pq zq nq h = record {
    protocol = pq;
    size = zq;
    count = nq ∙ counted;
    few = h;
    filled = (λ i. 4 + zq i * nq i) ∙ filled;
  }

  module _ (i z : ℕ) (zq : z ≡ oct o 1) (h : i < length (delete_of o).spis) where
    pub spi-inside : 4 + z * i + z ≤ length o
    spi-inside =
        let c = counted in
        let k : suc i ≤ be16 o 2 = omega arith in
        let g = mul-le-mul_left z k in
        let l : 4 + z * be16 o 2 ≡ length o = ap (λ (y : ℕ). 4 + y * be16 o 2) zq ∙ filled in
        omega (arith, mul-suc z i)

    pub spi-is : part o (4 + z * i) (4 + z * i + z) ≡ get_or (delete_of o).spis i []
    spi-is =
        let c = counted in
        let n : 4 + z * i + z - (4 + z * i) ≡ z = omega arith in
        ap (λ (m : ℕ). take m (drop (4 + z * i) o)) n
        ∙ (λ j. take (zq j) (drop (4 + zq j * i) o))
        ∙ ap (take (oct o 1)) (sym (drop-drop (oct o 1 * i) 4 o))
        ∙ sym (stretch-at (be16 o 2) (oct o 1) (drop 4 o) i (omega arith))
