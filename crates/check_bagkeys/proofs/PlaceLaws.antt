-- The walk that finds where the attributes of the first Member Key Bag stand.
use Prim.Native.Nat.{ℕ, zero, suc, ◌+◌, ◌-◌, ◌<◌, ◌≤◌}
use mathlib.Core.Path.{◌≡◌, refl, ap, sym, ◌∙◌}
use mathlib.Core.List.{List}
use mathlib.Core.Bool.{Bool, true, false, cond, ◌&&◌}
use native.Mathlib.Omega.{arith}
use borrow.Author.Tests.{le-leb, lt-leb, eqb-true, eqb-false}
use lib.ListN.{length}
use lib.Dec.{eqb}
use Rattle.state_keys.specs.Limits.{limits}
use Rattle.lists.proofs.Cases.{bool_cases}
use Rattle.wire_readers.specs.inner.Values.{nowhere}
use Rattle.wire_readers.specs.declared.Stretch.{Stretch}
use Rattle.wire_readers.specs.declared.policy.Parts.{Parts}
use Rattle.check_bagkeys.specs.inner.Places.{member_from, member_in, first_member}
use Rattle.check_bagkeys.specs.declared.BagFacts.{BagFacts}
use Rattle.check_bagkeys.proofs.BagAt.{BagAt}
use Rattle.check_bagkeys.proofs.BagLaws.{BagWalk}

module _ (fresh : Bool) (k : List ℕ) where
  -- ---- the place, one bag after the other
  pub nothing-from : (n at : ℕ) → length k ≤ at → member_from n at k ≡ nowhere
  unfolding member_from
  nothing-from zero at h = refl
  nothing-from (suc n) at h = rw (le-leb (length k) at h) refl

  module _ (n at : ℕ) (h : at < length k) (r : Parts) (b : BagAt fresh k at r) where
    member-next : member_from (suc n) at k
        ≡ cond (eqb r.first 0) (record { start = at + r.body; end = at + r.end }) (member_from n (at + r.end) k)
    unfolding member_from
    member-next = λ i.
        cond (lt-leb (length k) at h i) nowhere
        (cond (eqb (sym b.first i) 0) (record { start = at + sym b.body i; end = at + sym b.end i })
        (member_from n (at + sym b.end i) k))

    pub member-here : eqb r.first 0 ≡ true → member_from (suc n) at k ≡ record { start = at + r.body; end = at + r.end }
    member-here t =
        member-next ∙ (λ i. cond (t i) (record { start = at + r.body; end = at + r.end }) (member_from n (at + r.end) k))

    pub member-later : eqb r.first 0 ≡ false → member_from (suc n) at k ≡ member_from n (at + r.end) k
    member-later t =
        member-next ∙ (λ i. cond (t i) (record { start = at + r.body; end = at + r.end }) (member_from n (at + r.end) k))

  -- ---- the walk: x is where the first of those passed stands; where none was passed, it is sought among the rest with so much fuel
  pub record Sought (x : Stretch) (at : ℕ) : Type 0 where
    pub fuel : ℕ
    pub enough : length k ≤ at + fuel
    pub none : x.end ≡ 0 → (x ≡ nowhere) × (member_from fuel at k ≡ member_in k)
    pub some : (x.end ≡ 0 → ⊥) → x ≡ member_in k

  pub sought-start : Sought nowhere 0
  sought-start = record { fuel = length k; enough = omega arith; none = λ z. (refl, refl); some = λ z. absurd (z refl) }

  module _ (x : Stretch) (at : ℕ) (w : Sought x at) where
    pub sought-end : length k ≤ at → x ≡ member_in k
    sought-end h =
        bool_cases (eqb x.end 0)
        (λ t. let p = w.none (eqb-true x.end 0 t) in p.0 ∙ sym (nothing-from w.fuel at h) ∙ p.1)
        (λ t. w.some (eqb-false x.end 0 t))

    module _ (h : at < length k) (r : Parts) (b : BagAt fresh k at r) where
      one_less : x.end ≡ 0 → member_from (suc (w.fuel - 1)) at k ≡ member_in k
      one_less z =
          let u : suc (w.fuel - 1) ≡ w.fuel = omega (arith, w.enough) in
          ap (λ (n : ℕ). member_from n at k) u ∙ (w.none z).1

      enough-left : length k ≤ at + r.end + (w.fuel - 1)
      enough-left = omega (arith, w.enough, b.some, b.order)

      -- the place stays: one is known, or this bag is none
      stays : (y : Stretch) → y ≡ x → (x.end ≡ 0 → eqb r.first 0 ≡ false) → Sought y (at + r.end)
      stays y q f = record {
        fuel = w.fuel - 1;
        enough = enough-left;
        none = λ z.
            let e = sym (ap (λ (u : Stretch). u.end) q) ∙ z in
            (q ∙ (w.none e).0, sym (member-later (w.fuel - 1) at h r b (f e)) ∙ one_less e);
        some = λ z. q ∙ w.some (λ e. z (ap (λ (u : Stretch). u.end) q ∙ e));
      }

      -- this bag is the first
      found : (y : Stretch) → y ≡ record { start = at + r.body; end = at + r.end } → eqb r.first 0 ≡ true → x.end ≡ 0
          → Sought y (at + r.end)
      found y q t e = record {
        fuel = w.fuel - 1;
        enough = enough-left;
        none = λ z. absurd (omega (arith, z, ap (λ (u : Stretch). u.end) q, b.some, b.order));
        some = λ z. q ∙ sym (member-here (w.fuel - 1) at h r b t) ∙ one_less e;
      }

      pub sought-next : (y : Stretch) → y ≡ first_member r.first (record { start = at + r.body; end = at + r.end }) x
          → Sought y (at + r.end)
      sought-next y q =
          let here : Stretch = record { start = at + r.body; end = at + r.end } in
          bool_cases (eqb r.first 0)
          (λ t.
          bool_cases (eqb x.end 0)
          (λ u. found y (q ∙ (λ i. cond (t i && u i) here x)) t (eqb-true x.end 0 u))
          (λ u. stays y (q ∙ (λ i. cond (t i && u i) here x)) (λ e. absurd (eqb-false x.end 0 u e))))
          (λ t. stays y (q ∙ (λ i. cond (t i && eqb x.end 0) here x)) (λ e. t))

-- ---- the walk over a KD body: the facts of the bags passed, and the first Member Key Bag
pub record KdWalk (fresh : Bool) (k : List ℕ) (f : BagFacts) (x : Stretch) (at : ℕ) : Type 0 where
  pub bags : BagWalk limits fresh k f at
  pub found : Sought fresh k x at
