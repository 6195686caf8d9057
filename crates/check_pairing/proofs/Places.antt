-- Where the bag with a name stands: the walk that finds the place, and what stands there.
use Prim.Native.Nat.{ℕ, zero, suc, ◌+◌, ◌-◌, ◌<◌, ◌≤◌}
use mathlib.Core.Path.{◌≡◌, refl, ap, sym, ◌∙◌, subst}
use mathlib.Core.List.{List, flat_map}
use mathlib.Core.Bool.{Bool, true, false, cond}
use native.Mathlib.Omega.{arith}
use borrow.Author.Tests.{le-leb, lt-leb}
use lib.ListN.{length, drop}
use Rattle.octets.specs.Walk.{part}
use Rattle.octets.proofs.Walks.{tail}
use Rattle.lists.specs.Lists.{any, count}
use Rattle.lists.proofs.Cases.{bool_cases, lt-cases}
use Rattle.wire_bags.specs.Bag.{bags}
use Rattle.wire_readers.specs.inner.Values.{nowhere, is_whole}
use Rattle.wire_readers.specs.inner.Bags.{bags_in}
use Rattle.wire_readers.specs.declared.Stretch.{Stretch}
use Rattle.wire_readers.specs.declared.policy.Parts.{Parts}
use Rattle.wire_readers.proofs.BagsLaws.{bag-is, fits-first}
use Rattle.rules_refusals.specs.Contents.{group_bag_of}
use Rattle.rules_refusals.specs.Number6.{bag_named}
use Rattle.check_bagkeys.proofs.BagAt.{BagAt, bag-there, bag-at}
use Rattle.check_pairing.specs.inner.Names.{name_of, name_at, is_named}
use Rattle.check_pairing.specs.inner.Stretches.{bag_from, bag_stretch}
use Rattle.check_pairing.proofs.NamesOf.{parts, heads}
use Rattle.check_pairing.proofs.Seeking.{StretchIs, Seeking, seeking-start, seeking-end, seeking-yes, seeking-no}

module _ (p : ℕ) (x : List ℕ) (k : List ℕ) where
  -- ---- the place, one bag after the other
  nothing-from : (n at : ℕ) → length k ≤ at → bag_from n p x at k ≡ nowhere
  unfolding bag_from
  nothing-from zero at h = refl
  nothing-from (suc n) at h = rw (le-leb (length k) at h) refl

  module _ (fresh : Bool) (n at : ℕ) (h : at < length k) (r : Parts) (a : BagAt fresh k at r) (b : Bool)
      (f : b ≡ any (is_named p x) (name_of r.first (part k (at + 4) (at + r.body)))) where
    bag-next : bag_from (suc n) p x at k ≡ cond b (record { start = at + r.body; end = at + r.end }) (bag_from n p x (at + r.end) k)
    unfolding bag_from
    bag-next =
        let e : any (is_named p x) (name_at (drop at k)) ≡ b =
        sym (f ∙ (λ i. any (is_named p x) (name_of (a.first i) (a.spi i)))) in
        λ i. cond (lt-leb (length k) at h i) nowhere
        (cond (e i) (record { start = at + sym a.body i; end = at + sym a.end i }) (bag_from n p x (at + sym a.end i) k))

    pub bag-here : b ≡ true → bag_from (suc n) p x at k ≡ record { start = at + r.body; end = at + r.end }
    bag-here t = bag-next ∙ (λ i. cond (t i) (record { start = at + r.body; end = at + r.end }) (bag_from n p x (at + r.end) k))

    pub bag-later : b ≡ false → bag_from (suc n) p x at k ≡ bag_from n p x (at + r.end) k
    bag-later t = bag-next ∙ (λ i. cond (t i) (record { start = at + r.body; end = at + r.end }) (bag_from n p x (at + r.end) k))

  -- ---- the walk: it was not there so far
  pub record Going (at : ℕ) : Type 0 where
    pub inside : at ≤ length k
    pub fresh : Bool
    pub rest : is_whole (bags fresh 0 (drop at k)) ≡ true
    pub fuel : ℕ
    pub enough : length k ≤ at + fuel
    pub left : bag_from fuel p x at k ≡ bag_stretch p x k

  pub going_start : (fresh : Bool) → is_whole (bags fresh 0 k) ≡ true → Going 0
  going_start fresh e = record { inside = omega arith; fresh = fresh; rest = e; fuel = length k; enough = omega arith; left = refl }

  module _ (at : ℕ) (g : Going at) where
    pub going_end : length k ≤ at → nowhere ≡ bag_stretch p x k
    going_end h = sym (nothing-from g.fuel at h) ∙ g.left

    module _ (h : at < length k) (r : Parts) (a : BagAt g.fresh k at r) (b : Bool)
        (f : b ≡ any (is_named p x) (name_of r.first (part k (at + 4) (at + r.body)))) where
      one_less : bag_from (suc (g.fuel - 1)) p x at k ≡ bag_stretch p x k
      one_less = let u : suc (g.fuel - 1) ≡ g.fuel = omega (arith, g.enough) in ap (λ (n : ℕ). bag_from n p x at k) u ∙ g.left

      pub going-yes : b ≡ true → record { start = at + r.body; end = at + r.end } ≡ bag_stretch p x k
      going-yes t = sym (bag-here g.fresh (g.fuel - 1) at h r a b f t) ∙ one_less

      pub going-no : b ≡ false → Going (at + r.end)
      going-no t = record {
        inside = a.inside;
        fresh = g.fresh;
        rest = a.rest;
        fuel = g.fuel - 1;
        enough = omega (arith, g.enough, a.some, a.order);
        left = sym (bag-later g.fresh (g.fuel - 1) at h r a b f t) ∙ one_less;
      }

  -- ---- what stands there
  module _ (fresh : Bool) where
    a-bag : (at : ℕ) → at < length k → is_whole (bags fresh 0 (drop at k)) ≡ true → (r : Parts) × BagAt fresh k at r
    a-bag at h e =
        let t = bag-there fresh k at h e in (
          parts (tail k at),
          bag-at fresh k at (parts (tail k at)) h (bag-is fresh (tail k at) t.1 t.0 (parts (tail k at))
              (heads (tail k at) (fits-first fresh (tail k at) t.1 t.0))),
        )

    stretch-from : (n at : ℕ) → length k ≤ at + n → Seeking p x fresh k at → count (bag_named p x) (flat_map group_bag_of (bags_in fresh k)) ≡ 1
        → StretchIs fresh k p x (bag_from n p x at k)
    stretch-from zero at m s o = absurd (seeking-end p x fresh k at s (omega arith) o)
    stretch-from (suc n) at m s o =
        lt-cases at (length k)
        (λ h.
        let a = a-bag at h s.rest in
        let r = a.0 in
        let y = any (is_named p x) (name_of r.first (part k (at + 4) (at + r.body))) in
        bool_cases y
        (λ t.
        subst (StretchIs fresh k p x) (sym (bag-here fresh n at h r a.1 y refl t)) (seeking-yes p x fresh k at s r a.1 y refl t o))
        (λ t.
        subst (StretchIs fresh k p x) (sym (bag-later fresh n at h r a.1 y refl t))
        (stretch-from n (at + r.end) (omega (arith, a.1.some, a.1.order)) (seeking-no p x fresh k at s r a.1 y refl t) o)))
        (λ h. absurd (seeking-end p x fresh k at s h o))

    pub stretch-is : (r : Stretch) → r ≡ bag_stretch p x k → is_whole (bags fresh 0 k) ≡ true
        → count (bag_named p x) (flat_map group_bag_of (bags_in fresh k)) ≡ 1 → StretchIs fresh k p x r
    stretch-is r e w o = subst (StretchIs fresh k p x) (sym e) (stretch-from (length k) 0 (omega arith) (seeking-start p x fresh k w) o)
