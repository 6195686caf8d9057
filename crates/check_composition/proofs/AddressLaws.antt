-- A selector's addresses, and whether it is one group address and one port.
use Prim.Native.Nat.{ℕ, ◌+◌, ◌-◌, ◌<◌, ◌≤◌}
use mathlib.Core.Path.{◌≡◌, refl, ap, sym, ◌∙◌}
use mathlib.Core.List.{List, [], ◌∷◌}
use mathlib.Core.Bool.{Bool, true, false, ◌&&◌, cond}
use native.Mathlib.Omega.{arith}
use borrow.Author.Tests.{eq-eqb, ne_eqb, lt-leb, le-leb}
use lib.Dec.{leb, eqb}
use lib.ListN.{length, drop}
use lib.Seq.{get_or-drop, get_or-take}
use Rattle.octets.specs.Numbers.{oct}
use Rattle.octets.specs.Walk.{be16, part}
use Rattle.octets.specs.Compare.{same}
use Rattle.octets.proofs.Walks.{tail, to_end}
use Rattle.lists.proofs.Cases.{bool_cases}
use Rattle.wire_policies.specs.Selector.{Selector, address_size, selector_size}
use Rattle.wire_policies.specs.Grammar.{IsSelector}
use Rattle.rules_refusals.specs.Fitness.{multicast, one_group_address}

-- THE SIZE OF AN ADDRESS by the selector's type
module _ (k : ℕ) where
  sizes : 0 < selector_size k → (selector_size k ≡ 8 + address_size k + address_size k) × (4 ≤ address_size k)
  sizes h =
      bool_cases (eqb k 7) (λ e. rw e (refl, omega arith))
      (λ e. bool_cases (eqb k 8) (λ f. rw (e, f) (refl, omega arith)) (λ f. absurd (let z = rw (e, f) at h in omega arith)))

-- THE GROUP ADDRESSES by the first octet
module _ (k a : ℕ) where
  pub below : k ≡ 7 → a < 224 → false ≡ multicast k (a ∷ [])
  unfolding multicast
  below e h = rw (eq-eqb k 7 e, lt-leb 224 a h)

  pub up_to : k ≡ 7 → 224 ≤ a → leb a 239 ≡ multicast k (a ∷ [])
  unfolding multicast
  up_to e h = rw (eq-eqb k 7 e, le-leb 224 a h)

  pub other : (k ≡ 7 → ⊥) → eqb a 255 ≡ multicast k (a ∷ [])
  unfolding multicast
  other e = rw (ne_eqb k 7 e)

-- ONE SELECTOR
module _ (o : List ℕ) (x : Selector) (i : IsSelector o x) where
  pub long : 16 ≤ length o
  long = let f = sizes x.kind i.known in omega (arith, f.0, f.1, i.all)

  module _ (k n : ℕ) (kq : k ≡ oct o 0) (nq : n ≡ address_size k) where
    size_is : n ≡ address_size x.kind
    size_is = nq ∙ ap address_size (kq ∙ i.kind)

    pub room : (4 ≤ n) × (8 + n ≤ length o)
    room = let f = sizes x.kind i.known in (omega (arith, f.1, size_is), omega (arith, f.0, size_is, i.all))

    start_is : part o 8 (8 + n) ≡ x.start_address
    start_is = ap (λ (m : ℕ). part o 8 (8 + m)) size_is ∙ i.start_address

    end_is : tail o (8 + n) ≡ x.end_address
    end_is = to_end o (8 + n) ∙ ap (λ (m : ℕ). drop (8 + m) o) size_is ∙ i.end_address

    first-is : oct x.start_address 0 ≡ oct o 8
    first-is =
        let r = room in
        ap (λ (l : List ℕ). oct l 0) (sym start_is) ∙ get_or-take (8 + n - 8) (drop 8 o) 0 0 (omega arith) ∙ get_or-drop 8 o 0 0

    module _ (t : Bool) (tq : t ≡ same (part o 8 (8 + n)) (tail o (8 + n))) where
      same-is : t ≡ same x.start_address x.end_address
      same-is = tq ∙ (λ j. same (start_is j) (end_is j))

      pub not-one : t ≡ false → false ≡ one_group_address x
      unfolding one_group_address
      not-one e = rw (sym same-is, e)

      module _ (h : ℕ) (hq : h ≡ oct o 8) (m : Bool) (mq : m ≡ multicast k (h ∷ [])) (e : t ≡ true) where
        group-is : m ≡ multicast x.kind x.start_address
        unfolding multicast
        group-is =
            let a : h ≡ oct x.start_address 0 = hq ∙ sym first-is in
            mq ∙ (λ j. cond (eqb ((kq ∙ i.kind) j) 7) (leb 224 (a j) && leb (a j) 239) (eqb (a j) 255))

        pub not-group : m ≡ false → false ≡ one_group_address x
        unfolding one_group_address
        not-group f = rw (sym same-is, e, sym group-is, f)

        pub one-group : m ≡ true → (a b : ℕ) → a ≡ be16 o 4 → b ≡ be16 o 6 → eqb a b ≡ one_group_address x
        unfolding one_group_address
        one-group f a b aq bq = rw (sym same-is, e, sym group-is, f) (λ j. eqb ((aq ∙ i.start_port) j) ((bq ∙ i.end_port) j))
