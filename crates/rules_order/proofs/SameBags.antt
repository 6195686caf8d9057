-- A bag is itself rearranged; so bags may be moved as they are, and one of them rearranged beside the others.
use native.Mathlib.Omega.{arith}
use Prim.Native.Nat.{ℕ, ◌+◌, ◌≤◌}
use mathlib.Core.Path.{◌≡◌, refl, ap, sym, ◌∙◌, subst}
use mathlib.Core.Bool.{Bool}
use mathlib.Core.List.{List, [], ◌∷◌, ◌++◌}
use mathlib.Core.Logic.{⊎_elim}
use lib.ListN.{length, take, drop, take-append-drop}
use lib.Seq.{length-take-le}
use Rattle.octets.specs.Numbers.{oct}
use Rattle.octets.specs.Walk.{no-more, then}
use Rattle.octets.proofs.Local.{oct-append}
use Rattle.wire_attributes.specs.Attribute.{Attribute}
use Rattle.wire_attributes.specs.Place.{in_bag}
use Rattle.wire_attributes.specs.Grammar.{Attributes}
use Rattle.wire_attributes.specs.declared.tables.Place.{Place}
use Rattle.wire_attributes.specs.declared.tables.Place.TheVariants as place
use Rattle.wire_policies.specs.Policy.{spi_size}
use Rattle.wire_bags.specs.Bag.{Bag}
use Rattle.wire_bags.specs.Grammar.{IsBag, is-group, is_member}
use Rattle.wire_frames.specs.Grammar.{joined}
use Rattle.rules_refusals.specs.Reordered.{AnyOrder, none, next, swapped}
use Rattle.rules_refusals.specs.Reordered as reordered
use Rattle.rules_refusals.proofs.AnyOrder.{as_is}
use Rattle.rules_chains.specs.Chain.{In}
use Rattle.rules_outcome.proofs.Members.{in_head, in_tail, in-cases, not-in-none}
use Rattle.rules_outcome.proofs.AnyOrder.{order-among, equal-back}
use Rattle.rules_order.specs.Rearranged.{OneAttribute, BagRearranged}
use Rattle.rules_order.proofs.Cutting.{attribute-one}

-- ---- elements that are related to themselves
module _ {A : Type 0} {R : A → A → Type 0} where
  as-each : (l : List A) → ((a : A) → In a l → R a a) → AnyOrder R l l
  as-each [] each = none
  as-each (a ∷ l) each = next (each a (in_head a a l refl)) (as-each l (λ b i. each b (in_tail b a l i)))

  equal-in : {l m : List A} → AnyOrder ◌≡◌ l m → ((a : A) → In a l → R a a) → AnyOrder R l m
  equal-in none each = none
  equal-in (next {a = a} {b = b} {l = l} e r) each =
      next (subst (R a) e (each a (in_head a a l refl))) (equal-in r (λ c i. each c (in_tail c a l i)))
  equal-in swapped each = swapped
  equal-in (reordered.then r s) each = reordered.then (equal-in r each) (equal-in s (λ a i. each a (order-among (equal-back r) a i)))

  pub equal-moved : (l m : List A) → ((a : A) → In a l → R a a) → AnyOrder ◌≡◌ l m → AnyOrder R l m
  equal-moved l m each r = equal-in r each

  pub one-moved : (l m : List A) (a b : A) → ((c : A) → In c (l ++ a ∷ m) → R c c) → R a b → AnyOrder R (l ++ a ∷ m) (l ++ b ∷ m)
  one-moved [] m a b each r = next r (as-each m (λ c i. each c (in_tail c a m i)))
  one-moved (d ∷ l) m a b each r =
      next (each d (in_head d d (l ++ a ∷ m) refl)) (one-moved l m a b (λ c i. each c (in_tail c d (l ++ a ∷ m) i)) r)

-- ---- the stretches of attributes
pub record Stretched (s : List ℕ) : Type 0 where
  pub stretches : List (List ℕ)
  pub each : (o : List ℕ) → In o stretches → OneAttribute o
  pub from : joined stretches ≡ s

stretched : (p : Place) {s : List ℕ} {l : List Attribute} → Attributes p s l → Stretched s
unfolding joined
stretched p no-more = record { stretches = []; each = λ o i. absurd (not-in-none o i); from = refl }
stretched p (then o s {a = a} i r) =
    let t = stretched p r in
    record {
      stretches = o ∷ t.stretches;
      each = λ q j.
          ⊎_elim (λ e. subst OneAttribute (sym e) (attribute-one p o a i)) (λ k. t.each q k) (in-cases q o t.stretches j);
      from = ap (λ (x : List ℕ). o ++ x) t.from;
    }

-- ---- a bag, cut behind its head
cut-bag : (o : List ℕ) (k : ℕ) (p : Place) (l : List Attribute) → oct o 0 ≡ k → 4 + spi_size k ≤ length o →
    Attributes p (drop (4 + spi_size k) o) l → BagRearranged o o
cut-bag o k p l e n a =
    let t = stretched p a in
    let m = length-take-le (4 + spi_size k) o n in
    let w = take-append-drop (4 + spi_size k) o in
    let first : oct (take (4 + spi_size k) o) 0 ≡ k =
    sym (oct-append (take (4 + spi_size k) o) (drop (4 + spi_size k) o) 0 (omega arith)) ∙ ap (λ (x : List ℕ). oct x 0) w ∙ e in
    record {
      head = take (4 + spi_size k) o;
      size = m ∙ ap (λ (i : ℕ). 4 + spi_size i) (sym first);
      held = drop (4 + spi_size k) o;
      others = drop (4 + spi_size k) o;
      moved =
          record {
            stretches = t.stretches;
            others = t.stretches;
            each = t.each;
            order = as_is (λ x. refl) t.stretches;
            from = t.from;
            to = t.from;
          };
      from = sym w;
      to = sym w;
    }

pub bag-same : (fresh : Bool) (o : List ℕ) (x : Bag) → IsBag fresh o x → BagRearranged o o
bag-same fresh o _ (is-group {x = x} i) =
    cut-bag o x.protocol (in_bag fresh x.protocol) i.attributes i.protocol i.least i.held
bag-same fresh o _ (is_member i) = cut-bag o 0 place.MemberBag i.attributes i.first i.least i.held
