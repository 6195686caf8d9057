-- The first bag from a place of a KD body on, and the others.
use Prim.Native.Nat.{ℕ, ◌+◌, ◌-◌, ◌<◌, ◌≤◌}
use mathlib.Core.Path.{◌≡◌, ap, sym, ◌∙◌, subst}
use mathlib.Core.List.{List, [], ◌∷◌}
use mathlib.Core.Bool.{Bool, true}
use native.Mathlib.Omega.{arith}
use lib.ListN.{length, drop, take, length-drop}
use lib.Seq.{drop-drop}
use Rattle.octets.specs.Numbers.{oct}
use Rattle.octets.specs.Walk.{be16, part, Reading}
use Rattle.octets.proofs.Walks.{tail, to_end, many-none}
use Rattle.wire_attributes.specs.Layout.{attributes}
use Rattle.wire_policies.specs.Policy.{head_size, head_spi}
use Rattle.wire_bags.specs.Bag.{Bag, place_of, bag, bags}
use Rattle.wire_bags.proofs.BagLaws.{takes}
use Rattle.wire_readers.specs.inner.Values.{is_whole, items_of, attributes_in}
use Rattle.wire_readers.specs.inner.Bags.{bags_in, BagIs}
use Rattle.wire_readers.specs.declared.policy.Parts.{Parts}
use Rattle.check_bagkeys.specs.inner.Facts.{bag_with}

pub part-within : (s : List ℕ) (at a e : ℕ) → part (drop at s) a e ≡ part s (at + a) (at + e)
part-within s at a e =
    let d : e - a ≡ at + e - (at + a) = omega arith in
    (λ i. take (d i) (drop-drop a at s i))

module _ (fresh : Bool) where
  pub no-bags : (k : List ℕ) (at : ℕ) → length k ≤ at → bags_in fresh (drop at k) ≡ []
  no-bags k at h =
      ap (λ (x : Reading (List Bag)). items_of x) (many-none (bag fresh) (takes fresh) 0 (drop at k) (rw length-drop (omega arith)))

  pub bag-there : (k : List ℕ) (at : ℕ) → at < length k → is_whole (bags fresh 0 (drop at k)) ≡ true →
      (0 < length (tail k at)) × (is_whole (bags fresh 0 (tail k at)) ≡ true)
  bag-there k at h e =
      subst (λ (x : List ℕ). (0 < length x) × (is_whole (bags fresh 0 x) ≡ true)) (sym (to_end k at)) (rw length-drop (omega arith), e)

  pub record BagAt (k : List ℕ) (at : ℕ) (r : Parts) : Type 0 where
    pub first : r.first ≡ oct (drop at k) 0
    pub body : r.body ≡ head_size (drop at k)
    pub end : r.end ≡ be16 (drop at k) 2
    pub some : 4 ≤ r.body
    pub order : r.body ≤ r.end
    pub inside : at + r.end ≤ length k
    pub spi : part k (at + 4) (at + r.body) ≡ head_spi (drop at k)
    pub item : bags_in fresh (drop at k)
        ≡ bag_with fresh r.first (head_spi (drop at k)) (attributes_in (place_of fresh r.first) (part k (at + r.body) (at + r.end)))
        ∷ bags_in fresh (drop (at + r.end) k)
    pub held : is_whole (attributes (place_of fresh r.first) 0 (part k (at + r.body) (at + r.end))) ≡ true
    pub rest : is_whole (bags fresh 0 (drop (at + r.end) k)) ≡ true

  pub bag-at : (k : List ℕ) (at : ℕ) (r : Parts) → at < length k → BagIs fresh (tail k at) r → BagAt k at r
  bag-at k at r h b =
      let c : BagIs fresh (drop at k) r = subst (λ (x : List ℕ). BagIs fresh x r) (to_end k at) b in
      let q = part-within k at r.body r.end in
      let d = drop-drop r.end at k in
      let f = c.head.first in
      record {
        first = f;
        body = c.head.body;
        end = c.head.end;
        some = c.head.some;
        order = c.head.order;
        inside = omega (arith, c.head.inside, length-drop at k);
        spi = sym (part-within k at 4 r.body) ∙ ap (part (drop at k) 4) c.head.body;
        item =
            c.item
            ∙ (λ i. bag_with fresh (sym f i) (head_spi (drop at k)) (attributes_in (place_of fresh r.first) (q i)) ∷ bags_in fresh (d i));
        held = (λ i. is_whole (attributes (place_of fresh r.first) 0 (sym q i))) ∙ c.held;
        rest = (λ i. is_whole (bags fresh 0 (sym d i))) ∙ c.rest;
      }
