-- Going through key bags whose layout is whole: the first one, and the others.
use Prim.Native.Nat.{ℕ, ◌+◌, ◌<◌}
use mathlib.Core.Path.{◌≡◌, ap, sym, ◌∙◌}
use mathlib.Core.List.{List, [], ◌∷◌}
use mathlib.Core.Bool.{Bool, true}
use lib.ListN.{length, drop}
use Rattle.octets.specs.Numbers.{oct}
use Rattle.octets.specs.Walk.{be16, part, whole}
use Rattle.octets.proofs.Grammar.{first_rest}
use Rattle.wire_attributes.specs.Layout.{attributes}
use Rattle.wire_readers.specs.inner.Values.{is_whole, attributes_in}
use Rattle.wire_readers.proofs.ValuesLaws.{whole_is, is-whole, any-offset}
use Rattle.wire_policies.specs.Policy.{head_size, head_fits}
use Rattle.wire_readers.specs.inner.Policies.{Heads}
use Rattle.wire_readers.specs.declared.policy.Parts.{Parts}
use Rattle.wire_bags.specs.Bag.{place_of, bag_of, bag, bags}
use Rattle.wire_bags.specs.Grammar.{IsBag}
use Rattle.wire_readers.specs.inner.Bags.{bags_in, BagIs}
use Rattle.wire_bags.proofs.BagLaws.{takes}
use Rattle.wire_bags.proofs.BagGrammar.{inverse, sound, complete}

module _ (fresh : Bool) where
  record Head (s : List ℕ) : Type 0 where
    fits : head_fits s ≡ true
    first : bags_in fresh s ≡ bag_of fresh s (attributes_in (place_of fresh (oct s 0)) (part s (head_size s) (be16 s 2)))
        ∷ bags_in fresh (drop (be16 s 2) s)
    held : is_whole (attributes (place_of fresh (oct s 0)) 0 (part s (head_size s) (be16 s 2))) ≡ true
    rest : is_whole (bags fresh 0 (drop (be16 s 2) s)) ≡ true

  head_of : (s : List ℕ) → is_whole (bags fresh 0 s) ≡ true → 0 < length s → Head s
  head_of s e h =
      let w = whole_is (bags fresh 0 s) e in
      let f = first_rest (bag fresh) (takes fresh) (IsBag fresh) (sound fresh) (complete fresh) 0 s (bags_in fresh s) w.0 h w.1 in
      let g = inverse fresh 0 s f.item (drop f.size s) (f.is 0) in
      let t = part s (head_size s) (be16 s 2) in
      let k : bags fresh 0 (drop (be16 s 2) s) ≡ whole f.others [] = ap (bags fresh 0) (sym g.after) ∙ f.rest 0 in
      let i = is-whole (bags fresh 0 (drop (be16 s 2) s)) f.others [] k in
      let a = is-whole (attributes (place_of fresh (oct s 0)) 0 t) g.held []
      (any-offset (place_of fresh (oct s 0)) (0 + head_size s) 0 t g.held g.left g.inner) in
      record {
        fits = g.fits;
        first = f.all ∙ (λ j. (sym g.item ∙ ap (bag_of fresh s) (sym a.1)) j ∷ sym i.1 j);
        held = a.0;
        rest = i.0;
      }

  module _ (s : List ℕ) (e : is_whole (bags fresh 0 s) ≡ true) (h : 0 < length s) where
    pub fits-first : head_fits s ≡ true
    fits-first = (head_of s e h).fits

    pub bag-is : (r : Parts) → Heads s r → BagIs fresh s r
    bag-is r x =
        let f = head_of s e h in
        record {
          head = x;
          item =
              f.first
              ∙ (λ j. bag_of fresh s (attributes_in (place_of fresh (sym x.first j)) (part s (sym x.body j) (sym x.end j)))
              ∷ bags_in fresh (drop (sym x.end j) s));
          held =
              (λ j. is_whole (attributes (place_of fresh (x.first j)) 0 (part s (x.body j) (x.end j)))) ∙ f.held;
          rest = (λ j. is_whole (bags fresh 0 (drop (x.end j) s))) ∙ f.rest;
        }
