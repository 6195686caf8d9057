-- The reader of transforms answers a list exactly when the octets are that list's.
use Prim.Native.Nat.{ℕ, ◌+◌, ◌-◌, ◌≤◌}
use mathlib.Core.Path.{◌≡◌, refl, ap, sym, ◌∙◌, subst}
use mathlib.Core.List.{List, [], ◌++◌}
use mathlib.Core.Bool.{Bool, true, false, ◌&&◌, ◌||◌}
use native.Mathlib.Omega.{arith}
use borrow.Author.Tests.{le-leb, eqb-true}
use lib.Dec.{leb, eqb}
use lib.ListN.{length, drop, length-drop}
use lib.Seq.{take_all, drop-length}
use Rattle.lists.proofs.Cases.{and_parts}
use Rattle.octets.specs.Numbers.{oct}
use Rattle.octets.specs.Walk.{be16, part, sized, whole, mapped, opened, closed, within, Linked}
use Rattle.octets.proofs.Walks.{begun-some}
use Rattle.octets.proofs.Local.{extended, oct-append, be16-append, size-append, mapped-extend, opened-extend, begun-extend, within-extend}
use Rattle.octets.proofs.Local.{Local, exact, split}
use Rattle.octets.proofs.Inverse.{inverse-mapped, inverse-opened, inverse-begun, inverse-within}
use Rattle.octets.proofs.Grammar.{Splits, reads, read}
use Rattle.wire_attributes.specs.Attribute.{Attribute}
use Rattle.wire_attributes.specs.Place.{in_transform}
use Rattle.wire_attributes.specs.Tree.{key_lengths}
use Rattle.wire_attributes.specs.Layout.{attributes}
use Rattle.wire_attributes.specs.Grammar.{Attributes}
use Rattle.wire_attributes.proofs.GrammarLaws.{are-read, read-are}
use Rattle.wire_policies.specs.Transform.{Transform, is_mark, transform_fits, transform_of, transform, no_more, transforms}
use Rattle.wire_policies.specs.Grammar.{mark, IsTransform, Transforms}
use Rattle.wire_policies.proofs.TransformLaws.{fits-is, takes}

abbrev size_at : List ℕ → ℕ
size_at s = be16 s 2

record Read (s : List ℕ) (b : ℕ) (x : Linked Bool Transform) (rest : List ℕ) : Type 0 where
  fits : transform_fits s ≡ true
  held : List Attribute
  left : List ℕ
  inner : attributes (in_transform (oct s 4)) (b + 8) (part s 8 (be16 s 2)) ≡ whole held left
  item : transform_of s held ≡ x
  after : rest ≡ drop (be16 s 2) s

-- the mark is 3 or 0
mark-is : (n : ℕ) → is_mark n ≡ true → n ≡ mark (eqb n 3)
mark-is n e = go (eqb n 3) refl e
  where
    go : (t : Bool) → eqb n 3 ≡ t → (t || eqb n 0) ≡ true → n ≡ mark t
    go true f q = eqb-true n 3 f
    go false f q = eqb-true n 0 q

is-mark : (n : ℕ) (t : Bool) → n ≡ mark t → (is_mark n ≡ true) × (eqb n 3 ≡ t)
is-mark n true e = (ap is_mark e, ap (λ (y : ℕ). eqb y 3) e)
is-mark n false e = (ap is_mark e, ap (λ (y : ℕ). eqb y 3) e)

module _ (h : ℕ) (more : Bool) where
  inverse : (b : ℕ) (s : List ℕ) (x : Linked Bool Transform) (rest : List ℕ) → transform h more b s ≡ whole x rest → Read s b x rest
  unfolding transform
  inverse b s x rest q =
      let w = within 8 (be16 s 2) (attributes (in_transform (oct s 4))) b s in
      let f = inverse-opened b (transform_fits s) (mapped (transform_of s) w) x rest
      (inverse-begun h s (opened b (transform_fits s) (mapped (transform_of s) w)) x rest q) in
      let g = inverse-mapped (transform_of s) w x rest f.1 in
      let k = inverse-within 8 (be16 s 2) (attributes (in_transform (oct s 4))) b s g.item rest g.is in
      record { fits = f.0; held = g.item; left = k.left; inner = k.inner; item = g.gives; after = k.after }

  same_size : (o r : List ℕ) → 8 ≤ length o → size_at (o ++ r) ≡ size_at o
  same_size o r l = be16-append o r 2 (omega arith)

  counted : (b : ℕ) (s : List ℕ) (x : Linked Bool Transform) (rest : List ℕ) → transform h more b s ≡ whole x rest
      → (8 ≤ size_at s) × (size_at s ≤ length s) × (rest ≡ drop (size_at s) s)
  counted b s x rest q = let f = inverse b s x rest q in let g = fits-is s f.fits in (g.0, g.1, f.after)

  module _ (b : ℕ) (o r : List ℕ) (l : 8 ≤ length o) (k : size_at o ≤ length o) where
    first : oct (o ++ r) 0 ≡ oct o 0
    first = oct-append o r 0 (omega arith)

    kind : oct (o ++ r) 4 ≡ oct o 4
    kind = oct-append o r 4 (omega arith)

    same-fits : transform_fits (o ++ r) ≡ transform_fits o
    same-fits = λ i. (size-append o r 8 (omega arith) k i && is_mark (first i))

    same-held : transform_fits o ≡ true
        → mapped (transform_of (o ++ r)) (within 8 (be16 (o ++ r) 2) (attributes (in_transform (oct (o ++ r) 4))) b (o ++ r))
        ≡ extended r (mapped (transform_of o) (within 8 (be16 o 2) (attributes (in_transform (oct o 4))) b o))
    same-held e =
        let f = fits-is o e in
        let id : be16 (o ++ r) 6 ≡ be16 o 6 = be16-append o r 6 (omega arith) in
        (λ i. mapped
        (λ (m : List Attribute). record {
          item = record { kind = kind i; id = id i; key_lengths = key_lengths (in_transform (kind i)) m };
          next = eqb (first i) 3;
        })
        (within 8 (same_size o r l i) (attributes (in_transform (kind i))) b (o ++ r)))
        ∙ ap (mapped (transform_of o)) (within-extend o r 8 (be16 o 2) (attributes (in_transform (oct o 4))) b f.0 k)
        ∙ mapped-extend o r (transform_of o) (within 8 (be16 o 2) (attributes (in_transform (oct o 4))) b o)

    extends : transform h more b (o ++ r) ≡ extended r (transform h more b o)
    unfolding transform
    extends =
        let x = mapped (transform_of (o ++ r)) (within 8 (be16 (o ++ r) 2) (attributes (in_transform (oct (o ++ r) 4))) b (o ++ r)) in
        let y = mapped (transform_of o) (within 8 (be16 o 2) (attributes (in_transform (oct o 4))) b o) in
        begun-extend o r h (opened b (transform_fits (o ++ r)) x) (opened b (transform_fits o) y) (omega arith)
        (opened-extend o r b (transform_fits (o ++ r)) (transform_fits o) x y same-fits same-held)

  pub local : Local (transform h more) 8 size_at
  local = record { same = same_size; counts = counted; extend = extends }

  to : (b : ℕ) (o : List ℕ) (x : Linked Bool Transform) → transform h more b o ≡ whole x [] → IsTransform more o x.item x.next
  to b o x q =
      let f = inverse b o x [] q in
      let g = fits-is o f.fits in
      let n : be16 o 2 ≡ length o = omega (arith, g.0, g.1, ap length f.after, length-drop (be16 o 2) o) in
      let d : part o 8 (be16 o 2) ≡ drop 8 o = take_all (be16 o 2 - 8) (drop 8 o) (rw length-drop (omega arith)) in
      let k : oct o 4 ≡ x.item.kind = ap (λ (y : Linked Bool Transform). y.item.kind) f.item in
      let a : Attributes (in_transform (oct o 4)) (part o 8 (be16 o 2)) f.held =
      read-are (in_transform (oct o 4)) (b + 8) (part o 8 (be16 o 2)) f.held f.left f.inner in
      record {
        first =
            mark-is (oct o 0) (and_parts (sized 8 o) (is_mark (oct o 0)) f.fits).1
            ∙ ap (λ (y : Linked Bool Transform). mark y.next) f.item;
        size = n;
        least = omega (arith, g.0);
        kind = k;
        id = ap (λ (y : Linked Bool Transform). y.item.id) f.item;
        attributes = f.held;
        held =
            subst (λ (t : ℕ). Attributes (in_transform t) (drop 8 o) f.held) k
            (subst (λ (y : List ℕ). Attributes (in_transform (oct o 4)) y f.held) d a);
        key_lengths =
            ap (λ (t : ℕ). key_lengths (in_transform t) f.held) (sym k)
            ∙ ap (λ (y : Linked Bool Transform). y.item.key_lengths) f.item;
      }

  from : (b : ℕ) (o : List ℕ) (x : Linked Bool Transform) → IsTransform more o x.item x.next → transform h more b o ≡ whole x []
  unfolding transform
  from b o x i =
      let k = sym i.kind in
      let l = i.least in
      let n = i.size in
      let m = is-mark (oct o 0) x.next i.first in
      let f : transform_fits o ≡ true =
      ap (λ (t : Bool). t && is_mark (oct o 0))
      (ap (λ (t : Bool). t && leb (be16 o 2) (length o)) (le-leb 8 (be16 o 2) (omega arith)) ∙ le-leb (be16 o 2) (length o)
      (omega arith))
      ∙ m.0 in
      let d : drop 8 o ≡ part o 8 (be16 o 2) = sym (take_all (be16 o 2 - 8) (drop 8 o) (rw length-drop (omega arith))) in
      let a : Attributes (in_transform (oct o 4)) (part o 8 (be16 o 2)) i.attributes =
      subst (λ (y : List ℕ). Attributes (in_transform (oct o 4)) y i.attributes) d
      (subst (λ (t : ℕ). Attributes (in_transform t) (drop 8 o) i.attributes) k i.held) in
      let w : within 8 (be16 o 2) (attributes (in_transform (oct o 4))) b o ≡ whole i.attributes (drop (be16 o 2) o) =
      ap (closed (drop (be16 o 2) o)) (are-read (in_transform (oct o 4)) a (b + 8)) in
      let e : transform_of o i.attributes ≡ x =
      λ j. record {
        item = record {
          kind = i.kind j;
          id = i.id j;
          key_lengths = (ap (λ (t : ℕ). key_lengths (in_transform t) i.attributes) i.kind ∙ i.key_lengths) j;
        };
        next = m.1 j;
      } in
      begun-some h o (opened b (transform_fits o) (mapped (transform_of o) (within 8 (be16 o 2) (attributes (in_transform (oct o 4))) b o)))
      (λ y. omega arith)
      ∙ ap (λ (t : Bool). opened b t (mapped (transform_of o) (within 8 (be16 o 2) (attributes (in_transform (oct o 4))) b o))) f
      ∙ ap (mapped (transform_of o)) w ∙ (λ j. whole (e j) (drop (n j) o)) ∙ ap (whole x) (drop-length o)

module _ (h : ℕ) where
  pub sound : (more : Bool) (b : ℕ) (s : List ℕ) (x : Linked Bool Transform) (rest : List ℕ) → no_more more s ≡ false
      → transform h more b s ≡ whole x rest
      → Splits IsTransform more s x.item x.next rest
  sound more b s x rest e q =
      let f = split (transform h more) 8 size_at (local h more) b s x rest q in
      record { octets = f.octets; joined = f.joined; is = to h more b f.octets x f.alone }

  pub complete : (more : Bool) (b : ℕ) (o rest : List ℕ) (x : Linked Bool Transform) → no_more more (o ++ rest) ≡ false
      → IsTransform more o x.item x.next → transform h more b (o ++ rest) ≡ whole x rest
  complete more b o rest x e i = exact (transform h more) 8 size_at (local h more) b o rest x (from h more b o x i)

  pub transforms-read : {s : List ℕ} {l : List Transform} {rest : List ℕ} → Transforms s l rest → (b : ℕ) → transforms h b s ≡ whole l rest
  transforms-read f b = reads no_more (transform h) (takes h) IsTransform sound complete f b

  pub read-transforms : (b : ℕ) (s : List ℕ) (l : List Transform) (rest : List ℕ) → transforms h b s ≡ whole l rest → Transforms s l rest
  read-transforms b s l rest q = read no_more (transform h) (takes h) IsTransform sound complete b q
