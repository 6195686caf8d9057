-- Going through what a Group SA policy holds after its SPI: the first transform, and the others; the selectors in front of them.
use Prim.Native.Nat.{ℕ, ◌+◌, ◌-◌, ◌<◌, ◌≤◌}
use mathlib.Core.Path.{◌≡◌, refl, ap, sym, ◌∙◌, subst}
use mathlib.Core.List.{List, [], ◌∷◌, ◌++◌}
use mathlib.Core.Bool.{Bool, true, false, not}
use Rattle.std.proofs.lemmas.Bool.{not-true}
use native.Mathlib.Nat.{add-zero}
use native.Mathlib.Omega.{arith}
use lib.Dec.{eqb}
use lib.ListN.{length, take, drop, length-append, length-drop}
use lib.Seq.{get_or-drop, take-append_seam, drop-append_seam, drop-drop, take_all}
use Rattle.octets.specs.Numbers.{oct}
use Rattle.octets.specs.Walk.{be16, part, Spans, none, more}
use Rattle.octets.proofs.Walks.{tail as cut, to_end}
use Rattle.octets.proofs.Local.{oct-append, be16-append, part-append}
use Rattle.wire_attributes.specs.Attribute.{Attribute}
use Rattle.wire_attributes.specs.Place.{in_transform}
use Rattle.wire_attributes.specs.Tree.{key_lengths}
use Rattle.wire_attributes.specs.Layout.{attributes}
use Rattle.wire_attributes.specs.Grammar.{Attributes}
use Rattle.wire_attributes.specs.declared.tables.Place.{Place}
use Rattle.wire_attributes.proofs.GrammarLaws.{are-read}
use Rattle.wire_policies.specs.Selector.{Selector, selector_size}
use Rattle.wire_policies.specs.Transform.{Transform, no_more}
use Rattle.wire_policies.specs.Policy.{SaBody}
use Rattle.wire_policies.specs.Grammar.{mark, IsSelector, IsTransform, Transforms, IsSaBody}
use Rattle.wire_readers.specs.inner.Values.{is_whole, attributes_in}
use Rattle.wire_readers.specs.inner.Bodies.{TransformIs, SaPartsAre}
use Rattle.wire_readers.specs.declared.body.TransformParts.{TransformParts}
use Rattle.wire_readers.proofs.ValuesLaws.{is-whole}

-- octets that are attributes are whole and read to them
attributes-are : (p : Place) (s : List ℕ) (l : List Attribute) → Attributes p s l
    → (is_whole (attributes p 0 s) ≡ true) × (attributes_in p s ≡ l)
attributes-are p s l f = is-whole (attributes p 0 s) l [] (are-read p f 0)

-- ONE TRANSFORM AND THE OTHERS
mark-more : (t : Bool) → eqb (mark t) 3 ≡ t
mark-more true = refl
mark-more false = refl

record First (s : List ℕ) (l : List Transform) (tail : List ℕ) : Type 0 where
  octets : List ℕ
  left : List ℕ
  joined : s ≡ octets ++ left
  head : Transform
  next : Bool
  is : IsTransform true octets head next
  rest : List Transform
  all : l ≡ head ∷ rest
  others : Spans no_more IsTransform next left rest tail

first_of : {st : Bool} {s : List ℕ} {l : List Transform} {tail : List ℕ} → Spans no_more IsTransform st s l tail → st ≡ true → First s l tail
first_of (none e) h = let z : ◌≡◌ {A = ℕ} 0 1 = cc in absurd (omega arith)
first_of (more {st' = t} o s {a = a} {l = l} e i r) h = record {
  octets = o;
  left = s;
  joined = refl;
  head = a;
  next = t;
  is = subst (λ (u : Bool). IsTransform u o a t) h i;
  rest = l;
  all = refl;
  others = r;
}

module _ (s : List ℕ) (l : List Transform) (tail : List ℕ) (x : Transforms s l tail) where
  first : First s l tail
  first = first_of x refl

  -- the octets of the first transform are those up to its end
  size_is : length first.octets ≡ be16 s 2
  size_is =
      let f = first in
      let h = f.is.least in
      sym f.is.size ∙ sym (be16-append f.octets f.left 2 (omega arith)) ∙ ap (λ (y : List ℕ). be16 y 2) (sym f.joined)

  pub room : (8 ≤ be16 s 2) × (be16 s 2 ≤ length s)
  room =
      let f = first in
      (omega (arith, f.is.least, size_is), omega (arith, size_is, ap length f.joined, length-append f.octets f.left))

  pub transform-is : (k i m n : ℕ) → k ≡ oct s 4 → i ≡ be16 s 6 → m ≡ oct s 0 → n ≡ be16 s 2 → k < 256 → i < 65536 → n < 65536
      → TransformIs s l tail (record { kind = k; id = i; more = eqb m 3; end = n })
  transform-is k i m n kq iq mq nq kl il nl =
      let f = first in
      let o = f.octets in
      let r = f.left in
      let h = f.is.least in
      let g = room in
      let same : (j : ℕ) → j < length o → oct s j ≡ oct o j = λ j w. ap (λ (y : List ℕ). oct y j) f.joined ∙ oct-append o r j w in
      let kk : f.head.kind ≡ k = sym (kq ∙ same 4 (omega arith) ∙ f.is.kind) in
      let ii : f.head.id ≡ i = sym (iq ∙ ap (λ (y : List ℕ). be16 y 6) f.joined ∙ be16-append o r 6 (omega arith) ∙ f.is.id) in
      let mm : f.next ≡ eqb m 3 = sym (ap (λ (y : ℕ). eqb y 3) (mq ∙ same 0 (omega arith) ∙ f.is.first) ∙ mark-more f.next) in
      let nn : length o ≡ n = size_is ∙ sym nq in
      let left : r ≡ drop n s = sym (ap (drop n) f.joined ∙ ap (λ (y : ℕ). drop y (o ++ r)) (sym nn) ∙ drop-append_seam o r) in
      let d : drop 8 o ≡ part s 8 n =
      sym (take_all (n - 8) (drop 8 o) (rw length-drop (omega arith)))
      ∙ sym (ap (λ (y : List ℕ). part y 8 n) f.joined ∙ part-append o r 8 n (omega arith) (omega arith)) in
      let a = attributes-are (in_transform k) (part s 8 n) f.is.attributes
      (subst (λ (y : List ℕ). Attributes (in_transform k) y f.is.attributes) d
      (subst (λ (y : ℕ). Attributes (in_transform y) (drop 8 o) f.is.attributes) kk f.is.held)) in
      record {
        head = f.head;
        rest = f.rest;
        all = f.all;
        kind = kk;
        id = ii;
        key_lengths = sym f.is.key_lengths ∙ (λ j. key_lengths (in_transform (kk j)) (sym a.1 j));
        held = a.0;
        octet = kl;
        two_octets = il;
        short = nl;
        least = omega (arith, g.0, nq);
        inside = omega (arith, g.1, nq);
        others = subst (λ (t : Bool). Spans no_more IsTransform t (drop n s) f.rest tail) mm
            (subst (λ (y : List ℕ). Spans no_more IsTransform f.next y f.rest tail) left f.others);
      }

-- BEHIND THE LAST TRANSFORM, which is read at a place
none_left : {s : List ℕ} {l : List Transform} {tail : List ℕ} {go : Bool} → Spans no_more IsTransform go s l tail → go ≡ false → tail ≡ s
none_left (none e) h = refl
none_left (more o s e i r) h = let z : ◌≡◌ {A = ℕ} 0 1 = cc in absurd (omega arith)

module _ (s : List ℕ) (at : ℕ) (l : List Transform) (tail : List ℕ) (r : TransformParts)
    (f : Transforms (cut s at) l tail → TransformIs (cut s at) l tail r) (x : Transforms (drop at s) l tail) where
  found : TransformIs (cut s at) l tail r
  found = f (subst (λ (y : List ℕ). Transforms y l tail) (sym (to_end s at)) x)

  pub next-inside : at + r.end ≤ length s
  next-inside = omega (arith, found.least, found.inside, ap length (to_end s at), length-drop at s)

  pub behind-last : not r.more ≡ true → tail ≡ drop (at + r.end) s
  behind-last h = none_left found.others (not-true r.more h) ∙ ap (drop r.end) (to_end s at) ∙ drop-drop r.end at s

-- SELECTORS IN FRONT OF THE TRANSFORMS
selector-size-is : (o r : List ℕ) (x : Selector) → IsSelector o x → (0 < length o) × (length o ≡ selector_size (oct (o ++ r) 0))
selector-size-is o r x i =
    let n = i.known in
    let l = i.all in
    let h : 0 < length o = omega arith in
    (h, l ∙ ap selector_size (sym (oct-append o r 0 h ∙ i.kind)))

module _ (p : Place) (s : List ℕ) (x : SaBody) (i : IsSaBody p s x) (d : ℕ) (dq : d ≡ selector_size (oct s 0)) where
  source-size : (0 < d) × (length i.source ≡ d)
  source-size =
      let f = selector-size-is i.source (i.destination ++ i.after) x.source i.from in
      let e = f.1 ∙ ap (λ (y : List ℕ). selector_size (oct y 0)) (sym i.joined) ∙ sym dq in
      (omega (arith, f.0, e), e)

  -- what comes after the source selector
  left : drop d s ≡ i.destination ++ i.after
  left =
      (λ j. drop (sym source-size.1 j) (i.joined j)) ∙ drop-append_seam i.source (i.destination ++ i.after)

  all-octets : length s ≡ d + (length i.destination + length i.after)
  all-octets = omega (
    arith,
    ap length i.joined,
    length-append i.source (i.destination ++ i.after),
    length-append i.destination i.after,
    source-size.1,
  )

  module _ (e : ℕ) (eq : e ≡ selector_size (oct s d)) where
    destination-size : length i.destination ≡ e
    destination-size =
        let z : oct (drop d s) 0 ≡ oct s d = simp (get_or-drop, add-zero) in
        (selector-size-is i.destination i.after x.destination i.to).1
        ∙ ap selector_size (ap (λ (y : List ℕ). oct y 0) (sym left) ∙ z) ∙ sym eq

    pub transforms-there : d + e ≤ length s
    transforms-there = omega (arith, all-octets, destination-size)

    after_is : drop (d + e) s ≡ i.after
    after_is =
        sym (drop-drop e d s)
        ∙ (λ j. drop (sym destination-size j) (left j)) ∙ drop-append_seam i.destination i.after

    pub transforms-are : Transforms (cut s (d + e)) x.suite.transforms i.tail
    transforms-are =
        subst (λ (y : List ℕ). Transforms y x.suite.transforms i.tail) (sym (to_end s (d + e) ∙ after_is)) i.transforms

    pub parts_are : (n : ℕ) → n ≤ length (cut s (d + e)) → i.tail ≡ drop n (cut s (d + e))
        → SaPartsAre p s x (record { destination = d; transforms = d + e; attributes = d + e + n })
    parts_are n h q =
        let t : i.tail ≡ drop (d + e + n) s = q ∙ ap (drop n) (to_end s (d + e)) ∙ drop-drop n (d + e) s in
        let a = attributes-are p (drop (d + e + n) s) x.suite.attributes
        (subst (λ (y : List ℕ). Attributes p y x.suite.attributes) t i.attributes) in
        let m : d + e - d ≡ length i.destination = omega (arith, destination-size) in
        let o : part s d (d + e) ≡ i.destination = (λ j. take (m j) (left j)) ∙ take-append_seam i.destination i.after in
        record {
          order = omega arith;
          then = omega arith;
          inside = omega (arith, transforms-there, h, ap length (to_end s (d + e)), length-drop (d + e) s);
          destination = subst (λ (y : List ℕ). IsSelector y x.destination) (sym o) i.to;
          transforms = subst (λ (y : List ℕ). Transforms (drop (d + e) s) x.suite.transforms y) t
              (subst (λ (y : List ℕ). Transforms y x.suite.transforms i.tail) (sym after_is) i.transforms);
          held = a.0;
          attributes = a.1;
        }
