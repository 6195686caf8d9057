-- The reader of attributes answers a list exactly when the octets are that list's.
use Prim.Native.Nat.{ℕ, ◌+◌, ◌-◌, ◌%◌, ◌≤◌}
use mathlib.Core.Path.{◌≡◌, refl, ap, sym, ◌∙◌}
use mathlib.Core.List.{List, [], ◌++◌}
use mathlib.Core.Bool.{Bool, true, false, cond, ◌&&◌}
use native.Mathlib.Omega.{arith}
use borrow.Author.Tests.{le-leb, lt-leb, leb-true, leb-false}
use lib.Dec.{leb}
use lib.ListN.{length, drop, length-append, length-drop}
use lib.Seq.{drop-append-le, take_all, drop-length}
use Rattle.lists.proofs.Cases.{and_parts}
use Rattle.octets.specs.Walk.{be16, part, Reading, whole, opened}
use Rattle.octets.proofs.Walks.{by-test}
use Rattle.octets.proofs.Local.{extended, be16-append, part-append, opened-extend, Local}
use Rattle.octets.proofs.Grammar.{Cuts, row_read, read-row, sound-of, complete-of}
use Rattle.wire_attributes.specs.Attribute.{Attribute, is_short, value_offset, attribute_size, value_octets, attribute_of, fits}
use Rattle.wire_attributes.specs.Layout.{formed_in, fits_in, attribute, attributes}
use Rattle.wire_attributes.specs.Grammar.{Format, in-short, in-long, IsAttribute, Attributes}
use Rattle.wire_attributes.specs.declared.tables.Place.{Place}
use Rattle.wire_attributes.proofs.AttributeLaws.{size-least, value-inside, takes}
use Rattle.wire_attributes.proofs.SplitGrammar.{joined, Each, Split, together, splits, one_way}

-- AN ATTRIBUTE IS READ FROM ITS OWN OCTETS
module _ (o r : List ℕ) (h : 4 ≤ length o) where
  first : be16 (o ++ r) 0 ≡ be16 o 0
  first = be16-append o r 0 (omega arith)

  second : be16 (o ++ r) 2 ≡ be16 o 2
  second = be16-append o r 2 (omega arith)

  pub same_size : attribute_size (o ++ r) ≡ attribute_size o
  same_size = λ i. cond (leb 32768 (first i)) 4 (4 + second i)

  module _ (k : attribute_size o ≤ length o) where
    same-value : value_octets (o ++ r) ≡ value_octets o
    same-value =
        (λ i. part (o ++ r) (cond (leb 32768 (first i)) 2 4) (same_size i))
        ∙ part-append o r (value_offset o) (attribute_size o) (value-inside o) k

    pub same-attribute : attribute_of (o ++ r) ≡ attribute_of o
    same-attribute = λ i. record { short = leb 32768 (first i); kind = first i % 32768; value = same-value i }

    same-fits : (p : Place) → fits_in p (o ++ r) ≡ fits_in p o
    same-fits p =
        (λ i. leb (same_size i) (length (o ++ r)) && formed_in p (same-attribute i))
        ∙ ap (λ (t : Bool). t && formed_in p (attribute_of o))
        (le-leb (attribute_size o) (length (o ++ r)) (omega (arith, length-append o r)) ∙ sym (le-leb (attribute_size o) (length o) k))

module _ (p : Place) where
  counted : (b : ℕ) (s : List ℕ) (a : Attribute) (rest : List ℕ) → attribute p b s ≡ whole a rest
      → (4 ≤ attribute_size s) × (attribute_size s ≤ length s) × (rest ≡ drop (attribute_size s) s)
  unfolding attribute
  counted b s a rest =
      by-test (λ (y : Reading Attribute). y ≡ whole a rest →
      (4 ≤ attribute_size s) × (attribute_size s ≤ length s) × (rest ≡ drop (attribute_size s) s))
      (fits_in p s)
      (λ t q. (size-least s, leb-true (attribute_size s) (length s) (and_parts (fits s) (formed_in p (attribute_of s)) t).0, cc))
      (λ t q. let z : ◌≡◌ {A = ℕ} 0 1 = cc in absurd (omega arith))

  extends : (b : ℕ) (o r : List ℕ) → 4 ≤ length o → attribute_size o ≤ length o → attribute p b (o ++ r) ≡ extended r (attribute p b o)
  unfolding attribute
  extends b o r h k =
      opened-extend o r b (fits_in p (o ++ r)) (fits_in p o) (whole (attribute_of (o ++ r)) (drop (attribute_size (o ++ r)) (o ++ r)))
      (whole (attribute_of o) (drop (attribute_size o) o)) (same-fits o r h k p)
      (λ t. (λ i. whole (same-attribute o r h k i) (drop (same_size o r h i) (o ++ r)))
      ∙ ap (whole (attribute_of o)) (drop-append-le (attribute_size o) o r k))

  pub local : Local (attribute p) 4 attribute_size
  local = record { same = same_size; counts = counted; extend = extends }

  -- THE RELATION AND THE READER AGREE on the octets of one attribute
  module _ (o : List ℕ) (a : Attribute) where
    left-none : drop (attribute_size o) o ≡ [] → attribute_size o ≤ length o → length o ≡ attribute_size o
    left-none e k = omega (arith, ap length e, length-drop (attribute_size o) o)

    pub formats : (t : Bool) → is_short o ≡ t → length o ≡ attribute_size o → attribute_of o ≡ a → Format o a
    formats true e l q =
        let m : length o ≡ 4 = l ∙ ap (λ (t : Bool). cond t 4 (4 + be16 o 2)) e in
        in-short (record {
          format = ap (λ (x : Attribute). x.short) (sym q) ∙ e;
          top = leb-true 32768 (be16 o 0) e;
          kind = ap (λ (x : Attribute). x.kind) q;
          size = m;
          value =
              sym (take_all 2 (drop 2 o) (rw length-drop (omega arith)))
              ∙ ap (λ (t : Bool). part o (cond t 2 4) (cond t 4 (4 + be16 o 2))) (sym e) ∙ ap (λ (x : Attribute). x.value) q;
        })
    formats false e l q =
        let m : length o ≡ 4 + be16 o 2 = l ∙ ap (λ (t : Bool). cond t 4 (4 + be16 o 2)) e in
        in-long (record {
          format = ap (λ (x : Attribute). x.short) (sym q) ∙ e;
          top = leb-false 32768 (be16 o 0) e;
          kind = ap (λ (x : Attribute). x.kind) q;
          size = m;
          value =
              sym (take_all (4 + be16 o 2 - 4) (drop 4 o) (rw length-drop (omega arith)))
              ∙ ap (λ (t : Bool). part o (cond t 2 4) (cond t 4 (4 + be16 o 2))) (sym e) ∙ ap (λ (x : Attribute). x.value) q;
        })

    pub to : (b : ℕ) → attribute p b o ≡ whole a [] → IsAttribute p o a
    unfolding attribute
    to b =
        by-test (λ (y : Reading Attribute). y ≡ whole a [] → IsAttribute p o a) (fits_in p o)
        (λ t q.
        let f = and_parts (fits o) (formed_in p (attribute_of o)) t in
        let e : attribute_of o ≡ a = cc in
        let d : drop (attribute_size o) o ≡ [] = cc in
        record {
          format = formats (is_short o) refl (left-none d (leb-true (attribute_size o) (length o) f.0)) e;
          formed = ap (formed_in p) (sym e) ∙ f.1;
        })
        (λ t q. let z : ◌≡◌ {A = ℕ} 0 1 = cc in absurd (omega arith))

    module _ (t : Bool) (e : is_short o ≡ t) (l : length o ≡ cond t 4 (4 + be16 o 2)) where
      pub made-size : length o ≡ attribute_size o
      made-size = l ∙ ap (λ (t : Bool). cond t 4 (4 + be16 o 2)) (sym e)

      pub made-attribute : drop (cond t 2 4) o ≡ a.value → be16 o 0 % 32768 ≡ a.kind → a.short ≡ t → attribute_of o ≡ a
      made-attribute v k m =
          let n = made-size in
          let w : value_octets o ≡ a.value =
          take_all (attribute_size o - value_offset o) (drop (value_offset o) o) (rw length-drop (omega arith))
          ∙ ap (λ (t : Bool). drop (cond t 2 4) o) e ∙ v in
          λ i. record { short = (e ∙ sym m) i; kind = k i; value = w i }

    -- octets in either format are of their size, and say the attribute
    pub format-size : Format o a → length o ≡ attribute_size o
    format-size (in-short x) = made-size true (le-leb 32768 (be16 o 0) x.top) x.size
    format-size (in-long x) = made-size false (lt-leb 32768 (be16 o 0) x.top) x.size

    pub format-says : Format o a → attribute_of o ≡ a
    format-says (in-short x) = made-attribute true (le-leb 32768 (be16 o 0) x.top) x.size x.value x.kind x.format
    format-says (in-long x) = made-attribute false (lt-leb 32768 (be16 o 0) x.top) x.size x.value x.kind x.format

    pub from : IsAttribute p o a → (b : ℕ) → attribute p b o ≡ whole a []
    unfolding attribute
    from i b =
        let n = format-size i.format in
        let q = format-says i.format in
        let g : fits_in p o ≡ true =
        ap (λ (x : Attribute). fits o && formed_in p x) q ∙ ap (λ (t : Bool). fits o && t) i.formed
        ∙ ap (λ (t : Bool). t && true) (le-leb (attribute_size o) (length o) (omega arith)) in
        ap (λ (t : Bool). opened b t (whole (attribute_of o) (drop (attribute_size o) o))) g
        ∙ (λ i. whole (q i) (drop (sym n i) o)) ∙ ap (whole a) (drop-length o)

  pub sound : (b : ℕ) (s : List ℕ) (a : Attribute) (rest : List ℕ) → attribute p b s ≡ whole a rest → Cuts (IsAttribute p) s a rest
  sound = sound-of (attribute p) 4 attribute_size local (IsAttribute p) (λ b o a q. to o a b q)

  pub complete : (b : ℕ) (o rest : List ℕ) (a : Attribute) → IsAttribute p o a → attribute p b (o ++ rest) ≡ whole a rest
  complete = complete-of (attribute p) 4 attribute_size local (IsAttribute p) (λ b o a i. from o a i b)

  -- octets that are a list's are read to that list, at any offset; what is read to a list are that list's octets
  pub are-read : {s : List ℕ} {l : List Attribute} → Attributes p s l → (b : ℕ) → attributes p b s ≡ whole l []
  are-read f b = row_read (attribute p) (takes p) (IsAttribute p) sound complete f b

  pub read-are : (b : ℕ) (s : List ℕ) (l : List Attribute) (rest : List ℕ) → attributes p b s ≡ whole l rest → Attributes p s l
  read-are b s l rest q = read-row (attribute p) (takes p) (IsAttribute p) sound complete b s l rest q

  -- whole attributes one after the other are read to the list of what each is read to; whole octets split into attributes in one way
  pub attributes-together : {os : List (List ℕ)} {l : List Attribute} → Each (attribute p) os l → (b : ℕ)
      → attributes p b (joined os) ≡ whole l []
  attributes-together f b = together (attribute p) (takes p) (IsAttribute p) sound complete f b

  pub attributes-split : (b : ℕ) (s : List ℕ) (l : List Attribute) (rest : List ℕ) → attributes p b s ≡ whole l rest
      → Split (attribute p) s l
  attributes-split b s l rest q = splits (attribute p) (takes p) (IsAttribute p) sound complete b s l rest q

  pub attributes-one-way : {os os' : List (List ℕ)} {l l' : List Attribute} → Each (attribute p) os l → Each (attribute p) os' l'
      → joined os ≡ joined os' → (os ≡ os') × (l ≡ l')
  attributes-one-way f g e = one_way (attribute p) (takes p) (IsAttribute p) sound complete f g e
