-- The reader of key bags answers a list exactly when the octets are that list's.
use Prim.Native.Nat.{ℕ, ◌+◌, ◌<◌, ◌≤◌}
use mathlib.Core.Path.{◌≡◌, refl, ap, sym, ◌∙◌, subst}
use mathlib.Core.List.{List, [], ◌++◌}
use mathlib.Core.Bool.{Bool, true, false, cond, ◌||◌}
use native.Mathlib.Omega.{arith}
use borrow.Author.Tests.{lt-ltb, eq-eqb, ne_eqb, eqb-true, eqb-false}
use lib.Dec.{ltb, eqb}
use lib.ListN.{length, drop}
use lib.Seq.{drop-length}
use Rattle.octets.specs.Numbers.{oct}
use Rattle.octets.specs.Walk.{be16, part, Reading, whole, mapped, opened, closed, within}
use Rattle.octets.proofs.Local.{extended, be16-append, mapped-extend, opened-extend, within-extend, Local}
use Rattle.octets.proofs.Inverse.{inverse-mapped, inverse-opened, inverse-within}
use Rattle.octets.proofs.Grammar.{Cuts, row_read, read-row, sound-of, complete-of}
use Rattle.wire_attributes.specs.Attribute.{Attribute}
use Rattle.wire_attributes.specs.Place.{in_bag}
use Rattle.wire_attributes.specs.Tree.{sa_keys, wrap_keys, fresh_keys}
use Rattle.wire_attributes.specs.Layout.{attributes}
use Rattle.wire_attributes.specs.Grammar.{Attributes}
use Rattle.wire_attributes.specs.declared.tables.Place.{Place}
use Rattle.wire_attributes.specs.declared.tables.Place.TheVariants as place
use Rattle.wire_attributes.proofs.GrammarLaws.{are-read, read-are}
use Rattle.wire_attributes.proofs.SplitGrammar.{joined, Each, Split, together, splits, one_way}
use Rattle.wire_policies.specs.Policy.{spi_size, head_size, head_fits, head_spi}
use Rattle.wire_policies.proofs.HeadLaws.{head-is}
use Rattle.wire_policies.proofs.PolicyGrammar.{first, same_head, same-spi, exact-size, body-octets, known-spi, made-head}
use Rattle.wire_bags.specs.Bag.{Bag, group_keys, member_keys, place_of, group_key_bag_of, bag_of, bag, bags}
use Rattle.wire_bags.specs.Grammar.{IsBag, is-group, is_member, Bags}
use Rattle.wire_bags.proofs.BagLaws.{takes}

abbrev size_at : List ℕ → ℕ
size_at s = be16 s 2

module _ (fresh : Bool) where
  pub record Read (b : ℕ) (s : List ℕ) (x : Bag) (rest : List ℕ) : Type 0 where
    pub fits : head_fits s ≡ true
    pub held : List Attribute
    pub left : List ℕ
    pub inner : attributes (place_of fresh (oct s 0)) (b + head_size s) (part s (head_size s) (be16 s 2)) ≡ whole held left
    pub item : bag_of fresh s held ≡ x
    pub after : rest ≡ drop (be16 s 2) s

  pub inverse : (b : ℕ) (s : List ℕ) (x : Bag) (rest : List ℕ) → bag fresh b s ≡ whole x rest → Read b s x rest
  unfolding bag
  inverse b s x rest q =
      let w = within (head_size s) (be16 s 2) (attributes (place_of fresh (oct s 0))) b s in
      let f = inverse-opened b (head_fits s) (mapped (bag_of fresh s) w) x rest q in
      let g = inverse-mapped (bag_of fresh s) w x rest f.1 in
      let k = inverse-within (head_size s) (be16 s 2) (attributes (place_of fresh (oct s 0))) b s g.item rest g.is in
      record { fits = f.0; held = g.item; left = k.left; inner = k.inner; item = g.gives; after = k.after }

  same_size : (o r : List ℕ) → 4 ≤ length o → size_at (o ++ r) ≡ size_at o
  same_size o r l = be16-append o r 2 (omega arith)

  counted : (b : ℕ) (s : List ℕ) (x : Bag) (rest : List ℕ) → bag fresh b s ≡ whole x rest →
      (4 ≤ size_at s) × (size_at s ≤ length s) × (rest ≡ drop (size_at s) s)
  counted b s x rest q =
      let f = inverse b s x rest q in
      let g = head-is s f.fits in
      (omega (arith, g.0), g.1, f.after)

  module _ (b : ℕ) (o r : List ℕ) (l : 4 ≤ length o) (k : size_at o ≤ length o) where
    same-held : head_fits o ≡ true
        → mapped (bag_of fresh (o ++ r)) (within (head_size (o ++ r)) (be16 (o ++ r) 2) (attributes (place_of fresh (oct (o ++ r) 0))) b
        (o ++ r)) ≡ extended r (mapped (bag_of fresh o) (within (head_size o) (be16 o 2) (attributes (place_of fresh (oct o 0))) b o))
    same-held e =
        let f = head-is o e in
        (λ i. mapped
        (λ (m : List Attribute). cond (eqb (first o r l k i) 0) (member_keys (record { keys = wrap_keys place.MemberBag m }))
        (group_keys (group_key_bag_of fresh (first o r l k i) (same-spi o r l k e i) m)))
        (within (4 + spi_size (first o r l k i)) (same_size o r l i) (attributes (place_of fresh (first o r l k i))) b (o ++ r)))
        ∙ ap (mapped (bag_of fresh o)) (within-extend o r (head_size o) (be16 o 2) (attributes (place_of fresh (oct o 0))) b f.0 k)
        ∙ mapped-extend o r (bag_of fresh o) (within (head_size o) (be16 o 2) (attributes (place_of fresh (oct o 0))) b o)

    extends : bag fresh b (o ++ r) ≡ extended r (bag fresh b o)
    unfolding bag
    extends =
        opened-extend o r b (head_fits (o ++ r)) (head_fits o)
        (mapped (bag_of fresh (o ++ r)) (within (head_size (o ++ r)) (be16 (o ++ r) 2) (attributes (place_of fresh (oct (o ++ r) 0))) b
        (o ++ r))) (mapped (bag_of fresh o) (within (head_size o) (be16 o 2) (attributes (place_of fresh (oct o 0))) b o))
        (same_head o r l k) same-held

  pub local : Local (bag fresh) 4 size_at
  local = record { same = same_size; counts = counted; extend = extends }

  module _ (b : ℕ) (o : List ℕ) where
    member-to : (l : List Attribute) → head_fits o ≡ true → be16 o 2 ≡ length o → oct o 0 ≡ 0
        → Attributes place.MemberBag (drop (head_size o) o) l → IsBag fresh o (member_keys (record { keys = wrap_keys place.MemberBag l }))
    member-to l e n z a =
        let g = head-is o e in
        is_member (record {
          first = z;
          size = n;
          least = omega (arith, g.0);
          attributes = l;
          held = subst (λ (t : ℕ). Attributes place.MemberBag (drop (4 + spi_size t) o) l) z a;
          keys = refl;
        })

    group-to : (l : List Attribute) → head_fits o ≡ true → be16 o 2 ≡ length o → (oct o 0 ≡ 0 → ⊥)
        → Attributes (in_bag fresh (oct o 0)) (drop (head_size o) o) l
        → IsBag fresh o (group_keys (group_key_bag_of fresh (oct o 0) (head_spi o) l))
    group-to l e n z a =
        let g = head-is o e in
        let k = known-spi o e z in
        is-group (record {
          protocol = refl;
          known = k.0;
          spi_octets = k.1;
          size = n;
          least = omega (arith, g.0);
          spi = refl;
          attributes = l;
          held = a;
          keys = refl;
          entries = refl;
        })

    to : (x : Bag) → bag fresh b o ≡ whole x [] → IsBag fresh o x
    to x q =
        let f = inverse b o x [] q in
        let n = exact-size o f.fits f.after in
        let a : Attributes (place_of fresh (oct o 0)) (drop (head_size o) o) f.held =
        subst (λ (y : List ℕ). Attributes (place_of fresh (oct o 0)) y f.held) (body-octets o f.fits n)
        (read-are (place_of fresh (oct o 0)) (b + head_size o) (part o (head_size o) (be16 o 2)) f.held f.left f.inner) in
        subst (IsBag fresh o) f.item (go f.held f.fits n (eqb (oct o 0) 0) refl a)
      where
        go : (l : List Attribute) → head_fits o ≡ true → be16 o 2 ≡ length o → (t : Bool) → eqb (oct o 0) 0 ≡ t
            → Attributes (cond t place.MemberBag (in_bag fresh (oct o 0))) (drop (head_size o) o) l
            → IsBag fresh o (cond t (member_keys (record { keys = wrap_keys place.MemberBag l }))
            (group_keys (group_key_bag_of fresh (oct o 0) (head_spi o) l)))
        go l e n true t a = member-to l e n (eqb-true (oct o 0) 0 t) a
        go l e n false t a = group-to l e n (eqb-false (oct o 0) 0 t) a

    opens : (x : Bag) (l : List Attribute) → head_fits o ≡ true → be16 o 2 ≡ length o
        → Attributes (place_of fresh (oct o 0)) (drop (head_size o) o) l
        → bag_of fresh o l ≡ x → bag fresh b o ≡ whole x []
    unfolding bag
    opens x l e n a q =
        ap (λ (t : Bool). opened b t (mapped (bag_of fresh o) (within (head_size o) (be16 o 2) (attributes (place_of fresh (oct o 0))) b o))) e
        ∙ ap (λ (y : List ℕ). mapped (bag_of fresh o) (closed (drop (be16 o 2) o) (attributes (place_of fresh (oct o 0)) (b + head_size o) y)))
        (body-octets o e n)
        ∙ ap (λ (y : Reading (List Attribute)). mapped (bag_of fresh o) (closed (drop (be16 o 2) o) y)) (are-read (place_of fresh (oct o 0)) a
        (b + head_size o))
        ∙ (λ j. whole (q j) (drop (n j) o)) ∙ ap (whole x) (drop-length o)

    from : (x : Bag) → IsBag fresh o x → bag fresh b o ≡ whole x []
    from (member_keys x) (is_member i) =
        let z = i.first in
        let n = i.size in
        let l = i.least in
        let h : head_size o ≡ 4 = ap (λ (t : ℕ). 4 + spi_size t) z in
        let t = eq-eqb (oct o 0) 0 z in
        let e : head_fits o ≡ true =
        made-head o (omega arith) n (ap (λ (u : Bool). u || ltb 0 (spi_size (oct o 0))) t)
        (ap (λ (u : Bool). u || eqb (oct o 1) (spi_size (oct o 0))) t) in
        opens (member_keys x) i.attributes e n
        (subst (λ (p : Place). Attributes p (drop (head_size o) o) i.attributes)
        (sym (ap (λ (u : Bool). cond u place.MemberBag (in_bag fresh (oct o 0))) t))
        (subst (λ (u : ℕ). Attributes place.MemberBag (drop u o) i.attributes) (sym h) i.held))
        (ap (λ (u : Bool). cond u (member_keys (record { keys = wrap_keys place.MemberBag i.attributes }))
        (group_keys (group_key_bag_of fresh (oct o 0) (head_spi o) i.attributes))) t
        ∙ (λ j. member_keys (record { keys = i.keys j })))
    from (group_keys x) (is-group i) =
        let p = i.protocol in
        let n = i.size in
        let k : 0 < spi_size (oct o 0) = subst (λ (t : ℕ). 0 < spi_size t) (sym p) i.known in
        let l : head_size o ≤ length o = subst (λ (t : ℕ). 4 + spi_size t ≤ length o) (sym p) i.least in
        let z : oct o 0 ≡ 0 → ⊥ = λ y. omega (arith, k, ap spi_size y) in
        let t = ne_eqb (oct o 0) 0 z in
        let e : head_fits o ≡ true =
        made-head o (omega arith) n (ap (λ (u : Bool). u || ltb 0 (spi_size (oct o 0))) t ∙ lt-ltb 0 (spi_size (oct o 0)) k)
        (ap (λ (u : Bool). u || eqb (oct o 1) (spi_size (oct o 0))) t ∙ eq-eqb (oct o 1) (spi_size (oct o 0)) (i.spi_octets
        ∙ ap spi_size (sym p))) in
        let sp : head_spi o ≡ x.spi = ap (λ (u : ℕ). part o 4 (4 + spi_size u)) p ∙ i.spi in
        let ks : sa_keys (in_bag fresh (oct o 0)) i.attributes ≡ x.keys = ap (λ (u : ℕ). sa_keys (in_bag fresh u) i.attributes) p
        ∙ i.keys in
        let fs : fresh_keys (in_bag fresh (oct o 0)) i.attributes ≡ x.fresh =
        ap (λ (u : ℕ). fresh_keys (in_bag fresh u) i.attributes) p ∙ i.entries in
        opens (group_keys x) i.attributes e n
        (subst (λ (q : Place). Attributes q (drop (head_size o) o) i.attributes)
        (sym (ap (λ (u : Bool). cond u place.MemberBag (in_bag fresh (oct o 0))) t))
        (subst (λ (u : ℕ). Attributes (in_bag fresh u) (drop (4 + spi_size u) o) i.attributes) (sym p) i.held))
        (ap (λ (u : Bool). cond u (member_keys (record { keys = wrap_keys place.MemberBag i.attributes }))
        (group_keys (group_key_bag_of fresh (oct o 0) (head_spi o) i.attributes))) t
        ∙ (λ j. group_keys (record { protocol = p j; spi = sp j; keys = ks j; fresh = fs j })))

  pub sound : (b : ℕ) (s : List ℕ) (x : Bag) (rest : List ℕ) → bag fresh b s ≡ whole x rest → Cuts (IsBag fresh) s x rest
  sound = sound-of (bag fresh) 4 size_at local (IsBag fresh) to

  pub complete : (b : ℕ) (o rest : List ℕ) (x : Bag) → IsBag fresh o x → bag fresh b (o ++ rest) ≡ whole x rest
  complete = complete-of (bag fresh) 4 size_at local (IsBag fresh) from

  pub bags-read : {s : List ℕ} {l : List Bag} → Bags fresh s l → (b : ℕ) → bags fresh b s ≡ whole l []
  bags-read f b = row_read (bag fresh) (takes fresh) (IsBag fresh) sound complete f b

  pub read-bags : (b : ℕ) (s : List ℕ) (l : List Bag) (rest : List ℕ) → bags fresh b s ≡ whole l rest → Bags fresh s l
  read-bags b s l rest q = read-row (bag fresh) (takes fresh) (IsBag fresh) sound complete b s l rest q

  -- whole bags one after the other are read to the list of what each is read to; whole octets split into bags in one way
  pub bags-together : {os : List (List ℕ)} {l : List Bag} → Each (bag fresh) os l → (b : ℕ) → bags fresh b (joined os) ≡ whole l []
  bags-together f b = together (bag fresh) (takes fresh) (IsBag fresh) sound complete f b

  pub bags-split : (b : ℕ) (s : List ℕ) (l : List Bag) (rest : List ℕ) → bags fresh b s ≡ whole l rest → Split (bag fresh) s l
  bags-split b s l rest q = splits (bag fresh) (takes fresh) (IsBag fresh) sound complete b s l rest q

  pub bags-one-way : {os os' : List (List ℕ)} {l l' : List Bag} → Each (bag fresh) os l → Each (bag fresh) os' l' → joined os ≡ joined os'
      → (os ≡ os') × (l ≡ l')
  bags-one-way f g e = one_way (bag fresh) (takes fresh) (IsBag fresh) sound complete f g e
