-- Going through attributes whose layout is whole: the first one, and the others.
use Prim.Native.Nat.{ℕ, ◌+◌, ◌-◌, ◌<◌, ◌≤◌}
use mathlib.Core.Path.{◌≡◌, refl, ap, sym, ◌∙◌, subst}
use mathlib.Core.List.{List, [], ◌∷◌}
use mathlib.Core.Bool.{Bool, true, false, not, cond}
use native.Mathlib.Omega.{arith}
use borrow.Author.Tests.{eq-eqb, ne_eqb}
use lib.Dec.{leb, eqb}
use lib.ListN.{length, drop, length-drop}
use lib.Seq.{drop-drop}
use Rattle.lists.proofs.Cases.{and_parts}
use Rattle.octets.specs.Walk.{be16, part, Reading, whole, broken}
use Rattle.octets.proofs.Walks.{part_length, many-none}
use Rattle.octets.proofs.Inverse.{inverse-opened}
use Rattle.octets.proofs.Grammar.{first_rest}
use Rattle.wire_attributes.specs.Attribute.{Attribute, is_short, kind_of, attribute_size, value_octets, attribute_of, lead_of, span_of, fits}
use Rattle.wire_attributes.specs.Answers.{value_at, value_start}
use Rattle.wire_attributes.specs.Place.{meaning_of, key_value_sized, format_fits}
use Rattle.wire_attributes.specs.Tree.{code_of, means, values_of}
use Rattle.wire_attributes.specs.Layout.{formed_in, fits_in, attribute, attributes}
use Rattle.wire_attributes.specs.Grammar.{IsAttribute}
use Rattle.wire_readers.specs.inner.Values.{is_whole, items_of, attributes_in, values_in, places_of, places_in, value_size}
use Rattle.wire_readers.specs.inner.Values.{once, ValueFoundAt, MetAt}
use Rattle.wire_attributes.specs.declared.tables.Place.{Place}
use Rattle.wire_attributes.specs.declared.tables.Meaning.{Meaning}
use Rattle.wire_attributes.specs.declared.tables.Meaning.TheVariants as meaning
use Rattle.wire_attributes.proofs.AttributeLaws.{takes, IsRead, read-inside, value_there, starts-there}
use Rattle.wire_attributes.proofs.GrammarLaws.{sound, complete, are-read, read-are}

pub few-once : (n : ℕ) (b : Bool) → n ≡ once b → n ≤ 1
few-once n true e = omega (arith, e)
few-once n false e = omega (arith, e)

-- a whole reading, with its items
pub whole_is : {A : Type 0} (x : Reading (List A)) → is_whole x ≡ true → (rest : List ℕ) × (x ≡ whole (items_of x) rest)
whole_is (whole l rest) e = (rest, refl)
whole_is (broken o) e = let z : ◌≡◌ {A = ℕ} 0 1 = cc in absurd (omega arith)

pub is-whole : {A : Type 0} (x : Reading (List A)) (l : List A) (rest : List ℕ) → x ≡ whole l rest → (is_whole x ≡ true) × (items_of x ≡ l)
is-whole x l rest e = (ap is_whole e, ap items_of e)

attribute-is : (p : Place) (b : ℕ) (s : List ℕ) (a : Attribute) (rest : List ℕ) → attribute p b s ≡ whole a rest
    → (fits s ≡ true) × (attribute_of s ≡ a) × (drop (attribute_size s) s ≡ rest) × (formed_in p (attribute_of s) ≡ true)
unfolding attribute
attribute-is p b s a rest q =
    let f = inverse-opened b (fits_in p s) (whole (attribute_of s) (drop (attribute_size s) s)) a rest q in
    let g = and_parts (fits s) (formed_in p (attribute_of s)) f.0 in
    let e = f.1 in
    (g.0, cc, cc, g.1)

-- a meaning's number says which it is
meaning_at : ℕ → Meaning
meaning_at n =
    cond (eqb n 1) meaning.KeyLength (cond (eqb n 2) meaning.InitialMessageId (cond (eqb n 3) meaning.DeactivationDelay
    (cond (eqb n 4) meaning.KeyLifetime (cond (eqb n 5) meaning.SaKey (cond (eqb n 6) meaning.WrapKey
    (cond (eqb n 7) meaning.FreshKey meaning.Skipped))))))

at_code : (m : Meaning) → meaning_at (code_of m) ≡ m
unfolding meaning_at
at_code meaning.Skipped = refl
at_code meaning.KeyLength = refl
at_code meaning.InitialMessageId = refl
at_code meaning.DeactivationDelay = refl
at_code meaning.KeyLifetime = refl
at_code meaning.SaKey = refl
at_code meaning.WrapKey = refl
at_code meaning.FreshKey = refl

same_code : (m k : Meaning) → code_of m ≡ code_of k → m ≡ k
same_code m k e = sym (at_code m) ∙ ap meaning_at e ∙ at_code k

-- what is formed has its size
sized : (m : Meaning) (short : Bool) (n : ℕ) → format_fits m short n ≡ true → (short ≡ true → n ≡ 2) → value_size m n ≡ true
sized meaning.Skipped short n f h = refl
sized meaning.KeyLength short n f h = eq-eqb n 2 (h f)
sized meaning.InitialMessageId short n f h = (and_parts (not short) (eqb n 4) f).1
sized meaning.DeactivationDelay short n f h = eq-eqb n 2 (h f)
sized meaning.KeyLifetime short n f h = (and_parts (not short) (eqb n 4) f).1
sized meaning.SaKey short n f h = (and_parts (not short) (key_value_sized n) f).1
sized meaning.WrapKey short n f h = (and_parts (not short) (key_value_sized n) f).1
sized meaning.FreshKey short n f h = (and_parts (not short) (key_value_sized n) f).1

record Head (p : Place) (s : List ℕ) : Type 0 where
  fit : fits s ≡ true
  formed : formed_in p (attribute_of s) ≡ true
  first : attributes_in p s ≡ attribute_of s ∷ attributes_in p (drop (attribute_size s) s)
  rest : is_whole (attributes p 0 (drop (attribute_size s) s)) ≡ true

head_of : (p : Place) (s : List ℕ) → is_whole (attributes p 0 s) ≡ true → 0 < length s → Head p s
head_of p s e h =
    let w = whole_is (attributes p 0 s) e in
    let f = first_rest (attribute p) (takes p) (IsAttribute p) (sound p) (complete p) 0 s (attributes_in p s) w.0 h w.1 in
    let g = attribute-is p 0 s f.item (drop f.size s) (f.is 0) in
    let k : attributes p 0 (drop (attribute_size s) s) ≡ whole f.others [] = ap (attributes p 0) g.2 ∙ f.rest 0 in
    let i = is-whole (attributes p 0 (drop (attribute_size s) s)) f.others [] k in
    record {
      fit = g.0;
      formed = g.3;
      first = f.all ∙ (λ j. sym g.1 j ∷ sym i.1 j);
      rest = i.0;
    }

module _ (m : Meaning) (p : Place) (s : List ℕ) (at : ℕ) (e : is_whole (attributes p 0 (drop at s)) ≡ true) where
  pub none_left : length s ≤ at → values_in m p (drop at s) ≡ []
  unfolding values_of
  none_left h =
      ap (λ (x : Reading (List Attribute)). values_of m p (items_of x)) (many-none (attribute p) (takes p) 0 (drop at s) (rw length-drop
      (omega arith)))

  pub none-placed : length s ≤ at → places_in m p s at ≡ []
  unfolding places_of
  none-placed h =
      ap (λ (x : Reading (List Attribute)). places_of m p at (items_of x)) (many-none (attribute p) (takes p) 0 (drop at s) (rw length-drop
      (omega arith)))

  module _ (h : at < length s) where
    head : Head p (drop at s)
    head = head_of p (drop at s) e (rw length-drop (omega arith))

    pub never-cut : fits (drop at s) ≡ false → ⊥
    never-cut f =
        let g = head.fit in
        let z : ◌≡◌ {A = ℕ} 0 1 = cc in omega arith

    module _ (short : Bool) (kind a n : ℕ) (f : IsRead (drop at s) short kind a n) where
      -- the next place
      next-inside : (0 < n) × (at + n ≤ length s) × (a ≤ n)
      next-inside =
          let i = read-inside (drop at s) short kind a n f in
          (omega (arith, i.2), omega (arith, i.1, length-drop at s), i.0)

      size_is : drop (attribute_size (drop at s)) (drop at s) ≡ drop (at + n) s
      size_is = ap (λ (y : ℕ). drop y (drop at s)) f.size ∙ drop-drop n at s

      next-whole : is_whole (attributes p 0 (drop (at + n) s)) ≡ true
      next-whole = subst (λ (l : List ℕ). is_whole (attributes p 0 l) ≡ true) size_is head.rest

      listed : attributes_in p (drop at s) ≡ attribute_of (drop at s) ∷ attributes_in p (drop (at + n) s)
      listed = head.first ∙ ap (λ (l : List ℕ). attribute_of (drop at s) ∷ attributes_in p l) size_is

      meant : means m p (attribute_of (drop at s)) ≡ eqb (code_of (meaning_of p kind)) (code_of m)
      meant = ap (λ (y : ℕ). eqb (code_of (meaning_of p y)) (code_of m)) f.type

      miss : (code_of (meaning_of p kind) ≡ code_of m → ⊥) → values_in m p (drop at s) ≡ values_in m p (drop (at + n) s)
      unfolding values_of
      miss ne = ap (values_of m p) listed ∙ rw (meant, ne_eqb (code_of (meaning_of p kind)) (code_of m) ne)

      hit : code_of (meaning_of p kind) ≡ code_of m
          → values_in m p (drop at s) ≡ part s (at + a) (at + n) ∷ values_in m p (drop (at + n) s)
      unfolding values_of
      hit eq =
          let d : at + n - (at + a) ≡ n - a = omega arith in
          let v : value_octets (drop at s) ≡ part s (at + a) (at + n) = rw (f.start, f.size, d, drop-drop a at s) in
          ap (values_of m p) listed
          ∙ rw (meant, eq-eqb (code_of (meaning_of p kind)) (code_of m) eq) (ap (λ (y : List ℕ). y ∷ values_in m p (drop (at + n) s)) v)

      starts-after : 0 < a
      starts-after = go (leb 32768 (be16 (drop at s) 0)) f.start
        where
          go : (t : Bool) → cond t 2 4 ≡ a → 0 < a
          go true q = omega arith
          go false q = omega arith

      -- a value has the size that its meaning asks for
      value-length : length (value_octets (drop at s)) ≡ at + n - (at + a)
      value-length =
          let i = read-inside (drop at s) short kind a n f in
          let d : n - a ≡ at + n - (at + a) = omega arith in
          rw (f.start, f.size) (part_length (drop at s) a n i.0 i.1 ∙ d)

      -- the value that `attribute_value` hands on stands there
      value-start : at + a ≡ value_start s at
      value-start = starts-there s at short kind a n f

      value-octets : value_at (drop at s) ≡ part s (at + a) (at + n)
      value-octets = sym (value_there s at short kind a n f)

      -- where it stands
      span-is : at + span_of (attribute_of (drop at s)) ≡ at + n
      span-is = omega (arith, f.start, value-length, next-inside.2)

      miss-place : (code_of (meaning_of p kind) ≡ code_of m → ⊥) → places_in m p s at ≡ places_in m p s (at + n)
      unfolding places_of
      miss-place ne =
          ap (places_of m p at) listed
          ∙ rw (meant, ne_eqb (code_of (meaning_of p kind)) (code_of m) ne)
          (ap (λ (y : ℕ). places_of m p y (attributes_in p (drop (at + n) s))) span-is)

      hit-place : code_of (meaning_of p kind) ≡ code_of m
          → places_in m p s at ≡ record { start = at + a; end = at + n } ∷ places_in m p s (at + n)
      unfolding places_of
      hit-place eq =
          let here : at + lead_of (attribute_of (drop at s)) ≡ at + a = ap (λ (y : ℕ). at + y) f.start in
          ap (places_of m p at) listed
          ∙ rw (meant, eq-eqb (code_of (meaning_of p kind)) (code_of m) eq)
          (λ j. record { start = here j; end = span-is j } ∷ places_of m p (span-is j) (attributes_in p (drop (at + n) s)))

      short-value : is_short (drop at s) ≡ true → at + n - (at + a) ≡ 2
      short-value t =
          let g : a ≡ 2 = sym f.start ∙ ap (λ (u : Bool). cond u 2 4) t in
          let h : n ≡ 4 = sym f.size ∙ ap (λ (u : Bool). cond u 4 (4 + be16 (drop at s) 2)) t in
          omega (arith, g, h)

      size : code_of (meaning_of p kind) ≡ code_of m → value_size m (at + n - (at + a)) ≡ true
      size eq =
          let k : m ≡ meaning_of p (kind_of (drop at s)) = sym (ap (meaning_of p) f.type ∙ same_code (meaning_of p kind) m eq) in
          sized m (is_short (drop at s)) (at + n - (at + a))
          ((λ j. format_fits (k j) (is_short (drop at s)) (sym value-length j)) ∙ head.formed) short-value

      -- the attribute that stands here, where none from `from` to here means `m`: it is the first, or it is passed like those before it
      module _ (from : ℕ) (l : from ≤ at) (v : values_in m p (drop from s) ≡ values_in m p (drop at s))
          (q : places_in m p s from ≡ places_in m p s at) where
        pub met : code_of (meaning_of p kind) ≡ code_of m → MetAt m p s from at (at + n)
        met k = record {
          value =
              subst (λ (x : ℕ). ValueFoundAt m p s from x (at + n)) value-start
              (record {
                first = v ∙ hit k;
                place = q ∙ hit-place k;
                start = omega (arith, l, starts-after);
                order = omega (arith, next-inside.2);
                inside = next-inside.1;
                size = size k;
                rest = next-whole;
              });
          octets = value-octets ∙ ap (λ (x : ℕ). part s x (at + n)) value-start;
        }

        pub passed : (code_of (meaning_of p kind) ≡ code_of m → ⊥)
            → (from ≤ at + n) × (at + n ≤ length s) × (is_whole (attributes p 0 (drop (at + n) s)) ≡ true)
            × (values_in m p (drop from s) ≡ values_in m p (drop (at + n) s)) × (places_in m p s from ≡ places_in m p s (at + n))
        passed k = (
          omega (arith, l),
          next-inside.1,
          next-whole,
          v ∙ miss k,
          q ∙ miss-place k,
        )

-- the same list at any offset
pub any-offset : (p : Place) (b c : ℕ) (s : List ℕ) (l : List Attribute) (rest : List ℕ) → attributes p b s ≡ whole l rest
    → attributes p c s ≡ whole l []
any-offset p b c s l rest q = are-read p (read-are p b s l rest q) c
