-- What the code's tests say of the attribute that some octets start with.
use Rattle.std.specs.Prelude.{Ok, Some, None}
use Prim.Native.Nat.{ℕ, ◌+◌, ◌-◌, ◌≤◌}
use mathlib.Core.Path.{◌≡◌, refl, ap, sym, ◌∙◌}
use mathlib.Core.List.{List}
use mathlib.Core.Bool.{Bool, true, false, cond}
use native.Mathlib.Omega.{arith}
use borrow.Author.Tests.{leb-true}
use lib.ListN.{length, drop}
use lib.Seq.{drop-drop}
use Rattle.lists.proofs.Cases.{and_parts}
use Rattle.octets.specs.Walk.{be16, part}
use Rattle.wire_attributes.specs.Attribute.{is_short, kind_of, value_offset, attribute_size, fits, value_octets}
use Rattle.octets.specs.Walk.{whole, opened}
use Rattle.octets.proofs.Walks.{by-test, part_length, Takes, took}
use Rattle.wire_attributes.specs.Attribute.{attribute_of}
use Rattle.wire_attributes.specs.Place.{meaning_of, format_fits}
use Rattle.wire_attributes.specs.Layout.{formed_in, fits_in, attribute}
use Rattle.wire_attributes.specs.Answers.{broken_at, head_of, read_of, value_at, value_start, spot_of}
use Rattle.wire_attributes.specs.declared.tables.Place.{Place}
use Rattle.wire_attributes.specs.declared.AttributeHead.{AttributeHead}
use Rattle.wire_attributes.proofs.Loops.{ends_at}

pub size-least : (s : List ℕ) → 4 ≤ attribute_size s
size-least s = go (is_short s)
  where
    go : (t : Bool) → 4 ≤ cond t 4 (4 + be16 s 2)
    go true = omega arith
    go false = omega arith

pub value-inside : (s : List ℕ) → value_offset s ≤ attribute_size s
value-inside s = go (is_short s)
  where
    go : (t : Bool) → cond t 2 4 ≤ cond t 4 (4 + be16 s 2)
    go true = omega arith
    go false = omega arith

-- what an answer of `read_attribute` says
pub record IsRead (s : List ℕ) (short : Bool) (kind a e : ℕ) : Type 0 where
  pub all : fits s ≡ true
  pub format : is_short s ≡ short
  pub type : kind_of s ≡ kind
  pub start : value_offset s ≡ a
  pub size : attribute_size s ≡ e

pub read_is : (s : List ℕ) (h : AttributeHead) → Some h ≡ read_of s → IsRead s h.short h.kind h.start h.end
read_is s h = go (fits s) refl
  where
    go : (t : Bool) → fits s ≡ t → Some h ≡ cond t (Some (head_of s)) None → IsRead s h.short h.kind h.start h.end
    go true f q =
        let u : head_of s ≡ h = cc in
        record {
          all = f;
          format = ap (λ (x : AttributeHead). x.short) u;
          type = ap (λ (x : AttributeHead). x.kind) u;
          start = ap (λ (x : AttributeHead). x.start) u;
          size = ap (λ (x : AttributeHead). x.end) u;
        }
    go false f q = cc

pub cut-is : (s : List ℕ) → None ≡ read_of s → fits s ≡ false
cut-is s = go (fits s) refl
  where
    go : (t : Bool) → fits s ≡ t → None ≡ cond t (Some (head_of s)) None → fits s ≡ false
    go true f q = cc
    go false f q = f

pub read-inside : (s : List ℕ) (short : Bool) (kind a e : ℕ) → IsRead s short kind a e → (a ≤ e) × (e ≤ length s) × (4 ≤ e)
read-inside s short kind a e f =
    let i = value-inside s in
    let j = size-least s in
    let k : attribute_size s ≤ length s = leb-true (attribute_size s) (length s) f.all in
    let l = f.start in
    let m = f.size in
    (omega arith, omega arith, omega arith)

-- the value, as the part of the slice where it stands
module _ (s : List ℕ) (at : ℕ) where
  pub value_there : (short : Bool) (kind a e : ℕ) → IsRead (drop at s) short kind a e → part s (at + a) (at + e) ≡ value_at (drop at s)
  value_there short kind a e f =
      let d : at + e - (at + a) ≡ e - a = omega arith in
      rw (f.all, f.start, f.size, d, drop-drop a at s)

  pub starts-there : (short : Bool) (kind a e : ℕ) → IsRead (drop at s) short kind a e → at + a ≡ value_start s at
  starts-there short kind a e f = rw (f.all, f.start)

-- in its place
module _ (p : Place) (b : ℕ) (s : List ℕ) where
  pub cut_in : fits s ≡ false → broken_at b ≡ spot_of s (attribute p b s)
  unfolding attribute
  cut_in f = rw f

  module _ (short : Bool) (kind a e : ℕ) (f : IsRead s short kind a e) where
    module _ (k : Bool) (q : k ≡ format_fits (meaning_of p kind) short (e - a)) where
      formed-is : fits_in p s ≡ k
      formed-is =
          let i = read-inside s short kind a e f in
          let l : length (value_octets s) ≡ e - a = rw (f.start, f.size) (part_length s a e i.0 i.1) in
          rw (f.all, l, f.type, f.format) (sym q)

      pub formed-in : k ≡ true → Ok e ≡ spot_of s (attribute p b s)
      unfolding attribute
      formed-in t =
          let g : fits_in p s ≡ true = formed-is ∙ t in
          ap Ok (sym f.size) ∙ ends_at s (attribute_of s) (attribute_size s) (leb-true (attribute_size s) (length s) f.all)
          ∙ ap (λ (t : Bool). spot_of s (opened b t (whole (attribute_of s) (drop (attribute_size s) s)))) (sym g)

      pub not-formed : k ≡ false → broken_at b ≡ spot_of s (attribute p b s)
      unfolding attribute
      not-formed t =
          let g : fits_in p s ≡ false = formed-is ∙ t in
          ap (λ (t : Bool). spot_of s (opened b t (whole (attribute_of s) (drop (attribute_size s) s)))) (sym g)

-- an attribute takes at least one octet
pub takes : (p : Place) (b : ℕ) (s : List ℕ) → Takes s (attribute p b s)
unfolding attribute
takes p b s =
    by-test (Takes s) (fits_in p s)
    (λ f. took s (attribute_size s) (omega (arith, size-least s)) (leb-true (attribute_size s) (length s) (and_parts (fits s) (formed_in p
    (attribute_of s)) f).0))
    (λ f. tt)
