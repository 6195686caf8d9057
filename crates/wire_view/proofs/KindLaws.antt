-- Octets that are one policy to their end: which it is, its SPI and what it shows.
use Rattle.std.specs.Prelude.{Result, Ok, Err, Option, Some, None}
use Rattle.std.specs.Result.{result_ok}
use Prim.Native.Nat.{ℕ, ◌+◌, ◌≤◌}
use mathlib.Core.Path.{◌≡◌, refl, ap, sym, ◌∙◌, subst}
use mathlib.Core.List.{List, [], ◌∷◌, ◌++◌, map, append-nil}
use mathlib.Core.Bool.{Bool, true, false, cond, ◌&&◌}
use native.Mathlib.Omega.{arith}
use borrow.Author.Tests.{le-leb, eq-eqb, eqb-true, ne_eqb}
use Rattle.lists.proofs.Cases.{and_parts}
use lib.Dec.{leb, eqb}
use lib.ListN.{length, drop}
use lib.Seq.{drop-length}
use Rattle.octets.specs.Numbers.{oct}
use Rattle.octets.specs.Walk.{be16, part, Reading, whole, broken}
use Rattle.octets.proofs.Walks.{takes-keeps}
use Rattle.wire_attributes.specs.Attribute.{Attribute}
use Rattle.wire_attributes.specs.Place.{in_policy}
use Rattle.wire_attributes.specs.Tree.{initial_message_ids, deactivation_delays, key_lifetimes}
use Rattle.wire_attributes.specs.Layout.{attributes}
use Rattle.wire_attributes.specs.Answers.{spot_of}
use Rattle.wire_attributes.specs.declared.tables.Place.TheVariants as place
use Rattle.wire_attributes.proofs.Loops.{ended}
use Rattle.wire_attributes.proofs.GrammarLaws.{are-read}
use Rattle.wire_policies.specs.Selector.{selector_size}
use Rattle.wire_policies.specs.Policy.{spi_size, GroupSaPolicy, GroupWidePolicy, Policy, group_sa, group_wide, SaBody, sa_body, policy}
use Rattle.wire_policies.specs.Grammar.{IsSaBody, IsGroupSa, IsGroupWide, IsPolicy, is-sa, is_wide}
use Rattle.wire_policies.proofs.PolicyLaws.{takes}
use Rattle.wire_policies.proofs.PolicyGrammar.{inverse, sound}
use Rattle.wire_policies.proofs.BodyGrammar.{body-from}
use Rattle.wire_readers.specs.inner.Values.{is_whole, attributes_in}
use Rattle.wire_readers.proofs.ValuesLaws.{is-whole}
use Rattle.wire_view.specs.View.{on_all, first_octet, octet_of, kind_in, shown_kind, spi_in, shown_spi, spi_start_in, spi_start}
use Rattle.wire_view.specs.View.{shown_selector, shown_transform, shown_attributes, shown_body, items_in, shown_items}
use Rattle.wire_view.specs.View.{stay_step, at_destination, selector_step, policy_place, attribute_step, first_in, first_step, is_counted}
use Rattle.wire_view.specs.declared.items.Item.{Item}
use Rattle.wire_view.specs.declared.read.Kind.{Kind}
use Rattle.wire_view.specs.declared.read.Kind.TheVariants as kind
use Rattle.wire_view.specs.declared.read.Step.{Step}

one : (s : List ℕ) (x : Policy) → policy 0 s ≡ whole x [] → IsPolicy s x
one s x q =
    let c = sound 0 s x [] q in
    subst (λ (y : List ℕ). IsPolicy y x) (sym (c.joined ∙ append-nil c.octets)) c.is

one_size : (s : List ℕ) (x : Policy) → IsPolicy s x → (4 ≤ length s) × (be16 s 2 ≡ length s)
one_size s (group_sa x) (is-sa i) = (omega (arith, i.least), i.size)
one_size s (group_wide x) (is_wide i) = (i.least, i.size)

pub counts : (s : List ℕ) → 4 ≤ length s → be16 s 2 ≡ length s → is_counted s ≡ true
counts s h e = ap (λ (t : Bool). t && eqb (be16 s 2) (length s)) (le-leb 4 (length s) h) ∙ eq-eqb (be16 s 2) (length s) e

-- WHICH POLICY
pub is-ok : {E : Type 0} (r : Result ℕ E) (e : ℕ) → Some e ≡ result_ok r → Ok e ≡ r
is-ok (Ok x) e q = let u : e ≡ x = cc in ap Ok u
is-ok (Err x) e q = let z : ◌≡◌ {A = ℕ} 0 1 = cc in absurd (omega arith)

module _ (s : List ℕ) where
  none : ((x : Policy) → policy 0 s ≡ whole x [] → ⊥) → None ≡ shown_kind s
  none h = go (policy 0 s) refl
    where
      go : (y : Reading Policy) → policy 0 s ≡ y → None ≡ on_all None kind_in y
      go (whole x []) e = absurd (h x e)
      go (whole x (z ∷ r)) e = refl
      go (broken o) e = refl

  pub uncounted : is_counted s ≡ false → None ≡ shown_kind s
  uncounted h = none (λ x e.
      let f = one_size s x (one s x e) in
      let b : ◌≡◌ {A = Bool} false true = sym h ∙ counts s f.0 f.1 in
      let z : ◌≡◌ {A = ℕ} 0 1 = cc in omega arith)

  module _ (e : ℕ) (h : is_counted s ≡ true) (q : Ok e ≡ spot_of s (policy 0 s)) where
    record Whole : Type 0 where
      item : Policy
      reads : policy 0 s ≡ whole item []

    whole-one : Whole
    whole-one =
        let f = ended s (policy 0 s) e (takes-keeps s (policy 0 s) (takes 0 s)) q in
        let g = inverse 0 s f.item (drop e s) f.is in
        let size = eqb-true (be16 s 2) (length s) (and_parts (leb 4 (length s)) (eqb (be16 s 2) (length s)) h).1 in
        let r : drop e s ≡ [] = g.after ∙ ap (λ (m : ℕ). drop m s) size ∙ drop-length s in
        record { item = f.item; reads = f.is ∙ ap (whole f.item) r }

    module _ (p : ℕ) (pq : p ≡ oct s 0) where
      pub wide : p ≡ 0 → Some kind.GroupWide ≡ shown_kind s
      wide z = go whole-one.item (one s whole-one.item whole-one.reads) ∙ ap (on_all None kind_in) (sym whole-one.reads)
        where
          go : (x : Policy) → IsPolicy s x → Some kind.GroupWide ≡ kind_in x
          go (group_wide x) (is_wide i) = refl
          go (group_sa x) (is-sa i) = absurd (omega (arith, i.known, ap spi_size (sym i.protocol ∙ sym pq ∙ z)))

      pub sa : (p ≡ 0 → ⊥) → Some (kind.GroupSa p) ≡ shown_kind s
      sa z = go whole-one.item (one s whole-one.item whole-one.reads) ∙ ap (on_all None kind_in) (sym whole-one.reads)
        where
          go : (x : Policy) → IsPolicy s x → Some (kind.GroupSa p) ≡ kind_in x
          go (group_wide x) (is_wide i) = absurd (z (pq ∙ i.first))
          go (group_sa x) (is-sa i) = ap (λ (n : ℕ). Some (kind.GroupSa n)) (pq ∙ i.protocol)

-- the first octet that the answer names is the policy's: "protocol (6 Rekey, 3 ESP, 2 AH)", "First octet 0: group-wide policy"
pub kind-octet : (s : List ℕ) (x : Policy) → IsPolicy s x → first_octet (kind_in x) ≡ oct s 0 ∷ []
kind-octet s (group_sa x) (is-sa i) = ap (λ (p : ℕ). p ∷ []) (sym i.protocol)
kind-octet s (group_wide x) (is_wide i) = ap (λ (p : ℕ). p ∷ []) (sym i.first)

octet-is : (s : List ℕ) → first_octet (shown_kind s) ≡ octet_of s
octet-is s = go (policy 0 s) refl
  where
    go : (y : Reading Policy) → policy 0 s ≡ y → first_octet (on_all None kind_in y) ≡ on_all [] (λ (x : Policy). oct s 0 ∷ []) y
    go (whole x []) e = kind-octet s x (one s x e)
    go (whole x (n ∷ l)) e = refl
    go (broken o) e = refl

pub told : (s : List ℕ) (r : Option Kind) → r ≡ shown_kind s → (r ≡ shown_kind s) × (first_octet r ≡ octet_of s)
told s r e = (e, ap first_octet e ∙ octet-is s)

pub kind-of-policy : (s : List ℕ) (x : Policy) → policy 0 s ≡ whole x [] → first_octet (shown_kind s) ≡ oct s 0 ∷ []
kind-of-policy s x e = ap (λ (y : Reading Policy). first_octet (on_all None kind_in y)) e ∙ kind-octet s x (one s x e)

pub kind-of-none : (s : List ℕ) → ((x : Policy) → policy 0 s ≡ whole x [] → ⊥) → first_octet (shown_kind s) ≡ []
kind-of-none s h = ap first_octet (sym (none s h))

-- WHAT IT SHOWS
pub record Sa (s : List ℕ) (p : ℕ) : Type 0 where
  pub head : 4 + spi_size p ≤ length s
  pub spi : part s 4 (4 + spi_size p) ≡ shown_spi s
  pub there : 4 ≡ spi_start s
  pub body : SaBody
  pub is : IsSaBody (in_policy p) (drop (4 + spi_size p) s) body
  pub items : shown_body (in_policy p) (4 + spi_size p) (length s) body ≡ shown_items s
  pub counts : is_counted s ≡ true
  pub place : in_policy p ≡ policy_place s
  pub first : (c : ℕ) → selector_step s c at_destination (4 + spi_size p) ≡ first_step s c

pub sa-items : (s : List ℕ) (x : GroupSaPolicy) → policy 0 s ≡ whole (group_sa x) [] → (i : IsGroupSa s x)
    → shown_body (in_policy x.protocol) (4 + spi_size x.protocol) (length s) i.body ≡ shown_items s
sa-items s x e i =
    let p = in_policy x.protocol in
    let h = 4 + spi_size x.protocol in
    ap (on_all [] (shown_body p h (length s))) (sym (body-from 0 p (drop h s) i.body i.holds h))
    ∙ ap (λ (n : ℕ). on_all [] (shown_body p (4 + spi_size n) (length s)) (sa_body 0 p (4 + spi_size n) (drop (4 + spi_size n) s)))
    (sym i.protocol)
    ∙ ap (on_all [] (items_in s)) (sym e)

sa-of : (s : List ℕ) (x : GroupSaPolicy) → policy 0 s ≡ whole (group_sa x) [] → IsPolicy s (group_sa x) → Sa s x.protocol
sa-of s x e (is-sa i) = record {
  head = i.least;
  spi = i.spi ∙ ap (on_all [] spi_in) (sym e);
  there = ap (on_all 0 spi_start_in) (sym e);
  body = i.body;
  is = i.holds;
  items = sa-items s x e i;
  counts = counts s (omega (arith, i.least)) i.size;
  place =
      let z : eqb (oct s 0) 0 ≡ false = ne_eqb (oct s 0) 0 (λ y. omega (arith, i.known, ap spi_size (sym i.protocol ∙ y))) in
      ap in_policy (sym i.protocol) ∙ ap (λ (t : Bool). cond t place.GroupWidePolicy (in_policy (oct s 0))) (sym z);
  first = λ c.
      ap (λ (n : ℕ). selector_step s c at_destination (4 + spi_size n)) (sym i.protocol) ∙ ap (on_all (stay_step c) (first_in s c)) (sym e);
}

pub record Wide (s : List ℕ) : Type 0 where
  pub head : 4 ≤ length s
  pub spi : [] ≡ shown_spi s
  pub there : 0 ≡ spi_start s
  pub held : is_whole (attributes place.GroupWidePolicy 0 (drop 4 s)) ≡ true
  pub items : shown_attributes place.GroupWidePolicy (length s) (attributes_in place.GroupWidePolicy (drop 4 s)) ≡ shown_items s
  pub counts : is_counted s ≡ true
  pub place : place.GroupWidePolicy ≡ policy_place s
  pub first : (c : ℕ) → attribute_step s c 4 ≡ first_step s c

wide_of : (s : List ℕ) (x : GroupWidePolicy) → policy 0 s ≡ whole (group_wide x) [] → IsPolicy s (group_wide x) → Wide s
wide_of s x e (is_wide i) =
    let p = place.GroupWidePolicy in
    let a = is-whole (attributes p 0 (drop 4 s)) i.attributes [] (are-read p i.held 0) in
    record {
      head = i.least;
      spi = ap (on_all [] spi_in) (sym e);
      there = ap (on_all 0 spi_start_in) (sym e);
      held = a.0;
      items =
          ap (shown_attributes p (length s)) a.1
          ∙ ap (on_all [] (shown_attributes p (length s))) (sym (are-read p i.held 4)) ∙ ap (on_all [] (items_in s)) (sym e);
      counts = counts s i.least i.size;
      place = ap (λ (t : Bool). cond t p (in_policy (oct s 0))) (sym (eq-eqb (oct s 0) 0 i.first));
      first = λ c. ap (on_all (stay_step c) (first_in s c)) (sym e);
    }

pub record Nowhere (s : List ℕ) : Type 0 where
  pub spi : [] ≡ shown_spi s
  pub there : 0 ≡ spi_start s
  pub items : [] ≡ shown_items s
  pub first : (c : ℕ) → stay_step c ≡ first_step s c

module _ (s : List ℕ) where
  -- two answers are not the same
  abbrev Absurd : Type 0
  Absurd = ◌≡◌ {A = ℕ} 0 1

  pub of-sa : (p : ℕ) → Some (kind.GroupSa p) ≡ shown_kind s → Sa s p
  of-sa p = go (policy 0 s) refl
    where
      go : (y : Reading Policy) → policy 0 s ≡ y → Some (kind.GroupSa p) ≡ on_all None kind_in y → Sa s p
      go (whole (group_sa x) []) e q =
          let u : x.protocol ≡ p = cc in
          subst (Sa s) u (sa-of s x e (one s (group_sa x) e))
      go (whole (group_wide x) []) e q = let z : Absurd = cc in absurd (omega arith)
      go (whole x (y ∷ r)) e q = let z : Absurd = cc in absurd (omega arith)
      go (broken o) e q = let z : Absurd = cc in absurd (omega arith)

  pub of-wide : Some kind.GroupWide ≡ shown_kind s → Wide s
  of-wide = go (policy 0 s) refl
    where
      go : (y : Reading Policy) → policy 0 s ≡ y → Some kind.GroupWide ≡ on_all None kind_in y → Wide s
      go (whole (group_sa x) []) e q = let z : Absurd = cc in absurd (omega arith)
      go (whole (group_wide x) []) e q = wide_of s x e (one s (group_wide x) e)
      go (whole x (y ∷ r)) e q = let z : Absurd = cc in absurd (omega arith)
      go (broken o) e q = let z : Absurd = cc in absurd (omega arith)

  nowhere : (y : Reading Policy) → policy 0 s ≡ y → ((B : Type 0) (z : B) (f : Policy → B) → z ≡ on_all z f y) → Nowhere s
  nowhere y e h = record {
    spi = h (List ℕ) [] spi_in ∙ ap (on_all [] spi_in) (sym e);
    there = h ℕ 0 spi_start_in ∙ ap (on_all 0 spi_start_in) (sym e);
    items = h (List Item) [] (items_in s) ∙ ap (on_all [] (items_in s)) (sym e);
    first = λ c. h Step (stay_step c) (first_in s c) ∙ ap (on_all (stay_step c) (first_in s c)) (sym e);
  }

  pub of_none : None ≡ shown_kind s → Nowhere s
  of_none = go (policy 0 s) refl
    where
      go : (y : Reading Policy) → policy 0 s ≡ y → None ≡ on_all None kind_in y → Nowhere s
      go (whole (group_sa x) []) e q = let z : Absurd = cc in absurd (omega arith)
      go (whole (group_wide x) []) e q = let z : Absurd = cc in absurd (omega arith)
      go (whole x (y ∷ r)) e q = nowhere (whole x (y ∷ r)) e (λ B z f. refl)
      go (broken o) e q = nowhere (broken o) e (λ B z f. refl)

-- WHAT IS SHOWN IS WHAT THE TREE'S POLICY HOLDS
pub record ShowsSa (s : List ℕ) (x : GroupSaPolicy) : Type 0 where
  pub attributes : List Attribute
  pub read : initial_message_ids (in_policy x.protocol) attributes ≡ x.initial_message_ids
  pub lifetimes : key_lifetimes (in_policy x.protocol) attributes ≡ x.key_lifetimes
  pub items : shown_items s
      ≡ shown_selector (4 + spi_size x.protocol) x.source
      ∷ shown_selector (4 + spi_size x.protocol + selector_size x.source.kind) x.destination
      ∷ (map shown_transform x.transforms ++ shown_attributes (in_policy x.protocol) (length s) attributes)

pub shows-sa : (s : List ℕ) (x : GroupSaPolicy) → policy 0 s ≡ whole (group_sa x) [] → ShowsSa s x
shows-sa s x e = go (one s (group_sa x) e)
  where
    go : IsPolicy s (group_sa x) → ShowsSa s x
    go (is-sa i) =
        let p = in_policy x.protocol in
        let h = 4 + spi_size x.protocol in
        let l = i.body.suite.attributes in
        record {
          attributes = l;
          read = i.initial_message_ids;
          lifetimes = i.key_lifetimes;
          items =
              sym (sa-items s x e i)
              ∙ (λ j. shown_selector h (i.source j) ∷ shown_selector (h + selector_size (i.source j).kind) (i.destination j)
              ∷ (map shown_transform (i.transforms j) ++ shown_attributes p (length s) l));
        }

pub record ShowsWide (s : List ℕ) (x : GroupWidePolicy) : Type 0 where
  pub attributes : List Attribute
  pub read : deactivation_delays place.GroupWidePolicy attributes ≡ x.deactivation_delays
  pub items : shown_items s ≡ shown_attributes place.GroupWidePolicy (length s) attributes

pub wide-items : (s : List ℕ) (x : GroupWidePolicy) → policy 0 s ≡ whole (group_wide x) [] → (i : IsGroupWide s x)
    → shown_items s ≡ shown_attributes place.GroupWidePolicy (length s) i.attributes
wide-items s x e i =
    ap (on_all [] (items_in s)) e
    ∙ ap (on_all [] (shown_attributes place.GroupWidePolicy (length s))) (are-read place.GroupWidePolicy i.held 4)

pub shows-wide : (s : List ℕ) (x : GroupWidePolicy) → policy 0 s ≡ whole (group_wide x) [] → ShowsWide s x
shows-wide s x e = go (one s (group_wide x) e)
  where
    go : IsPolicy s (group_wide x) → ShowsWide s x
    go (is_wide i) = record { attributes = i.attributes; read = i.deactivation_delays; items = wide-items s x e i }
