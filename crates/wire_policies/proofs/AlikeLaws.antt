-- Octets that differ in nothing that is read are the same transform, the same policy.
use Prim.Native.Nat.{ℕ, ◌+◌, ◌<◌, ◌≤◌}
use mathlib.Core.Path.{◌≡◌, refl, ap, sym, ◌∙◌, subst}
use mathlib.Core.List.{List, ◌++◌}
use mathlib.Core.Bool.{Bool}
use native.Mathlib.Omega.{arith}
use lib.ListN.{length, take, drop, length-append, length-drop, take-append-drop}
use lib.Seq.{length-take-le, get_or-take}
use Rattle.octets.specs.Numbers.{oct}
use Rattle.octets.specs.Walk.{be16, part}
use Rattle.octets.specs.Ignored.{Mask, Alike, all_of, chain_mask}
use Rattle.octets.proofs.Numerals.{drop-take}
use Rattle.octets.proofs.Ignored.{length-all, same_length, alike-drop, alike_all, be16-same, alike-left, alike_right, left-part, right-part}
use Rattle.octets.proofs.Ignored.{row_sized, row-alike, chain-sized, chain-alike}
use Rattle.wire_attributes.specs.Place.{in_transform}
use Rattle.wire_attributes.specs.Grammar.{Attributes}
use Rattle.wire_attributes.specs.declared.tables.Place.{Place}
use Rattle.wire_attributes.specs.declared.tables.Place.TheVariants as place
use Rattle.wire_policies.specs.Transform.{Transform}
use Rattle.wire_policies.specs.Policy.{spi_size, GroupSaPolicy, GroupWidePolicy, Policy, group_sa, group_wide, SaBody}
use Rattle.wire_policies.specs.Grammar.{IsTransform, IsSaBody, IsGroupSa, IsGroupWide, IsPolicy, is-sa, is_wide, Policies}
use Rattle.wire_policies.specs.Ignored.{transform_mask, sa_body_mask, reserved_second, policy_mask, policies_mask}

-- A TRANSFORM: its octets 1 and 5 are reserved
transform-sized : (o : List ℕ) (x : Transform) (more next : Bool) (i : IsTransform more o x next) → length (transform_mask o x more next i) ≡
    length o
transform-sized o x more next i = omega (arith, length-all (drop 8 o), length-drop 8 o, i.least)

pub transform-alike : (o : List ℕ) (x : Transform) (more next : Bool) (i : IsTransform more o x next) (t : List ℕ)
    → Alike (transform_mask o x more next i) o t → IsTransform more t x next
transform-alike o x more next i t h =
    let m = transform_mask o x more next i in
    let n = same_length m o t h in
    let d : drop 8 o ≡ drop 8 t = alike_all (drop 8 o) (drop 8 t) (alike-drop m o t h 8) in
    record {
      first = sym (h.each 0) ∙ i.first;
      size = sym (be16-same o t 2 (h.each 2) (h.each 3)) ∙ i.size ∙ n;
      least = omega (arith, n, i.least);
      kind = sym (h.each 4) ∙ i.kind;
      id = sym (be16-same o t 6 (h.each 6) (h.each 7)) ∙ i.id;
      attributes = i.attributes;
      held = subst (λ (u : List ℕ). Attributes (in_transform x.kind) u i.attributes) d i.held;
      key_lengths = i.key_lengths;
    }

-- WHAT FOLLOWS AN SPI
module _ (p : Place) (s : List ℕ) (x : SaBody) (i : IsSaBody p s x) where
  chained : List Mask
  chained = chain_mask transform_mask (all_of i.tail) i.transforms

  chained-sized : length chained ≡ length i.after
  unfolding chained
  chained-sized =
      chain-sized transform_mask transform-sized transform-alike (λ more a b. refl) (all_of i.tail) i.transforms (length-all i.tail)

  pub body-sized : length (sa_body_mask p s x i) ≡ length s
  unfolding chained
  body-sized =
      let a = ap length i.joined in
      omega (
        arith,
        a,
        length-all i.source,
        length-all i.destination,
        chained-sized,
        length-append i.source (i.destination ++ i.after),
        length-append i.destination i.after,
        length-append (all_of i.source) (all_of i.destination ++ chained),
        length-append (all_of i.destination) chained,
      )

  pub body_alike : (t : List ℕ) → Alike (sa_body_mask p s x i) s t → IsSaBody p t x
  unfolding chained
  body_alike t h =
      let src = i.source in
      let dst = i.destination in
      let g : Alike (all_of src ++ (all_of dst ++ chained)) (src ++ (dst ++ i.after)) t =
      subst (λ (u : List ℕ). Alike (sa_body_mask p s x i) u t) i.joined h in
      let t₁ = drop (length src) t in
      let l₁ = left-part (all_of src) (all_of dst ++ chained) src (dst ++ i.after) t (length-all src) g in
      let r₁ = right-part (all_of src) (all_of dst ++ chained) src (dst ++ i.after) t (length-all src) g in
      let t₂ = drop (length dst) t₁ in
      let l₂ = left-part (all_of dst) chained dst i.after t₁ (length-all dst) r₁ in
      let r₂ = right-part (all_of dst) chained dst i.after t₁ (length-all dst) r₁ in
      let c = chain-alike transform_mask transform-sized transform-alike (λ more a b. refl) (all_of i.tail) i.transforms t₂ r₂ in
      let j₂ : t₁ ≡ dst ++ t₂ =
      sym (take-append-drop (length dst) t₁) ∙ ap (λ (u : List ℕ). u ++ t₂) (sym (alike_all dst (take (length dst) t₁) l₂)) in
      let j₁ : t ≡ src ++ t₁ =
      sym (take-append-drop (length src) t) ∙ ap (λ (u : List ℕ). u ++ t₁) (sym (alike_all src (take (length src) t) l₁)) in
      record {
        source = src;
        destination = dst;
        after = t₂;
        tail = c.left;
        joined = j₁ ∙ ap (λ (u : List ℕ). src ++ u) j₂;
        from = i.from;
        to = i.to;
        transforms = c.spans;
        attributes = subst (λ (u : List ℕ). Attributes p u x.suite.attributes) (alike_all i.tail c.left c.alike)
            i.attributes;
      }

-- A HEAD whose second octet is reserved: a group-wide policy's, and a Member Key Bag's
module _ (o : List ℕ) where
  pub reserved-sized : 4 ≤ length o → length (reserved_second o) ≡ length o
  reserved-sized h = omega (arith, length-all (drop 4 o), length-drop 4 o)

  pub record SameReserved (t : List ℕ) : Type 0 where
    pub first : oct o 0 ≡ oct t 0
    pub size : be16 o 2 ≡ be16 t 2
    pub long : length o ≡ length t
    pub rest : drop 4 o ≡ drop 4 t

  pub same-reserved : (t : List ℕ) → Alike (reserved_second o) o t → SameReserved t
  same-reserved t h = record {
    first = h.each 0;
    size = be16-same o t 2 (h.each 2) (h.each 3);
    long = same_length (reserved_second o) o t h;
    rest = alike_all (drop 4 o) (drop 4 t) (alike-drop (reserved_second o) o t h 4);
  }

wide-alike : (o : List ℕ) (x : GroupWidePolicy) → IsGroupWide o x → (t : List ℕ) → Alike (reserved_second o) o t → IsGroupWide t x
wide-alike o x i t h =
    let e = same-reserved o t h in
    record {
      first = sym e.first ∙ i.first;
      size = sym e.size ∙ i.size ∙ e.long;
      least = omega (arith, e.long, i.least);
      attributes = i.attributes;
      held = subst (λ (u : List ℕ). Attributes place.GroupWidePolicy u i.attributes) e.rest i.held;
      deactivation_delays = i.deactivation_delays;
    }

-- A GROUP SA POLICY
module _ (o : List ℕ) (x : GroupSaPolicy) (i : IsGroupSa o x) where
  head_octets : ℕ
  head_octets = 4 + spi_size x.protocol

  front : List Mask
  front = all_of (take head_octets o)

  front-sized : length front ≡ head_octets
  unfolding head_octets front
  front-sized = length-all (take head_octets o) ∙ length-take-le head_octets o i.least

  pub sa-sized : length (policy_mask o (group_sa x) (is-sa i)) ≡ length o
  unfolding head_octets front
  sa-sized =
      let b = body-sized _ _ _ i.holds in
      omega (arith, front-sized, b, i.least, length-drop head_octets o, length-append front (sa_body_mask _ _ _ i.holds))

  module _ (t : List ℕ) (h : Alike (policy_mask o (group_sa x) (is-sa i)) o t) where
    same-front : take head_octets o ≡ take head_octets t
    unfolding head_octets front
    same-front =
        alike_all (take head_octets o) (take head_octets t) (alike-left front (sa_body_mask _ _ _ i.holds) head_octets front-sized o t h)

    same-oct : (j : ℕ) → j < 4 → oct o j ≡ oct t j
    unfolding head_octets
    same-oct j l =
        sym (get_or-take head_octets o j 0 (omega arith)) ∙ ap (λ (u : List ℕ). oct u j) same-front ∙ get_or-take head_octets t j 0 (omega arith)

    same-spi : part o 4 head_octets ≡ part t 4 head_octets
    unfolding head_octets
    same-spi = sym (drop-take 4 head_octets o) ∙ ap (drop 4) same-front ∙ drop-take 4 head_octets t

    pub sa-alike : IsGroupSa t x
    unfolding head_octets front
    sa-alike =
        let n = same_length (policy_mask o (group_sa x) (is-sa i)) o t h in
        let b = alike_right front (sa_body_mask _ _ _ i.holds) head_octets front-sized o t h in
        record {
          protocol = sym (same-oct 0 (omega arith)) ∙ i.protocol;
          known = i.known;
          spi_octets = sym (same-oct 1 (omega arith)) ∙ i.spi_octets;
          size = sym (be16-same o t 2 (same-oct 2 (omega arith)) (same-oct 3 (omega arith))) ∙ i.size ∙ n;
          least = omega (arith, n, i.least);
          spi = sym same-spi ∙ i.spi;
          body = i.body;
          holds = body_alike _ _ _ i.holds (drop head_octets t) b;
          source = i.source;
          destination = i.destination;
          transforms = i.transforms;
          initial_message_ids = i.initial_message_ids;
          key_lifetimes = i.key_lifetimes;
        }

-- A POLICY, AND POLICIES TO THE END
policy-sized : (o : List ℕ) (x : Policy) (i : IsPolicy o x) → length (policy_mask o x i) ≡ length o
policy-sized o (group_sa x) (is-sa i) = sa-sized o x i
policy-sized o (group_wide x) (is_wide i) = reserved-sized o i.least

pub policy-alike : (o : List ℕ) (x : Policy) (i : IsPolicy o x) (t : List ℕ) → Alike (policy_mask o x i) o t → IsPolicy t x
policy-alike o (group_sa x) (is-sa i) t h = is-sa (sa-alike o x i t h)
policy-alike o (group_wide x) (is_wide i) t h = is_wide (wide-alike o x i t h)

pub policies-sized : {s : List ℕ} {l : List Policy} (r : Policies s l) → length (policies_mask r) ≡ length s
policies-sized r = row_sized policy_mask policy-sized policy-alike r

pub policies-alike : {s : List ℕ} {l : List Policy} (r : Policies s l) (t : List ℕ) → Alike (policies_mask r) s t → Policies t l
policies-alike r t h = row-alike policy_mask policy-sized policy-alike r t h
