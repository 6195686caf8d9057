-- THE OFFSETS THAT A VIEW SHOWS CUT THE VALUES OUT OF THE POLICY: of octets that are one policy, the stretch of each shown selector is its
-- starting and then its ending address, and that of each shown attribute is the attribute's value.
use Prim.Native.Nat.{ℕ, ◌+◌, ◌-◌, ◌≤◌}
use mathlib.Core.Path.{◌≡◌, refl, ap, sym, ◌∙◌}
use mathlib.Core.List.{List, [], ◌∷◌, ◌++◌, map, append_assoc, append-nil}
use mathlib.Core.Bool.{Bool, cond}
use native.Mathlib.Omega.{arith}
use lib.ListN.{length, take, drop, length-append, length-drop, take-append-drop}
use lib.Seq.{drop-drop, take-append_seam, drop-append_seam, drop-append-le}
use Rattle.octets.specs.Walk.{part, Spans, none, more, Row, no-more, then, whole}
use Rattle.wire_attributes.specs.Attribute.{Attribute, lead_of}
use Rattle.wire_attributes.specs.Place.{in_policy}
use Rattle.wire_attributes.specs.Grammar.{Format, in-short, in-long, IsAttribute}
use Rattle.wire_attributes.specs.declared.tables.Place.{Place}
use Rattle.wire_policies.specs.Selector.{Selector, address_size, selector_size}
use Rattle.wire_policies.specs.Transform.{Transform, no_more}
use Rattle.wire_policies.specs.Policy.{spi_size, GroupSaPolicy, GroupWidePolicy, Policy, group_sa, group_wide, SaBody, policy}
use Rattle.wire_policies.specs.Grammar.{IsSelector, IsTransform, IsSaBody, IsGroupSa, IsGroupWide, IsPolicy, is-sa, is_wide}
use Rattle.wire_policies.proofs.PolicyGrammar.{complete}
use Rattle.wire_view.specs.View.{attributes_span, shown_transform, shown_attributes, shown_body, shown_items}
use Rattle.wire_view.specs.declared.items.Item.{Item}
use Rattle.wire_view.specs.declared.items.Item.TheVariants as item
use Rattle.wire_view.proofs.AttributeLaws.{of_format, row-octets}
use Rattle.wire_view.proofs.SelectorLaws.{selector-room}
use Rattle.wire_view.proofs.KindLaws.{sa-items, wide-items}

-- what is cut out of the octets for an item; a transform has no stretch
abbrev pub stretch : List ℕ → Item → List ℕ
stretch s (item.Selector k p a b start end) = part s start end
stretch s (item.Transform k i n f) = []
stretch s (item.Attribute m t k start end) = part s start end

abbrev pub addresses : Selector → List ℕ
addresses x = x.start_address ++ x.end_address

abbrev pub value : Attribute → List ℕ
value a = a.value

abbrev pub no-stretch : Transform → List ℕ
no-stretch t = []

-- o stands in w from b on, before t
module _ (w : List ℕ) (b : ℕ) (o t : List ℕ) (e : drop b w ≡ o ++ t) where
  after : drop (b + length o) w ≡ t
  after = sym (drop-drop (length o) b w) ∙ ap (drop (length o)) e ∙ drop-append_seam o t

  -- all of it but its first k octets
  but_first : (k n : ℕ) → k ≤ length o → k + n ≡ length o → part w (b + k) (b + k + n) ≡ drop k o
  but_first k n h q =
      let l : b + k + n - (b + k) ≡ length (drop k o) = omega (arith, length-drop k o, q) in
      (λ j. take (l j) (sym (drop-drop k b w) j)) ∙ ap (λ (y : List ℕ). take (length (drop k o)) (drop k y)) e
      ∙ ap (take (length (drop k o))) (drop-append-le k o t h) ∙ take-append_seam (drop k o) t

  attribute-cut : (a : Attribute) → Format o a → part w (b + lead_of a) (b + lead_of a + length a.value) ≡ a.value
  attribute-cut a f = let s = of_format o a f in but_first (lead_of a) (length a.value) (omega (arith, s)) s ∙ go f
    where
      go : Format o a → drop (lead_of a) o ≡ a.value
      go (in-short x) = ap (λ (y : Bool). drop (cond y 2 4) o) x.format ∙ x.value
      go (in-long x) = ap (λ (y : Bool). drop (cond y 2 4) o) x.format ∙ x.value

  selector-cut : (x : Selector) → IsSelector o x → part w (b + 8) (b + selector_size x.kind) ≡ addresses x
  selector-cut x i =
      let n = address_size x.kind in
      let r = selector-room o x i in
      let z : b + selector_size x.kind ≡ b + 8 + (length o - 8) = omega (arith, i.all, r) in
      let l : n ≡ 8 + n - 8 = omega arith in
      ap (part w (b + 8)) z ∙ but_first 8 (length o - 8) (omega (arith, r)) (omega (arith, r))
      ∙ sym (take-append-drop n (drop 8 o))
      ∙ (λ j. take (l j) (drop 8 o) ++ drop-drop n 8 o j)
      ∙ (λ j. i.start_address j ++ i.end_address j)

-- attributes to the end of the policy
attributes-cut : {p : Place} {s : List ℕ} {l : List Attribute} → Row (IsAttribute p) s l → (w : List ℕ) (b e : ℕ) → drop b w ≡ s
    → b + length s ≡ e → map (stretch w) (shown_attributes p e l) ≡ map value l
unfolding shown_attributes
attributes-cut no-more w b e d q = refl
attributes-cut {p = p} (then o s {a = a} {l = l} i r) w b e d q =
    let c : e - attributes_span (a ∷ l) ≡ b = omega (arith, row-octets (then o s i r), q) in
    let m : b + length o + length s ≡ e = omega (arith, length-append o s, q) in
    let x : part w (e - attributes_span (a ∷ l) + lead_of a) (e - attributes_span (a ∷ l) + lead_of a + length a.value) ≡ a.value =
    (λ j. part w (c j + lead_of a) (c j + lead_of a + length a.value)) ∙ attribute-cut w b o s d a i.format in
    λ j. x j ∷ attributes-cut r w (b + length o) e (after w b o s d) m j

-- what transforms take up before the attributes
record Front (s rest : List ℕ) : Type 0 where
  octets : List ℕ
  joined : s ≡ octets ++ rest

front : {go : Bool} {s : List ℕ} {l : List Transform} {rest : List ℕ} → Spans no_more IsTransform go s l rest → Front s rest
front (none e) = record { octets = []; joined = refl }
front {rest = rest} (more o s e i r) =
    let f = front r in
    record { octets = o ++ f.octets; joined = ap (λ (y : List ℕ). o ++ y) f.joined ∙ sym (append_assoc o f.octets rest) }

transforms-cut : (w : List ℕ) (l : List Transform) (m : List Item)
    → map (stretch w) (map shown_transform l ++ m) ≡ map no-stretch l ++ map (stretch w) m
transforms-cut w [] m = refl
transforms-cut w (t ∷ l) m = ap (λ (y : List (List ℕ)). [] ∷ y) (transforms-cut w l m)

-- WHAT A GROUP SA POLICY HOLDS FROM h ON
module _ (p : Place) (w : List ℕ) (h : ℕ) (x : SaBody) (i : IsSaBody p (drop h w) x) (there : h ≤ length w) where
  d : drop (h + length i.source) w ≡ i.destination ++ i.after
  d = after w h i.source (i.destination ++ i.after) i.joined

  destination-cut : part w (h + selector_size x.source.kind + 8)
      (h + selector_size x.source.kind + selector_size x.destination.kind) ≡ addresses x.destination
  destination-cut =
      (λ j. part w (h + sym i.from.all j + 8) (h + sym i.from.all j + selector_size x.destination.kind))
      ∙ selector-cut w (h + length i.source) i.destination i.after d x.destination i.to

  rest-cut : map (stretch w) (shown_attributes p (length w) x.suite.attributes) ≡ map value x.suite.attributes
  rest-cut =
      let f = front i.transforms in
      let b = h + length i.source + length i.destination in
      let e : drop b w ≡ f.octets ++ i.tail = after w (h + length i.source) i.destination i.after d ∙ f.joined in
      let n : b + length f.octets + length i.tail ≡ length w = omega (
        arith,
        there,
        length-drop h w,
        ap length i.joined,
        length-append i.source (i.destination ++ i.after),
        length-append i.destination i.after,
        ap length f.joined,
        length-append f.octets i.tail,
      ) in
      attributes-cut i.attributes w (b + length f.octets) (length w) (after w b f.octets i.tail e) n

  body-cut : map (stretch w) (shown_body p h (length w) x)
      ≡ addresses x.source ∷ addresses x.destination ∷ (map no-stretch x.suite.transforms ++ map value x.suite.attributes)
  body-cut =
      let s = selector-cut w h i.source (i.destination ++ i.after) i.joined x.source i.from in
      let l = shown_attributes p (length w) x.suite.attributes in
      let t = transforms-cut w x.suite.transforms l ∙ ap (λ (y : List (List ℕ)). map no-stretch x.suite.transforms ++ y) rest-cut in
      λ j. s j ∷ destination-cut j ∷ t j

-- THE LAWS
reads : (s : List ℕ) (x : Policy) → IsPolicy s x → policy 0 s ≡ whole x []
reads s x i = ap (policy 0) (sym (append-nil s)) ∙ complete 0 s [] x i

pub cuts-sa : (s : List ℕ) (x : GroupSaPolicy) (i : IsGroupSa s x)
    → map (stretch s) (shown_items s)
    ≡ addresses x.source ∷ addresses x.destination ∷ (map no-stretch x.transforms ++ map value i.body.suite.attributes)
cuts-sa s x i =
    let l = i.body.suite.attributes in
    ap (map (stretch s)) (sym (sa-items s x (reads s (group_sa x) (is-sa i)) i))
    ∙ body-cut (in_policy x.protocol) s (4 + spi_size x.protocol) i.body i.holds i.least
    ∙ (λ j. addresses (i.source j) ∷ addresses (i.destination j) ∷ (map no-stretch (i.transforms j) ++ map value l))

pub cuts-wide : (s : List ℕ) (x : GroupWidePolicy) (i : IsGroupWide s x) → map (stretch s) (shown_items s) ≡ map value i.attributes
cuts-wide s x i =
    ap (map (stretch s)) (wide-items s x (reads s (group_wide x) (is_wide i)) i)
    ∙ attributes-cut i.held s 4 (length s) refl (omega (arith, i.least, length-drop 4 s))
