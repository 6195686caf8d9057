-- THE STEPS FROM THE START SHOW WHAT THE POLICY HOLDS, each selector, transform and attribute once and in its order, and then nothing: n
-- steps show the first n of them, whatever n and the octets are (`walk-shows`). A cursor at the end stays (`end_stays`).
use Rattle.std.specs.Prelude.{Option, Some, None}
use Prim.Native.Nat.{ℕ, zero, suc, ◌+◌, ◌-◌, ◌/◌, ◌%◌, ◌≤◌}
use mathlib.Core.Path.{◌≡◌, refl, ap, sym, ◌∙◌, subst}
use mathlib.Core.List.{List, [], ◌∷◌, ◌++◌, map}
use mathlib.Core.Bool.{Bool, true, false, cond}
use native.Mathlib.Omega.{arith}
use lib.Dec.{eqb}
use lib.ListN.{length, take, drop, length-append, length-drop}
use lib.Seq.{drop-drop, drop-append_seam}
use Rattle.octets.specs.Walk.{Reading, whole, broken, Linked, Spans, none, more, Row, no-more, then}
use Rattle.octets.proofs.Walks.{by-test}
use Rattle.wire_attributes.specs.Attribute.{Attribute}
use Rattle.wire_attributes.specs.Layout.{attribute, attributes}
use Rattle.wire_attributes.specs.Grammar.{IsAttribute}
use Rattle.wire_attributes.specs.Place.{in_policy}
use Rattle.wire_attributes.specs.declared.tables.Place.{Place}
use Rattle.wire_attributes.specs.declared.tables.Place.TheVariants as place
use Rattle.wire_attributes.proofs.GrammarLaws.{read-are}
use Rattle.wire_attributes.proofs.GrammarLaws.{complete as attribute-complete}
use Rattle.wire_policies.specs.Selector.{Selector, selector_size, selector}
use Rattle.wire_policies.specs.Transform.{Transform, transform, no_more}
use Rattle.wire_policies.specs.Policy.{spi_size, head_size, Policy, group_sa, group_wide, SaBody, policy}
use Rattle.wire_policies.specs.Grammar.{IsTransform, IsSaBody}
use Rattle.wire_policies.proofs.SelectorGrammar.{complete as selector-complete}
use Rattle.wire_policies.proofs.TransformGrammar.{complete as transform-complete}
use Rattle.wire_readers.specs.inner.Values.{attributes_in}
use Rattle.wire_readers.proofs.ValuesLaws.{whole_is}
use Rattle.wire_view.specs.View.{on_all, shown_kind, shown_selector, shown_transform, shown_attribute, attributes_span, shown_attributes}
use Rattle.wire_view.specs.View.{shown_suite}
use Rattle.wire_view.specs.View.{shown_body, shown_items, at_destination, at_transform, at_attribute, cursor_at, stay_step, stepped}
use Rattle.wire_view.specs.View.{selector_step}
use Rattle.wire_view.specs.View.{transform_step, policy_place, attribute_step, first_in, is_counted, step_at, next_after, is_nothing, is_at_end}
use Rattle.wire_view.specs.View.{before, shown_in}
use Rattle.wire_view.specs.declared.items.Item.{Item}
use Rattle.wire_view.specs.declared.read.Kind.{Kind}
use Rattle.wire_view.specs.declared.read.Kind.TheVariants as kind
use Rattle.wire_view.specs.declared.read.Step.{Step}
use Rattle.wire_view.proofs.AttributeLaws.{row-octets}
use Rattle.wire_view.proofs.KindLaws.{Nowhere, of-sa, of-wide, of_none}
use Rattle.wire_view.proofs.StepLaws.{none-there, goes_by}

module _ (s : List ℕ) where
  -- ONE STEP OF A WALK
  goes : (n c : ℕ) (x : Item) (m : ℕ) → step_at s c ≡ record { item = Some x; next = m } → shown_in (suc n) s c ≡ x ∷ shown_in n s m
  unfolding shown_in
  goes n c x m q = λ j. before (q j).item (shown_in n s (q j).next)

  ends : (n c : ℕ) → step_at s c ≡ stay_step c → shown_in (suc n) s c ≡ []
  unfolding shown_in
  ends n c q = λ j. before (q j).item (shown_in n s (q j).next)

  -- o stands from b on, before t
  record Stands (b : ℕ) (o t : List ℕ) : Type 0 where
    there : drop b s ≡ o ++ t
    all : b + length (o ++ t) ≡ length s

  module _ (b : ℕ) (o t : List ℕ) (f : Stands b o t) where
    behind : length s - length t ≡ b + length o
    behind = omega (arith, f.all, length-append o t)

    rest : drop (length s - length t) s ≡ t
    rest = ap (λ (n : ℕ). drop n s) behind ∙ sym (drop-drop (length o) b s) ∙ ap (drop (length o)) f.there ∙ drop-append_seam o t

    count : length s - length t + length t ≡ length s
    count = omega (arith, f.all, length-append o t)

  module _ (h : is_counted s ≡ true) where
    at-cursor : (b k : ℕ) → k ≤ 3 → (cursor_at b k % 4 ≡ k) × (cursor_at b k / 4 ≡ b)
    at-cursor b k l = (omega (arith, l), omega (arith, l))

    -- ATTRIBUTES TO THE END
    attribute-next : (b : ℕ) → step_at s (cursor_at b at_attribute) ≡ attribute_step s (cursor_at b at_attribute) b
    attribute-next b =
        let k = at-cursor b at_attribute (omega arith) in
        goes_by s (cursor_at b at_attribute) at_attribute b h k.0 k.1

    attributes-walk : (n b c : ℕ) → step_at s c ≡ attribute_step s c b → {t : List ℕ} {l : List Attribute}
        → Row (IsAttribute (policy_place s)) t l → drop b s ≡ t → b + length t ≡ length s
        → shown_in n s c ≡ take n (shown_attributes (policy_place s) (length s) l)
    unfolding shown_in shown_attributes
    attributes-walk zero b c q r e a = refl
    attributes-walk (suc n) b c q no-more e a =
        let p = policy_place s in
        ends n c (q ∙ ap (λ (y : List ℕ). stepped s c (shown_attribute p b) (λ (z : Attribute). at_attribute) (attribute p b y)) e
        ∙ ap (stepped s c (shown_attribute p b) (λ (z : Attribute). at_attribute)) (none-there p b [] refl))
    attributes-walk (suc n) b c q (then o t {a = x} {l = l} i r) e a =
        let p = policy_place s in
        let f : Stands b o t = record { there = e; all = a } in
        let m = length s - length t in
        let d : b ≡ length s - attributes_span (x ∷ l) = omega (arith, row-octets (then o t {a = x} {l = l} i r), a) in
        let w : step_at s c ≡ record { item = Some (shown_attribute p b x); next = cursor_at m at_attribute } =
        q ∙ ap (λ (y : List ℕ). stepped s c (shown_attribute p b) (λ (z : Attribute). at_attribute) (attribute p b y)) e
        ∙ ap (stepped s c (shown_attribute p b) (λ (z : Attribute). at_attribute)) (attribute-complete p b o t x i) in
        goes n c (shown_attribute p b x) (cursor_at m at_attribute) w
        ∙ ap (λ (y : List Item). shown_attribute p b x ∷ y)
        (attributes-walk n m (cursor_at m at_attribute) (attribute-next m) r (rest b o t f) (count b o t f))
        ∙ ap (λ (y : ℕ). shown_attribute p y x ∷ take n (shown_attributes p (length s) l)) d

    -- TRANSFORMS, THEN ATTRIBUTES
    abbrev comes : Bool → ℕ
    comes go = cond go at_transform at_attribute

    transforms-walk : (n b : ℕ) (go : Bool) {t : List ℕ} {l : List Transform} {tail : List ℕ} {m : List Attribute}
        → Spans no_more IsTransform go t l tail → Row (IsAttribute (policy_place s)) tail m → drop b s ≡ t → b + length t ≡ length s
        → shown_in n s (cursor_at b (comes go)) ≡ take n (map shown_transform l ++ shown_attributes (policy_place s) (length s) m)
    unfolding shown_in
    transforms-walk zero b go f r e a = refl
    transforms-walk (suc n) b true (none z) r e a = let y : ◌≡◌ {A = ℕ} 0 1 = cc in absurd (omega arith)
    transforms-walk (suc n) b false (none z) r e a = attributes-walk (suc n) b (cursor_at b at_attribute) (attribute-next b) r e a
    transforms-walk (suc n) b false (more o t z i f) r e a = let y : ◌≡◌ {A = ℕ} 0 1 = cc in absurd (omega arith)
    transforms-walk (suc n) b true {m = m} (more {st' = go} o t {a = x} {l = l} z i f) r e a =
        let c = cursor_at b at_transform in
        let k = at-cursor b at_transform (omega arith) in
        let v : Linked Bool Transform = record { item = x; next = go } in
        let u : Stands b o t = record { there = e; all = a } in
        let d = length s - length t in
        let shows : Linked Bool Transform → Item = λ y. shown_transform y.item in
        let leads : Linked Bool Transform → ℕ = λ y. comes y.next in
        let w : step_at s c ≡ record { item = Some (shown_transform x); next = cursor_at d (comes go) } =
        goes_by s c at_transform b h k.0 k.1 ∙ ap (λ (y : List ℕ). stepped s c shows leads (transform 0 true b y)) e
        ∙ ap (stepped s c shows leads) (transform-complete 0 true b o t v z i) in
        goes n c (shown_transform x) (cursor_at d (comes go)) w
        ∙ ap (λ (y : List Item). shown_transform x ∷ y) (transforms-walk n d go {m = m} f r (rest b o t u) (count b o t u))

    -- THE DESTINATION, THEN TRANSFORMS AND ATTRIBUTES
    module _ (p : Place) (pq : p ≡ policy_place s) (b : ℕ) (x : SaBody) (i : IsSaBody p (drop b s) x) (l : b ≤ length s) where
      first-stands : Stands b i.source (i.destination ++ i.after)
      first-stands = record { there = i.joined; all = omega (arith, l, ap length i.joined, length-drop b s) }

      d : ℕ
      d = length s - length (i.destination ++ i.after)

      d-is : d ≡ b + selector_size x.source.kind
      unfolding d
      d-is = omega (arith, behind b i.source (i.destination ++ i.after) first-stands, i.from.all)

      then-stands : Stands d i.destination i.after
      unfolding d
      then-stands = record {
        there = rest b i.source (i.destination ++ i.after) first-stands;
        all = count b i.source (i.destination ++ i.after) first-stands;
      }

      attributes-are : Row (IsAttribute (policy_place s)) i.tail x.suite.attributes
      attributes-are = subst (λ (y : Place). Row (IsAttribute y) i.tail x.suite.attributes) pq i.attributes

      destination-walk : (n : ℕ) → shown_in n s (cursor_at d at_destination)
          ≡ take n (shown_selector d x.destination ∷ shown_suite (policy_place s) (length s) x.suite)
      unfolding shown_in
      destination-walk zero = refl
      destination-walk (suc n) =
          let c = cursor_at d at_destination in
          let k = at-cursor d at_destination (omega arith) in
          let t = length s - length i.after in
          let w : step_at s c ≡ record { item = Some (shown_selector d x.destination); next = cursor_at t at_transform } =
          goes_by s c at_destination d h k.0 k.1
          ∙ ap (λ (y : List ℕ). stepped s c (shown_selector d) (λ (z : Selector). at_transform) (selector 0 d y)) then-stands.there
          ∙ ap (stepped s c (shown_selector d) (λ (z : Selector). at_transform))
          (selector-complete 0 d i.destination i.after x.destination i.to) in
          goes n c (shown_selector d x.destination) (cursor_at t at_transform) w
          ∙ ap (λ (y : List Item). shown_selector d x.destination ∷ y)
          (transforms-walk n t true {m = x.suite.attributes} i.transforms attributes-are
          (rest d i.destination i.after then-stands) (count d i.destination i.after then-stands))

      body-walk : (n c : ℕ) → step_at s c ≡ selector_step s c at_destination b → shown_in n s c ≡ take n (shown_body p b (length s) x)
      unfolding shown_in d
      body-walk zero c q = refl
      body-walk (suc n) c q =
          let w : step_at s c ≡ record { item = Some (shown_selector b x.source); next = cursor_at d at_destination } =
          q ∙ ap (λ (y : List ℕ). stepped s c (shown_selector b) (λ (z : Selector). at_destination) (selector 0 b y)) i.joined
          ∙ ap (stepped s c (shown_selector b) (λ (z : Selector). at_destination))
          (selector-complete 0 b i.source (i.destination ++ i.after) x.source i.from) in
          goes n c (shown_selector b x.source) (cursor_at d at_destination) w
          ∙ ap (λ (y : List Item). shown_selector b x.source ∷ y) (destination-walk n)
          ∙ (λ j. shown_selector b x.source
          ∷ take n (shown_selector (d-is j) x.destination ∷ shown_suite (sym pq j) (length s) x.suite))

  -- NOTHING
  none_walk : Nowhere s → (n : ℕ) → shown_in n s 0 ≡ take n (shown_items s)
  unfolding shown_in
  none_walk f zero = refl
  none_walk f (suc n) =
      ends n 0 (by-test (λ (y : Step). y ≡ stay_step 0) (is_counted s) (λ t. sym (f.first 0)) (λ t. refl)) ∙ ap (take (suc n)) f.items

  -- THE WHOLE WALK
  pub walk-shows : (n : ℕ) → shown_in n s 0 ≡ take n (shown_items s)
  walk-shows n = go (shown_kind s) refl
    where
      go : (k : Option Kind) → k ≡ shown_kind s → shown_in n s 0 ≡ take n (shown_items s)
      go (Some (kind.GroupSa p)) q =
          let f = of-sa s p q in
          body-walk f.counts (in_policy p) f.place (4 + spi_size p) f.body f.is f.head n 0
          (goes_by s 0 0 0 f.counts refl refl ∙ sym (f.first 0))
          ∙ ap (take n) f.items
      go (Some kind.GroupWide) q =
          let f = of-wide s q in
          let v = place.GroupWidePolicy in
          let y = drop 4 s in
          let w = whole_is (attributes v 0 y) f.held in
          let r : Row (IsAttribute (policy_place s)) y (attributes_in v y) =
          subst (λ (z : Place). Row (IsAttribute z) y (attributes_in v y)) f.place (read-are v 0 y (attributes_in v y) w.0 w.1) in
          attributes-walk f.counts n 4 0 (goes_by s 0 0 0 f.counts refl refl ∙ sym (f.first 0)) r refl
          (omega (arith, f.head, length-drop 4 s))
          ∙ ap (λ (z : Place). take n (shown_attributes z (length s) (attributes_in v y))) (sym f.place) ∙ ap (take n) f.items
      go None q = none_walk (of_none s q) n

-- AT THE END A CURSOR STAYS, wherever it points
abbrev Stays : ℕ → Step → Type 0
Stays c x = is_nothing x.item ≡ true → x.next ≡ c

module _ (s : List ℕ) (c : ℕ) where
  by-reading : {A : Type 0} (show : A → Item) (comes : A → ℕ) → (x : Reading A) → Stays c (stepped s c show comes x)
  by-reading show comes (whole a rest) e = let z : ◌≡◌ {A = ℕ} 0 1 = cc in absurd (omega arith)
  by-reading show comes (broken o) e = refl

  selector-stays : (comes b : ℕ) → Stays c (selector_step s c comes b)
  selector-stays comes b = by-reading (shown_selector b) (λ (x : Selector). comes) (selector 0 b (drop b s))

  transform-stays : (b : ℕ) → Stays c (transform_step s c b)
  transform-stays b =
      by-reading (λ (x : Linked Bool Transform). shown_transform x.item)
      (λ (x : Linked Bool Transform). cond x.next at_transform at_attribute) (transform 0 true b (drop b s))

  attribute-stays : (b : ℕ) → Stays c (attribute_step s c b)
  attribute-stays b =
      by-reading (shown_attribute (policy_place s) b) (λ (a : Attribute). at_attribute) (attribute (policy_place s) b (drop b s))

  first-stays : (x : Reading Policy) → Stays c (on_all (stay_step c) (first_in s c) x)
  first-stays (whole (group_sa x) []) = selector-stays at_destination (head_size s)
  first-stays (whole (group_wide x) []) = attribute-stays 4
  first-stays (whole x (n ∷ l)) = λ e. refl
  first-stays (broken o) = λ e. refl

  pub end_stays : is_at_end s c ≡ true → next_after s c ≡ c
  end_stays =
      by-test (Stays c) (is_counted s)
      (λ t. by-test (Stays c) (eqb (c % 4) 0) (λ u. first-stays (policy 0 s))
      (λ u. by-test (Stays c) (eqb (c % 4) at_destination) (λ v. selector-stays at_transform (c / 4))
      (λ v. by-test (Stays c) (eqb (c % 4) at_transform) (λ w. transform-stays (c / 4)) (λ w. attribute-stays (c / 4)))))
      (λ t e. refl)
