-- WHAT A VIEW SHOWS of some octets: the policy that they are, to their end; nothing, if they are none. Document 01: "For printing, a policy
-- is shown as a view that holds a reference to its stretch of the frame".
use Rattle.std.specs.Prelude.{ℕ, zero, suc, ◌+◌, ◌-◌, ◌*◌, ◌/◌, ◌%◌, List, [], ◌∷◌, ◌++◌, map, Bool, true, false, cond, ◌&&◌, leb, eqb, length, drop, get_or, Option, Some, None}
use Rattle.ikev2_numbers.specs.Codes.{addresses_at, no_protocol, policy_head_octets, structure_length_at}
use Rattle.octets.specs.Numbers.{oct}
use Rattle.octets.specs.Walk.{be16, Reading, whole, broken, Linked}
use Rattle.wire_attributes.specs.Attribute.{Attribute, lead_of, span_of}
use Rattle.wire_attributes.specs.Place.{meaning_of, in_policy}
use Rattle.wire_attributes.specs.Layout.{attribute, attributes}
use Rattle.wire_attributes.specs.declared.tables.Place.{Place}
use Rattle.wire_attributes.specs.declared.tables.Place.TheVariants as place
use Rattle.wire_policies.specs.Selector.{Selector, selector_size, selector}
use Rattle.wire_policies.specs.Transform.{Transform, transform}
use Rattle.wire_policies.specs.Policy.{head_size, Policy, group_sa, group_wide, Suite, SaBody, sa_body, policy}
use Rattle.wire_view.specs.declared.items.Item.{Item}
use Rattle.wire_view.specs.declared.items.Item.TheVariants as item
use Rattle.wire_view.specs.declared.read.Kind.{Kind}
use Rattle.wire_view.specs.declared.read.Kind.TheVariants as kind
use Rattle.wire_view.specs.declared.read.Step.{Step}
use Rattle.wire_view.specs.declared.View.{View}

-- `f` of what was read, if no octet is left; `nothing` for every other reading
abbrev pub on_all : {A B : Type 0} → B → (A → B) → Reading A → B
on_all nothing f (whole a []) = f a
on_all nothing f (whole a (x ∷ rest)) = nothing
on_all nothing f (broken o) = nothing

-- FIRST OCTET AND SPI. The first octet of each answer by document 01: "protocol (6 Rekey, 3 ESP, 2 AH)", "First octet 0: group-wide
-- policy"; no policy has none
abbrev pub octet_in : Kind → List ℕ
octet_in (kind.GroupSa p) = p ∷ []
octet_in kind.GroupWide = 0 ∷ []

abbrev pub first_octet : Option Kind → List ℕ
first_octet (Some k) = octet_in k
first_octet None = []

abbrev pub kind_in : Policy → Option Kind
kind_in (group_sa x) = Some (kind.GroupSa x.protocol)
kind_in (group_wide x) = Some kind.GroupWide

abbrev pub shown_kind : List ℕ → Option Kind
shown_kind s = on_all None kind_in (policy 0 s)

-- the first octet of the policy `s`; none if `s` is no policy
abbrev pub octet_of : List ℕ → List ℕ
octet_of s = on_all [] (λ (x : Policy). oct s 0 ∷ []) (policy 0 s)

abbrev pub spi_in : Policy → List ℕ
spi_in (group_sa x) = x.spi
spi_in (group_wide x) = []

abbrev pub shown_spi : List ℕ → List ℕ
shown_spi s = on_all [] spi_in (policy 0 s)

-- where the SPI starts in the policy, behind "protocol, SPI size, length 2"; 0 where there is none
abbrev pub spi_start_in : Policy → ℕ
spi_start_in (group_sa x) = policy_head_octets
spi_start_in (group_wide x) = 0

abbrev pub spi_start : List ℕ → ℕ
spi_start s = on_all 0 spi_start_in (policy 0 s)

-- ONE SELECTOR, TRANSFORM OR ATTRIBUTE; a selector and an attribute stand at an offset `b` of the policy
abbrev pub shown_selector : ℕ → Selector → Item
shown_selector b x = item.Selector x.kind x.protocol x.start_port x.end_port (b + addresses_at) (b + selector_size x.kind)

abbrev pub shown_transform : Transform → Item
shown_transform t = item.Transform t.kind t.id (length t.key_lengths) (get_or t.key_lengths 0 0)

abbrev pub shown_attribute : Place → ℕ → Attribute → Item
shown_attribute p b a = item.Attribute (meaning_of p a.kind) a.short a.kind (b + lead_of a) (b + lead_of a + length a.value)

-- ALL OF THEM, one after the other. Attributes fill a policy to its end, at the offset `e`
unfoldable pub attributes_span : List Attribute → ℕ
attributes_span [] = 0
attributes_span (a ∷ l) = span_of a + attributes_span l

unfoldable pub shown_attributes : Place → ℕ → List Attribute → List Item
shown_attributes p e [] = []
shown_attributes p e (a ∷ l) = shown_attribute p (e - attributes_span (a ∷ l)) a ∷ shown_attributes p e l

abbrev pub shown_suite : Place → ℕ → Suite → List Item
shown_suite p e x = map shown_transform x.transforms ++ shown_attributes p e x.attributes

-- what a Group SA policy holds from the offset `b` on
abbrev pub shown_body : Place → ℕ → ℕ → SaBody → List Item
shown_body p b e x =
    shown_selector b x.source
    ∷ shown_selector (b + selector_size x.source.kind) x.destination
    ∷ shown_suite p e x.suite

abbrev pub items_in : List ℕ → Policy → List Item
items_in s (group_sa x) =
    let p = in_policy x.protocol in
    let h = head_size s in
    on_all [] (shown_body p h (length s)) (sa_body 0 p h (drop h s))
items_in s (group_wide x) = on_all [] (shown_attributes place.GroupWidePolicy (length s))
    (attributes place.GroupWidePolicy policy_head_octets (drop policy_head_octets s))

abbrev pub shown_items : List ℕ → List Item
shown_items s = on_all [] (items_in s) (policy 0 s)

-- ONE STEP reads the selector, transform or attribute that stands at the cursor's offset, and no other octet but the policy's head, and
-- answers it with the cursor behind it; where none is laid out there it shows nothing, and the cursor stays. A cursor is four times the
-- offset, plus what comes there: 1 the destination selector, 2 a transform, 3 an attribute; plus 0 is before the first, wherever that is
abbrev pub at_destination : ℕ
at_destination = 1

abbrev pub at_transform : ℕ
at_transform = 2

abbrev pub at_attribute : ℕ
at_attribute = 3

abbrev pub parts : ℕ
parts = 4

abbrev pub cursor_at : ℕ → ℕ → ℕ
cursor_at b comes = parts * b + comes

abbrev pub stay_step : ℕ → Step
stay_step c = record { item = None; next = c }

-- the step over what is read at the cursor `c`: `show` says how it is shown, `comes` what comes behind it, where the octets left start
abbrev pub stepped : {A : Type 0} → List ℕ → ℕ → (A → Item) → (A → ℕ) → Reading A → Step
stepped s c show comes (whole a rest) = record { item = Some (show a); next = cursor_at (length s - length rest) (comes a) }
stepped s c show comes (broken o) = stay_step c

-- the steps over a selector, a transform and an attribute at the offset `b`. Behind a selector comes what `comes` says, behind a transform
-- another one or an attribute, behind an attribute another one
abbrev pub selector_step : List ℕ → ℕ → ℕ → ℕ → Step
selector_step s c comes b = stepped s c (shown_selector b) (λ (x : Selector). comes) (selector 0 b (drop b s))

abbrev pub transform_step : List ℕ → ℕ → ℕ → Step
transform_step s c b =
    stepped s c (λ (x : Linked Bool Transform). shown_transform x.item)
    (λ (x : Linked Bool Transform). cond x.next at_transform at_attribute) (transform 0 true b (drop b s))

-- the place of the attributes of the policy `s`, by its first octet
abbrev pub policy_place : List ℕ → Place
policy_place s = cond (eqb (oct s 0) no_protocol) place.GroupWidePolicy (in_policy (oct s 0))

abbrev pub attribute_step : List ℕ → ℕ → ℕ → Step
attribute_step s c b =
    stepped s c (shown_attribute (policy_place s) b) (λ (a : Attribute). at_attribute) (attribute (policy_place s) b (drop b s))

-- the first step finds out which policy the octets are: it alone reads all of them
abbrev pub first_in : List ℕ → ℕ → Policy → Step
first_in s c (group_sa x) = selector_step s c at_destination (head_size s)
first_in s c (group_wide x) = attribute_step s c policy_head_octets

abbrev pub first_step : List ℕ → ℕ → Step
first_step s c = on_all (stay_step c) (first_in s c) (policy 0 s)

-- the step from the cursor `c`, by what `comes` there and at which offset `b`
abbrev pub step_by : List ℕ → ℕ → ℕ → ℕ → Step
step_by s c comes b =
    cond (eqb comes 0) (first_step s c)
    (cond (eqb comes at_destination) (selector_step s c at_transform b)
    (cond (eqb comes at_transform) (transform_step s c b) (attribute_step s c b)))

-- whether the octets are as many as their "length 2" says; others show nothing
abbrev pub is_counted : List ℕ → Bool
is_counted s = leb policy_head_octets (length s) && eqb (be16 s structure_length_at) (length s)

abbrev pub step_at : List ℕ → ℕ → Step
step_at s c = cond (is_counted s) (step_by s c (c % parts) (c / parts)) (stay_step c)

-- the parts of a step: what stands at the cursor, the cursor behind it, and whether nothing stands there
abbrev pub item_at : List ℕ → ℕ → Option Item
item_at s c = (step_at s c).item

abbrev pub next_after : List ℕ → ℕ → ℕ
next_after s c = (step_at s c).next

abbrev pub is_nothing : Option Item → Bool
is_nothing (Some x) = false
is_nothing None = true

abbrev pub is_at_end : List ℕ → ℕ → Bool
is_at_end s c = is_nothing (item_at s c)

-- A WALK: what `n` steps show from the cursor `c` on, up to the end
abbrev pub before : Option Item → List Item → List Item
before (Some x) rest = x ∷ rest
before None rest = []

unfoldable pub shown_in : ℕ → List ℕ → ℕ → List Item
shown_in zero s c = []
shown_in (suc n) s c =
    let rest = shown_in n s (next_after s c) in
    before (item_at s c) rest

-- ALL THAT A VIEW STILL SHOWS from its cursor on: a walk takes at most a step for each octet, and the first
abbrev pub items_left : View → List Item
items_left v = shown_in (suc (length v.src.now)) v.src.now v.at
