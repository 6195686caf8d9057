-- What a view shows, computed: a transform with two Key Lengths, an empty group-wide policy, octets that are no policy.
use Rattle.std.specs.Prelude.{Option, Some, None}
use Prim.Native.Nat.{ℕ}
use mathlib.Core.Path.{◌≡◌, refl}
use mathlib.Core.List.{List, [], ◌∷◌, ◌++◌, map}
use mathlib.Core.Bool.{true, false}
use Rattle.octets.specs.Numbers.{number}
use Rattle.octets.specs.Walk.{chain, chain_up_to, many}
use Rattle.wire_attributes.specs.Tree.{values_of}
use Rattle.wire_attributes.specs.Layout.{attribute}
use Rattle.wire_attributes.specs.declared.tables.Meaning.TheVariants as meaning
use Rattle.wire_policies.specs.Selector.{selector}
use Rattle.wire_policies.specs.Transform.{transform}
use Rattle.wire_policies.specs.Policy.{suite, sa_body, policy}
use Rattle.wire_view.specs.View.{first_octet, shown_kind, shown_spi, spi_start, attributes_span, shown_attributes, shown_items}
use Rattle.wire_view.specs.View.{stay_step, step_at, item_at, next_after, is_at_end, shown_in}
use Rattle.wire_view.specs.declared.items.Item.{Item}
use Rattle.wire_view.specs.declared.items.Item.TheVariants as item
use Rattle.wire_view.specs.declared.read.Kind.{Kind}
use Rattle.wire_view.specs.declared.read.Kind.TheVariants as kind

-- what each call answers of a view of some octets: which policy, its SPI and where it starts, all that is shown
pub record Shown : Type 0 where
  pub kind : Option Kind
  pub first : List ℕ
  pub spi : List ℕ
  pub start : ℕ
  pub items : List Item

abbrev shown : List ℕ → Shown
shown s = record { kind = shown_kind s; first = first_octet (shown_kind s); spi = shown_spi s; start = spi_start s; items = shown_items s }

abbrev nothing : Shown
nothing = record { kind = None; first = []; spi = []; start = 0; items = [] }

-- the selector of 239.1.2.3, UDP, port 848
abbrev ip4 : List ℕ
ip4 = 7 ∷ 17 ∷ 0 ∷ 16 ∷ 3 ∷ 80 ∷ 3 ∷ 80 ∷ 239 ∷ 1 ∷ 2 ∷ 3 ∷ 239 ∷ 1 ∷ 2 ∷ 3 ∷ []

-- and that of 224.0.0.9, UDP, ports 849 to 850
abbrev other : List ℕ
other = 7 ∷ 17 ∷ 0 ∷ 16 ∷ 3 ∷ 81 ∷ 3 ∷ 82 ∷ 224 ∷ 0 ∷ 0 ∷ 9 ∷ 224 ∷ 0 ∷ 0 ∷ 9 ∷ []

-- an ESP policy whose one transform has the Key Lengths 128 and 256, and GSA_KEY_LIFETIME
abbrev esp : List ℕ
esp =
    (3 ∷ 4 ∷ 0 ∷ 64 ∷ 9 ∷ 8 ∷ 7 ∷ 6 ∷ []) ++ (ip4 ++ (other ++
    (0 ∷ 0 ∷ 0 ∷ 16 ∷ 1 ∷ 0 ∷ 0 ∷ 20 ∷ 128 ∷ 14 ∷ 0 ∷ 128 ∷ 128 ∷ 14 ∷ 1 ∷ 0 ∷ 0 ∷ 1 ∷ 0 ∷ 4 ∷ 0 ∷ 0 ∷ 14 ∷ 16 ∷ [])))

two-key-lengths : shown esp ≡ record {
  kind = Some (kind.GroupSa 3);
  first = 3 ∷ [];
  spi = 9 ∷ 8 ∷ 7 ∷ 6 ∷ [];
  start = 4;
  items =
      item.Selector 7 17 848 848 16 24 ∷ item.Selector 7 17 849 850 32 40 ∷ item.Transform 1 20 2 128
      ∷ item.Attribute meaning.KeyLifetime false 1 60 64 ∷ [];
}
unfolding policy suite sa_body selector transform attribute many chain chain_up_to number values_of attributes_span shown_attributes
two-key-lengths = refl

-- THE STEPS THROUGH IT, from offset to offset: the destination selector stands at 24, the transform at 40, the attribute at 56, and 64 is
-- the end
steps : (shown_in 9 esp 0 ≡ shown_items esp)
    × (map (next_after esp) (0 ∷ 97 ∷ 162 ∷ 227 ∷ 259 ∷ []) ≡ 97 ∷ 162 ∷ 227 ∷ 259 ∷ 259 ∷ [])
    × (map (is_at_end esp) (0 ∷ 97 ∷ 162 ∷ 227 ∷ 259 ∷ []) ≡ false ∷ false ∷ false ∷ false ∷ true ∷ [])
    × (item_at esp 162 ≡ Some (item.Transform 1 20 2 128))
unfolding policy suite sa_body selector transform attribute many chain chain_up_to number values_of attributes_span shown_attributes shown_in
steps = (refl, refl, refl, refl)

-- of two transforms the second comes behind the first, and one without Key Length is shown so
abbrev two_transforms : List ℕ
two_transforms =
    (3 ∷ 4 ∷ 0 ∷ 56 ∷ 9 ∷ 8 ∷ 7 ∷ 6 ∷ []) ++ (ip4 ++ (ip4 ++
    (3 ∷ 0 ∷ 0 ∷ 8 ∷ 1 ∷ 0 ∷ 0 ∷ 20 ∷ 0 ∷ 0 ∷ 0 ∷ 8 ∷ 5 ∷ 0 ∷ 0 ∷ 2 ∷ [])))

two-transforms : (map (next_after two_transforms) (162 ∷ 194 ∷ []) ≡ 194 ∷ 227 ∷ []) × (item_at two_transforms 194 ≡ Some (item.Transform 5 2 0 0))
unfolding transform attribute many chain chain_up_to number values_of
two-transforms = (refl, refl)

-- cursors that no step answers: inside a selector, at the octets' end, behind it; an attribute is read where a transform stands
nowhere : map (step_at esp) (41 ∷ 257 ∷ 258 ∷ 9999 ∷ []) ≡ map stay_step (41 ∷ 257 ∷ 258 ∷ 9999 ∷ [])
unfolding selector transform attribute number
nowhere = refl

elsewhere : item_at esp 163 ≡ Some (item.Attribute meaning.Skipped false 0 44 60)
unfolding attribute number
elsewhere = refl

-- group-wide policies: an empty one shows nothing and is at its end at once; one with a delay of 5
wide : (shown (0 ∷ 9 ∷ 0 ∷ 4 ∷ []) ≡ record { kind = Some kind.GroupWide; first = 0 ∷ []; spi = []; start = 0; items = [] })
    × (step_at (0 ∷ 9 ∷ 0 ∷ 4 ∷ []) 0 ≡ stay_step 0) × (is_at_end (0 ∷ 9 ∷ 0 ∷ 4 ∷ []) 0 ≡ true)
    × (shown_items (0 ∷ 9 ∷ 0 ∷ 8 ∷ 128 ∷ 2 ∷ 0 ∷ 5 ∷ []) ≡ item.Attribute meaning.DeactivationDelay true 2 6 8 ∷ [])
    × (map (next_after (0 ∷ 9 ∷ 0 ∷ 8 ∷ 128 ∷ 2 ∷ 0 ∷ 5 ∷ [])) (0 ∷ 19 ∷ 35 ∷ []) ≡ 35 ∷ 35 ∷ 35 ∷ [])
unfolding policy suite sa_body selector transform attribute many chain chain_up_to number values_of attributes_span shown_attributes
wide = (refl, refl, refl, refl, refl)

-- no policy: no octet, one octet left over, another first octet, a policy cut short
none : map shown ([] ∷ (0 ∷ 9 ∷ 0 ∷ 4 ∷ 0 ∷ []) ∷ (1 ∷ 4 ∷ 0 ∷ 8 ∷ 9 ∷ 8 ∷ 7 ∷ 6 ∷ []) ∷ (3 ∷ 4 ∷ 0 ∷ 9 ∷ 9 ∷ 8 ∷ 7 ∷ 6 ∷ []) ∷ [])
    ≡ nothing ∷ nothing ∷ nothing ∷ nothing ∷ []
unfolding policy suite sa_body selector transform attribute many chain chain_up_to number values_of attributes_span shown_attributes
none = refl

-- a step through no policy shows nothing, from the start and, where the length counts other octets, from anywhere
none-shown : (map (step_at (1 ∷ 4 ∷ 0 ∷ 8 ∷ 9 ∷ 8 ∷ 7 ∷ 6 ∷ [])) (0 ∷ 17 ∷ 18 ∷ []) ≡ map stay_step (0 ∷ 17 ∷ 18 ∷ []))
    × (map (step_at (0 ∷ 9 ∷ 0 ∷ 4 ∷ 128 ∷ 2 ∷ 0 ∷ 5 ∷ [])) (0 ∷ 19 ∷ []) ≡ map stay_step (0 ∷ 19 ∷ []))
    × (map (step_at []) (0 ∷ 3 ∷ 19 ∷ []) ≡ map stay_step (0 ∷ 3 ∷ 19 ∷ []))
unfolding policy selector transform attribute number
none-shown = (refl, refl, refl)
