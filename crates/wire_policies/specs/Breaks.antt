-- WHERE SELECTORS, TRANSFORMS AND POLICIES BREAK, defined without the readers (document 02, T-06). In each `s` is the octets from the
-- structure's first on, to the end of what holds it, `b` the offset of that first octet, `h` the offset of the policy that holds the
-- structure, and `o` the offset that number 1 carries.
use Rattle.std.specs.Prelude.{ℕ, ◌+◌, ◌-◌, ◌<◌, ◌≡◌, List, ◌++◌, Bool, true, length}
use Rattle.ikev2_numbers.specs.Codes.{ipv4_range, ipv6_range, last_transform, more_transforms, no_protocol, policy_head_octets, protocol_ah}
use Rattle.ikev2_numbers.specs.Codes.{protocol_esp, protocol_gike_update, structure_length_at, transform_head_octets, transform_type_at}
use Rattle.octets.specs.Numbers.{oct}
use Rattle.octets.specs.Walk.{be16, part}
use Rattle.octets.specs.Breaks.{FaultOfLength, BreaksStructure, BreaksDue, BreaksInChain, BreaksInRow}
use Rattle.wire_attributes.specs.Place.{in_transform, in_policy}
use Rattle.wire_attributes.specs.Breaks.{BreaksAttributes}
use Rattle.wire_attributes.specs.declared.tables.Place.{Place}
use Rattle.wire_attributes.specs.declared.tables.Place.TheVariants as place
use Rattle.wire_policies.specs.Selector.{Selector, selector_size}
use Rattle.wire_policies.specs.Transform.{Transform, no_more}
use Rattle.wire_policies.specs.Policy.{spi_size}
use Rattle.wire_policies.specs.Grammar.{IsSelector, IsTransform, Transforms, IsPolicy}

-- A SELECTOR: "type 7 (16 octets) or 8 (40 octets)"
pub data FaultOfSelector (s : List ℕ) : Type 0 where
  unknown : (oct s 0 ≡ ipv4_range → ⊥) → (oct s 0 ≡ ipv6_range → ⊥) → FaultOfSelector s
  cut : length s < selector_size (oct s 0) → FaultOfSelector s
  other_length : (be16 s structure_length_at ≡ selector_size (oct s 0) → ⊥) → FaultOfSelector s

-- a selector without a single octet is missing in its policy, at `h`; a selector holds nothing
abbrev pub BreaksSelector : ℕ → ℕ → List ℕ → ℕ → Type 0
BreaksSelector h b s o = BreaksDue h s (BreaksStructure (FaultOfSelector s) ⊥ b o) o

-- A TRANSFORM: "3 (more) or 0 (last), reserved, length 2, type, reserved, ID 2, attributes"
pub data FaultOfTransform (s : List ℕ) : Type 0 where
  by_length : FaultOfLength transform_head_octets s → FaultOfTransform s
  unmarked : (oct s 0 ≡ more_transforms → ⊥) → (oct s 0 ≡ last_transform → ⊥) → FaultOfTransform s

abbrev pub BreaksTransform : ℕ → Bool → ℕ → List ℕ → ℕ → Type 0
BreaksTransform h more b s o =
    BreaksDue h s
    (BreaksStructure (FaultOfTransform s)
    (BreaksAttributes (in_transform (oct s transform_type_at)) (b + transform_head_octets)
    (part s transform_head_octets (be16 s structure_length_at)) o) b o) o

-- "one or more": the first is due, and each after a 3
abbrev pub BreaksTransforms : ℕ → ℕ → List ℕ → ℕ → Type 0
BreaksTransforms h b s o = BreaksInChain no_more IsTransform (BreaksTransform h) true b s o

-- WHAT FOLLOWS AN SPI, one after the other: source and destination selector, transforms, attributes
pub data BreaksSaBody (h : ℕ) (p : Place) (b : ℕ) (s : List ℕ) (o : ℕ) : Type 0 where
  in_source : BreaksSelector h b s o → BreaksSaBody h p b s o
  in-destination : (source rest : List ℕ) {x : Selector} → s ≡ source ++ rest → IsSelector source x
      → BreaksSelector h (b + length source) rest o → BreaksSaBody h p b s o
  in-transforms : (source destination rest : List ℕ) {x y : Selector} → s ≡ source ++ (destination ++ rest) → IsSelector source x
      → IsSelector destination y → BreaksTransforms h (b + length source + length destination) rest o → BreaksSaBody h p b s o
  in-attributes : (source destination after tail : List ℕ) {x y : Selector} {l : List Transform}
      → s ≡ source ++ (destination ++ after) → IsSelector source x → IsSelector destination y → Transforms after l tail
      → BreaksAttributes p (b + (length s - length tail)) tail o → BreaksSaBody h p b s o

-- THE HEAD that policies and key bags share: "protocol (6 Rekey, 3 ESP, 2 AH), SPI size (16, 4, 4), length 2, SPI", or "0, reserved,
-- length 2". "Another first octet breaks the layout, in KD too."
pub data FaultOfHead (s : List ℕ) : Type 0 where
  by_length : FaultOfLength (policy_head_octets + spi_size (oct s 0)) s → FaultOfHead s
  unknown : (oct s 0 ≡ no_protocol → ⊥) → (oct s 0 ≡ protocol_gike_update → ⊥)
      → (oct s 0 ≡ protocol_esp → ⊥) → (oct s 0 ≡ protocol_ah → ⊥) → FaultOfHead s
  other-size : (oct s 0 ≡ no_protocol → ⊥) → (oct s 1 ≡ spi_size (oct s 0) → ⊥) → FaultOfHead s

-- A POLICY at the offset `b`, and what it holds: attributes in a group-wide policy, in any other what follows its SPI
pub data BreaksHeld (b : ℕ) (s : List ℕ) (o : ℕ) : Type 0 where
  in-wide : oct s 0 ≡ no_protocol
      → BreaksAttributes place.GroupWidePolicy (b + policy_head_octets) (part s policy_head_octets (be16 s structure_length_at)) o
      → BreaksHeld b s o
  in-sa : (oct s 0 ≡ no_protocol → ⊥)
      → BreaksSaBody b (in_policy (oct s 0)) (b + (policy_head_octets + spi_size (oct s 0)))
      (part s (policy_head_octets + spi_size (oct s 0)) (be16 s structure_length_at)) o
      → BreaksHeld b s o

abbrev pub BreaksPolicy : ℕ → List ℕ → ℕ → Type 0
BreaksPolicy b s o = BreaksStructure (FaultOfHead s) (BreaksHeld b s o) b o

-- policies one after the other, to the end of `s`
abbrev pub BreaksPolicies : ℕ → List ℕ → ℕ → Type 0
BreaksPolicies b s o = BreaksInRow IsPolicy BreaksPolicy b s o
