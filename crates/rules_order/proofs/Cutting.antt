-- The stretches of the grammar are those of the definition: a policy, a bag and a payload counts itself, an attribute has its format. Each
-- of these is cut from octets in one way.
use native.Mathlib.Omega.{arith}
use Prim.Native.Nat.{ℕ, ◌<◌, ◌≤◌}
use mathlib.Core.Path.{◌≡◌, ap, sym, ◌∙◌}
use mathlib.Core.Bool.{Bool}
use mathlib.Core.List.{List, ◌++◌}
use lib.ListN.{length}
use Rattle.octets.specs.Walk.{be16}
use Rattle.octets.proofs.Local.{be16-append}
use Rattle.wire_attributes.specs.Attribute.{Attribute, attribute_size}
use Rattle.wire_attributes.specs.Grammar.{IsAttribute}
use Rattle.wire_attributes.specs.declared.tables.Place.{Place}
use Rattle.wire_attributes.specs.declared.tables.Place.TheVariants as place
use Rattle.wire_attributes.proofs.AttributeLaws.{size-least}
use Rattle.wire_attributes.proofs.GrammarLaws.{same_size, format-size}
use Rattle.wire_policies.specs.Policy.{Policy}
use Rattle.wire_policies.specs.Grammar.{IsPolicy, is-sa, is_wide}
use Rattle.wire_bags.specs.Bag.{Bag}
use Rattle.wire_bags.specs.Grammar.{IsBag, is-group, is_member}
use Rattle.wire_frames.specs.Frame.{Payload}
use Rattle.wire_frames.specs.Grammar.{IsPayload}
use Rattle.rules_order.specs.Rearranged.{CountsItself, OneAttribute}

-- ---- the grammar's stretches
pub policy-counts : (o : List ℕ) (x : Policy) → IsPolicy o x → CountsItself o
policy-counts o _ (is-sa i) = let h = i.least in record { least = omega arith; size = i.size }
policy-counts o _ (is_wide i) = record { least = i.least; size = i.size }

pub bag-counts : (fresh : Bool) (o : List ℕ) (x : Bag) → IsBag fresh o x → CountsItself o
bag-counts fresh o _ (is-group i) = let h = i.least in record { least = omega arith; size = i.size }
bag-counts fresh o _ (is_member i) = record { least = i.least; size = i.size }

pub payload-counts : (fresh : Bool) (k : ℕ) (o : List ℕ) (x : Payload) (next : ℕ) → IsPayload fresh k o x next → CountsItself o
payload-counts fresh k o x next i = record { least = i.least; size = i.size }

pub attribute-one : (p : Place) (o : List ℕ) (a : Attribute) → IsAttribute p o a → OneAttribute o
attribute-one p o a i = record { attribute = a; format = i.format }

-- ---- cut in one way
pub counts_some : (o : List ℕ) → CountsItself o → 0 < length o
counts_some o c = omega (arith, c.least)

pub counts-one : (o p s t : List ℕ) → CountsItself o → CountsItself p → o ++ s ≡ p ++ t → length o ≡ length p
counts-one o p s t c d e =
    sym c.size ∙ sym (be16-append o s 2 (omega (arith, c.least))) ∙ ap (λ (x : List ℕ). be16 x 2) e
    ∙ be16-append p t 2 (omega (arith, d.least)) ∙ d.size

attribute-size : (o : List ℕ) → OneAttribute o → length o ≡ attribute_size o
attribute-size o f = format-size place.MemberBag o f.attribute f.format

attribute-least : (o : List ℕ) → OneAttribute o → 4 ≤ length o
attribute-least o f = omega (arith, attribute-size o f, size-least o)

pub attribute-some : (o : List ℕ) → OneAttribute o → 0 < length o
attribute-some o f = omega (arith, attribute-least o f)

pub attribute-cut : (o p s t : List ℕ) → OneAttribute o → OneAttribute p → o ++ s ≡ p ++ t → length o ≡ length p
attribute-cut o p s t f g e =
    attribute-size o f ∙ sym (same_size o s (attribute-least o f)) ∙ ap attribute_size e ∙ same_size p t (attribute-least p g)
    ∙ sym (attribute-size p g)
