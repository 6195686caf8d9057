-- What the code reads of one transform.
use Rattle.std.specs.Prelude.{ℕ, List, map}
use Rattle.wire_attributes.specs.Place.{in_transform}
use Rattle.wire_attributes.specs.Tree.{number16}
use Rattle.wire_attributes.specs.declared.tables.Place.{Place}
use Rattle.wire_attributes.specs.declared.tables.Meaning.TheVariants.{KeyLength}
use Rattle.wire_policies.specs.Transform.{Transform}
use Rattle.state_keys.specs.Algorithms.{needed_by}
use Rattle.wire_readers.specs.inner.Values.{values_in}
use Rattle.rules_refusals.specs.Fitness.{octets_needed, sum}

-- the octets that encryption (type 1) with ID `id` needs, summed over all Key Lengths among the attributes `s` in place `p`
abbrev pub key_length_needs : ℕ → Place → List ℕ → ℕ
key_length_needs id p s = sum (λ (b : ℕ). octets_needed (needed_by 1 id b)) (map number16 (values_in KeyLength p s))

-- the transform of type `k` with ID `i` and attributes `s`
abbrev pub transform_in : ℕ → ℕ → List ℕ → Transform
transform_in k i s = record { kind = k; id = i; key_lengths = map number16 (values_in KeyLength (in_transform k) s) }
