-- What `transform_parts` and `sa_parts` answer on what a Group SA policy holds after its SPI: the first transform, with the others at its
-- end; where the parts start.
use Rattle.std.specs.Prelude.{ℕ, ◌<◌, ◌≤◌, ◌≡◌, List, ◌∷◌, map, true, length, drop}
use Rattle.ikev2_numbers.specs.Codes.{transform_head_octets}
use Rattle.octets.specs.Walk.{part, Spans}
use Rattle.wire_attributes.specs.Place.{in_transform}
use Rattle.wire_attributes.specs.Tree.{number16}
use Rattle.wire_attributes.specs.Layout.{attributes}
use Rattle.wire_attributes.specs.declared.tables.Place.{Place}
use Rattle.wire_attributes.specs.declared.tables.Meaning.TheVariants as meaning
use Rattle.wire_policies.specs.Transform.{Transform, no_more}
use Rattle.wire_policies.specs.Policy.{SaBody}
use Rattle.wire_policies.specs.Grammar.{IsSelector, IsTransform, Transforms}
use Rattle.wire_readers.specs.inner.Values.{is_whole, attributes_in, values_in}
use Rattle.wire_readers.specs.declared.body.TransformParts.{TransformParts}
use Rattle.wire_readers.specs.declared.body.SaParts.{SaParts}

-- `r` is the first of the transforms `l` at the start of `s`, and `tail` the octets after the last
pub record TransformIs (s : List ℕ) (l : List Transform) (tail : List ℕ) (r : TransformParts) : Type 0 where
  pub head : Transform
  pub rest : List Transform
  pub all : l ≡ head ∷ rest
  pub kind : head.kind ≡ r.kind
  pub id : head.id ≡ r.id
  pub key_lengths : head.key_lengths
      ≡ map number16 (values_in meaning.KeyLength (in_transform r.kind) (part s transform_head_octets r.end))
  pub held : is_whole (attributes (in_transform r.kind) 0 (part s transform_head_octets r.end)) ≡ true
  pub octet : r.kind < 256
  pub two_octets : r.id < 65536
  pub short : r.end < 65536
  pub least : transform_head_octets ≤ r.end
  pub inside : r.end ≤ length s
  pub others : Spans no_more IsTransform r.more (drop r.end s) rest tail

-- the source selector stands in front of the destination selector, then come transforms and attributes
pub record SaPartsAre (p : Place) (s : List ℕ) (x : SaBody) (r : SaParts) : Type 0 where
  pub order : r.destination ≤ r.transforms
  pub then : r.transforms ≤ r.attributes
  pub inside : r.attributes ≤ length s
  pub destination : IsSelector (part s r.destination r.transforms) x.destination
  pub transforms : Transforms (drop r.transforms s) x.suite.transforms (drop r.attributes s)
  pub held : is_whole (attributes p 0 (drop r.attributes s)) ≡ true
  pub attributes : attributes_in p (drop r.attributes s) ≡ x.suite.attributes
