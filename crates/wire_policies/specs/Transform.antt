-- Transforms (RFC 7296, section 3.3.2). Document 01: "3 (more) or 0 (last), reserved, length 2, type, reserved, ID 2, attributes".
use Rattle.std.specs.Prelude.{ℕ, List, Bool, true, not, ◌&&◌, ◌||◌, eqb}
use Rattle.ikev2_numbers.specs.Codes.{last_transform, more_transforms, structure_length_at, transform_head_octets, transform_id_at}
use Rattle.ikev2_numbers.specs.Codes.{transform_type_at}
use Rattle.octets.specs.Numbers.{oct}
use Rattle.octets.specs.Walk.{be16, sized, Reader, mapped, opened, begun, within, Linked, chain}
use Rattle.wire_attributes.specs.Attribute.{Attribute}
use Rattle.wire_attributes.specs.Place.{in_transform}
use Rattle.wire_attributes.specs.Tree.{key_lengths}
use Rattle.wire_attributes.specs.Layout.{attributes}

pub record Transform : Type 0 where
  pub kind : ℕ
  pub id : ℕ
  pub key_lengths : List ℕ

abbrev pub is_mark : ℕ → Bool
is_mark m = eqb m more_transforms || eqb m last_transform

abbrev pub transform_fits : List ℕ → Bool
transform_fits s = sized transform_head_octets s && is_mark (oct s 0)

-- the transform at the start of `s` with the attributes `l`, and whether another follows
abbrev pub transform_of : List ℕ → List Attribute → Linked Bool Transform
transform_of s l = record {
  item = record {
    kind = oct s transform_type_at;
    id = be16 s transform_id_at;
    key_lengths = key_lengths (in_transform (oct s transform_type_at)) l;
  };
  next = eqb (oct s 0) more_transforms;
}

-- the transform at the start of `s`, or broken; a missing one counts for its policy, at the offset `h`
unfoldable pub transform : ℕ → Bool → Reader (Linked Bool Transform)
transform h more b s =
    begun h s
    (opened b (transform_fits s) (mapped (transform_of s)
    (within transform_head_octets (be16 s structure_length_at) (attributes (in_transform (oct s transform_type_at))) b s)))

-- "one or more": the first is due, and each after a 3
abbrev pub no_more : Bool → List ℕ → Bool
no_more more s = not more

abbrev pub transforms : ℕ → Reader (List Transform)
transforms h b s = chain no_more (transform h) true b s
