-- WHAT IS READ of a transform and of a policy, octet by octet. Document 01: "Flags, minor version and RESERVED octets are ignored."
use Rattle.std.specs.Prelude.{ℕ, ◌+◌, List, ◌∷◌, ◌++◌, Bool, take, drop}
use Rattle.octets.specs.Ignored.{Mask, all, ignored, all_of, row_mask, chain_mask}
use Rattle.ikev2_numbers.specs.Codes.{policy_head_octets, transform_head_octets}
use Rattle.wire_attributes.specs.declared.tables.Place.{Place}
use Rattle.wire_policies.specs.Transform.{Transform}
use Rattle.wire_policies.specs.Policy.{spi_size, Policy, group_sa, group_wide, SaBody}
use Rattle.wire_policies.specs.Grammar.{IsTransform, IsSaBody, IsPolicy, is-sa, is_wide, Policies}

-- "3 (more) or 0 (last), reserved, length 2, type, reserved, ID 2, attributes"
abbrev pub transform_mask : (o : List ℕ) (x : Transform) (more next : Bool) → IsTransform more o x next → List Mask
transform_mask o x more next i = all ∷ ignored ∷ all ∷ all ∷ all ∷ ignored ∷ all ∷ all ∷ all_of (drop transform_head_octets o)

-- selectors and attributes have no octet that is ignored
abbrev pub sa_body_mask : (p : Place) (s : List ℕ) (x : SaBody) → IsSaBody p s x → List Mask
sa_body_mask p s x i = all_of i.source ++ (all_of i.destination ++ chain_mask transform_mask (all_of i.tail) i.transforms)

-- "0, reserved, length 2, attributes": a group-wide policy, and a Member Key Bag too
abbrev pub reserved_second : List ℕ → List Mask
reserved_second o = all ∷ ignored ∷ all ∷ all ∷ all_of (drop policy_head_octets o)

-- "protocol, SPI size, length 2, SPI" and what follows them
abbrev pub policy_mask : (o : List ℕ) (x : Policy) → IsPolicy o x → List Mask
policy_mask o (group_sa x) (is-sa i) = all_of (take (policy_head_octets + spi_size x.protocol) o) ++ sa_body_mask _ _ _ i.holds
policy_mask o (group_wide x) (is_wide i) = reserved_second o

abbrev pub policies_mask : {s : List ℕ} {l : List Policy} → Policies s l → List Mask
policies_mask r = row_mask policy_mask r
