-- A KEY THAT WRAPS ITSELF, document 02, T-09: "A controller in the field sent an entry whose Key ID equals its KWK ID." The vocabulary of
-- the theorems (proofs/WrapsItself.antt). No contract cites this file.
use Rattle.std.specs.Prelude.{◌≡◌}
use Rattle.wire_attributes.specs.Tree.{WrapKey}
use Rattle.wire_frames.specs.Frame.{Frame}
use Rattle.rules_outcome.specs.NamedKey.{InMemberBag}

-- "Any such WRAP_KEY, reached or not": at any place of a Member Key Bag, whatever it wraps and whatever opens it
pub record WrapsItself (f : Frame) : Type 0 where
  pub entry : WrapKey
  pub stands : InMemberBag f entry
  pub equals : entry.key_id ≡ entry.kwk_id
