-- Attributes in a place, to the end of their octets; or the offset of the one that broke. An attribute that is read and has not the format
-- or size of the tables breaks the layout at its own offset, and so does one cut short (document 02, T-06).
use Rattle.std.specs.Prelude.{ℕ, List, Bool, ◌&&◌, length, drop}
use Rattle.octets.specs.Walk.{whole, Reader, opened, many}
use Rattle.wire_attributes.specs.Attribute.{Attribute, attribute_size, attribute_of, fits}
use Rattle.wire_attributes.specs.Place.{meaning_of, format_fits}
use Rattle.wire_attributes.specs.declared.tables.Place.{Place}

abbrev pub formed_in : Place → Attribute → Bool
formed_in p a = format_fits (meaning_of p a.kind) a.short (length a.value)

abbrev pub fits_in : Place → List ℕ → Bool
fits_in p s = fits s && formed_in p (attribute_of s)

unfoldable pub attribute : Place → Reader Attribute
attribute p b s = opened b (fits_in p s) (whole (attribute_of s) (drop (attribute_size s) s))

abbrev pub attributes : Place → Reader (List Attribute)
attributes p b s = many (attribute p) b s
