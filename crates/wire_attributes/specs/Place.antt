-- Which attribute is read where, in which format and size. Document 01: "Read, in the format and size of 001's tables, are Key Length in a
-- type 1 transform, GSA_INITIAL_MESSAGE_ID in a Rekey policy, the deactivation delay in a group-wide policy, SA_KEY and WRAP_KEY; any other
-- is skipped (house)." Document 02, T-07: "GSA_KEY_LIFETIME, read in every policy": in every Group SA policy. Document 02, T-11: "private
-- attribute 16385 in the Rekey SA's Group Key Bag, with WRAP_KEY's layout, when their profile is switched on".
use Rattle.std.specs.Prelude.{ℕ, ◌%◌, Bool, true, not, cond, ◌&&◌, leb, eqb}
use Rattle.ikev2_numbers.specs.Codes.{attribute_dtd, attribute_fresh_key, attribute_initial_message_id, attribute_key_length}
use Rattle.ikev2_numbers.specs.Codes.{attribute_key_lifetime, attribute_sa_key, attribute_wrap_key, least_key_value, most_key_value}
use Rattle.ikev2_numbers.specs.Codes.{protocol_gike_update, transform_encr, wrapped_block}
use Rattle.wire_attributes.specs.declared.tables.Place.{Place}
use Rattle.wire_attributes.specs.declared.tables.Place.TheVariants as place
use Rattle.wire_attributes.specs.declared.tables.Meaning.{Meaning}
use Rattle.wire_attributes.specs.declared.tables.Meaning.TheVariants as meaning

-- the table: a place, an attribute's type, what it is there (RFC 7296, section 3.3.5; RFC 9838, sections 4.4.2.2, 4.4.3.1, 4.5.2, 4.5.3)
abbrev pub meaning_of : Place → ℕ → Meaning
meaning_of place.EncryptionTransform k = cond (eqb k attribute_key_length) meaning.KeyLength meaning.Skipped
meaning_of place.OtherTransform k = meaning.Skipped
meaning_of place.RekeyPolicy k =
    cond (eqb k attribute_key_lifetime) meaning.KeyLifetime
    (cond (eqb k attribute_initial_message_id) meaning.InitialMessageId meaning.Skipped)
meaning_of place.DataPolicy k = cond (eqb k attribute_key_lifetime) meaning.KeyLifetime meaning.Skipped
meaning_of place.GroupWidePolicy k = cond (eqb k attribute_dtd) meaning.DeactivationDelay meaning.Skipped
meaning_of place.RekeyBag k = cond (eqb k attribute_sa_key) meaning.SaKey meaning.Skipped
meaning_of place.FreshRekeyBag k =
    cond (eqb k attribute_sa_key) meaning.SaKey (cond (eqb k attribute_fresh_key) meaning.FreshKey meaning.Skipped)
meaning_of place.DataBag k = cond (eqb k attribute_sa_key) meaning.SaKey meaning.Skipped
meaning_of place.MemberBag k = cond (eqb k attribute_wrap_key) meaning.WrapKey meaning.Skipped

-- whether `n` is a size of a wrapped key's value: Key ID 4, KWK ID 4, then 16 to 264 octets, a multiple of 8 (document 01)
abbrev pub key_value_sized : ℕ → Bool
key_value_sized n = leb least_key_value n && (leb n most_key_value && eqb (n % wrapped_block) 0)

-- whether a value is a number of 4 octets, TLV: GSA_INITIAL_MESSAGE_ID, and GSA_KEY_LIFETIME, "a 4-octet unsigned integer" (RFC 9838,
-- section 4.4.2.2.1)
abbrev pub four_octets : Bool → ℕ → Bool
four_octets short n = not short && eqb n 4

-- whether the format (`short` is TV) and the size `n` of a value are those of the tables for a meaning; what is skipped may have any
abbrev pub format_fits : Meaning → Bool → ℕ → Bool
format_fits meaning.Skipped short n = true
format_fits meaning.KeyLength short n = short
format_fits meaning.InitialMessageId short n = four_octets short n
format_fits meaning.DeactivationDelay short n = short
format_fits meaning.KeyLifetime short n = four_octets short n
format_fits meaning.SaKey short n = not short && key_value_sized n
format_fits meaning.WrapKey short n = not short && key_value_sized n
format_fits meaning.FreshKey short n = not short && key_value_sized n

-- the place of the attributes of a transform, by its type: 1 is Encryption Algorithm; of a Group SA policy and of a Group Key Bag, by
-- protocol: 6 is GIKE_UPDATE, the Rekey SA. `fresh` says whether fresh keys are read in a Rekey SA's Group Key Bag
abbrev pub in_transform : ℕ → Place
in_transform t = cond (eqb t transform_encr) place.EncryptionTransform place.OtherTransform

abbrev pub in_policy : ℕ → Place
in_policy p = cond (eqb p protocol_gike_update) place.RekeyPolicy place.DataPolicy

abbrev pub in_bag : Bool → ℕ → Place
in_bag fresh p = cond (eqb p protocol_gike_update) (cond fresh place.FreshRekeyBag place.RekeyBag) place.DataBag
