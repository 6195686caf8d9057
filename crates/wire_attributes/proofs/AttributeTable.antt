-- The tables of attributes row by row, as the RFCs print them. The numbers stand here once more, so that a slip made alike in the
-- definitions and in the code does not pass.
use Rattle.std.specs.Prelude.{Ok}
use Prim.Native.Nat.{ℕ}
use mathlib.Core.Path.{◌≡◌, refl}
use mathlib.Core.List.{List, [], ◌∷◌, map}
use mathlib.Core.Bool.{Bool, true, false}
use Rattle.wire_attributes.specs.Answers.{broken_at, layout_number, layout_offset}
use Rattle.wire_attributes.specs.Attribute.{attribute_of}
use Rattle.wire_attributes.specs.Place.{meaning_of, format_fits, in_transform, in_policy, in_bag}
use Rattle.wire_attributes.specs.declared.tables.Place.{Place}
use Rattle.wire_attributes.specs.declared.tables.Place.TheVariants as place
use Rattle.wire_attributes.specs.declared.tables.Meaning.{Meaning}
use Rattle.wire_attributes.specs.declared.tables.Meaning.TheVariants as meaning
use Rattle.octets.specs.Numbers.{number}

-- ---- what an attribute is in its place
pub record Line : Type 0 where
  pub at : Place
  pub kind : ℕ
  pub is : Meaning

abbrev line : Place → ℕ → Meaning → Line
line p k m = record { at = p; kind = k; is = m }

abbrev lines : List Line
lines =
    -- RFC 7296, section 3.3.5: Key Length is 14; RFC 9838, section 9.2: Signature Algorithm Identifier is 18
    line place.EncryptionTransform 14 meaning.KeyLength ∷
    line place.EncryptionTransform 0 meaning.Skipped ∷
    line place.EncryptionTransform 13 meaning.Skipped ∷
    line place.EncryptionTransform 15 meaning.Skipped ∷
    line place.EncryptionTransform 18 meaning.Skipped ∷
    line place.OtherTransform 14 meaning.Skipped ∷
    line place.OtherTransform 18 meaning.Skipped ∷
    -- RFC 9838, section 4.4.2.2: GSA_KEY_LIFETIME 1, GSA_INITIAL_MESSAGE_ID 2 (GIKE_UPDATE alone), GSA_NEXT_SPI 3
    line place.RekeyPolicy 0 meaning.Skipped ∷
    line place.RekeyPolicy 1 meaning.KeyLifetime ∷
    line place.RekeyPolicy 2 meaning.InitialMessageId ∷
    line place.RekeyPolicy 3 meaning.Skipped ∷
    line place.RekeyPolicy 14 meaning.Skipped ∷
    line place.DataPolicy 0 meaning.Skipped ∷
    line place.DataPolicy 1 meaning.KeyLifetime ∷
    line place.DataPolicy 2 meaning.Skipped ∷
    line place.DataPolicy 3 meaning.Skipped ∷
    -- section 4.4.3.1: GWP_ATD 1, GWP_DTD 2, GWP_SENDER_ID_BITS 3
    line place.GroupWidePolicy 0 meaning.Skipped ∷
    line place.GroupWidePolicy 1 meaning.Skipped ∷
    line place.GroupWidePolicy 2 meaning.DeactivationDelay ∷
    line place.GroupWidePolicy 3 meaning.Skipped ∷
    -- section 4.5.2: SA_KEY 1 (GIKE_UPDATE, AH, ESP)
    line place.RekeyBag 0 meaning.Skipped ∷
    line place.RekeyBag 1 meaning.SaKey ∷
    line place.RekeyBag 2 meaning.Skipped ∷
    line place.DataBag 0 meaning.Skipped ∷
    line place.DataBag 1 meaning.SaKey ∷
    line place.DataBag 2 meaning.Skipped ∷
    -- document 02, T-11: "private attribute 16385 in the Rekey SA's Group Key Bag"; elsewhere "the attribute is skipped"
    line place.FreshRekeyBag 0 meaning.Skipped ∷
    line place.FreshRekeyBag 1 meaning.SaKey ∷
    line place.FreshRekeyBag 2 meaning.Skipped ∷
    line place.FreshRekeyBag 16384 meaning.Skipped ∷
    line place.FreshRekeyBag 16385 meaning.FreshKey ∷
    line place.FreshRekeyBag 16386 meaning.Skipped ∷
    line place.RekeyBag 16385 meaning.Skipped ∷
    line place.DataBag 16385 meaning.Skipped ∷
    line place.MemberBag 16385 meaning.Skipped ∷
    -- section 4.5.3: WRAP_KEY 1, AUTH_KEY 2, GM_SENDER_ID 3
    line place.MemberBag 0 meaning.Skipped ∷
    line place.MemberBag 1 meaning.WrapKey ∷
    line place.MemberBag 2 meaning.Skipped ∷
    line place.MemberBag 3 meaning.Skipped ∷
    []

pub table-meanings : map (λ (l : Line). meaning_of l.at l.kind) lines ≡ map (λ (l : Line). l.is) lines
table-meanings = refl

-- ---- transform type 1 is Encryption Algorithm; protocol 6 is GIKE_UPDATE, 3 ESP, 2 AH (RFC 9838, sections 4.4.2 and 9.2)
pub table-places :
    (map in_transform (1 ∷ 0 ∷ 3 ∷ 5 ∷ 13 ∷ 14 ∷ []) ≡
    place.EncryptionTransform ∷ place.OtherTransform ∷ place.OtherTransform ∷ place.OtherTransform ∷ place.OtherTransform ∷
    place.OtherTransform ∷ [])
    × (map in_policy (6 ∷ 3 ∷ 2 ∷ []) ≡ place.RekeyPolicy ∷ place.DataPolicy ∷ place.DataPolicy ∷ [])
    × (map (in_bag false) (6 ∷ 3 ∷ 2 ∷ []) ≡ place.RekeyBag ∷ place.DataBag ∷ place.DataBag ∷ [])
    × (map (in_bag true) (6 ∷ 3 ∷ 2 ∷ []) ≡ place.FreshRekeyBag ∷ place.DataBag ∷ place.DataBag ∷ [])
table-places = (refl, refl, refl, refl)

-- ---- format (TV or TLV) and octets of the value: taken or not
pub record Form : Type 0 where
  pub of : Meaning
  pub short : Bool
  pub octets : ℕ
  pub taken : Bool

abbrev tv : Meaning → Bool → Form
tv m t = record { of = m; short = true; octets = 2; taken = t }

abbrev tlv : Meaning → ℕ → Bool → Form
tlv m n t = record { of = m; short = false; octets = n; taken = t }

abbrev forms : List Form
forms =
    -- Key Length and GWP_DTD are TV
    tv meaning.KeyLength true ∷
    tlv meaning.KeyLength 2 false ∷
    tlv meaning.KeyLength 4 false ∷
    tv meaning.DeactivationDelay true ∷
    tlv meaning.DeactivationDelay 2 false ∷
    -- GSA_INITIAL_MESSAGE_ID is TLV with "a 4-octet unsigned integer"
    tlv meaning.InitialMessageId 4 true ∷
    tv meaning.InitialMessageId false ∷
    tlv meaning.InitialMessageId 0 false ∷
    tlv meaning.InitialMessageId 2 false ∷
    tlv meaning.InitialMessageId 3 false ∷
    tlv meaning.InitialMessageId 5 false ∷
    tlv meaning.InitialMessageId 8 false ∷
    -- GSA_KEY_LIFETIME is TLV with "a 4-octet unsigned integer"
    tlv meaning.KeyLifetime 4 true ∷
    tv meaning.KeyLifetime false ∷
    tlv meaning.KeyLifetime 0 false ∷
    tlv meaning.KeyLifetime 2 false ∷
    tlv meaning.KeyLifetime 3 false ∷
    tlv meaning.KeyLifetime 5 false ∷
    tlv meaning.KeyLifetime 8 false ∷
    -- SA_KEY and WRAP_KEY are TLV: two IDs of 4 octets, then "wrapped octets (16 to 264, a multiple of 8)"
    tv meaning.SaKey false ∷
    tlv meaning.SaKey 0 false ∷
    tlv meaning.SaKey 16 false ∷
    tlv meaning.SaKey 23 false ∷
    tlv meaning.SaKey 24 true ∷
    tlv meaning.SaKey 28 false ∷
    tlv meaning.SaKey 32 true ∷
    tlv meaning.SaKey 264 true ∷
    tlv meaning.SaKey 271 false ∷
    tlv meaning.SaKey 272 true ∷
    tlv meaning.SaKey 280 false ∷
    tv meaning.WrapKey false ∷
    tlv meaning.WrapKey 16 false ∷
    tlv meaning.WrapKey 24 true ∷
    tlv meaning.WrapKey 28 false ∷
    tlv meaning.WrapKey 32 true ∷
    tlv meaning.WrapKey 272 true ∷
    tlv meaning.WrapKey 280 false ∷
    -- a fresh key has "WRAP_KEY's layout" (document 02, T-11)
    tv meaning.FreshKey false ∷
    tlv meaning.FreshKey 0 false ∷
    tlv meaning.FreshKey 16 false ∷
    tlv meaning.FreshKey 24 true ∷
    tlv meaning.FreshKey 28 false ∷
    tlv meaning.FreshKey 32 true ∷
    tlv meaning.FreshKey 272 true ∷
    tlv meaning.FreshKey 280 false ∷
    -- what is skipped may have any
    tv meaning.Skipped true ∷
    tlv meaning.Skipped 0 true ∷
    tlv meaning.Skipped 7 true ∷
    []

pub table-forms : map (λ (f : Form). format_fits f.of f.short f.octets) forms ≡ map (λ (f : Form). f.taken) forms
table-forms = refl

-- ---- what octets say: the top bit is the format, the other 15 bits the type; a TLV's length counts its value alone
pub short-octets : attribute_of (128 ∷ 14 ∷ 0 ∷ 128 ∷ 9 ∷ []) ≡ record { short = true; kind = 14; value = 0 ∷ 128 ∷ [] }
unfolding number
short-octets = refl

pub long-octets : attribute_of (1 ∷ 2 ∷ 0 ∷ 3 ∷ 7 ∷ 8 ∷ 9 ∷ 10 ∷ []) ≡ record { short = false; kind = 258; value = 7 ∷ 8 ∷ 9 ∷ [] }
unfolding number
long-octets = refl

-- ---- what a layout is called: document 01's numbers, and the offset that number 1 alone carries
pub layout-named : (map layout_number (Ok tt ∷ broken_at 0 ∷ broken_at 9 ∷ []) ≡ 0 ∷ 1 ∷ 1 ∷ [])
    × (map layout_offset (Ok tt ∷ broken_at 0 ∷ broken_at 9 ∷ []) ≡ [] ∷ (0 ∷ []) ∷ (9 ∷ []) ∷ [])
layout-named = (refl, refl)
