-- What the attributes that are read say. SA_KEY and WRAP_KEY have the same number and layout, yet they are two types here: only the bag
-- that holds an attribute makes it one of them.
use Rattle.std.specs.Prelude.{ℕ, List, [], ◌∷◌, map, Bool, cond, drop, eqb}
use Rattle.octets.specs.Walk.{be16, be32}
use Rattle.ikev2_numbers.specs.Codes.{kwk_id_at, wrapped_at}
use Rattle.wire_attributes.specs.Attribute.{Attribute}
use Rattle.wire_attributes.specs.Place.{meaning_of}
use Rattle.wire_attributes.specs.declared.tables.Place.{Place}
use Rattle.wire_attributes.specs.declared.tables.Meaning.{Meaning}
use Rattle.wire_attributes.specs.declared.tables.Meaning.TheVariants as meaning

-- the keying octets of an SA, wrapped (RFC 9838, sections 4.5.2.1 and 4.5.4)
pub record SaKey : Type 0 where
  pub key_id : ℕ
  pub kwk_id : ℕ
  pub wrapped : List ℕ

-- a key that wraps others, itself wrapped (RFC 9838, sections 4.5.3.1 and 4.5.4)
pub record WrapKey : Type 0 where
  pub key_id : ℕ
  pub kwk_id : ℕ
  pub wrapped : List ℕ

abbrev pub sa_key_of : List ℕ → SaKey
sa_key_of v = record { key_id = be32 v 0; kwk_id = be32 v kwk_id_at; wrapped = drop wrapped_at v }

abbrev pub wrap_key_of : List ℕ → WrapKey
wrap_key_of v = record { key_id = be32 v 0; kwk_id = be32 v kwk_id_at; wrapped = drop wrapped_at v }

-- a number for each meaning, to compare them by
abbrev pub code_of : Meaning → ℕ
code_of meaning.Skipped = 0
code_of meaning.KeyLength = 1
code_of meaning.InitialMessageId = 2
code_of meaning.DeactivationDelay = 3
code_of meaning.KeyLifetime = 4
code_of meaning.SaKey = 5
code_of meaning.WrapKey = 6
code_of meaning.FreshKey = 7

abbrev pub means : Meaning → Place → Attribute → Bool
means m p a = eqb (code_of (meaning_of p a.kind)) (code_of m)

-- the values of those attributes of a list that mean `m` in the place `p`, in their order
unfoldable pub values_of : Meaning → Place → List Attribute → List (List ℕ)
values_of m p [] = []
values_of m p (a ∷ l) = cond (means m p a) (a.value ∷ values_of m p l) (values_of m p l)

-- the number in a value of two octets, and in one of four
abbrev pub number16 : List ℕ → ℕ
number16 v = be16 v 0

abbrev pub number32 : List ℕ → ℕ
number32 v = be32 v 0

-- what those attributes say: Key Length in bits, the first Message ID, the delay and the lifetime in seconds, the wrapped keys
abbrev pub key_lengths : Place → List Attribute → List ℕ
key_lengths p l = map number16 (values_of meaning.KeyLength p l)

abbrev pub initial_message_ids : Place → List Attribute → List ℕ
initial_message_ids p l = map number32 (values_of meaning.InitialMessageId p l)

abbrev pub deactivation_delays : Place → List Attribute → List ℕ
deactivation_delays p l = map number16 (values_of meaning.DeactivationDelay p l)

abbrev pub key_lifetimes : Place → List Attribute → List ℕ
key_lifetimes p l = map number32 (values_of meaning.KeyLifetime p l)

abbrev pub sa_keys : Place → List Attribute → List SaKey
sa_keys p l = map sa_key_of (values_of meaning.SaKey p l)

abbrev pub wrap_keys : Place → List Attribute → List WrapKey
wrap_keys p l = map wrap_key_of (values_of meaning.WrapKey p l)

-- fresh tree keys, "with WRAP_KEY's layout" (document 02, T-11): entries of a key tree as WRAP_KEYs are
abbrev pub fresh_keys : Place → List Attribute → List WrapKey
fresh_keys p l = map wrap_key_of (values_of meaning.FreshKey p l)
