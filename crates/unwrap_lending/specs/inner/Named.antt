-- The key that a KWK ID names, among the keys that are lent in two blocks. Inner.
use Rattle.std.specs.Prelude.{ℕ, suc, ◌+◌, ◌*◌, ◌≤◌, ◌<◌, ◌≡◌, cond, List, [], ◌∷◌, eqb, length, get_or, Option, Some, None}
use Rattle.state_keys.specs.Kinds.{value_of}
use Rattle.state.specs.Held.{key_with, ids_of, has}
use Rattle.state.specs.declared.held.HeldKey.{HeldKey}
use Rattle.unwrap_lending.specs.inner.Lending.{place_octets}
use Rattle.state_keys.specs.Kinds.{key_or_blank}

-- r is the place of the first of `ids` that equals `id`, or their number if there is none
pub record FirstAt (id : ℕ) (ids : List ℕ) (r : ℕ) : Type 0 where
  pub most : r ≤ length ids
  pub passed : (j : ℕ) → j < r → get_or ids j 0 ≡ id → ⊥
  pub here : r < length ids → get_or ids r 0 ≡ id

-- the answer is the place of the first of `ids` that equals `id`, or `None` and none does
abbrev pub FindsFirst : ℕ → List ℕ → Option ℕ → Type 0
FindsFirst id ids (Some r) = FirstAt id ids r × (r < length ids)
FindsFirst id ids None = FirstAt id ids (length ids)

-- the same as a number
unfoldable pub first_place : ℕ → List ℕ → ℕ
first_place id [] = 0
first_place id (a ∷ l) = cond (eqb a id) 0 (suc (first_place id l))

-- where in its block the value of the key with this Key ID starts; 0 if there is none
abbrev pub key_start : ℕ → List ℕ → ℕ
key_start id ids = cond (has id ids) (place_octets * first_place id ids + 1) 0

-- the value of the key with this Key ID; no octets if there is none
abbrev pub value_named : ℕ → List HeldKey → List ℕ
value_named id l = value_of (key_or_blank (key_with id l))

-- "A KWK ID names the fresh key if the frame carries any entry for that ID, otherwise the held key" (document 02, T-11): `fresh` has a key
-- for each Key ID that the frame carries, of no octets where no chain reaches it
abbrev pub octets_named : ℕ → List HeldKey → List HeldKey → List ℕ
octets_named id fresh held = cond (has id (ids_of fresh)) (value_named id fresh) (value_named id held)
