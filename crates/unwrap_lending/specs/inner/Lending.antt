-- Keys as they are lent to each search by Key ID: a list of Key IDs beside one block of octets. Inner.
use Rattle.std.specs.Prelude.{ℕ, ◌+◌, ◌*◌, ◌≤◌, ◌<◌, ◌≡◌, true, ◌⊎◌, List, [], ◌∷◌, ◌++◌, map, length, take, drop, get_or}
use Rattle.state_keys.specs.Algorithms.{is_wrapping_size}
use Rattle.state_keys.specs.Limits.{limits}
use Rattle.state_keys.specs.declared.kinds.WrappingKey.{WrappingKey}
use Rattle.state.specs.Held.{blank_key, keys_of, ids_of, held_formed, held_key}
use Rattle.state.specs.declared.held.HeldKey.{HeldKey}
use Rattle.state.specs.declared.held.Held.{Held}
use Rattle.state_keys.specs.Kinds.{key_or_blank}

-- the size of a wrapping key's array
abbrev pub key_octets : ℕ
key_octets = 32

-- the size of a key's place in the block: its octet count (one octet), then the octets of its array
abbrev pub place_octets : ℕ
place_octets = 1 + key_octets

-- what stands in the place of key k
abbrev pub lent_place : WrappingKey → List ℕ
lent_place k = k.count ∷ k.octets

-- the places of these keys, one after the other
unfoldable pub lent_block : List HeldKey → List ℕ
lent_block [] = []
lent_block (k ∷ l) = lent_place k.key ++ lent_block l

-- a key fits its place: it has no octets, or as many as a wrapping key
pub record FitsPlace (k : WrappingKey) : Type 0 where
  pub array : length k.octets ≡ key_octets
  pub size : (k.count ≡ 0) ⊎ (is_wrapping_size k.count ≡ true)

-- `ids` and `block` lend these keys: they are the Key IDs and the places of them all
pub record Lends (keys : List HeldKey) (ids block : List ℕ) : Type 0 where
  pub fit : (i : ℕ) → i < length keys → FitsPlace (get_or keys i blank_key).key
  pub ids-are : ids ≡ ids_of keys
  pub block-is : block ≡ lent_block keys

-- `ids` and `block` lend the keys of `held`, which is as a member's must be
pub record LendsHeld (held : Held) (ids block : List ℕ) : Type 0 where
  pub formed : held_formed limits held ≡ true
  pub lends : Lends (keys_of held) ids block

-- `ids` and `block` have room for as many keys as a held list may have
pub record Rooms (ids block : List ℕ) : Type 0 where
  pub ids-length : length ids ≡ limits.held_keys
  pub block-length : length block ≡ place_octets * limits.held_keys

-- the Key IDs and the places at the start of such room lend the keys of `held`
pub record LendsFirst (held : Held) (ids block : List ℕ) : Type 0 where
  pub lends : LendsHeld held (take held.count ids) (take (place_octets * held.count) block)
  pub rooms : Rooms ids block
  pub most : held.count ≤ limits.held_keys

-- the keys of `reached` with these Key IDs, in their order; one of no octets where the list has none
abbrev pub named_keys : Held → List ℕ → List HeldKey
named_keys reached ids = map (λ (i : ℕ). record { id = i; key = key_or_blank (held_key limits i reached) }) ids

-- `ids` and the places at the start of `block` lend these keys
pub record LendsNamed (reached : Held) (ids block : List ℕ) : Type 0 where
  pub lends : Lends (named_keys reached ids) ids (take (place_octets * length ids) block)
  pub block-length : length block ≡ place_octets * limits.held_keys

-- `after` is the block `before` with key k put into its place, which starts at `at`
pub record Puts (k : WrappingKey) (at : ℕ) (before after : List ℕ) : Type 0 where
  pub is : after ≡ take at before ++ (lent_place k ++ drop (at + place_octets) before)
  pub array : length k.octets ≡ key_octets

-- a frame's own keys and the held ones are lent, in two blocks: `carried` and `fresh`, `ids` and `block`
pub record LendsTwo (new old : List HeldKey) (carried fresh ids block : List ℕ) : Type 0 where
  pub own : Lends new carried fresh
  pub held : Lends old ids block
