-- "A held list of at most 32 wrapping keys (Key ID, value), Key IDs rising, none 0, values of 16, 24 or 32 octets." By document 02 at most
-- 128 (T-01), and "A member's Key IDs are then distinct, no longer rising" (T-04).
use Rattle.std.specs.Prelude.{ℕ, ◌-◌, Bool, true, cond, not, ◌&&◌, List, [], ◌∷◌, ◌++◌, map, leb, eqb, length, take, replicate, Option, Some, None}
use Rattle.lists.specs.Lists.{all, any}
use Rattle.state_keys.specs.Limits.{Limits}
use Rattle.state_keys.specs.Algorithms.{is_wrapping_size}
use Rattle.state_keys.specs.Kinds.{wrapping_of}
use Rattle.state_keys.specs.declared.kinds.WrappingKey.{WrappingKey}
use Rattle.state.specs.declared.held.HeldKey.{HeldKey}
use Rattle.state.specs.declared.held.Held.{Held}

-- the keys of the list: the first places, as many as its count says
abbrev pub keys_of : Held → List HeldKey
keys_of h = take h.count h.keys

-- the value of an unused place
abbrev pub blank_key : HeldKey
blank_key = record { id = 0; key = wrapping_of [] }

-- the list of these keys, with blank places behind them
unfoldable pub held_of : Limits → List HeldKey → Held
held_of limits l = record { keys = l ++ replicate (limits.held_keys - length l) blank_key; count = length l }

-- "none 0, values of 16, 24 or 32 octets"
unfoldable pub key_formed : HeldKey → Bool
key_formed k = not (eqb k.id 0) && is_wrapping_size k.key.count

-- the Key IDs of some keys, in their order
abbrev pub ids_of : List HeldKey → List ℕ
ids_of l = map (λ (k : HeldKey). k.id) l

-- Key ID a is one of these
abbrev pub has : ℕ → List ℕ → Bool
has a l = any (λ (b : ℕ). eqb b a) l

-- "A member's Key IDs are then distinct": none of these stands twice
unfoldable pub distinct : List ℕ → Bool
distinct [] = true
distinct (a ∷ l) = not (has a l) && distinct l

-- the held list is as a member's must be
unfoldable pub held_formed : Limits → Held → Bool
held_formed limits h = leb h.count limits.held_keys && (all key_formed (keys_of h) && distinct (ids_of (keys_of h)))

-- the answer where no key is found
abbrev pub without_key : Option WrappingKey
without_key = None

-- the first key of a list with the Key ID id, or none
unfoldable pub key_with : ℕ → List HeldKey → Option WrappingKey
key_with id [] = without_key
key_with id (k ∷ l) = cond (eqb k.id id) (Some k.key) (key_with id l)

-- the same in the held list; one whose count is over the limit has none
unfoldable pub held_key : Limits → ℕ → Held → Option WrappingKey
held_key limits id h = cond (leb h.count limits.held_keys) (key_with id (keys_of h)) without_key
