-- THE WORKING KEY PATH. RFC 9838, section 3.3: "We will use the term "Key Path" to describe an ordered sequence of keys where each
-- subsequent key was used to encrypt the previous one. The GM keeps its own Key Path (called Working Key Path) in the memory associated
-- with each group it is registered to and updates it when needed." "If the new Key Path is non-empty and it ends with the default KWK
-- (GSK_w), then the whole new Key Path is stored by the GM as the GM's Working Key Path." Document 02, T-04: "After a registration the held
-- list is now the chain that opens the Rekey SA's SA_KEY". T-11: "The path rule of T-04 applies over all copies, counting fresh keys only".
-- A path is such a chain that no other one comes before, with no search in sight.
use Rattle.std.specs.Prelude.{ℕ, ◌≤◌, ◌<◌, ◌≡◌, ◌⊎◌, List, [], ◌∷◌, map, length}
use Rattle.rfc5649.specs.Opens.{Opens}
use Rattle.wire_attributes.specs.Tree.{WrapKey, SaKey}
use Rattle.rules_chains.specs.Chain.{In, Root, Chain}
use Rattle.rules_chains.specs.Refusals.{Value}

-- "written from the key that opens it back towards the default key, which is not listed": the Key IDs of a chain that passed these
-- entries, the last one first. A chain starts with a key that no entry gives
abbrev pub key_ids : List WrapKey → List ℕ
key_ids passed = map (λ (e : WrapKey). e.key_id) passed

-- the Key ID of the key with which a chain to key `k` started, if it passed these entries: what a path ends on when it is written back
abbrev pub start_id : ℕ → List WrapKey → ℕ
start_id k [] = k
start_id k (e ∷ passed) = start_id e.kwk_id passed

-- "compared number by number": the first list is the smaller one, or both are the same
abbrev pub NotAfter : List ℕ → List ℕ → Type 0
NotAfter [] m = Unit {0}
NotAfter (a ∷ l) [] = ⊥
NotAfter (a ∷ l) (b ∷ m) = (a < b) ⊎ ((a ≡ b) × NotAfter l m)

module _ (roots : List Root) (entries : List WrapKey) (size : ℕ) where
  -- "the chain that opens the Rekey SA's SA_KEY": it passed these entries, ends on the key that one of the copies names, and opens the copy
  pub record Opener (copies : List SaKey) (passed : List WrapKey) : Type 0 where
    pub copy : SaKey
    pub stands : In copy copies
    pub value : List ℕ
    pub chain : Chain roots entries size passed copy.kwk_id value
    pub octets : List ℕ
    pub opens : Opens value copy.wrapped octets

  -- the Key ID of the key with which it started
  abbrev pub start_of : {copies : List SaKey} {passed : List WrapKey} → Opener copies passed → ℕ
  start_of {copies} {passed} o = start_id o.copy.kwk_id passed

  -- the path has these Key IDs, and key `end` is behind the last of them. In a registration every chain starts with key 0
  pub record KeyPath (copies : List SaKey) (ids : List ℕ) (end : ℕ) : Type 0 where
    pub passed : List WrapKey
    pub opener : Opener copies passed
    pub written : key_ids passed ≡ ids
    pub ends : start_of opener ≡ end
    -- "If several chains do, take the one with fewest keys"
    pub fewest : (other : List WrapKey) → Opener copies other → length passed ≤ length other
    -- "among these, the smallest when their Key ID lists are compared number by number"
    pub smallest : (other : List WrapKey) → Opener copies other → length other ≡ length passed → NotAfter ids (key_ids other)
    -- T-11: "equal paths are chosen by the smaller Key ID they end on, the default key being 0"
    pub lowest : (other : List WrapKey) (o : Opener copies other) → key_ids other ≡ ids → end ≤ start_of o

  -- the keys with these Key IDs, in their order, each "with the value that every chain ending on it gives"
  pub data Keys : List ℕ → List Root → Type 0 where
    no_key : Keys [] []
    one_more : {i : ℕ} {l : List ℕ} {x : List ℕ} {m : List Root} → Value roots entries size i x → Keys l m →
        Keys (i ∷ l) (record { id = i; value = x } ∷ m)
