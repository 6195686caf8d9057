-- Document 01, "Which keys a chain reaches". A chain is defined with no search in sight, over the keys it may start with (the roots), the
-- entries by which it goes on, and the size that a wrapping key must have. Registration: the root is the lent default key as key 0, the
-- entries are the WRAP_KEYs, the size is the lent key's. Rekey: "Held keys take the place of reached ones in a rekey, with the Rekey SA's
-- default key as key 0": the roots are that key 0 and the held keys, and there is no entry.
use Rattle.std.specs.Prelude.{ℕ, ◌<◌, ◌≡◌, List, [], ◌∷◌, length, get_or}
use Rattle.rfc5649.specs.Opens.{Opens}
use Rattle.wire_attributes.specs.Tree.{WrapKey, SaKey}

-- `a` stands in `l`, at some place
pub record In {A : Type 0} (a : A) (l : List A) : Type 0 where
  pub place : ℕ
  pub inside : place < length l
  pub is : get_or l place a ≡ a

-- a key that a chain may start with: its Key ID and its value
pub record Root : Type 0 where
  pub id : ℕ
  pub value : List ℕ

module _ (roots : List Root) (entries : List WrapKey) (size : ℕ) where
  -- "A value of the wrong size is not extended": value `v`, at the end of a chain over the entries passed, may be extended; a root's value
  -- may have any size
  abbrev pub Extended : List WrapKey → List ℕ → Type 0
  Extended [] v = Unit {0}
  Extended (e ∷ passed) v = length v ≡ size

  -- "entries whose KWK ID names the key before and whose octets open under that key's value": entry `e` leads from key `k` with value `v`
  -- to value `x`
  pub record Leads (k : ℕ) (v : List ℕ) (e : WrapKey) (x : List ℕ) : Type 0 where
    pub entry : In e entries
    pub names : e.kwk_id ≡ k
    pub opens : Opens v e.wrapped x

  -- "A chain starts with the lent default key as key 0 and goes on by WRAP_KEY entries ... Each step gives a Key ID and a value." A chain
  -- is indexed by the entries it passed, the last one first, and by the Key ID and the value that it gives.
  pub data Chain : List WrapKey → ℕ → List ℕ → Type 0 where
    root : (r : Root) → In r roots → Chain [] r.id r.value
    step : {passed : List WrapKey} {k : ℕ} {v x : List ℕ} (e : WrapKey) → Chain passed k v → Extended passed v → Leads k v e x →
        Chain (e ∷ passed) e.key_id x

  -- "Whatever a chain gives is reached", a chain of one or more entries: key `k`, with value `x`
  pub record Reached (k : ℕ) (x : List ℕ) : Type 0 where
    pub last : WrapKey
    pub before : List WrapKey
    pub chain : Chain (last ∷ before) k x

  -- a chain of any number of entries ends on key `k` with value `v`: "key 0 or a reached or held one"
  pub record ChainEnds (k : ℕ) (v : List ℕ) : Type 0 where
    pub passed : List WrapKey
    pub chain : Chain passed k v

  -- "The copies of an announced key are its SA_KEY attributes, opened under the key their KWK ID names": one of `copies` opens to `x`
  pub record CopyOpens (copies : List SaKey) (x : List ℕ) : Type 0 where
    pub copy : SaKey
    pub stands : In copy copies
    pub value : List ℕ
    pub named : ChainEnds copy.kwk_id value
    pub opens : Opens value copy.wrapped x
