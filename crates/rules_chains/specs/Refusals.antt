-- Document 01's refusals 8 and 9, and the values of the keys in a frame that meets neither.
use Rattle.std.specs.Prelude.{ℕ, ◌≡◌, List, length}
use Rattle.wire_attributes.specs.Tree.{WrapKey, SaKey}
use Rattle.rules_chains.specs.Chain.{In, Root, Reached, CopyOpens}

-- an SA that the frame announces: the copies of its key, and the octets that its policy needs
pub record Announced : Type 0 where
  pub copies : List SaKey
  pub need : ℕ

module _ (roots : List Root) (entries : List WrapKey) (size : ℕ) where
  -- 8, of entries: "a reached wrapping opens to a wrong size, or two reached ones give one key two values"
  pub data EntriesConflict : Type 0 where
    wrong_size : (k : ℕ) (x : List ℕ) → Reached roots entries size k x → (length x ≡ size → ⊥) → EntriesConflict
    two-values : (k : ℕ) (x y : List ℕ) → Reached roots entries size k x → Reached roots entries size k y → (x ≡ y → ⊥) → EntriesConflict

  -- 8, of copies: "in number 8 they count as reached wrappings of that SA's key"
  pub data CopiesConflict (a : Announced) : Type 0 where
    wrong_size : (x : List ℕ) → CopyOpens roots entries size a.copies x → (length x ≡ a.need → ⊥) → CopiesConflict a
    two-values : (x y : List ℕ) → CopyOpens roots entries size a.copies x → CopyOpens roots entries size a.copies y → (x ≡ y → ⊥) →
        CopiesConflict a

  -- number 8
  pub data KeyConflict (announced : List Announced) : Type 0 where
    of-entries : EntriesConflict → KeyConflict announced
    of-copies : (a : Announced) → In a announced → CopiesConflict a → KeyConflict announced

  -- number 9: "some announced SA has no copy that opens"
  pub record KeyMissing (announced : List Announced) : Type 0 where
    pub sa : Announced
    pub stands : In sa announced
    pub none : (x : List ℕ) → CopyOpens roots entries size sa.copies x → ⊥

  -- "with the value that every chain ending on it gives": key `k` is reached, and each chain that ends on it gives `x`
  pub record Value (k : ℕ) (x : List ℕ) : Type 0 where
    pub reached : Reached roots entries size k x
    pub every : (y : List ℕ) → Reached roots entries size k y → y ≡ x

  -- "with the octets that every such copy opens to": one copy opens, and each copy that opens gives `x`
  pub record KeyOf (a : Announced) (x : List ℕ) : Type 0 where
    pub opens : CopyOpens roots entries size a.copies x
    pub every : (y : List ℕ) → CopyOpens roots entries size a.copies y → y ≡ x
