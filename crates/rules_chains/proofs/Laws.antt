-- What the definitions of the crate say, piece by piece: laws that a wrong definition breaks.
use Prim.Native.Nat.{ℕ}
use mathlib.Core.Path.{◌≡◌, refl}
use mathlib.Core.Logic.{◌⊎◌}
use mathlib.Core.List.{List, ◌∷◌}
use lib.Dec.{eqb}
use lib.ListN.{length}
use borrow.Author.Tests.{eqb-true, eqb-false}
use Rattle.lists.proofs.Cases.{bool_cases}
use Rattle.rfc5649.specs.Opens.{Opens}
use Rattle.wire_attributes.specs.Tree.{WrapKey, SaKey}
use Rattle.rules_chains.specs.Chain.{In, Root, Chain, step, Reached, CopyOpens}
use Rattle.rules_chains.specs.Refusals.{Announced, EntriesConflict, CopiesConflict, KeyConflict, of-entries, of-copies, KeyMissing}
use Rattle.rules_chains.specs.Refusals as refusals
use Rattle.rules_chains.proofs.Determined.{AtRoot, ends_by}

not-other : (m n : ℕ) → ((m ≡ n → ⊥) → ⊥) → m ≡ n
not-other m n f = bool_cases (eqb m n) (eqb-true m n) (λ e. absurd (f (eqb-false m n e)))

module _ (roots : List Root) (entries : List WrapKey) (size : ℕ) where
  -- "goes on by WRAP_KEY entries whose KWK ID names the key before and whose octets open under that key's value. Each step gives a Key ID
  -- and a value."
  pub record Step (e : WrapKey) (passed : List WrapKey) (k : ℕ) (x : List ℕ) : Type 0 where
    pub key : ℕ
    pub value : List ℕ
    pub before : Chain roots entries size passed key value
    pub stands : In e entries
    pub names : e.kwk_id ≡ key
    pub opens : Opens value e.wrapped x
    pub gives : e.key_id ≡ k

  pub step_by : (e : WrapKey) (passed : List WrapKey) (k : ℕ) (x : List ℕ) → Chain roots entries size (e ∷ passed) k x → Step e passed k x
  step_by e _ _ _ (step {passed = p} {k = j} {v = v} _ c t l) =
      record { key = j; value = v; before = c; stands = l.entry; names = l.names; opens = l.opens; gives = refl }

  -- "A value of the wrong size is not extended": what a chain goes on from, past the key it starts with, has the size
  pub record Extends (passed : List WrapKey) : Type 0 where
    pub key : ℕ
    pub value : List ℕ
    pub before : Chain roots entries size passed key value
    pub fits : length value ≡ size

  pub extended_fits : (e d : WrapKey) (passed : List WrapKey) (k : ℕ) (x : List ℕ) → Chain roots entries size (e ∷ d ∷ passed) k x →
      Extends (d ∷ passed)
  extended_fits e d passed _ _ (step {k = j} {v = v} _ c t l) = record { key = j; value = v; before = c; fits = t }

  -- "its SA_KEY attributes, opened under the key their KWK ID names: key 0 or a reached or held one"
  pub record Under (copies : List SaKey) (x : List ℕ) : Type 0 where
    pub copy : SaKey
    pub stands : In copy copies
    pub value : List ℕ
    pub named : AtRoot roots entries size copy.kwk_id value ⊎ Reached roots entries size copy.kwk_id value
    pub opens : Opens value copy.wrapped x

  pub copy-under : (copies : List SaKey) (x : List ℕ) → CopyOpens roots entries size copies x → Under copies x
  copy-under copies x o =
      record {
        copy = o.copy;
        stands = o.stands;
        value = o.value;
        named = ends_by roots entries size o.named.passed o.copy.kwk_id o.value o.named.chain;
        opens = o.opens;
      }

  -- where number 8 does not hold, what is reached has the size, and what a copy opens to as many octets as its SA needs
  pub entries_fit : (EntriesConflict roots entries size → ⊥) → (k : ℕ) (x : List ℕ) → Reached roots entries size k x → length x ≡ size
  entries_fit none k x r = not-other (length x) size (λ d. none (refusals.wrong_size k x r d))

  pub copies-fit : (a : Announced) → (CopiesConflict roots entries size a → ⊥) → (x : List ℕ) → CopyOpens roots entries size a.copies x →
      length x ≡ a.need
  copies-fit a none x o = not-other (length x) a.need (λ d. none (refusals.wrong_size x o d))

  module _ (announced : List Announced) where
    -- number 8 is of the entries or of the copies of an announced SA
    pub conflict-of : (KeyConflict roots entries size announced → ⊥) →
        (EntriesConflict roots entries size → ⊥) × ((a : Announced) → In a announced → CopiesConflict roots entries size a → ⊥)
    conflict-of none = (λ h. none (of-entries h), λ a m h. none (of-copies a m h))

    -- "some announced SA has no copy that opens": not where each has one
    pub not-missing : ((a : Announced) → In a announced → (x : List ℕ) × CopyOpens roots entries size a.copies x) →
        KeyMissing roots entries size announced → ⊥
    not-missing each n = let c = each n.sa n.stands in n.none c.0 c.1

    -- and where one has none
    pub missing_at : (a : Announced) → In a announced → ((x : List ℕ) → CopyOpens roots entries size a.copies x → ⊥) →
        KeyMissing roots entries size announced
    missing_at a m none = record { sa = a; stands = m; none = none }
