-- RFC 9838, Appendix A.2: the registration in which member A gets its path of keys and, under the first of them, the key of a Rekey SA.
use native.Mathlib.Omega.{arith}
use Prim.Native.Nat.{ℕ}
use mathlib.Core.Path.{◌≡◌, refl, sym}
use mathlib.Core.List.{List, [], ◌∷◌}
use lib.ListN.{length}
use Rattle.octets.specs.Octets.{Octets}
use Rattle.fips197.specs.Key.{Key}
use Rattle.rfc5649.specs.Wrap.{wrap_of}
use Rattle.state_keys.specs.Limits.{limits}
use Rattle.lists.specs.Lists.{any}
use Rattle.wire_attributes.specs.Tree.{WrapKey, SaKey}
use Rattle.state.specs.Held.{held_of, distinct}
use Rattle.rules_chains.specs.Chain.{In, Chain, ChainEnds}
use Rattle.rules_chains.specs.Refusals.{EntriesConflict}
use Rattle.rules_chains.specs.Path.{no_key, one_more}
use Rattle.rules_outcome.specs.Holding.{HoldsPath}
use Rattle.rules_outcome.specs.SampleFrames.{entry, held_with, FitKey}
use Rattle.rules_outcome.specs.Samples.{key-tree, Says}
use Rattle.rules_outcome.proofs.PathKeys.{from-none}
use Rattle.rules_outcome.proofs.OneChain.{only-path}
use Rattle.rules_outcome.proofs.SamplesChains.{opens-own, zero_root}
use Rattle.rules_outcome.proofs.SamplesCreated.{created-0}
use Rattle.rules_outcome.proofs.SamplesPaths.{here}
use Rattle.rules_outcome.proofs.SamplesValued.{each_in, at, fit_at, ended, no-fault, first, on, has_value}

-- ---- (1 under 3), (3 under 7), (7 under 0)
module _ (lent v₁ v₃ v₇ : List ℕ) (key : Key lent) (w₁ : FitKey lent v₁) (w₃ : FitKey lent v₃) (w₇ : FitKey lent v₇) where
  abbrev e₁ : WrapKey
  e₁ = entry 1 3 (wrap_of v₃ v₁)

  abbrev e₃ : WrapKey
  e₃ = entry 3 7 (wrap_of v₇ v₃)

  abbrev e₇ : WrapKey
  e₇ = entry 7 0 (wrap_of lent v₇)

  abbrev tree : List WrapKey
  tree = e₁ ∷ e₃ ∷ e₇ ∷ []

  abbrev values : ℕ → List ℕ
  values = at 1 v₁ (at 3 v₃ (at 7 v₇ (λ (k : ℕ). lent)))

  fits : (k : ℕ) → FitKey lent (values k)
  fits =
      fit_at lent 1 v₁ (at 3 v₃ (at 7 v₇ (λ (k : ℕ). lent))) w₁
      (fit_at lent 3 v₃ (at 7 v₇ (λ (k : ℕ). lent)) w₃
      (fit_at lent 7 v₇ (λ (k : ℕ). lent) w₇ (λ k. record { key = key; size = refl })))

  under : (e : WrapKey) → In e tree → e.wrapped ≡ wrap_of (values e.kwk_id) (values e.key_id)
  under = each_in (λ (e : WrapKey). e.wrapped ≡ wrap_of (values e.kwk_id) (values e.key_id)) tree (refl, (refl, (refl, tt)))

  tree-fit : EntriesConflict (zero_root lent ∷ []) tree (length lent) → ⊥
  tree-fit = no-fault values fits tree under

  to-7 : Chain (zero_root lent ∷ []) tree (length lent) (e₇ ∷ []) 7 v₇
  to-7 = first values fits tree under e₇ (here e₇ tree 2 (omega arith) refl) refl

  to-3 : Chain (zero_root lent ∷ []) tree (length lent) (e₃ ∷ e₇ ∷ []) 3 v₃
  to-3 = on values fits tree under e₇ [] e₃ (here e₃ tree 1 (omega arith) refl) to-7

  to-1 : Chain (zero_root lent ∷ []) tree (length lent) (e₁ ∷ e₃ ∷ e₇ ∷ []) 1 v₁
  to-1 = on values fits tree under e₃ (e₇ ∷ []) e₁ (here e₁ tree 0 (omega arith) refl) to-3

  ends-1 : ChainEnds (zero_root lent ∷ []) tree (length lent) 1 v₁
  ends-1 = record { passed = e₁ ∷ e₃ ∷ e₇ ∷ []; chain = to-1 }

  only-1 : (y : List ℕ) → ChainEnds (zero_root lent ∷ []) tree (length lent) 1 y → y ≡ v₁
  only-1 y n = ended values fits tree under 1 y n

  abbrev copy : List ℕ → SaKey
  copy x = record { key_id = 0; kwk_id = 1; wrapped = wrap_of v₁ x }

  held-tree : (x : List ℕ) → Octets x → length x ≡ 36 →
      HoldsPath (zero_root lent ∷ []) tree (length lent) limits (copy x ∷ []) (held_of limits [])
      (held_of limits (held_with 1 v₁ ∷ held_with 3 v₃ ∷ held_with 7 v₇ ∷ []))
  unfolding any distinct
  held-tree x o n = record {
    ids = 1 ∷ 3 ∷ 7 ∷ [];
    end = 0;
    path =
        only-path lent tree refl refl (copy x) (e₁ ∷ e₃ ∷ e₇ ∷ []) v₁ x to-1 (opens-own v₁ x w₁.key o (omega arith) (omega arith));
    keys = record { id = 1; value = v₁ } ∷ record { id = 3; value = v₃ } ∷ record { id = 7; value = v₇ } ∷ [];
    are =
        one_more (has_value values fits tree under e₁ (e₃ ∷ e₇ ∷ []) 1 to-1)
        (one_more (has_value values fits tree under e₃ (e₇ ∷ []) 3 to-3)
        (one_more (has_value values fits tree under e₇ [] 7 to-7) no_key));
    is = sym (from-none limits (held_with 1 v₁ ∷ held_with 3 v₃ ∷ held_with 7 v₇ ∷ []) 0);
  }

pub key-tree-holds : Says key-tree
unfolding any
key-tree-holds r now lent x v₁ v₃ v₇ octets w₃ w₇ c =
    let k = c.key in
    let w₁ = c.fit in
    created-0 r now lent x 1 v₁ (entry 1 3 (wrap_of v₃ v₁) ∷ entry 3 7 (wrap_of v₇ v₃) ∷ entry 7 0 (wrap_of lent v₇) ∷ []) octets c refl refl
    (omega arith) (tree-fit lent v₁ v₃ v₇ k w₁ w₃ w₇) (ends-1 lent v₁ v₃ v₇ k w₁ w₃ w₇) (only-1 lent v₁ v₃ v₇ k w₁ w₃ w₇)
    (held_with 1 v₁ ∷ held_with 3 v₃ ∷ held_with 7 v₇ ∷ []) (held-tree lent v₁ v₃ v₇ k w₁ w₃ w₇ x c.small c.size)
