-- The samples' entries that lead from key to key: with a Rekey SA's key under the last one the list is the path, without a Rekey SA it is
-- empty.
use native.Mathlib.Omega.{arith}
use Prim.Native.Nat.{ℕ, ◌<◌}
use mathlib.Core.Path.{◌≡◌, refl, sym}
use mathlib.Core.List.{List, [], ◌∷◌}
use lib.ListN.{length, get_or}
use Rattle.octets.specs.Octets.{Octets}
use Rattle.fips197.specs.Key.{Key}
use Rattle.rfc5649.specs.Wrap.{wrap_of}
use Rattle.state_keys.specs.Limits.{limits}
use Rattle.lists.specs.Lists.{any}
use Rattle.wire_attributes.specs.Tree.{WrapKey, SaKey}
use Rattle.state.specs.Held.{held_of, distinct}
use Rattle.rules_chains.specs.Chain.{In, Chain, ChainEnds}
use Rattle.rules_chains.specs.Refusals.{EntriesConflict}
use Rattle.rules_chains.specs.Path.{no_key, one_more}
use Rattle.rules_outcome.specs.Holding.{HoldsPath}
use Rattle.rules_outcome.specs.SampleFrames.{entry, held_with, FitKey}
use Rattle.rules_outcome.specs.Samples.{two_steps, no-rekey-sa, Says}
use Rattle.rules_outcome.proofs.PathKeys.{from-none}
use Rattle.rules_outcome.proofs.OneChain.{only-path}
use Rattle.rules_outcome.proofs.SamplesChains.{opens-own, zero_root}
use Rattle.rules_outcome.proofs.SamplesTaken.{registers-0}
use Rattle.rules_outcome.proofs.SamplesCreated.{created-0}
use Rattle.rules_outcome.proofs.SamplesValued.{each_in, at, fit_at, ended, no-fault, first, on, has_value}

pub here : {A : Type 0} (a : A) (l : List A) (i : ℕ) → i < length l → get_or l i a ≡ a → In a l
here a l i h e = record { place = i; inside = h; is = e }

-- ---- (5 under 9), (9 under 0)
module _ (lent v₅ v₉ : List ℕ) (key : Key lent) (w₅ : FitKey lent v₅) (w₉ : FitKey lent v₉) where
  abbrev five : WrapKey
  five = entry 5 9 (wrap_of v₉ v₅)

  abbrev nine : WrapKey
  nine = entry 9 0 (wrap_of lent v₉)

  abbrev two : List WrapKey
  two = five ∷ nine ∷ []

  abbrev value : ℕ → List ℕ
  value = at 5 v₅ (at 9 v₉ (λ (k : ℕ). lent))

  fit : (k : ℕ) → FitKey lent (value k)
  fit =
      fit_at lent 5 v₅ (at 9 v₉ (λ (k : ℕ). lent)) w₅
      (fit_at lent 9 v₉ (λ (k : ℕ). lent) w₉ (λ k. record { key = key; size = refl }))

  wrapped : (e : WrapKey) → In e two → e.wrapped ≡ wrap_of (value e.kwk_id) (value e.key_id)
  wrapped = each_in (λ (e : WrapKey). e.wrapped ≡ wrap_of (value e.kwk_id) (value e.key_id)) two (refl, (refl, tt))

  two-fit : EntriesConflict (zero_root lent ∷ []) two (length lent) → ⊥
  two-fit = no-fault value fit two wrapped

  to-9 : Chain (zero_root lent ∷ []) two (length lent) (nine ∷ []) 9 v₉
  to-9 = first value fit two wrapped nine (here nine two 1 (omega arith) refl) refl

  to-5 : Chain (zero_root lent ∷ []) two (length lent) (five ∷ nine ∷ []) 5 v₅
  to-5 = on value fit two wrapped nine [] five (here five two 0 (omega arith) refl) to-9

  ends-5 : ChainEnds (zero_root lent ∷ []) two (length lent) 5 v₅
  ends-5 = record { passed = five ∷ nine ∷ []; chain = to-5 }

  only-5 : (y : List ℕ) → ChainEnds (zero_root lent ∷ []) two (length lent) 5 y → y ≡ v₅
  only-5 y n = ended value fit two wrapped 5 y n

  abbrev copy : List ℕ → SaKey
  copy x = record { key_id = 0; kwk_id = 5; wrapped = wrap_of v₅ x }

  held_two : (x : List ℕ) → Octets x → length x ≡ 36 →
      HoldsPath (zero_root lent ∷ []) two (length lent) limits (copy x ∷ []) (held_of limits [])
      (held_of limits (held_with 5 v₅ ∷ held_with 9 v₉ ∷ []))
  unfolding any distinct
  held_two x o n = record {
    ids = 5 ∷ 9 ∷ [];
    end = 0;
    path =
        only-path lent two refl refl (copy x) (five ∷ nine ∷ []) v₅ x to-5 (opens-own v₅ x w₅.key o (omega arith) (omega arith));
    keys = record { id = 5; value = v₅ } ∷ record { id = 9; value = v₉ } ∷ [];
    are =
        one_more (has_value value fit two wrapped five (nine ∷ []) 5 to-5)
        (one_more (has_value value fit two wrapped nine [] 9 to-9) no_key);
    is = sym (from-none limits (held_with 5 v₅ ∷ held_with 9 v₉ ∷ []) 0);
  }

pub two-steps-holds : Says two_steps
unfolding any
two-steps-holds r now lent x v₅ v₉ octets w₉ g =
    let k = g.key in
    let w₅ = g.fit in
    created-0 r now lent x 5 v₅ (entry 5 9 (wrap_of v₉ v₅) ∷ entry 9 0 (wrap_of lent v₉) ∷ []) octets g refl refl (omega arith)
    (two-fit lent v₅ v₉ k w₅ w₉) (ends-5 lent v₅ v₉ k w₅ w₉) (only-5 lent v₅ v₉ k w₅ w₉) (held_with 5 v₅ ∷ held_with 9 v₉ ∷ [])
    (held_two lent v₅ v₉ k w₅ w₉ x g.small g.size)

pub no-rekey-sa-holds : Says no-rekey-sa
unfolding any
no-rekey-sa-holds r now lent x v₅ v₉ octets w₅ w₉ g =
    registers-0 r now lent x octets (entry 5 9 (wrap_of v₉ v₅) ∷ entry 9 0 (wrap_of lent v₉) ∷ []) g.key g.keying g.reads refl refl
    (omega arith) (two-fit lent v₅ v₉ g.key w₅ w₉)
