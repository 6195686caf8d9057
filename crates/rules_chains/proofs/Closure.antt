-- WHAT IS REACHED IS THE LEAST THAT IS CLOSED UNDER THE ENTRIES, however long its chains are. "A chain starts with the lent default key as
-- key 0 and goes on by WRAP_KEY entries whose KWK ID names the key before and whose octets open under that key's value. Each step gives a
-- Key ID and a value. A value of the wrong size is not extended. Whatever a chain gives is reached."
use native.Mathlib.Omega.{arith}
use Prim.Native.Nat.{ℕ}
use mathlib.Core.Path.{◌≡◌}
use mathlib.Core.List.{List, [], ◌∷◌}
use lib.ListN.{length}
use Rattle.rfc5649.specs.Opens.{Opens}
use Rattle.wire_attributes.specs.Tree.{WrapKey}
use Rattle.rules_chains.specs.Chain.{In, Root, Chain, root, step, Reached}

module _ (roots : List Root) (entries : List WrapKey) (size : ℕ) where
  -- an entry whose KWK ID names a key that chains start with, and that opens under its value, leads to a reached key
  pub reached-first : (r : Root) → In r roots → (e : WrapKey) → In e entries → e.kwk_id ≡ r.id → (x : List ℕ) →
      Opens r.value e.wrapped x → Reached roots entries size e.key_id x
  reached-first r m e i n x o =
      record { last = e; before = []; chain = step e (root r m) tt (record { entry = i; names = n; opens = o }) }

  -- so does one whose KWK ID names a reached key with a value of the size, with no bound on how many entries led there
  pub reached-on : (k : ℕ) (v : List ℕ) → Reached roots entries size k v → length v ≡ size → (e : WrapKey) → In e entries → e.kwk_id ≡ k →
      (x : List ℕ) → Opens v e.wrapped x → Reached roots entries size e.key_id x
  reached-on k v r fits e i n x o =
      record {
        last = e;
        before = r.last ∷ r.before;
        chain = step e r.chain (omega (arith, fits)) (record { entry = i; names = n; opens = o });
      }

  -- and nothing else is reached: what holds of these keys and goes on by these steps holds of each reached key
  module _ (P : ℕ → List ℕ → Type 0)
      (first : (r : Root) → In r roots → (e : WrapKey) → In e entries → e.kwk_id ≡ r.id → (x : List ℕ) → Opens r.value e.wrapped x →
      P e.key_id x)
      (on : (k : ℕ) (v : List ℕ) → P k v → length v ≡ size → (e : WrapKey) → In e entries → e.kwk_id ≡ k → (x : List ℕ) →
      Opens v e.wrapped x → P e.key_id x) where
    least : (d : WrapKey) (passed : List WrapKey) (k : ℕ) (v : List ℕ) → Chain roots entries size (d ∷ passed) k v → P k v
    least d _ _ x (step _ (root r m) t l) = first r m d l.entry l.names x l.opens
    least d _ _ x (step {k = k} {v = v} _ (step {passed = p} b c u w) t l) =
        on k v (least b p k v (step b c u w)) t d l.entry l.names x l.opens

    pub reached-least : (k : ℕ) (x : List ℕ) → Reached roots entries size k x → P k x
    reached-least k x r = least r.last r.before k x r.chain
