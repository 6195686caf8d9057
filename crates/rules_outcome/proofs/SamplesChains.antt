-- The samples on chains: what entries in a registration of a new member lead to.
use native.Mathlib.Omega.{arith}
use Prim.Native.Nat.{ℕ, ◌≤◌}
use mathlib.Core.Path.{◌≡◌, refl, ap, sym, ◌∙◌, subst}
use mathlib.Core.Bool.{Bool, true, false, ◌||◌}
use mathlib.Core.Logic.{◌⊎◌, inl, inr}
use mathlib.Core.List.Memᴰ
use mathlib.Core.List.{List, [], ◌∷◌}
use lib.Dec.{T, eqb}
use lib.ListN.{length}
use Rattle.octets.specs.Octets.{Octets}
use Rattle.fips197.specs.Key.{Key, is_key}
use Rattle.rfc5649.specs.Wrap.{wrap_of}
use Rattle.rfc5649.specs.Opens.{Opens}
use Rattle.rfc5649.proofs.Determined.{opens_one}
use Rattle.state_keys.specs.Algorithms.{is_wrapping_size}
use Rattle.state_keys.proofs.Sizes.{wrapping-size, among-is}
use Rattle.wire_attributes.specs.Tree.{WrapKey, SaKey}
use Rattle.rules_chains.specs.Chain.{In, Root, Chain, root, step, ChainEnds, CopyOpens}
use Rattle.rules_chains.specs.Refusals.{Announced, EntriesConflict, CopiesConflict, wrong_size, two-values, KeyConflict, of-entries}
use Rattle.rules_chains.specs.Refusals.{of-copies, KeyMissing, KeyOf}
use Rattle.rules_chains.proofs.Members.{in-member}

-- ---- what a property that roots have and steps keep says of every chain
module _ (roots : List Root) (entries : List WrapKey) (size : ℕ) (Good : ℕ → List ℕ → Type 0)
    (at-root : (r : Root) → In r roots → Good r.id r.value)
    (at-step : (e : WrapKey) → In e entries → (v x : List ℕ) → Good e.kwk_id v → Opens v e.wrapped x → Good e.key_id x) where
  pub each-chain : (passed : List WrapKey) (k : ℕ) (v : List ℕ) → Chain roots entries size passed k v → Good k v
  each-chain _ _ _ (root r m) = at-root r m
  each-chain _ _ _ (step {passed} {k} {v} {x} e c t l) =
      at-step e l.entry v x (subst (λ (i : ℕ). Good i v) (sym l.names) (each-chain passed k v c)) l.opens

-- ---- what stands in a list of one
pub one_entry : {A : Type 0} (a b : A) → In a (b ∷ []) → a ≡ b
one_entry a b m = Memᴰ.eq_of_singleton (in-member a (b ∷ []) m)

-- octets wrapped under a key open under it, and to nothing else
module _ (key x : List ℕ) (is : Key key) (octets : Octets x) (least : 1 ≤ length x) (most : length x ≤ 256) where
  pub opens-own : Opens key (wrap_of key x) x
  opens-own = record { least = least; most = most; octets = octets; wraps = refl }

  pub opens-only : (y : List ℕ) → Opens key (wrap_of key x) y → y ≡ x
  opens-only y h = opens_one key (wrap_of key x) y x is h opens-own

-- a key's octet count is a size of the algorithm table
pub key-size : (n : ℕ) → T (is_key n) → is_wrapping_size n ≡ true
unfolding is_key
key-size n t = wrapping-size n ∙ by (eqb n 16) (eqb n 24) (eqb n 32) t
  where
    by : (a b c : Bool) → T (a || b || c) → (a || (b || (c || false))) ≡ true
    by true b c t = refl
    by false true c t = refl
    by false false true t = refl
    by false false false t = absurd t

-- a key's octet count is within that of what can be wrapped
key-range : (v : List ℕ) → Key v → (1 ≤ length v) × (length v ≤ 256)
key-range v k = by (among-is 16 24 32 (length v) (sym (wrapping-size (length v)) ∙ key-size (length v) k.size))
  where
    by : (length v ≡ 16) ⊎ ((length v ≡ 24) ⊎ (length v ≡ 32)) → (1 ≤ length v) × (length v ≤ 256)
    by (inl e) = (omega arith, omega arith)
    by (inr (inl e)) = (omega arith, omega arith)
    by (inr (inr e)) = (omega arith, omega arith)

-- a key wrapped under a key
module _ (k v : List ℕ) (is : Key k) (key : Key v) where
  pub wraps : Opens k (wrap_of k v) v
  wraps = let n = key-range v key in opens-own k v is key.small n.0 n.1

  pub wraps-only : (y : List ℕ) → Opens k (wrap_of k v) y → y ≡ v
  wraps-only = let n = key-range v key in opens-only k v is key.small n.0 n.1

-- ---- an announced SA with one copy under KWK ID i of n octets x, where each chain that ends on i gives v
abbrev pub one_copy : ℕ → ℕ → List ℕ → Announced
one_copy i n w = record { copies = record { key_id = 0; kwk_id = i; wrapped = w } ∷ []; need = n }

module _ (R : List Root) (l : List WrapKey) (size i n : ℕ) (v x : List ℕ) (key : Key v) (octets : Octets x) (count : length x ≡ n)
    (least : 1 ≤ n) (most : n ≤ 256) (ends : ChainEnds R l size i v) (only : (y : List ℕ) → ChainEnds R l size i y → y ≡ v) where
  abbrev copy : SaKey
  copy = record { key_id = 0; kwk_id = i; wrapped = wrap_of v x }

  opens-to-x : (y : List ℕ) → CopyOpens R l size (copy ∷ []) y → y ≡ x
  opens-to-x y h =
      let c = one_entry h.copy copy h.stands in
      let q = only h.value (subst (λ (k : SaKey). ChainEnds R l size k.kwk_id h.value) c h.named) in
      opens-only v x key octets (omega arith) (omega arith) y
      (subst (λ (k : SaKey). Opens v k.wrapped y) c (subst (λ (z : List ℕ). Opens z h.copy.wrapped y) q h.opens))

  pub copy-opens : KeyOf R l size (one_copy i n (wrap_of v x)) x
  copy-opens = record {
    opens =
        record {
          copy = copy;
          stands = record { place = 0; inside = omega arith; is = refl };
          value = v;
          named = ends;
          opens = opens-own v x key octets (omega arith) (omega arith);
        };
    every = opens-to-x;
  }

  no-copies-conflict : CopiesConflict R l size (one_copy i n (wrap_of v x)) → ⊥
  no-copies-conflict (wrong_size y h d) = d (ap length (opens-to-x y h) ∙ count)
  no-copies-conflict (two-values y z h k d) = d (opens-to-x y h ∙ sym (opens-to-x z k))

  pub no-conflict : (EntriesConflict R l size → ⊥) → KeyConflict R l size (one_copy i n (wrap_of v x) ∷ []) → ⊥
  no-conflict f (of-entries h) = f h
  no-conflict f (of-copies a m h) = no-copies-conflict (subst (CopiesConflict R l size) (one_entry a (one_copy i n (wrap_of v x)) m) h)

  pub no-missing : KeyMissing R l size (one_copy i n (wrap_of v x) ∷ []) → ⊥
  no-missing h =
      let e = one_entry h.sa (one_copy i n (wrap_of v x)) h.stands in
      h.none x (subst (λ (a : Announced). CopyOpens R l size a.copies x) (sym e) copy-opens.opens)

-- ---- a lent key as key 0, and entries with no Key ID 0
abbrev pub zero_root : List ℕ → Root
zero_root lent = record { id = 0; value = lent }

module _ (lent : List ℕ) (l : List WrapKey) (no_zero : (e : WrapKey) → In e l → e.key_id ≡ 0 → ⊥) where
  abbrev zero_roots : List Root
  zero_roots = zero_root lent ∷ []

  pub at_zero : (v : List ℕ) → ChainEnds zero_roots l (length lent) 0 v → v ≡ lent
  at_zero v e =
      each-chain zero_roots l (length lent) (λ (k : ℕ) (y : List ℕ). k ≡ 0 → y ≡ lent)
      (λ r m i. ap (λ (z : Root). z.value) (one_entry r (zero_root lent) m)) (λ e m y z g o i. absurd (no_zero e m i)) e.passed 0 v
      e.chain refl

  pub ends-zero : ChainEnds zero_roots l (length lent) 0 lent
  ends-zero = record { passed = []; chain = root (zero_root lent) (record { place = 0; inside = omega arith; is = refl }) }
