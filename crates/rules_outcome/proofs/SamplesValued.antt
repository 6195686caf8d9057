-- Entries in which each Key ID has one value, whatever chain leads to it: what they reach, and the chains.
use Prim.Native.Nat.{ℕ}
use mathlib.Core.Path.{◌≡◌, refl, ap, sym, ◌∙◌, subst}
use mathlib.Core.Bool.{Bool, true, false, cond}
use mathlib.Core.Logic.{⊎_elim}
use mathlib.Core.List.Memᴰ
use mathlib.Core.List.{List, [], ◌∷◌}
use lib.Dec.{eqb}
use lib.ListN.{length}
use Rattle.rfc5649.specs.Wrap.{wrap_of}
use Rattle.rfc5649.specs.Opens.{Opens}
use Rattle.wire_attributes.specs.Tree.{WrapKey}
use Rattle.rules_chains.specs.Chain.{In, Root, Chain, root, step, Reached, ChainEnds}
use Rattle.rules_chains.specs.Refusals.{EntriesConflict, wrong_size, two-values, Value}
use Rattle.rules_chains.proofs.Members.{in-member}
use Rattle.rules_outcome.specs.SampleFrames.{FitKey}
use Rattle.rules_outcome.proofs.Members.{in_head, in-cases, not-in-none}
use Rattle.rules_outcome.proofs.SamplesChains.{each-chain, wraps, wraps-only, zero_root}

-- each of a list, one by one
abbrev pub Each : {A : Type 0} → (A → Type 0) → List A → Type 0
Each P [] = Unit {0}
Each P (a ∷ l) = P a × Each P l

pub each_in : {A : Type 0} (P : A → Type 0) (l : List A) → Each P l → (a : A) → In a l → P a
each_in P [] p a m = absurd (not-in-none a m)
each_in P (b ∷ l) p a m = ⊎_elim (λ e. subst P (sym e) p.0) (λ k. each_in P l p.1 a k) (in-cases a b l m)

-- a value for one Key ID more
abbrev pub at : ℕ → List ℕ → (ℕ → List ℕ) → ℕ → List ℕ
at i v rest k = cond (eqb k i) v (rest k)

pub fit_at : (lent : List ℕ) (i : ℕ) (v : List ℕ) (rest : ℕ → List ℕ) → FitKey lent v → ((k : ℕ) → FitKey lent (rest k)) →
    (k : ℕ) → FitKey lent (at i v rest k)
fit_at lent i v rest w f k = by (eqb k i)
  where
    by : (b : Bool) → FitKey lent (cond b v (rest k))
    by true = w
    by false = f k

module _ (value : ℕ → List ℕ) (fit : (k : ℕ) → FitKey (value 0) (value k)) (l : List WrapKey)
    (wrapped : (e : WrapKey) → In e l → e.wrapped ≡ wrap_of (value e.kwk_id) (value e.key_id)) where
  abbrev size : ℕ
  size = length (value 0)

  abbrev R : List Root
  R = zero_root (value 0) ∷ []

  -- ---- what is reached has its Key ID's value
  gives : (e : WrapKey) → In e l → (v x : List ℕ) → v ≡ value e.kwk_id → Opens v e.wrapped x → x ≡ value e.key_id
  gives e m v x q o =
      wraps-only (value e.kwk_id) (value e.key_id) (fit e.kwk_id).key (fit e.key_id).key x
      (subst (λ (w : List ℕ). Opens (value e.kwk_id) w x) (wrapped e m) (subst (λ (z : List ℕ). Opens z e.wrapped x) q o))

  pub ended : (k : ℕ) (v : List ℕ) → ChainEnds R l size k v → v ≡ value k
  ended k v n =
      each-chain R l size (λ (i : ℕ) (y : List ℕ). y ≡ value i)
      (λ a m. subst (λ (z : Root). z.value ≡ value z.id) (sym (Memᴰ.eq_of_singleton (in-member a R m))) refl) gives
      n.passed k v n.chain

  valued : (k : ℕ) (y : List ℕ) → Reached R l size k y → y ≡ value k
  valued k y r = ended k y (record { passed = r.last ∷ r.before; chain = r.chain })

  pub no-fault : EntriesConflict R l size → ⊥
  no-fault (wrong_size k y r n) = n (ap length (valued k y r) ∙ (fit k).size)
  no-fault (two-values k y z r q n) = n (valued k y r ∙ sym (valued k z q))

  -- ---- an entry under key 0 leads to its key, and so does one under a key that is reached
  opens : (e : WrapKey) → In e l → Opens (value e.kwk_id) e.wrapped (value e.key_id)
  opens e m =
      subst (λ (w : List ℕ). Opens (value e.kwk_id) w (value e.key_id)) (sym (wrapped e m))
      (wraps (value e.kwk_id) (value e.key_id) (fit e.kwk_id).key (fit e.key_id).key)

  pub first : (e : WrapKey) → In e l → e.kwk_id ≡ 0 → Chain R l size (e ∷ []) e.key_id (value e.key_id)
  first e m n =
      step e (root (zero_root (value 0)) (in_head (zero_root (value 0)) (zero_root (value 0)) [] refl)) tt
      (record { entry = m; names = n; opens = subst (λ (k : ℕ). Opens (value k) e.wrapped (value e.key_id)) n (opens e m) })

  pub on : (d : WrapKey) (p : List WrapKey) (e : WrapKey) → In e l → Chain R l size (d ∷ p) e.kwk_id (value e.kwk_id) →
      Chain R l size (e ∷ d ∷ p) e.key_id (value e.key_id)
  on d p e m c = step e c (fit e.kwk_id).size (record { entry = m; names = refl; opens = opens e m })

  -- the key on which a chain ends has this value
  pub has_value : (d : WrapKey) (p : List WrapKey) (k : ℕ) → Chain R l size (d ∷ p) k (value k) → Value R l size k (value k)
  has_value d p k c = record { reached = record { last = d; before = p; chain = c }; every = valued k }
