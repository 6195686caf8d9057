-- THE PATH FOUND BY NUMBERS ALONE: the ways that entries can lead to a key, by their Key IDs and KWK IDs. Where no shorter way leads to the
-- copy's key and none of the same length comes first, a chain that opens the copy is the path.
use native.Mathlib.Omega.{arith}
use Prim.Native.Nat.{ℕ, zero, suc, ◌≤◌, ◌<◌}
use mathlib.Core.Path.{◌≡◌, refl, ap, sym, subst}
use mathlib.Core.Bool.{cond}
use mathlib.Core.Logic.{⊎_elim}
use mathlib.Core.List.{List, [], ◌∷◌, ◌++◌, map, Memᴰ}
use borrow.Author.Tests.{eq-eqb}
use lib.Dec.{eqb}
use lib.ListN.{length, length-map}
use Rattle.lists.proofs.Cases.{lt-cases}
use Rattle.fips197.specs.Key.{Key}
use Rattle.rfc5649.specs.Opens.{Opens}
use Rattle.wire_attributes.specs.Tree.{WrapKey, SaKey}
use Rattle.rules_chains.specs.Chain.{Root, Extended, Chain, root, step}
use Rattle.rules_chains.specs.Path.{NotAfter, key_ids, start_id, Opener, KeyPath}
use Rattle.rules_chains.proofs.Members.{in-member, member-in}
use Rattle.rules_chains.proofs.Samples.{Fit, under, opens}

-- ---- what entries can lead to, by their numbers alone
-- a way to a key: the Key IDs of the entries, the last one first, and that of the key it starts with
pub record Way : Type 0 where
  pub ids : List ℕ
  pub start : ℕ

-- the way of no entry to key k
abbrev pub at : ℕ → Way
at k = record { ids = []; start = k }

-- those that the roots give
abbrev pub starts : List Root → ℕ → List Way
starts [] k = []
starts (r ∷ l) k = cond (eqb r.id k) (at k ∷ []) [] ++ starts l k

-- a way with an entry more, to key k
abbrev pub longer : ℕ → Way → Way
longer k w = record { ids = k ∷ w.ids; start = w.start }

-- the ways to key k whose last entry is one of these, where `before j` are the ways to key j
abbrev pub through : (ℕ → List Way) → ℕ → List WrapKey → List Way
through before k [] = []
through before k (e ∷ l) = cond (eqb e.key_id k) (map (longer k) (before e.kwk_id)) [] ++ through before k l

-- the ways of n entries to key k
abbrev pub ways_to : List Root → List WrapKey → ℕ → ℕ → List Way
ways_to roots entries zero k = starts roots k
ways_to roots entries (suc n) k = through (λ (j : ℕ). ways_to roots entries n j) k entries

in-starts : (r : Root) (l : List Root) → Memᴰ r l → Memᴰ (at r.id) (starts l r.id)
in-starts r [] m = absurd (mathlib.Core.List.Memᴰ.not-nil m)
in-starts r (a ∷ l) m =
    ⊎_elim
    (λ e.
    let i : a.id ≡ r.id = ap (λ (b : Root). b.id) (sym e) in
    let n : Memᴰ (at r.id) (cond (eqb a.id r.id) (at r.id ∷ []) []) =
    rw (eq-eqb a.id r.id i) (mathlib.Core.List.Memᴰ.head refl) in
    mathlib.Core.List.Memᴰ.append_left (starts l r.id) n)
    (λ n. mathlib.Core.List.Memᴰ.append_right (cond (eqb a.id r.id) (at r.id ∷ []) []) (in-starts r l n))
    (mathlib.Core.List.Memᴰ.cases_cons m)

in-through : (before : ℕ → List Way) (k : ℕ) (l : List WrapKey) (e : WrapKey) (w : Way) → Memᴰ e l → e.key_id ≡ k →
    Memᴰ w (before e.kwk_id) → Memᴰ (longer k w) (through before k l)
in-through before k [] e w i q j = absurd (mathlib.Core.List.Memᴰ.not-nil i)
in-through before k (d ∷ l) e w i q j =
    ⊎_elim
    (λ s.
    mathlib.Core.List.Memᴰ.append_left (through before k l)
    (subst (λ (a : WrapKey). Memᴰ (longer k w) (cond (eqb a.key_id k) (map (longer k) (before a.kwk_id)) [])) s
    (rw (eq-eqb e.key_id k q) (mathlib.Core.List.Memᴰ.map (longer k) j))))
    (λ r. mathlib.Core.List.Memᴰ.append_right (cond (eqb d.key_id k) (map (longer k) (before d.kwk_id)) []) (in-through before k l e w r q j))
    (mathlib.Core.List.Memᴰ.cases_cons i)

-- P holds of each
abbrev pub Each : (Way → Type 0) → List Way → Type 0
Each P [] = Unit {0}
Each P (a ∷ l) = P a × Each P l

each_at : (P : Way → Type 0) (a : Way) (l : List Way) → Memᴰ a l → Each P l → P a
each_at P a [] m h = absurd (mathlib.Core.List.Memᴰ.not-nil m)
each_at P a (b ∷ l) m h = ⊎_elim (λ e. subst P (sym e) h.0) (λ n. each_at P a l n h.1) (mathlib.Core.List.Memᴰ.cases_cons m)

-- the way with these Key IDs and this start comes first
abbrev pub Before : List ℕ → ℕ → Way → Type 0
Before ids end w = NotAfter ids w.ids × (w.ids ≡ ids → end ≤ w.start)

module _ (zero-key : List ℕ) (is : Key zero-key) (roots : List Root) (entries : List WrapKey) where
  abbrev pub C : List WrapKey → ℕ → List ℕ → Type 0
  C = Chain roots entries (length zero-key)

  -- fewer than n entries lead nowhere
  abbrev pub NoneBelow : ℕ → ℕ → Type 0
  NoneBelow zero k = Unit {0}
  NoneBelow (suc n) k = (ways_to roots entries n k ≡ []) × NoneBelow n k

  none-at : (n k m : ℕ) → m < n → NoneBelow n k → ways_to roots entries m k ≡ []
  none-at zero k m h b = absurd (omega arith)
  none-at (suc n) k m h b =
      lt-cases m n (λ g. none-at n k m g b.1)
      (λ g. subst (λ (i : ℕ). ways_to roots entries i k ≡ []) (let z : n ≡ m = omega arith in z) b.0)

  chain-way : (passed : List WrapKey) (k : ℕ) (v : List ℕ) → C passed k v →
      Memᴰ (record { ids = key_ids passed; start = start_id k passed }) (ways_to roots entries (length passed) k)
  chain-way _ _ _ (root r i) = in-starts r roots (in-member r roots i)
  chain-way _ _ x (step {passed = p} {k = k} {v = v} e c t l) =
      in-through (λ (j : ℕ). ways_to roots entries (length p) j) e.key_id entries e
      (record { ids = key_ids p; start = start_id e.kwk_id p }) (in-member e entries l.entry) refl
      (subst (λ (j : ℕ). Memᴰ (record { ids = key_ids p; start = start_id j p }) (ways_to roots entries (length p) j)) (sym l.names)
      (chain-way p k v c))

  abbrev pub PathTo : SaKey → List ℕ → ℕ → Type 0
  PathTo a = KeyPath roots entries (length zero-key) (a ∷ [])

  module _ (a : SaKey) where
    abbrev pub O : List WrapKey → Type 0
    O = Opener roots entries (length zero-key) (a ∷ [])

    under-a : (other : List WrapKey) (o : O other) → o.copy ≡ a
    under-a other o = mathlib.Core.List.Memᴰ.eq_of_singleton (in-member o.copy (a ∷ []) o.stands)

    among : (other : List WrapKey) → O other →
        Memᴰ (record { ids = key_ids other; start = start_id a.kwk_id other }) (ways_to roots entries (length other) a.kwk_id)
    among other o =
        subst
        (λ (b : SaKey).
        Memᴰ (record { ids = key_ids other; start = start_id b.kwk_id other }) (ways_to roots entries (length other) b.kwk_id))
        (under-a other o) (chain-way other o.copy.kwk_id o.value o.chain)

    pub path-by : (passed : List WrapKey) → O passed → NoneBelow (length passed) a.kwk_id →
        Each (Before (key_ids passed) (start_id a.kwk_id passed)) (ways_to roots entries (length passed) a.kwk_id) →
        PathTo a (key_ids passed) (start_id a.kwk_id passed)
    path-by passed o none each =
        record {
          passed = passed;
          opener = o;
          written = refl;
          ends = ap-start (under-a passed o);
          fewest = λ other x.
              lt-cases (length other) (length passed)
              (λ h.
              absurd (mathlib.Core.List.Memᴰ.not-nil
              (subst (Memᴰ (record { ids = key_ids other; start = start_id a.kwk_id other }))
              (none-at (length passed) a.kwk_id (length other) h none) (among other x))))
              (λ h. h);
          smallest = λ other x e. (first other x e).0;
          lowest = λ other x e.
              let n : length (key_ids other) ≡ length (key_ids passed) = ap length e in
              let l = length-map other (λ (d : WrapKey). d.key_id) in
              let m = length-map passed (λ (d : WrapKey). d.key_id) in
              let q : start_id x.copy.kwk_id other ≡ start_id a.kwk_id other =
              ap (λ (b : SaKey). start_id b.kwk_id other) (under-a other x) in
              let h = (first other x (omega (arith, n, l, m))).1 e in omega (arith, q, h);
        }
      where
        ap-start : {b : SaKey} → b ≡ a → start_id b.kwk_id passed ≡ start_id a.kwk_id passed
        ap-start e = ap (λ (d : SaKey). start_id d.kwk_id passed) e

        first : (other : List WrapKey) → O other → length other ≡ length passed →
            Before (key_ids passed) (start_id a.kwk_id passed) (record { ids = key_ids other; start = start_id a.kwk_id other })
        first other x e =
            each_at (Before (key_ids passed) (start_id a.kwk_id passed)) (record { ids = key_ids other; start = start_id a.kwk_id other })
            (ways_to roots entries (length passed) a.kwk_id)
            (subst
            (λ (n : ℕ).
            Memᴰ (record { ids = key_ids other; start = start_id a.kwk_id other }) (ways_to roots entries n a.kwk_id))
            e (among other x))
            each

    pub opener : (passed : List WrapKey) (v x : List ℕ) → C passed a.kwk_id v → Opens v a.wrapped x → O passed
    opener passed v x c o =
        record {
          copy = a;
          stands = record { place = 0; inside = omega arith; is = refl };
          value = v;
          chain = c;
          octets = x;
          opens = o;
        }

  -- ---- chains of the entries
  pub start : (r : Root) → Memᴰ r roots → C [] r.id r.value
  start r m = root r (member-in r roots m)

  pub next : (p : List WrapKey) (k j : ℕ) (v x : List ℕ) → C p j v → Extended roots entries (length zero-key) p v → Fit zero-key is x →
      Memᴰ (under zero-key is k j v x) entries → C (under zero-key is k j v x ∷ p) k x
  next p k j v x c t f m =
      step (under zero-key is k j v x) c t
      (record { entry = member-in (under zero-key is k j v x) entries m; names = refl; opens = opens zero-key is v x f })
