-- THE PATH EXISTS WHEN A CHAIN DOES. Document 02, T-04: "Demand 3 then says that the list is this path, and exists when a chain does."
-- Where number 8 does not hold of the entries and a chain opens one of the copies there is a path. All chains of a length are finitely
-- many, since opening is decided; of those that open a copy one comes first.
use native.Mathlib.Omega.{arith}
use native.Mathlib.Decide.{ℕ_discrete}
use Prim.Native.Nat.{ℕ, zero, suc, ◌≤◌}
use mathlib.Core.Path.{◌≡◌, refl, ap, sym, ◌∙◌, subst}
use mathlib.Core.Logic.{inl, inr, ⊎_elim, by_cases}
use mathlib.Core.List.Memᴰ
use mathlib.Core.List.{List, [], ◌∷◌, ◌++◌, Memᴰ}
use lib.Dec.{T}
use lib.ListN.{length, length-map}
use Rattle.lists.proofs.Cases.{lt-cases}
use Rattle.fips197.specs.Key.{Key, is_key}
use Rattle.rfc5649.specs.Opens.{Opens}
use Rattle.rfc5649.proofs.Determined.{opens_one}
use Rattle.rfc5649.proofs.Decided.{Decided, opens-decided}
use Rattle.wire_attributes.specs.Tree.{WrapKey, SaKey}
use Rattle.rules_chains.specs.Chain.{In, Root, Extended, Leads, Chain, root, step, CopyOpens}
use Rattle.rules_chains.specs.Refusals.{EntriesConflict}
use Rattle.rules_chains.specs.Path.{NotAfter, key_ids, start_id, Opener, KeyPath}
use Rattle.rules_chains.proofs.Laws.{entries_fit}
use Rattle.rules_chains.proofs.Members.{in-member, member-in}
use Rattle.rules_chains.proofs.Smallest.{front-first, last-least, First, first-with}

-- what each of a list gives, where it is known to stand in it
over : {A B : Type 0} (l : List A) → ((a : A) → Memᴰ a l → List B) → List B
over [] f = []
over (a ∷ l) f = f a (Memᴰ.head refl) ++ over l (λ b m. f b (Memᴰ.tail m))

-- what one gives, however it is known to stand there, stands in all of it
in-over : {A B : Type 0} (P : B → Type 0) (a : A) (l : List A) (f : (b : A) → Memᴰ b l → List B) → Memᴰ a l →
    ((m : Memᴰ a l) → (b : B) × Memᴰ b (f a m) × P b) → (b : B) × Memᴰ b (over l f) × P b
unfolding over
in-over P a [] f m h = absurd (Memᴰ.not-nil m)
in-over P a (c ∷ l) f m h =
    ⊎_elim
    (λ e. let r = subst (λ x. ((n : Memᴰ x (c ∷ l)) → (b : _) × Memᴰ b (f x n) × P b)) e h (Memᴰ.head refl) in
    (r.0, Memᴰ.append_left (over l (λ b n. f b (Memᴰ.tail n))) r.1, r.2))
    (λ k.
    let r = in-over P a l (λ b n. f b (Memᴰ.tail n)) k (λ n. h (Memᴰ.tail n)) in
    (r.0, Memᴰ.append_right (f c (Memᴰ.head refl)) r.1, r.2))
    (Memᴰ.cases_cons m)

module _ (roots : List Root) (entries : List WrapKey) (size : ℕ) (copies : List SaKey)
    (is-size : T (is_key size)) (root-keys : (r : Root) → In r roots → Key r.value)
    (none : EntriesConflict roots entries size → ⊥) where
  -- a chain whose value may wrap
  record Node : Type 0 where
    passed : List WrapKey
    k : ℕ
    v : List ℕ
    chain : Chain roots entries size passed k v
    key : Key v
    goes_on : Extended roots entries size passed v

  record Like (p : List WrapKey) (k : ℕ) (v : List ℕ) (c : Node) : Type 0 where
    passed_is : c.passed ≡ p
    k-is : c.k ≡ k
    v-is : c.v ≡ v

  size_of : (e : WrapKey) (p : List WrapKey) (k : ℕ) (x : List ℕ) → Chain roots entries size (e ∷ p) k x → length x ≡ size
  size_of e p k x c = entries_fit roots entries size none k x (record { last = e; before = p; chain = c })

  -- ---- one entry more
  stepped : (c : Node) (e : WrapKey) → In e entries → e.kwk_id ≡ c.k → (x : List ℕ) → Opens c.v e.wrapped x → Node
  stepped c e m q x o =
      let s = step e c.chain c.goes_on (record { entry = m; names = q; opens = o }) in
      let z = size_of e c.passed e.key_id x s in
      record {
        passed = e ∷ c.passed;
        k = e.key_id;
        v = x;
        chain = s;
        key = record { size = subst (λ (n : ℕ). T (is_key n)) (sym z) is-size; small = o.octets };
        goes_on = z;
      }

  by-decision : (c : Node) (e : WrapKey) → In e entries → e.kwk_id ≡ c.k → Decided c.v e.wrapped → List Node
  by-decision c e m q (inl d) = stepped c e m q d.0 d.1 ∷ []
  by-decision c e m q (inr d) = []

  by_name : (c : Node) (e : WrapKey) → In e entries → Dec (e.kwk_id ≡ c.k) → List Node
  by_name c e m (yes q) = by-decision c e m q (opens-decided c.v e.wrapped c.key)
  by_name c e m (no f) = []

  extend : (c : Node) (e : WrapKey) → Memᴰ e entries → List Node
  extend c e m = by_name c e (member-in e entries m) (ℕ_discrete e.kwk_id c.k)

  Has : List Node → List WrapKey → ℕ → List ℕ → Type 0
  Has l p k v = (d : Node) × Memᴰ d l × Like p k v d

  decision-has : (c : Node) (e : WrapKey) (m : In e entries) (q : e.kwk_id ≡ c.k) (x : List ℕ) → Opens c.v e.wrapped x →
      (d : Decided c.v e.wrapped) → Has (by-decision c e m q d) (e ∷ c.passed) e.key_id x
  unfolding by-decision Has stepped
  decision-has c e m q x o (inl d) = (
    stepped c e m q d.0 d.1,
    Memᴰ.head refl,
    record { passed_is = refl; k-is = refl; v-is = opens_one c.v e.wrapped d.0 x c.key d.1 o },
  )
  decision-has c e m q x o (inr d) = absurd (d x o)

  name-has : (c : Node) (e : WrapKey) (m : In e entries) → e.kwk_id ≡ c.k → (x : List ℕ) → Opens c.v e.wrapped x →
      (s : Dec (e.kwk_id ≡ c.k)) → Has (by_name c e m s) (e ∷ c.passed) e.key_id x
  unfolding by_name Has
  name-has c e m q x o (yes r) = decision-has c e m r x o (opens-decided c.v e.wrapped c.key)
  name-has c e m q x o (no f) = absurd (f q)

  extend-has : (c : Node) (e : WrapKey) (m : Memᴰ e entries) → e.kwk_id ≡ c.k → (x : List ℕ) → Opens c.v e.wrapped x →
      Has (extend c e m) (e ∷ c.passed) e.key_id x
  unfolding extend
  extend-has c e m q x o = name-has c e (member-in e entries m) q x o (ℕ_discrete e.kwk_id c.k)

  -- ---- the chains of n entries
  first : (r : Root) → Memᴰ r roots → List Node
  first r m =
      record {
        passed = [];
        k = r.id;
        v = r.value;
        chain = root r (member-in r roots m);
        key = root-keys r (member-in r roots m);
        goes_on = tt;
      } ∷ []

  nodes : ℕ → List Node
  nodes zero = over roots first
  nodes (suc n) = over (nodes n) (λ c m. over entries (extend c))

  all-chains : (p : List WrapKey) (k : ℕ) (v : List ℕ) → Chain roots entries size p k v → Has (nodes (length p)) p k v
  unfolding nodes first Has
  all-chains _ _ _ (root r i) =
      in-over (Like [] r.id r.value) r roots first (in-member r roots i)
      (λ m. (_, Memᴰ.head refl, record { passed_is = refl; k-is = refl; v-is = refl }))
  all-chains _ _ x (step {passed = p} {k = j} {v = v} e c t l) = further p j v x e l (all-chains p j v c)
    where
      further : (p : List WrapKey) (j : ℕ) (v x : List ℕ) (e : WrapKey) → Leads roots entries size j v e x →
          Has (nodes (length p)) p j v → Has (nodes (suc (length p))) (e ∷ p) e.key_id x
      further p j v x e l b =
          let d = b.0 in
          let y = b.2 in
          let o : Opens d.v e.wrapped x = subst (λ (w : List ℕ). Opens w e.wrapped x) (sym y.v-is) l.opens in
          in-over (Like (e ∷ p) e.key_id x) d (nodes (length p)) (λ c m. over entries (extend c)) b.1
          (λ m.
          in-over (Like (e ∷ p) e.key_id x) e entries (extend d) (in-member e entries l.entry)
          (λ n.
          let h = extend-has d e n (l.names ∙ sym y.k-is) x o in (
            h.0,
            h.1,
            record {
              passed_is = h.2.passed_is ∙ ap (λ (r : List WrapKey). e ∷ r) y.passed_is;
              k-is = h.2.k-is;
              v-is = h.2.v-is;
            },
          )))

  -- ---- those that open a copy
  record Candidate : Type 0 where
    passed : List WrapKey
    opener : Opener roots entries size copies passed

  -- the numbers by which they are compared: how many entries, then the Key IDs, then that of the key they started with
  abbrev numbers : List WrapKey → ℕ → List ℕ
  numbers p k = length p ∷ (key_ids p ++ (start_id k p ∷ []))

  abbrev compared : Candidate → List ℕ
  compared d = numbers d.passed d.opener.copy.kwk_id

  made : (c : Node) (a : SaKey) → In a copies → a.kwk_id ≡ c.k → (x : List ℕ) → Opens c.v a.wrapped x → Candidate
  made c a m q x o =
      record {
        passed = c.passed;
        opener = record {
          copy = a;
          stands = m;
          value = c.v;
          chain = subst (λ (n : ℕ). Chain roots entries size c.passed n c.v) (sym q) c.chain;
          octets = x;
          opens = o;
        };
      }

  made_by : (c : Node) (a : SaKey) → In a copies → a.kwk_id ≡ c.k → Decided c.v a.wrapped → List Candidate
  made_by c a m q (inl d) = made c a m q d.0 d.1 ∷ []
  made_by c a m q (inr d) = []

  made-named : (c : Node) (a : SaKey) → In a copies → Dec (a.kwk_id ≡ c.k) → List Candidate
  made-named c a m (yes q) = made_by c a m q (opens-decided c.v a.wrapped c.key)
  made-named c a m (no f) = []

  opening : (c : Node) (a : SaKey) → Memᴰ a copies → List Candidate
  opening c a m = made-named c a (member-in a copies m) (ℕ_discrete a.kwk_id c.k)

  -- a candidate passed these entries and opens a copy under key `k`
  record Alike (q : List WrapKey) (k : ℕ) (d : Candidate) : Type 0 where
    passed_is : d.passed ≡ q
    under-is : d.opener.copy.kwk_id ≡ k

  -- one of the candidates did
  Offers : List Candidate → List WrapKey → ℕ → Type 0
  Offers l q k = (d : Candidate) × Memᴰ d l × Alike q k d

  by-offers : (c : Node) (a : SaKey) (m : In a copies) (q : a.kwk_id ≡ c.k) (x : List ℕ) → Opens c.v a.wrapped x →
      (d : Decided c.v a.wrapped) → Offers (made_by c a m q d) c.passed a.kwk_id
  unfolding made_by Offers made
  by-offers c a m q x o (inl d) =
      (made c a m q d.0 d.1, Memᴰ.head refl, record { passed_is = refl; under-is = refl })
  by-offers c a m q x o (inr d) = absurd (d x o)

  named-offers : (c : Node) (a : SaKey) (m : In a copies) → a.kwk_id ≡ c.k → (x : List ℕ) → Opens c.v a.wrapped x →
      (s : Dec (a.kwk_id ≡ c.k)) → Offers (made-named c a m s) c.passed a.kwk_id
  unfolding made-named Offers
  named-offers c a m q x o (yes r) = by-offers c a m r x o (opens-decided c.v a.wrapped c.key)
  named-offers c a m q x o (no f) = absurd (f q)

  of_length : ℕ → List Candidate
  of_length n = over (nodes n) (λ c m. over copies (opening c))

  all-openers : (q : List WrapKey) (o : Opener roots entries size copies q) → Offers (of_length (length q)) q o.copy.kwk_id
  unfolding of_length opening Offers Has
  all-openers q o =
      let a = o.copy in
      let b = all-chains q a.kwk_id o.value o.chain in
      let c = b.0 in
      let y = b.2 in
      let w : Opens c.v a.wrapped o.octets =
      subst (λ (v : List ℕ). Opens v a.wrapped o.octets) (sym y.v-is) o.opens in
      in-over (Alike q a.kwk_id) c (nodes (length q)) (λ d m. over copies (opening d)) b.1
      (λ m.
      in-over (Alike q a.kwk_id) a copies (opening c) (in-member a copies o.stands)
      (λ n.
      let h = named-offers c a (member-in a copies n) (sym y.k-is) o.octets w (ℕ_discrete a.kwk_id c.k) in
      (h.0, h.1, record { passed_is = h.2.passed_is ∙ y.passed_is; under-is = h.2.under-is })))

  up_to : ℕ → List Candidate
  up_to zero = of_length 0
  up_to (suc n) = of_length (suc n) ++ up_to n

  within : (n m : ℕ) (d : Candidate) → n ≤ m → Memᴰ d (of_length n) → Memᴰ d (up_to m)
  unfolding up_to
  within n zero d h i = subst (λ (k : ℕ). Memᴰ d (of_length k)) (let z : n ≡ 0 = omega arith in z) i
  within n (suc m) d h i =
      by_cases (ℕ_discrete n (suc m)) (λ e. Memᴰ.append_left (up_to m) (subst (λ (k : ℕ). Memᴰ d (of_length k)) e i))
      (λ f. Memᴰ.append_right (of_length (suc m)) (within n m d (below n m h f) i))
    where
      below : (n m : ℕ) → n ≤ suc m → (n ≡ suc m → ⊥) → n ≤ m
      below n m h f = omega arith

  -- ---- the first of them
  pub record Exists : Type 0 where
    pub ids : List ℕ
    pub end : ℕ
    pub path : KeyPath roots entries size copies ids end

  module _ (q : List WrapKey) (o : Opener roots entries size copies q) where
    best : First compared (up_to (length q))
    unfolding Offers
    best =
        let a = all-openers q o in
        first-with compared a.0 (up_to (length q)) (within (length q) (length q) a.0 (omega arith) a.1)

    abbrev B : Candidate
    B = best.it

    abbrev ids : List ℕ
    ids = key_ids B.passed

    abbrev end : ℕ
    end = start_id B.opener.copy.kwk_id B.passed

    -- against any other that is not longer than the given one
    against : (other : List WrapKey) (x : Opener roots entries size copies other) → length other ≤ length q →
        NotAfter (compared B) (numbers other x.copy.kwk_id)
    unfolding Offers
    against other x h =
        let a = all-openers other x in
        subst (λ (l : List WrapKey). NotAfter (compared B) (numbers l x.copy.kwk_id)) a.2.passed_is
        (subst (λ (k : ℕ). NotAfter (compared B) (numbers a.0.passed k)) a.2.under-is
        (best.least a.0 (within (length other) (length q) a.0 h a.1)))

    head-least : (a b : ℕ) (l m : List ℕ) → NotAfter (a ∷ l) (b ∷ m) → a ≤ b
    head-least a b l m (inl h) = omega arith
    head-least a b l m (inr h) = let e = h.0 in omega arith

    tail-least : (a b : ℕ) (l m : List ℕ) → a ≡ b → NotAfter (a ∷ l) (b ∷ m) → NotAfter l m
    tail-least a b l m e (inl h) = absurd (omega arith)
    tail-least a b l m e (inr h) = h.1

    shorter : (other : List WrapKey) → Opener roots entries size copies other → length other ≤ length q → length B.passed ≤ length other
    shorter other x h =
        head-least (length B.passed) (length other) (ids ++ (end ∷ [])) (key_ids other ++ (start_id x.copy.kwk_id other ∷ []))
        (against other x h)

    -- against any other of its length
    beside : (other : List WrapKey) (x : Opener roots entries size copies other) → length other ≡ length B.passed →
        NotAfter (ids ++ (end ∷ [])) (key_ids other ++ (start_id x.copy.kwk_id other ∷ []))
    beside other x e =
        let n = shorter q o (omega arith) in
        tail-least (length B.passed) (length other) (ids ++ (end ∷ [])) (key_ids other ++ (start_id x.copy.kwk_id other ∷ [])) (sym e)
        (against other x (omega (arith, n, e)))

    ids-long : (p : List WrapKey) → length (key_ids p) ≡ length p
    ids-long p = length-map p (λ (e : WrapKey). e.key_id)

    end-least : (other : List WrapKey) (x : Opener roots entries size copies other) → key_ids other ≡ ids →
        end ≤ start_id x.copy.kwk_id other
    end-least other x e =
        let a = ids-long other in
        let b = ids-long B.passed in
        let c : length (key_ids other) ≡ length ids = ap length e in
        last-least ids end (start_id x.copy.kwk_id other)
        (subst (λ (l : List ℕ). NotAfter (ids ++ (end ∷ [])) (l ++ (start_id x.copy.kwk_id other ∷ []))) e
        (beside other x (omega (arith, a, b, c))))

    first-path : KeyPath roots entries size copies ids end
    first-path =
        record {
          passed = B.passed;
          opener = B.opener;
          written = refl;
          ends = refl;
          fewest = λ other x.
              lt-cases (length q) (length other) (λ h. let n = shorter q o (omega arith) in omega arith) (λ h. shorter other x h);
          smallest = λ other x e.
              let a = ids-long other in
              let b = ids-long B.passed in
              front-first ids (key_ids other) end (start_id x.copy.kwk_id other) (omega (arith, a, b, e)) (beside other x e);
          lowest = end-least;
        }

  pub path-exists : (x : List ℕ) → CopyOpens roots entries size copies x → Exists
  path-exists x c =
      let q = c.named.passed in
      let o : Opener roots entries size copies q =
      record { copy = c.copy; stands = c.stands; value = c.value; chain = c.named.chain; octets = x; opens = c.opens } in
      record { ids = ids q o; end = end q o; path = first-path q o }
