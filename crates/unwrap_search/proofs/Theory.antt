-- Why the search is right: its invariant, that each turn keeps it, and what it says at the end.
use Prim.Native.Nat.{ℕ, ◌<◌}
use mathlib.Core.Path.{◌≡◌, refl, ap, sym, ◌∙◌, subst}
use mathlib.Core.Logic.{◌⊎◌, inl, inr, ⊎_elim}
use mathlib.Core.List.Memᴰ
use mathlib.Core.List.{List, [], ◌∷◌}
use lib.ListN.{length}
use Rattle.fips197.specs.Key.{Key, is_key}
use Rattle.rfc5649.specs.Opens.{Opens}
use Rattle.wire_attributes.specs.Tree.{WrapKey}
use Rattle.state_keys.specs.declared.kinds.WrappingKey.{WrappingKey}
use Rattle.rules_chains.specs.Chain.{In, Root, Extended, Leads, Chain, root, step}
use Rattle.rules_chains.proofs.Members.{in-member, member-in}
use Rattle.unwrap_search.specs.declared.open.Status.{Status}
use Rattle.unwrap_search.specs.declared.open.Status.TheVariants.{Waiting, Failed, Wrong, Pending, Done}
use Rattle.unwrap_search.specs.declared.open.Cell.{Cell}
use Rattle.unwrap_search.specs.inner.Entries.{no_wrap_key}
use Rattle.state_keys.specs.Kinds.{value_of}
use Rattle.unwrap_search.specs.inner.Opened.{LandedBy, Tried}
use Rattle.unwrap_search.specs.inner.Search.{key_at}
use lib.Dec.{T}
use Rattle.unwrap_search.proofs.Statuses.{Holds, GoodBy, Good, good-mono, good-landed, good-known}
use Rattle.unwrap_search.proofs.Statuses.{holds-waits, holds-good, holds-done}
use Rattle.unwrap_search.proofs.Statuses.{eq-cases, get_d_any, waits-done, tried-stays, tried-waits, tried-done, tried-elim}

module _ (roots : List Root) (entries : List WrapKey) (size : ℕ) (is-size : T (is_key size))
    (root-keys : (r : Root) → In r roots → Key r.value) where
  abbrev pub n : ℕ
  n = length entries

  abbrev pub E : ℕ → WrapKey
  E i = key_at entries i

  -- a chain ends on key k with value v and may go on
  pub record Live (k : ℕ) (v : List ℕ) : Type 0 where
    pub passed : List WrapKey
    pub chain : Chain roots entries size passed k v
    pub goes_on : Extended roots entries size passed v

  pub record RootIs (k : ℕ) (v : List ℕ) : Type 0 where
    pub key : Root
    pub stands : In key roots
    pub id-is : key.id ≡ k
    pub value-is : key.value ≡ v

  -- key k stands with value v in the cells, or is a root
  pub record Stands (C : ℕ → Cell) (k : ℕ) (v : List ℕ) : Type 0 where
    pub place : ℕ
    pub inside : place < n
    pub holds : Holds (C place).status
    pub id-is : (E place).key_id ≡ k
    pub value-is : value_of (C place).key ≡ v

  abbrev pub K : (ℕ → Cell) → ℕ → List ℕ → Type 0
  K C k v = RootIs k v ⊎ Stands C k v

  -- no entry that waits names key k
  abbrev pub ClosedAt : (ℕ → Cell) → ℕ → Type 0
  ClosedAt C k = (i : ℕ) → i < n → (C i).status ≡ Waiting → (E i).kwk_id ≡ k → ⊥

  -- a chain that ends with the entry at i gives x
  abbrev pub ReachedAt : ℕ → List ℕ → Type 0
  ReachedAt i x = (p : List WrapKey) × Chain roots entries size (E i ∷ p) (E i).key_id x

  -- what the cells hold is right
  pub record Right (C : ℕ → Cell) : Type 0 where
    pub sound : (i : ℕ) → i < n → Holds (C i).status → ReachedAt i (value_of (C i).key)
    pub good : (i : ℕ) → i < n → Good size (K C) (E i) (C i)

  -- all roots but those of `rest` were tried, and the key of each cell that is done
  pub record Inv (rest : List Root) (C : ℕ → Cell) : Type 0 where
    pub right : Right C
    pub closed-roots : (r : Root) → In r roots → (In r rest → ⊥) → ClosedAt C r.id
    pub closed : (j : ℕ) → j < n → (C j).status ≡ Done → ClosedAt C (E j).key_id

  -- the same but for key k, of value v, which is the next to be tried
  pub record Ahead (rest : List Root) (C : ℕ → Cell) (k : ℕ) (v : List ℕ) : Type 0 where
    pub right : Right C
    pub closed-roots : (r : Root) → In r roots → (In r rest → ⊥) → (r.id ≡ k → ⊥) → ClosedAt C r.id
    pub closed : (j : ℕ) → j < n → (C j).status ≡ Done → ((E j).key_id ≡ k → ⊥) → ClosedAt C (E j).key_id
    pub known : K C k v
    pub live : Live k v

  pub in-at : (i : ℕ) → i < n → In (E i) entries
  in-at i h = record { place = i; inside = h; is = get_d_any entries i (E i) no_wrap_key h }

  -- what is known has a chain that may go on
  pub known-live : (C : ℕ → Cell) → Right C → (k : ℕ) (v : List ℕ) → K C k v → Live k v
  known-live C inv k v (inl p) =
      subst (λ (a : ℕ). Live a v) p.id-is
      (subst (λ (b : List ℕ). Live p.key.id b) p.value-is
      (record { passed = []; chain = root p.key p.stands; goes_on = tt }))
  known-live C inv k v (inr p) =
      let s = inv.sound p.place p.inside p.holds in
      let i = p.place in
      let g = holds-good size (K C) (E i) (C i).status (C i).key p.holds (inv.good i p.inside) in
      subst (λ (a : ℕ). Live a v) p.id-is
      (subst (λ (b : List ℕ). Live (E p.place).key_id b) p.value-is
      (record { passed = E p.place ∷ s.0; chain = s.1; goes_on = g.2.fits }))

  known-key : (C : ℕ → Cell) → Right C → (k : ℕ) (v : List ℕ) → K C k v → Key v
  known-key C inv k v (inl p) = subst Key p.value-is (root-keys p.key p.stands)
  known-key C inv k v (inr p) =
      let i = p.place in
      let g = holds-good size (K C) (E i) (C i).status (C i).key p.holds (inv.good i p.inside) in
      subst Key p.value-is
      (record { size = subst (λ (m : ℕ). T (is_key m)) (sym g.2.fits) is-size; small = g.2.opens.octets })

  -- ---- key k, known to be v, is tried on every entry that waits
  module _ (C D : ℕ → Cell) (k : ℕ) (v : List ℕ) (kn : K C k v) (live : Live k v)
      (tried : (i : ℕ) → i < n → Tried k v size (E i) (C i) (D i)) where
    kept : (i : ℕ) → i < n → Holds (C i).status → D i ≡ C i
    kept i h s = tried-stays k v size (E i) (C i) (D i) s (tried i h)

    try-mono : (a : ℕ) (b : List ℕ) → K C a b → K D a b
    try-mono a b (inl p) = inl p
    try-mono a b (inr p) =
        let e = kept p.place p.inside p.holds in
        inr
        (record {
          place = p.place;
          inside = p.inside;
          holds = subst (λ (c : Cell). Holds c.status) (sym e) p.holds;
          id-is = p.id-is;
          value-is = ap (λ (c : Cell). value_of c.key) e ∙ p.value-is;
        })

    landed-chain : (i : ℕ) → i < n → (E i).kwk_id ≡ k → (s : Status) (x : WrappingKey) → LandedBy v size (E i).wrapped s x → Holds s →
        ReachedAt i (value_of x)
    landed-chain i h q Waiting x l t = absurd t
    landed-chain i h q Failed x l t = absurd t
    landed-chain i h q Wrong x l t = absurd t
    landed-chain i h q Pending x l t =
        (live.passed, step (E i) live.chain live.goes_on (record { entry = in-at i h; names = q; opens = l.opens }))
    landed-chain i h q Done x l t = absurd l

    abbrev AtCell : ℕ → Cell → Type 0
    AtCell i c = Holds c.status → ReachedAt i (value_of c.key)

    try-sound : ((i : ℕ) → i < n → AtCell i (C i)) → (i : ℕ) → i < n → AtCell i (D i)
    try-sound s i h =
        tried-elim (AtCell i) k v size (E i) (C i) (D i) (tried i h) (λ w q l. landed-chain i h q (D i).status (D i).key l) (s i h)

    try-good : ((i : ℕ) → i < n → Good size (K C) (E i) (C i)) → (i : ℕ) → i < n → Good size (K D) (E i) (D i)
    try-good g i h =
        tried-elim (Good size (K D) (E i)) k v size (E i) (C i) (D i) (tried i h)
        (λ w q l. good-landed size (K D) (E i) v (subst (λ (a : ℕ). K D a v) (sym q) (try-mono k v kn)) (D i).status (D i).key l)
        (good-mono size (K C) (K D) try-mono (E i) (C i).status (C i).key (g i h))

    after-waits : (i : ℕ) → i < n → (D i).status ≡ Waiting → ((C i).status ≡ Waiting) × ((E i).kwk_id ≡ k → ⊥)
    after-waits i h = tried-waits k v size (E i) (C i) (D i) (tried i h)

    after-done : (i : ℕ) → i < n → (D i).status ≡ Done → (C i).status ≡ Done
    after-done i h = tried-done k v size (E i) (C i) (D i) (tried i h)

  -- ---- the key that was ahead is tried
  pub tried-all : (rest : List Root) (C D : ℕ → Cell) (k : ℕ) (v : List ℕ) → Ahead rest C k v →
      ((i : ℕ) → i < n → Tried k v size (E i) (C i) (D i)) → Inv rest D
  tried-all rest C D k v a tried =
      let kn = a.known in
      let live = a.live in
      record {
        right = record {
          sound = try-sound C D k v kn live tried a.right.sound;
          good = try-good C D k v kn live tried a.right.good;
        };
        closed-roots = λ r m f i h q e.
            let w = after-waits C D k v kn live tried i h q in
            a.closed-roots r m f (λ z. w.1 (e ∙ z)) i h w.0 e;
        closed = λ j g d i h q e.
            let w = after-waits C D k v kn live tried i h q in
            a.closed j g (after-done C D k v kn live tried j g d) (λ z. w.1 (e ∙ z)) i h w.0 e;
      }

  -- ---- a root is the next key
  root-known : (C : ℕ → Cell) (r : Root) → In r roots → K C r.id r.value
  root-known C r m = inl (record { key = r; stands = m; id-is = refl; value-is = refl })

  root_live : (r : Root) → In r roots → Live r.id r.value
  root_live r m = record { passed = []; chain = root r m; goes_on = tt }

  -- the start: every entry waits
  pub begun : (C : ℕ → Cell) → ((i : ℕ) → i < n → (C i).status ≡ Waiting) → (r : Root) → In r roots → (rest : List Root) →
      ((s : Root) → In s roots → (In s rest → ⊥) → s.id ≡ r.id) → Ahead rest C r.id r.value
  begun C w r m rest only =
      record {
        right = record {
          sound = λ i h t. absurd (holds-waits (C i).status t (w i h));
          good = λ i h. subst (λ (s : Status). GoodBy size (K C) (E i) s (C i).key) (sym (w i h)) tt;
        };
        closed-roots = λ s t f ne. absurd (ne (only s t f));
        closed = λ j h d. absurd (waits-done (C j).status (w j h) d);
        known = root-known C r m;
        live = root_live r m;
      }

  pub next-root : (C : ℕ → Cell) (r : Root) (rest : List Root) → In r roots → Inv (r ∷ rest) C → Ahead rest C r.id r.value
  next-root C r rest m inv =
      record {
        right = inv.right;
        closed-roots = λ s t f ne.
            inv.closed-roots s t
            (λ g.
            ⊎_elim (λ e. ne (ap (λ (x : Root). x.id) e)) (λ d. f (member-in s rest d))
            (Memᴰ.cases_cons (in-member s (r ∷ rest) g)));
        closed = λ j h d ne. inv.closed j h d;
        known = root-known C r m;
        live = root_live r m;
      }

  -- ---- cell j, pending, is marked done, and its key is the next
  module _ (rest : List Root) (C M : ℕ → Cell) (inv : Inv rest C) (j : ℕ) (hj : j < n) (pend : (C j).status ≡ Pending)
      (here : M j ≡ record { status = Done; key = (C j).key }) (other : (i : ℕ) → (i ≡ j → ⊥) → M i ≡ C i) where
    set-elim : (P : ℕ → Cell → Type 0) → P j (record { status = Done; key = (C j).key }) → ((i : ℕ) → i < n → P i (C i)) →
        (i : ℕ) → i < n → P i (M i)
    set-elim P f g i h =
        eq-cases i j (λ e. subst (λ (a : ℕ). P a (M a)) (sym e) (subst (P j) (sym here) f)) (λ ne. subst (P i) (sym (other i ne)) (g i h))

    held-j : Holds (C j).status
    held-j = subst Holds (sym pend) tt

    mark-holds : (i : ℕ) → i < n → Holds (C i).status → Holds (M i).status × (value_of (M i).key ≡ value_of (C i).key)
    mark-holds =
        set-elim (λ i c. Holds (C i).status → Holds c.status × (value_of c.key ≡ value_of (C i).key)) (λ r. (tt, refl))
        (λ i h r. (r, refl))

    mark-mono : (a : ℕ) (b : List ℕ) → K C a b → K M a b
    mark-mono a b (inl p) = inl p
    mark-mono a b (inr p) =
        let m = mark-holds p.place p.inside p.holds in
        inr (record { place = p.place; inside = p.inside; holds = m.0; id-is = p.id-is; value-is = m.1 ∙ p.value-is })

    mark-sound : (i : ℕ) → i < n → Holds (M i).status → ReachedAt i (value_of (M i).key)
    mark-sound =
        set-elim (λ i c. Holds c.status → ReachedAt i (value_of c.key)) (λ r. inv.right.sound j hj held-j) inv.right.sound

    mark-good : (i : ℕ) → i < n → Good size (K M) (E i) (M i)
    mark-good =
        set-elim (λ i c. Good size (K M) (E i) c)
        (good-mono size (K C) (K M) mark-mono (E j) Done (C j).key
        (subst (λ (s : Status). GoodBy size (K C) (E j) s (C j).key) pend (inv.right.good j hj)))
        (λ i h. good-mono size (K C) (K M) mark-mono (E i) (C i).status (C i).key (inv.right.good i h))

    mark-waits : (i : ℕ) → i < n → (M i).status ≡ Waiting → (C i).status ≡ Waiting
    mark-waits =
        set-elim (λ i c. c.status ≡ Waiting → (C i).status ≡ Waiting) (λ q. absurd (waits-done Done q refl)) (λ i h q. q)

    mark-done : (i : ℕ) → i < n → (M i).status ≡ Done → (i ≡ j) ⊎ ((C i).status ≡ Done)
    mark-done = set-elim (λ i c. c.status ≡ Done → (i ≡ j) ⊎ ((C i).status ≡ Done)) (λ q. inl refl) (λ i h q. inr q)

    mark-known : K M (E j).key_id (value_of (C j).key)
    mark-known = mark-mono _ _ (inr (record { place = j; inside = hj; holds = held-j; id-is = refl; value-is = refl }))

    known-j : K C (E j).key_id (value_of (C j).key)
    known-j = inr (record { place = j; inside = hj; holds = held-j; id-is = refl; value-is = refl })

    pub next-cell : Ahead rest M (E j).key_id (value_of (C j).key)
    next-cell =
        record {
          right = record { sound = mark-sound; good = mark-good };
          closed-roots = λ r m f ne i h q. inv.closed-roots r m f i h (mark-waits i h q);
          closed = λ i h d ne.
              ⊎_elim (λ e. absurd (ne (ap (λ (t : ℕ). (E t).key_id) e))) (λ b x y q. inv.closed i h b x y (mark-waits x y q))
              (mark-done i h d);
          known = mark-known;
          live = known-live C inv.right (E j).key_id (value_of (C j).key) known-j;
        }

  -- ---- the end: no root is left, and no cell is pending
  module _ (C : ℕ → Cell) (inv : Inv [] C) (last : (i : ℕ) → i < n → (C i).status ≡ Pending → ⊥)
      (fit : (i : ℕ) → i < n → (C i).status ≡ Wrong → ⊥) (one : (k : ℕ) (v w : List ℕ) → K C k v → K C k w → v ≡ w) where
    known-closed : (k : ℕ) (v : List ℕ) → K C k v → ClosedAt C k
    known-closed k v (inl p) i h q e =
        inv.closed-roots p.key p.stands (λ m. Memᴰ.not-nil (in-member p.key [] m)) i h q (e ∙ sym p.id-is)
    known-closed k v (inr p) i h q e =
        let at = p.place in
        inv.closed at p.inside (holds-done (C at).status p.holds (last at p.inside)) i h q (e ∙ sym p.id-is)

    -- an entry that opens under a known key opened, and to that
    pub known-opens : (i : ℕ) → i < n → (v x : List ℕ) → K C (E i).kwk_id v → Opens v (E i).wrapped x →
        Holds (C i).status × (value_of (C i).key ≡ x)
    known-opens i h v x kn o =
        good-known size (K C) (E i) v x (C i).status (C i).key (one (E i).kwk_id) kn (known-key C inv.right (E i).kwk_id v kn) o
        (λ s. known-closed (E i).kwk_id v kn i h s refl) (fit i h) (inv.right.good i h)

    pub chain-known : (p : List WrapKey) (k : ℕ) (v : List ℕ) → Chain roots entries size p k v → K C k v
    chain-known _ _ _ (root r m) = inl (record { key = r; stands = m; id-is = refl; value-is = refl })
    chain-known _ _ x (step {passed = p} {k = k} {v = v} e c t l) = stepped k v x e (chain-known p k v c) l
      where
        stepped : (k : ℕ) (v x : List ℕ) (e : WrapKey) → K C k v → Leads roots entries size k v e x → K C e.key_id x
        stepped k v x e kn l =
            let i = l.entry.place in
            let h = l.entry.inside in
            let q : E i ≡ e = get_d_any entries i no_wrap_key e h ∙ l.entry.is in
            let kwk : (E i).kwk_id ≡ k = ap (λ (a : WrapKey). a.kwk_id) q ∙ l.names in
            let kn2 : K C (E i).kwk_id v = subst (λ (a : ℕ). K C a v) (sym kwk) kn in
            let o : Opens v (E i).wrapped x = subst (λ (a : WrapKey). Opens v a.wrapped x) (sym q) l.opens in
            let g = known-opens i h v x kn2 o in
            inr (record { place = i; inside = h; holds = g.0; id-is = ap (λ (a : WrapKey). a.key_id) q; value-is = g.1 })
