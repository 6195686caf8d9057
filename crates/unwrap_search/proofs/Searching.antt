-- The search from key 0 and held keys: its start, a turn, its end, and that it ends.
use native.Mathlib.Omega.{arith}
use Prim.Native.Nat.{ℕ, zero, suc, ◌+◌, ◌≤◌, ◌<◌}
use mathlib.Core.Path.{◌≡◌, refl, ap, sym, ◌∙◌, subst}
use mathlib.Core.Bool.{true}
use mathlib.Core.Logic.{inl, inr, ⊎_elim}
use mathlib.Core.List.{List, [], ◌∷◌}
use lib.Dec.{T}
use lib.ListN.{length, take, get_or, set, replicate, get_or-replicate}
use lib.Seq.{get_or-set_same, get_or-set_other, get_or-take, length-take-le}
use Rattle.fips197.specs.Key.{Key, is_key}
use Rattle.wire_attributes.specs.Tree.{WrapKey}
use Rattle.state_keys.specs.Limits.{limits}
use Rattle.state_keys.specs.Algorithms.{is_wrapping_size}
use Rattle.state_keys.specs.declared.kinds.WrappingKey.{WrappingKey}
use Rattle.state_keys.proofs.Sizes.{wrapping-size, among-is}
use Rattle.rules_chains.specs.Chain.{In, Root, step, Reached}
use Rattle.rules_chains.proofs.Determined.{last_entry}
use Rattle.unwrap_search.specs.declared.open.Status.{Status}
use Rattle.unwrap_search.specs.declared.open.Status.TheVariants.{Waiting, Failed, Wrong, Pending, Done}
use Rattle.unwrap_search.specs.declared.open.Entry.{Entry}
use Rattle.unwrap_search.specs.declared.open.Cell.{Cell}
use Rattle.unwrap_search.specs.inner.Entries.{no_wrap_key, no_entry, Lists}
use Rattle.state_keys.specs.Kinds.{value_of}
use Rattle.unwrap_search.specs.inner.Opened.{no_cell, WrongSize}
use Rattle.unwrap_search.specs.inner.Search.{key_at, cell_at, AllTried, PendingAt, NonePending, Nonzero}
use Rattle.unwrap_search.specs.inner.Search.{Misfits, FoundIn, OneEach, Searched}
use Rattle.unwrap_search.proofs.Statuses.{Holds, GoodBy, holds-done, holds-good, get_d_any, eq-cases, tried-stays}
use Rattle.unwrap_search.proofs.Theory.{Inv, Ahead, K, Stands, begun, tried-all, next-root, next-cell, known-opens, chain-known}
use Rattle.unwrap_search.proofs.Theory.{known-live, in-at}

-- a size of the algorithm table is one of a key
pub is-key-size : (n : ℕ) → is_wrapping_size n ≡ true → T (is_key n)
unfolding is_key
is-key-size n e =
    ⊎_elim (λ p. subst (λ (k : ℕ). T (is_key k)) (sym p) tt)
    (⊎_elim (λ p. subst (λ (k : ℕ). T (is_key k)) (sym p) tt) (λ p. subst (λ (k : ℕ). T (is_key k)) (sym p) tt))
    (among-is 16 24 32 n (sym (wrapping-size n) ∙ e))

-- ---- the cells that are not done: the search's measure
abbrev pub undone_by : Status → ℕ
undone_by Waiting = 1
undone_by Failed = 1
undone_by Wrong = 1
undone_by Pending = 1
undone_by Done = 0

unfoldable pub undone : ℕ → (ℕ → Cell) → ℕ
undone zero C = 0
undone (suc n) C = undone_by (C n).status + undone n C

undone-most : (s : Status) → undone_by s ≤ 1
undone-most Waiting = omega arith
undone-most Failed = omega arith
undone-most Wrong = omega arith
undone-most Pending = omega arith
undone-most Done = omega arith

undone-one : (s t : Status) → (s ≡ Done → t ≡ Done) → undone_by t ≤ undone_by s
undone-one Waiting t f = undone-most t
undone-one Failed t f = undone-most t
undone-one Wrong t f = undone-most t
undone-one Pending t f = undone-most t
undone-one Done t f = subst (λ (u : Status). undone_by u ≤ 0) (sym (f refl)) (omega arith)

undone-le : (n : ℕ) (C D : ℕ → Cell) → ((i : ℕ) → i < n → (C i).status ≡ Done → (D i).status ≡ Done) → undone n D ≤ undone n C
unfolding undone
undone-le zero C D f = omega arith
undone-le (suc n) C D f =
    let a = undone-one (C n).status (D n).status (f n (omega arith)) in
    let b = undone-le n C D (λ i h. f i (omega arith)) in
    omega arith

undone-mark : (n : ℕ) (C M : ℕ → Cell) (j : ℕ) → j < n → (C j).status ≡ Pending → (M j).status ≡ Done →
    ((i : ℕ) → (i ≡ j → ⊥) → M i ≡ C i) → undone n M < undone n C
unfolding undone
undone-mark zero C M j h p q f = absurd (omega arith)
undone-mark (suc n) C M j h p q f =
    eq-cases n j
    (λ e.
    let a : undone_by (M n).status ≡ 0 = ap undone_by (ap (λ (t : ℕ). (M t).status) e ∙ q) in
    let b : undone_by (C n).status ≡ 1 = ap undone_by (ap (λ (t : ℕ). (C t).status) e ∙ p) in
    let c = undone-le n C M (λ i g d. ap (λ (t : Cell). t.status) (f i (λ z. omega arith)) ∙ d) in
    omega arith)
    (λ ne.
    let a : undone_by (M n).status ≡ undone_by (C n).status = ap (λ (t : Cell). undone_by t.status) (f n ne) in
    let b = undone-mark n C M j (let z : (n ≡ j → ⊥) = ne in omega arith) p q f in
    omega arith)

abbrev pub marked : List Cell → ℕ → WrappingKey → List Cell
marked cells j key = set cells j (record { status = Done; key = key })

-- a key that is tried leaves no more cells undone
fell-tried : (l : List WrapKey) (k : ℕ) (v : List ℕ) (size : ℕ) (cells after : List Cell) → AllTried k v size l cells after →
    undone (length l) (cell_at after) ≤ undone (length l) (cell_at cells)
fell-tried l k v size cells after t =
    undone-le (length l) (cell_at cells) (cell_at after)
    (λ i q e. ap (λ (c : Cell). c.status)
    (tried-stays k v size (key_at l i) (cell_at cells i) (cell_at after i) (subst Holds (sym e) tt) (t i q)) ∙ e)

-- a cell that is marked leaves one less
fell-marked : (n : ℕ) (cells : List Cell) (j : ℕ) (key : WrappingKey) → PendingAt cells n j → n ≤ length cells →
    undone n (cell_at (marked cells j key)) < undone n (cell_at cells)
fell-marked n cells j key at h =
    let d : Cell = record { status = Done; key = key } in
    let g : j < length cells = let z = at.inside in omega arith in
    let here : cell_at (marked cells j key) j ≡ d = get_or-set_same cells j d no_cell g in
    undone-mark n (cell_at cells) (cell_at (marked cells j key)) j at.inside at.pends (ap (λ (c : Cell). c.status) here)
    (λ i ne. get_or-set_other cells j i d no_cell ne)

-- a cell that is marked, and its key then tried, leave one less
pub fell-next : (l : List WrapKey) (n k : ℕ) (v : List ℕ) (size : ℕ) (cells after : List Cell) (j : ℕ) (key : WrappingKey) →
    length l ≡ n → PendingAt cells n j → n ≤ length cells → AllTried k v size l (marked cells j key) after →
    undone n (cell_at after) < undone n (cell_at cells)
fell-next l n k v size cells after j key e at h t =
    let a = fell-marked n cells j key at h in
    let b = subst (λ (m : ℕ). undone m (cell_at after) ≤ undone m (cell_at (marked cells j key))) e
    (fell-tried l k v size (marked cells j key) after t) in
    omega arith

pub places-most : (frame : List ℕ) (places : List Entry) (l : List WrapKey) → Lists frame places (length places) l →
    length places ≤ limits.wrap_keys
places-most frame places l x = x.within

-- ---- the first cells of some
pub pending-first : (cells : List Cell) (n j : ℕ) → n ≤ length cells → PendingAt (take n cells) (length (take n cells)) j → PendingAt cells n j
pending-first cells n j h at =
    let m = length-take-le n cells h in
    let g : j < n = let z = at.inside in omega arith in
    record { inside = g; pends = ap (λ (c : Cell). c.status) (sym (get_or-take n cells j no_cell g)) ∙ at.pends }

pub none-first : (cells : List Cell) (n : ℕ) → n ≤ length cells → NonePending (take n cells) (length (take n cells)) → NonePending cells n
none-first cells n h f j g e =
    let m = length-take-le n cells h in
    f j (omega arith) (ap (λ (c : Cell). c.status) (get_or-take n cells j no_cell g) ∙ e)

module _ (roots : List Root) (root-keys : (r : Root) → In r roots → Key r.value) (l : List WrapKey) (size : ℕ)
    (fit : T (is_key size)) where
  abbrev pub Kept : List Root → List Cell → Type 0
  Kept rest cells = Inv roots l size fit root-keys rest (cell_at cells)

  abbrev pub KeptAhead : List Root → List Cell → ℕ → List ℕ → Type 0
  KeptAhead rest cells k x = Ahead roots l size fit root-keys rest (cell_at cells) k x

  pub started : (r : Root) → In r roots → (rest : List Root) → ((s : Root) → In s roots → (In s rest → ⊥) → s.id ≡ r.id) →
      length l ≤ limits.wrap_keys → KeptAhead rest (replicate limits.wrap_keys no_cell) r.id r.value
  started r m rest only h =
      begun roots l size fit root-keys (cell_at (replicate limits.wrap_keys no_cell))
      (λ i g. ap (λ (c : Cell). c.status) (get_or-replicate limits.wrap_keys i no_cell no_cell (omega arith))) r m rest only

  pub tried : (rest : List Root) (cells after : List Cell) (k : ℕ) (x : List ℕ) → KeptAhead rest cells k x
      → AllTried k x size l cells after →
      Kept rest after
  tried rest cells after k x a t = tried-all roots l size fit root-keys rest (cell_at cells) (cell_at after) k x a t

  pub at-root : (r : Root) (rest : List Root) (cells : List Cell) → In r roots → Kept (r ∷ rest) cells
      → KeptAhead rest cells r.id r.value
  at-root r rest cells m inv = next-root roots l size fit root-keys (cell_at cells) r rest m inv

  -- the key of a pending cell is of a right size
  pub pending-count : (rest : List Root) (cells : List Cell) (j : ℕ) → Kept rest cells → PendingAt cells (length l) j →
      (cell_at cells j).key.count ≡ size
  pending-count rest cells j inv at =
      let c = cell_at cells j in
      let g = holds-good size (K roots l size fit root-keys (cell_at cells)) (key_at l j) c.status c.key
      (subst Holds (sym at.pends) tt)
      (inv.right.good j at.inside) in
      ap (λ (k : WrappingKey). k.count) g.2.is ∙ g.2.fits

  -- the pending cell that the code reads at j is the next
  module _ (rest : List Root) (frame : List ℕ) (places : List Entry) (cells : List Cell) (j : ℕ)
      (lists : Lists frame places (length places) l) (inv : Kept rest cells) (at : PendingAt cells (length places) j)
      (full : length cells ≡ limits.wrap_keys) where
    at_j : PendingAt cells (length l) j
    at_j = subst (λ (m : ℕ). PendingAt cells m j) (sym lists.count) at

    in_cells : j < length cells
    in_cells = let z = at.inside in let y = lists.within in omega arith

    pub count_at : (d : Cell) → is_wrapping_size size ≡ true → is_wrapping_size (get_or cells j d).key.count ≡ true
    count_at d e =
        ap is_wrapping_size (ap (λ (c : Cell). c.key.count) (get_d_any cells j d no_cell in_cells) ∙ pending-count rest cells j inv at_j) ∙ e

    pub at-cell : (dE : Entry) (dC : Cell) →
        KeptAhead rest (marked cells j (get_or cells j dC).key) (get_or places j dE).id (value_of (get_or cells j dC).key)
    at-cell dE dC =
        let g : j < length places = at.inside in
        let id : (key_at l j).key_id ≡ (get_or places j dE).id =
        sym (ap (λ (e : Entry). e.id) (get_d_any places j dE no_entry g) ∙ (lists.at j at.inside).id) in
        let c : cell_at cells j ≡ get_or cells j dC = sym (get_d_any cells j dC no_cell in_cells) in
        let d : Cell = record { status = Done; key = (cell_at cells j).key } in
        let m = marked cells j (cell_at cells j).key in
        let a = next-cell roots l size fit root-keys rest (cell_at cells) (cell_at m) inv j at_j.inside at.pends
        (get_or-set_same cells j d no_cell in_cells) (λ i ne. get_or-set_other cells j i d no_cell ne) in
        subst (λ (b : Cell). KeptAhead rest (marked cells j b.key) (get_or places j dE).id (value_of b.key)) c
        (subst (λ (k : ℕ). KeptAhead rest m k (value_of (cell_at cells j).key)) id a)

  -- ---- the end
  module _ (cells : List Cell) (inv : Kept [] cells) (last : NonePending cells (length l)) where
    abbrev Known : ℕ → List ℕ → Type 0
    Known = K roots l size fit root-keys (cell_at cells)

    wrong-at : (i : ℕ) → i < length l → (a : List ℕ) × Known (key_at l i).kwk_id a × WrongSize a size (key_at l i).wrapped →
        Misfits roots l size (key_at l i)
    wrong-at i h g =
        let live = known-live roots l size fit root-keys (cell_at cells) inv.right (key_at l i).kwk_id g.0 g.1 in
        record {
          x = g.2.x;
          passed = live.passed;
          chain = step (key_at l i) live.chain live.goes_on
              (record { entry = in-at roots l size fit root-keys i h; names = refl; opens = g.2.opens });
          misfit = g.2.misfit;
        }

    done_at : (k : ℕ) (x : List ℕ) → Stands roots l size fit root-keys (cell_at cells) k x → FoundIn roots l size cells k x
    done_at k x p =
        record {
          place = p.place;
          inside = p.inside;
          done = holds-done (cell_at cells p.place).status p.holds (last p.place p.inside);
          id-is = p.id-is;
          value-is = p.value-is;
        }

    -- roots have one value each, and no entry carries one
    module _ (alike : (r s : Root) → In r roots → In s roots → r.id ≡ s.id → r.value ≡ s.value)
        (apart : Nonzero l → (r : Root) → In r roots → (i : ℕ) → i < length l → (key_at l i).key_id ≡ r.id → ⊥) where
      module _ (nonzero : Nonzero l) (one : OneEach roots l size cells) where
        known-one : (k : ℕ) (a b : List ℕ) → Known k a → Known k b → a ≡ b
        known-one k a b (inl p) (inl q) =
            sym p.value-is ∙ alike p.key q.key p.stands q.stands (p.id-is ∙ sym q.id-is) ∙ q.value-is
        known-one k a b (inl p) (inr q) =
            absurd (apart nonzero p.key p.stands q.place q.inside (q.id-is ∙ sym p.id-is))
        known-one k a b (inr p) (inl q) =
            absurd (apart nonzero q.key q.stands p.place p.inside (p.id-is ∙ sym q.id-is))
        known-one k a b (inr p) (inr q) = one k a b (done_at k a p) (done_at k b q)

        known-found : (k : ℕ) (x : List ℕ) → Reached roots l size k x → Known k x → FoundIn roots l size cells k x
        known-found k x r (inr p) = done_at k x p
        known-found k x r (inl p) =
            let e = last_entry roots l size k x r in
            let q : key_at l e.0.place ≡ r.last = get_d_any l e.0.place no_wrap_key r.last e.0.inside ∙ e.0.is in
            absurd
            (apart nonzero p.key p.stands e.0.place e.0.inside (ap (λ (a : WrapKey). a.key_id) q ∙ e.1 ∙ sym p.id-is))

      pub ended : Searched roots l size cells
      ended =
          record {
            gives = λ i h d.
                let t : Holds (cell_at cells i).status = subst Holds (sym d) tt in
                let s = inv.right.sound i h t in
                let g = holds-good size Known (key_at l i) (cell_at cells i).status (cell_at cells i).key t (inv.right.good i h) in
                record { passed = s.0; chain = s.1; fits = g.2.fits; is = g.2.is };
            misfits = λ i h w.
                wrong-at i h (subst (λ (s : Status). GoodBy size Known (key_at l i) s (cell_at cells i).key) w (inv.right.good i h));
            complete = λ nonzero fits one k x r.
                known-found nonzero one k x r
                (chain-known roots l size fit root-keys (cell_at cells) inv last fits (known-one nonzero one) (r.last ∷ r.before) k x
                r.chain);
            opened = λ nonzero fits one i h a x e o.
                let u = known-one nonzero one in
                let kn = chain-known roots l size fit root-keys (cell_at cells) inv last fits u e.passed (key_at l i).kwk_id a
                e.chain in
                let g = known-opens roots l size fit root-keys (cell_at cells) inv last fits u i h a x kn o in
                holds-done (cell_at cells i).status g.0 (last i h);
          }
