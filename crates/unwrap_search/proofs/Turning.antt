-- The turns of a search from key 0 and from lent keys: which key is the next, and which roots are left.
use native.Mathlib.Omega.{arith}
use Prim.Native.Nat.{ℕ, ◌+◌, ◌-◌, ◌*◌, ◌≤◌, ◌<◌}
use mathlib.Core.Path.{◌≡◌, refl, ap, sym, ◌∙◌, subst}
use native.Mathlib.Numerals.{add-one}
use mathlib.Core.Bool.{true, false}
use mathlib.Core.Logic.{⊎_elim}
use mathlib.Core.List.{List, [], ◌∷◌, Memᴰ}
use lib.Dec.{T}
use lib.ListN.{length, drop, get_or, replicate, get_or-map}
use lib.Seq.{length-take-le}
use Rattle.octets.specs.Numbers.{oct}
use Rattle.octets.specs.Walk.{part}
use Rattle.octets.specs.Octets.{Octets}
use Rattle.octets.proofs.Octets.{take-octets, drop-octets}
use Rattle.fips197.specs.Key.{Key, is_key}
use Rattle.wire_attributes.specs.Tree.{WrapKey}
use Rattle.rules_chains.specs.Chain.{In, Root}
use Rattle.rules_chains.proofs.Members.{in-member, member-in}
use Rattle.state_keys.specs.Limits.{limits}
use Rattle.state_keys.specs.Algorithms.{is_wrapping_size}
use Rattle.state_keys.specs.Kinds.{value_of}
use Rattle.state_keys.specs.declared.kinds.WrappingKey.{WrappingKey}
use Rattle.state_keys.proofs.Sizes.{wrapping-le}
use Rattle.state.specs.Held.{blank_key, keys_of, held_formed}
use Rattle.state.specs.declared.held.HeldKey.{HeldKey}
use Rattle.state.specs.declared.held.Held.{Held}
use Rattle.unwrap_lending.specs.inner.Lending.{place_octets, Lends, LendsHeld}
use Rattle.unwrap_lending.proofs.HeldLaws.{held-formed, all-member, key-size}
use Rattle.unwrap_lending.proofs.Blocks.{ids-length, value-here}
use Rattle.unwrap_search.specs.declared.open.Entry.{Entry}
use Rattle.unwrap_search.specs.declared.open.Cell.{Cell}
use Rattle.unwrap_search.specs.inner.Entries.{Lists}
use Rattle.unwrap_search.specs.inner.Opened.{no_cell}
use Rattle.unwrap_search.specs.inner.Search.{AllTried, PendingAt, NonePending, Searched, KeyFrom, carried_by}
use Rattle.unwrap_search.specs.inner.Search.{root_of, held_roots, roots_with}
use Rattle.unwrap_search.proofs.Statuses.{get_d_any}
use Rattle.unwrap_search.proofs.Searching.{Kept, KeptAhead, is-key-size, started, tried, at-root, marked, at-cell, count_at, ended}
use Rattle.unwrap_search.proofs.Starting.{held-root, root-member, root-passed, root-first, root_none}
use Rattle.unwrap_search.proofs.RootsFitting.{root-cases, alike, apart}

part-octets : (s : List ℕ) (a e : ℕ) → Octets s → Octets (part s a e)
part-octets s a e o = take-octets (e - a) (drop a s) (drop-octets a s o)

module _ (v : List ℕ) (is : Key v) (l : List WrapKey) (held : Held) (ids block : List ℕ) (lends : LendsHeld held ids block)
    (small : Octets block) where
  abbrev pub keys : List HeldKey
  keys = keys_of held

  abbrev pub zero_root : Root
  zero_root = record { id = 0; value = v }

  abbrev pub roots : List Root
  roots = roots_with v l keys

  -- the roots that are left from place `from` on
  abbrev pub left : ℕ → List Root
  left from = held_roots l (drop from keys)

  -- ---- a held key's value is one of a key
  member-key : (k : HeldKey) → Memᴰ k keys → Key (value_of k.key)
  member-key k m =
      let i = member-in k keys m in
      let p = i.place in
      let e : get_or keys p blank_key ≡ k = get_d_any keys p blank_key k i.inside ∙ i.is in
      let s = key-size k (all-member k keys (held-formed held lends.formed) m) in
      let a = subst (λ (x : HeldKey). length x.key.octets ≡ 32) e (lends.lends.fit p i.inside).array in
      let w = wrapping-le k.key.count s in
      let n : length (value_of k.key) ≡ k.key.count = length-take-le k.key.count k.key.octets (omega arith) in
      let at = place_octets * p in
      let end = at + 1 + oct block at in
      let b : part block (at + 1) end ≡ value_of (get_or keys p blank_key).key =
      value-here keys ids block lends.lends p i.inside end refl in
      record {
        size = subst (λ (x : ℕ). T (is_key x)) (sym n) (is-key-size k.key.count s);
        small = subst Octets (b ∙ ap (λ (x : HeldKey). value_of x.key) e) (part-octets block (at + 1) end small);
      }

  pub root-keys : (r : Root) → In r roots → Key r.value
  root-keys r m =
      ⊎_elim (λ e. subst (λ (x : Root). Key x.value) (sym e) is)
      (λ d. let g = held-root l keys r d in subst (λ (x : Root). Key x.value) g.2 (member-key g.0 g.1))
      (root-cases v l keys r m)

  module _ (size : ℕ) (fit : T (is_key size)) where
    -- the roots from place `from` on are left, and key k, of value x, is the next
    abbrev pub Turn : ℕ → List Cell → ℕ → List ℕ → Type 0
    Turn from cells k x = KeptAhead roots root-keys l size fit (left from) cells k x

    abbrev pub Turned : ℕ → List Cell → Type 0
    Turned from cells = Kept roots root-keys l size fit (left from) cells

    pub first-turn : length l ≤ limits.wrap_keys → Turn 0 (replicate limits.wrap_keys no_cell) 0 v
    first-turn h =
        started roots root-keys l size fit zero_root (record { place = 0; inside = omega arith; is = refl }) (left 0)
        (λ s m f. ⊎_elim (λ e. ap (λ (x : Root). x.id) e) (λ d. absurd (f (member-in s (left 0) d))) (root-cases v l keys s m)) h

    count : length ids ≡ length keys
    count = ids-length keys ids block lends.lends

    same : (j : ℕ) → get_or ids j 0 ≡ (get_or keys j blank_key).id
    same j = ap (λ (x : List ℕ). get_or x j 0) lends.lends.ids-are ∙ get_or-map (λ (a : HeldKey). a.id) keys j blank_key

    module _ (i : ℕ) (h : i < length ids) (cells : List Cell) (kept : Turned i cells) where
      inside : i < length keys
      inside = let n = count in omega arith

      -- the key at place i, which an entry carries, is no root
      pub passed-turn : carried_by l (get_or ids i 0) ≡ true → Turned (i + 1) cells
      passed-turn e =
          subst (λ (x : List Root). Kept roots root-keys l size fit x cells)
          (root-passed l keys i inside (ap (carried_by l) (sym (same i)) ∙ e) ∙ ap left (sym (add-one i))) kept

      -- the key at place i, which no entry carries, is the next
      pub root-turn : carried_by l (get_or ids i 0) ≡ false → (made : WrappingKey) → KeyFrom (get_or keys i blank_key).key made →
          Turn (i + 1) cells (get_or ids i 0) (value_of made)
      root-turn e made k =
          let o = root_of (get_or keys i blank_key) in
          let d = ap (carried_by l) (sym (same i)) ∙ e in
          let m = root-member l keys i inside d in
          let a = at-root roots root-keys l size fit o (left (i + 1)) cells
          (member-in o roots (Memᴰ.tail m))
          (subst (λ (x : List Root). Kept roots root-keys l size fit x cells)
          (root-first l keys i inside d ∙ ap (λ (n : ℕ). o ∷ left n) (sym (add-one i))) kept) in
          subst (λ (x : List ℕ). Turn (i + 1) cells (get_or ids i 0) x) (sym k.value)
          (subst (λ (n : ℕ). Turn (i + 1) cells n (value_of (get_or keys i blank_key).key)) (sym (same i)) a)

    -- behind the last no root is left
    none_left : (cells : List Cell) → Turned (length ids) cells → Kept roots root-keys l size fit [] cells
    none_left cells kept =
        subst (λ (x : List Root). Kept roots root-keys l size fit x cells)
        (root_none l keys (length ids) (let n = count in omega arith)) kept

    pub all_found : (cells : List Cell) → Turned (length ids) cells → NonePending cells (length l) → Searched roots l size cells
    all_found cells kept last =
        ended roots root-keys l size fit cells (none_left cells kept) last (alike v l held lends.formed) (apart v l held lends.formed)

-- a lent key has the size of a wrapping key
pub held-sized : (held : Held) → held_formed limits held ≡ true → (i : ℕ) → i < length (keys_of held) →
    is_wrapping_size (get_or (keys_of held) i blank_key).key.count ≡ true
held-sized held e i h =
    let k = get_or (keys_of held) i blank_key in
    key-size k
    (all-member k (keys_of held) (held-formed held e)
    (in-member k (keys_of held) (record { place = i; inside = h; is = get_d_any (keys_of held) i k blank_key h })))

-- ---- the cells of a search, whatever entries and held list its arguments stand for
module _ (frame ids block : List ℕ) (places : List Entry) (lent : WrappingKey) where
  abbrev pub Listed : List WrapKey → Type 0
  Listed l = Lists frame places (length places) l

  -- the roots from place `from` on are left
  abbrev pub Keeps : ℕ → List Cell → Type 0
  Keeps from cells = (is : Key (value_of lent)) (l : List WrapKey) (held : Held) (lends : LendsHeld held ids block) (small : Octets block)
      (fit : T (is_key lent.count)) → Listed l → Turned (value_of lent) is l held ids block lends small lent.count fit from cells

  pub keeps-zero : (b : Cell) → b ≡ no_cell → (after : List Cell) →
      ((l : List WrapKey) → Listed l → AllTried 0 (value_of lent) lent.count l (replicate limits.wrap_keys b) after) → Keeps 0 after
  keeps-zero b e after t is l held lends small fit x =
      let f = first-turn (value_of lent) is l held ids block lends small lent.count fit
      (let z = x.count in let y = x.within in omega arith) in
      tried (roots (value_of lent) is l held ids block lends small) (root-keys (value_of lent) is l held ids block lends small) l
      lent.count fit (left (value_of lent) is l held ids block lends small 0) (replicate limits.wrap_keys no_cell) after 0
      (value_of lent) f
      (subst (λ (c : Cell). AllTried 0 (value_of lent) lent.count l (replicate limits.wrap_keys c) after) e (t l x))

  module _ (i : ℕ) (h : i < length ids) (cells : List Cell) (kept : Keeps i cells) where
    pub keeps-passed : ((l : List WrapKey) → Listed l → carried_by l (get_or ids i 0) ≡ true) → Keeps (i + 1) cells
    keeps-passed e is l held lends small fit x =
        passed-turn (value_of lent) is l held ids block lends small lent.count fit i h cells (kept is l held lends small fit x) (e l x)

    pub keeps-root : ((l : List WrapKey) → Listed l → carried_by l (get_or ids i 0) ≡ false) → (made : WrappingKey) →
        ((keys : List HeldKey) → Lends keys ids block → i < length keys →
        is_wrapping_size (get_or keys i blank_key).key.count ≡ true → KeyFrom (get_or keys i blank_key).key made) →
        (after : List Cell) →
        ((l : List WrapKey) → Listed l → AllTried (get_or ids i 0) (value_of made) lent.count l cells after) → Keeps (i + 1) after
    keeps-root e made from after t is l held lends small fit x =
        let n = ids-length (keys_of held) ids block lends.lends in
        let g : i < length (keys_of held) = omega arith in
        let k = from (keys_of held) lends.lends g (held-sized held lends.formed i g) in
        let a = root-turn (value_of lent) is l held ids block lends small lent.count fit i h cells (kept is l held lends small fit x)
        (e l x) made k in
        tried (roots (value_of lent) is l held ids block lends small) (root-keys (value_of lent) is l held ids block lends small) l
        lent.count fit (left (value_of lent) is l held ids block lends small (i + 1)) cells after (get_or ids i 0) (value_of made) a (t l x)

  module _ (from : ℕ) (cells : List Cell) (kept : Keeps from cells) (full : length cells ≡ limits.wrap_keys) (j : ℕ)
      (at : PendingAt cells (length places) j) where
    pub keeps-cell : (dE : Entry) (dC : Cell) (after : List Cell) →
        ((l : List WrapKey) → Listed l → AllTried (get_or places j dE).id (value_of (get_or cells j dC).key) lent.count l
        (marked cells j (get_or cells j dC).key) after) → Keeps from after
    keeps-cell dE dC after t is l held lends small fit x =
        let o = roots (value_of lent) is l held ids block lends small in
        let k = root-keys (value_of lent) is l held ids block lends small in
        let r = left (value_of lent) is l held ids block lends small from in
        tried o k l lent.count fit r (marked cells j (get_or cells j dC).key) after (get_or places j dE).id
        (value_of (get_or cells j dC).key)
        (at-cell o k l lent.count fit r frame places cells j x (kept is l held lends small fit x) at full dE dC)
        (t l x)

    pub keeps-count : (d : Cell) → Key (value_of lent) → (l : List WrapKey) (held : Held) → LendsHeld held ids block → Octets block →
        is_wrapping_size lent.count ≡ true → Listed l → is_wrapping_size (get_or cells j d).key.count ≡ true
    keeps-count d is l held lends small size x =
        let fit = is-key-size lent.count size in
        count_at (roots (value_of lent) is l held ids block lends small) (root-keys (value_of lent) is l held ids block lends small) l
        lent.count fit (left (value_of lent) is l held ids block lends small from) frame places cells j x
        (kept is l held lends small fit x) at full d size
