-- The lent list of Key IDs and the lent block as they are made, one key after the other.
use native.Mathlib.Omega.{arith}
use native.Mathlib.Numerals.{add-one}
use Prim.Native.Nat.{ℕ, ◌+◌, ◌*◌, ◌≤◌, ◌<◌}
use mathlib.Core.Path.{◌≡◌, refl, ap, sym, ◌∙◌, subst}
use mathlib.Core.Bool.{true}
use mathlib.Core.Logic.{◌⊎◌, inr}
use mathlib.Core.List.{List, [], ◌∷◌, ◌++◌, append-nil, append_assoc}
use lib.ListN.{length, take, drop, get_or, set, length-append, length-drop, length-set, length-map, get_or-map}
use lib.Seq.{take_all, get_or-take, length-take-le, take_at, take-suc, take-suc-set}
use Rattle.state_keys.specs.Algorithms.{is_wrapping_size}
use Rattle.state_keys.specs.Limits.{limits}
use Rattle.lists.proofs.Cases.{lt-cases}
use Rattle.state.specs.Held.{blank_key, keys_of, ids_of, held_formed, held_key}
use Rattle.state.proofs.Laws.{key_in}
use Rattle.state.specs.declared.held.HeldKey.{HeldKey}
use Rattle.state.specs.declared.held.Held.{Held}
use Rattle.unwrap_lending.specs.inner.Lending.{key_octets, place_octets, lent_place, lent_block, FitsPlace, Rooms, LendsFirst, Puts}
use Rattle.unwrap_lending.specs.inner.Lending.{named_keys, LendsNamed}
use Rattle.unwrap_lending.proofs.HeldLaws.{get_d_any, held-within, held-formed, found-sized}
use Rattle.std.specs.Prelude.{Option}
use Rattle.state_keys.specs.Kinds.{key_or_blank}
use Rattle.state_keys.specs.declared.kinds.WrappingKey.{WrappingKey}

-- ---- a count and the octets of an array put into a place
put-length : (s o : List ℕ) (at c : ℕ) → at + place_octets ≤ length s → length o ≡ key_octets →
    length (take at s ++ ((c ∷ o) ++ drop (at + place_octets) s)) ≡ length s
put-length s o at c h e =
    let t = length-take-le at s (omega arith) in
    let d = length-drop (at + place_octets) s in
    let a = length-append o (drop (at + place_octets) s) in
    length-append (take at s) ((c ∷ o) ++ drop (at + place_octets) s) ∙ omega arith

-- ---- the first places are those of the first keys
pub record Placed (keys : List HeldKey) (block : List ℕ) (i : ℕ) : Type 0 where
  pub block-length : length block ≡ place_octets * limits.held_keys
  pub fit : (j : ℕ) → j < i → FitsPlace (get_or keys j blank_key).key
  pub block-is : take (place_octets * i) block ≡ lent_block (take i keys)

-- and so are the Key IDs
pub record LentUpTo (keys : List HeldKey) (ids block : List ℕ) (i : ℕ) : Type 0 where
  pub rooms : Rooms ids block
  pub placed : Placed keys block i
  pub ids-are : take i ids ≡ ids_of (take i keys)

pub placed-none : (keys : List HeldKey) (block : List ℕ) → length block ≡ place_octets * limits.held_keys → Placed keys block 0
unfolding lent_block
placed-none keys block e = record { block-length = e; fit = λ j h. absurd (omega arith); block-is = refl }

pub filled_none : (keys : List HeldKey) (ids block : List ℕ) → Rooms ids block → LentUpTo keys ids block 0
filled_none keys ids block e = record { rooms = e; placed = placed-none keys block e.block-length; ids-are = refl }

block_more : (l : List HeldKey) (k : HeldKey) → lent_block (l ++ (k ∷ [])) ≡ lent_block l ++ lent_place k.key
unfolding lent_block
block_more [] k = append-nil (lent_place k.key)
block_more (a ∷ l) k =
    ap (λ (x : List ℕ). lent_place a.key ++ x) (block_more l k)
    ∙ sym (append_assoc (lent_place a.key) (lent_block l) (lent_place k.key))

ids_more : (l : List HeldKey) (k : HeldKey) → ids_of (l ++ (k ∷ [])) ≡ ids_of l ++ (k.id ∷ [])
ids_more [] k = refl
ids_more (a ∷ l) k = ap (λ (x : List ℕ). a.id ∷ x) (ids_more l k)

next_keys : (keys : List HeldKey) (i : ℕ) (k : HeldKey) → i < length keys → get_or keys i blank_key ≡ k →
    take (i + 1) keys ≡ take i keys ++ (k ∷ [])
next_keys keys i k h is =
    ap (λ (n : ℕ). take n keys) (add-one i) ∙ take-suc keys i blank_key h ∙ ap (λ (a : HeldKey). take i keys ++ (a ∷ [])) is

module _ (keys : List HeldKey) (block : List ℕ) (i : ℕ) (m : Placed keys block i) (h : i < length keys) (f : i < limits.held_keys)
    (k : HeldKey) (is : get_or keys i blank_key ≡ k) (sized : (k.key.count ≡ 0) ⊎ (is_wrapping_size k.key.count ≡ true)) where
  pub placed-more : (out : List ℕ) → Puts k.key (place_octets * i) block out → Placed keys out (i + 1)
  placed-more out p =
      let b = m.block-length in
      let size = p.array in
      let o = lent_place k.key in
      let q : length o ≡ place_octets = omega arith in
      let t = take (place_octets * i) block in
      let u = drop (place_octets * i + place_octets) block in
      let l : length t ≡ place_octets * i = length-take-le (place_octets * i) block (omega arith) in
      let w : length (t ++ o) ≡ place_octets * (i + 1) = length-append t o ∙ omega arith in
      record {
        block-length = ap length p.is ∙ put-length block k.key.octets (place_octets * i) k.key.count (omega arith) size ∙ b;
        fit = λ j g.
            lt-cases j i (m.fit j)
            (λ z. let e : i ≡ j = omega arith in
            subst (λ (x : ℕ). FitsPlace (get_or keys x blank_key).key) e
            (subst (λ (x : HeldKey). FitsPlace x.key) (sym is) (record { array = size; size = sized })));
        block-is =
            ap (take (place_octets * (i + 1))) (p.is ∙ sym (append_assoc t o u)) ∙ take_at (t ++ o) u (place_octets * (i + 1)) w
            ∙ ap (λ (x : List ℕ). x ++ o) m.block-is ∙ sym (block_more (take i keys) k) ∙ ap lent_block (sym (next_keys keys i k h is));
      }

pub filled_more : (keys : List HeldKey) (ids block : List ℕ) (i : ℕ) → LentUpTo keys ids block i → i < length keys → i < limits.held_keys →
    (k : HeldKey) → get_or keys i blank_key ≡ k → is_wrapping_size k.key.count ≡ true → (out : List ℕ) →
    Puts k.key (place_octets * i) block out → LentUpTo keys (set ids i k.id) out (i + 1)
filled_more keys ids block i m h f k is sized out p =
    let n = m.rooms.ids-length in
    let q = placed-more keys block i m.placed h f k is (inr sized) out p in
    record {
      rooms = record { ids-length = length-set ids i k.id ∙ n; block-length = q.block-length };
      placed = q;
      ids-are =
          ap (λ (n : ℕ). take n (set ids i k.id)) (add-one i) ∙ take-suc-set ids i k.id (omega arith)
          ∙ ap (λ (x : List ℕ). x ++ (k.id ∷ [])) m.ids-are ∙ sym (ids_more (take i keys) k)
          ∙ ap ids_of (sym (next_keys keys i k h is));
    }

-- ---- a key for each of some Key IDs
module _ (reached : Held) (formed : held_formed limits reached ≡ true) (ids : List ℕ) where
  pub named-sized : (i : ℕ) → ((key_or_blank (held_key limits i reached)).count ≡ 0) ⊎ (is_wrapping_size (key_or_blank (held_key limits i reached)).count ≡ true)
  named-sized i =
      subst (λ (m : Option WrappingKey). ((key_or_blank m).count ≡ 0) ⊎ (is_wrapping_size (key_or_blank m).count ≡ true))
      (sym (key_in limits reached i (held-within reached formed))) (found-sized i (keys_of reached) (held-formed reached formed))

  pub named_count : length (named_keys reached ids) ≡ length ids
  named_count = length-map {A = ℕ} {B = HeldKey} ids (λ (j : ℕ). record { id = j; key = key_or_blank (held_key limits j reached) })

  named-at : (i : ℕ) → i < length ids → get_or (named_keys reached ids) i blank_key ≡ record {
    id = get_or ids i 0;
    key = key_or_blank (held_key limits (get_or ids i 0) reached);
  }
  named-at i h =
      let n = named_count in
      get_d_any (named_keys reached ids) i blank_key (record { id = 0; key = key_or_blank (held_key limits 0 reached) }) (omega arith)
      ∙ get_or-map (λ (j : ℕ). record { id = j; key = key_or_blank (held_key limits j reached) }) ids i 0

  pub named_more : (block : List ℕ) (i : ℕ) → Placed (named_keys reached ids) block i → i < length ids → i < limits.held_keys →
      (key : WrappingKey) → key ≡ key_or_blank (held_key limits (get_or ids i 0) reached) → (out : List ℕ) →
      Puts key (place_octets * i) block out → Placed (named_keys reached ids) out (i + 1)
  named_more block i m h f key e out p =
      let n = named_count in
      placed-more (named_keys reached ids) block i m (omega arith) f
      (record { id = get_or ids i 0; key = key_or_blank (held_key limits (get_or ids i 0) reached) }) (named-at i h) (named-sized (get_or ids i 0)) out
      (subst (λ (x : WrappingKey). Puts x (place_octets * i) block out) e p)

  named-ids : (l : List ℕ) → l ≡ ids_of (named_keys reached l)
  named-ids [] = refl
  named-ids (i ∷ l) = ap (λ (x : List ℕ). i ∷ x) (named-ids l)

  pub named-all : (block : List ℕ) (i : ℕ) → length ids ≤ i → i ≤ length ids → Placed (named_keys reached ids) block i →
      LendsNamed reached ids block
  named-all block i g h m =
      let e : i ≡ length ids = omega arith in
      let o = subst (Placed (named_keys reached ids) block) e m in
      let n = named_count in
      record {
        lends = record {
          fit = λ j f. o.fit j (omega arith);
          ids-are = named-ids ids;
          block-is = o.block-is
              ∙ ap lent_block (take_all (length ids) (named_keys reached ids) (omega arith));
        };
        block-length = o.block-length;
      }

module _ (held : Held) (ids block : List ℕ) where
  pub filled-all : (i : ℕ) → held_formed limits held ≡ true → held.count ≤ length held.keys → held.count ≤ limits.held_keys →
      held.count ≤ i → i ≤ held.count → LentUpTo held.keys ids block i → LendsFirst held ids block
  filled-all i formed places most g h m =
      let e : i ≡ held.count = omega arith in
      let o = subst (LentUpTo held.keys ids block) e m in
      let n = length-take-le held.count held.keys places in
      record {
        lends = record {
          formed = formed;
          lends = record {
            fit = λ j f.
                let z : j < held.count = omega arith in
                subst (λ (k : HeldKey). FitsPlace k.key) (sym (get_or-take held.count held.keys j blank_key z)) (o.placed.fit j z);
            ids-are = o.ids-are;
            block-is = o.placed.block-is;
          };
        };
        rooms = o.rooms;
        most = most;
      }

  -- ---- the parts of the room that are lent
  module _ (f : LendsFirst held ids block) where
    pub ids-there : held.count ≤ length ids
    ids-there = let e = f.rooms.ids-length in let h = f.most in omega arith

    pub ids-count : held.count ≡ length (take held.count ids)
    ids-count = sym (length-take-le held.count ids ids-there)

    pub block-there : place_octets * held.count ≤ length block
    block-there = let e = f.rooms.block-length in let h = f.most in omega arith

    pub block-count : place_octets * held.count ≡ length (take (place_octets * held.count) block)
    block-count = sym (length-take-le (place_octets * held.count) block block-there)
