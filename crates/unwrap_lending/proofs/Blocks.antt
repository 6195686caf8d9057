-- What stands in the lent list of Key IDs and in the lent block, and what a search of them finds.
use native.Mathlib.Omega.{arith}
use Prim.Native.Nat.{ℕ, zero, suc, ◌+◌, ◌-◌, ◌*◌, ◌≤◌, ◌<◌}
use mathlib.Core.Path.{◌≡◌, refl, ap, sym, ◌∙◌}
use mathlib.Core.Bool.{true}
use mathlib.Core.Logic.{⊎_elim}
use mathlib.Core.List.{List, [], ◌∷◌, ◌++◌}
use borrow.Author.Tests.{eq-eqb, ne_eqb}
use lib.ListN.{length, take, drop, get_or, length-append, length-map, get_or-map, drop_of_length-le}
use lib.Seq.{drop-drop, drop_at, drop-cons, get_or-drop, take-append-le}
use Rattle.octets.specs.Numbers.{oct}
use Rattle.octets.specs.Walk.{part}
use Rattle.state_keys.specs.Kinds.{value_of}
use Rattle.state.specs.Held.{blank_key, without_key, key_with}
use Rattle.state.specs.declared.held.HeldKey.{HeldKey}
use Rattle.state_keys.specs.declared.kinds.WrappingKey.{WrappingKey}
use Rattle.state_keys.proofs.Sizes.{wrapping-le}
use Rattle.unwrap_lending.specs.inner.Lending.{key_octets, place_octets, lent_place, lent_block, FitsPlace, Lends}
use Rattle.unwrap_lending.specs.inner.Named.{FirstAt, value_named}
use Rattle.std.specs.Prelude.{Some}
use Rattle.state_keys.specs.Kinds.{key_or_blank}

pub fits-most : (k : WrappingKey) → FitsPlace k → k.count ≤ key_octets
fits-most k f = ⊎_elim (λ z. omega arith) (λ e. wrapping-le k.count e) f.size

-- ---- the block of some keys that fit their places
abbrev pub AllFit : List HeldKey → Type 0
AllFit l = (i : ℕ) → i < length l → FitsPlace (get_or l i blank_key).key

pub rest-fits : (k : HeldKey) (l : List HeldKey) → AllFit (k ∷ l) → AllFit l
rest-fits k l h i f = h (suc i) (omega arith)

length-block : (l : List HeldKey) → AllFit l → length (lent_block l) ≡ place_octets * length l
unfolding lent_block
length-block [] h = refl
length-block (k ∷ l) h =
    let g = (h 0 (omega arith)).array in
    let r = length-block l (rest-fits k l h) in
    let e = length-append k.key.octets (lent_block l) in
    omega arith

drop_block : (l : List HeldKey) (j : ℕ) → AllFit l → j ≤ length l → drop (place_octets * j) (lent_block l) ≡ lent_block (drop j l)
unfolding lent_block
drop_block l zero h g = refl
drop_block [] (suc j) h g = absurd (omega arith)
drop_block (k ∷ l) (suc j) h g =
    let p = lent_place k.key in
    let e : place_octets * suc j ≡ place_octets + place_octets * j = omega arith in
    let n = (h 0 (omega arith)).array in
    let m : length p ≡ place_octets = omega arith in
    ap (λ (n : ℕ). drop n (p ++ lent_block l)) e ∙ sym (drop-drop (place_octets * j) place_octets (p ++ lent_block l))
    ∙ ap (drop (place_octets * j)) (drop_at p (lent_block l) place_octets m) ∙ drop_block l j (rest-fits k l h) (omega arith)

-- ---- lent keys
module _ (keys : List HeldKey) (ids block : List ℕ) (lends : Lends keys ids block) where
  pub ids-length : length ids ≡ length keys
  ids-length = ap length lends.ids-are ∙ length-map keys (λ (k : HeldKey). k.id)

  block-length : length block ≡ place_octets * length keys
  block-length = ap length lends.block-is ∙ length-block keys lends.fit

  -- ---- one key
  module _ (i : ℕ) (g : i < length keys) where
    abbrev k : HeldKey
    k = get_or keys i blank_key

    id-at : get_or ids i 0 ≡ k.id
    id-at = ap (λ (l : List ℕ). get_or l i 0) lends.ids-are ∙ get_or-map (λ (a : HeldKey). a.id) keys i blank_key

    place_at : drop (place_octets * i) block ≡ lent_place k.key ++ lent_block (drop (suc i) keys)
    unfolding lent_block
    place_at =
        ap (drop (place_octets * i)) lends.block-is ∙ drop_block keys i lends.fit (omega arith)
        ∙ ap lent_block (drop-cons keys i blank_key g)

    count_at : oct block (place_octets * i) ≡ k.key.count
    count_at =
        let e : place_octets * i ≡ place_octets * i + 0 = omega arith in
        ap (oct block) e ∙ sym (get_or-drop (place_octets * i) block 0 0) ∙ ap (λ (l : List ℕ). oct l 0) place_at

    value-at : (e : ℕ) → e ≡ place_octets * i + 1 + k.key.count → part block (place_octets * i + 1) e ≡ value_of k.key
    value-at e q =
        let n : e - (place_octets * i + 1) ≡ k.key.count = omega arith in
        let f = lends.fit i g in
        let a = f.array in
        let m = fits-most k.key f in
        ap (λ (m : ℕ). take m (drop (place_octets * i + 1) block)) n
        ∙ ap (take k.key.count) (sym (drop-drop 1 (place_octets * i) block) ∙ ap (drop 1) place_at)
        ∙ take-append-le k.key.count k.key.octets (lent_block (drop (suc i) keys)) (omega arith)

    pub value-here : (e : ℕ) → e ≡ place_octets * i + 1 + oct block (place_octets * i) → part block (place_octets * i + 1) e ≡ value_of k.key
    value-here e q = let o = count_at in value-at e (omega arith)

  -- a key stands in the block
  pub inside-here : (r : ℕ) → r < length keys → place_octets * r + 1 + oct block (place_octets * r) ≤ length block
  inside-here r h =
      let b = block-length in
      let c = count_at r h in
      let m = fits-most _ (lends.fit r h) in
      omega arith

  -- ---- a search
  module _ (id r : ℕ) (f : FirstAt id ids r) where
    key-passed : (j : ℕ) → j < length keys → ((get_or keys j blank_key).id ≡ id → ⊥) → key_with id (drop j keys) ≡ key_with id (drop (suc j) keys)
    unfolding key_with
    key-passed j g ne = rw (drop-cons keys j blank_key g, ne_eqb (get_or keys j blank_key).id id ne)

    passed-keys : (j : ℕ) → j ≤ r → key_with id keys ≡ key_with id (drop j keys)
    passed-keys zero g = refl
    passed-keys (suc j) g =
        let n = ids-length in
        let m = f.most in
        let h : j < length keys = omega arith in
        passed-keys j (omega arith) ∙ key-passed j h (λ e. f.passed j (omega arith) (id-at j h ∙ e))

    key_here : (h : r < length keys) → (get_or keys r blank_key).id ≡ id → key_with id (drop r keys) ≡ Some (get_or keys r blank_key).key
    unfolding key_with
    key_here h e = rw (drop-cons keys r blank_key h, eq-eqb (get_or keys r blank_key).id id e)

    key-end : length keys ≤ r → key_with id (drop r keys) ≡ without_key
    unfolding key_with
    key-end h = rw (drop_of_length-le keys h)

    pub found-value : (g : r < length keys) → value_of (get_or keys r blank_key).key ≡ value_named id keys
    found-value h =
        let n = ids-length in
        let z : r < length ids = omega arith in
        ap (λ m. value_of (key_or_blank m)) (sym (passed-keys r (omega arith) ∙ key_here h (sym (id-at r h) ∙ f.here z)))

    pub no_value : length ids ≤ r → [] ≡ value_named id keys
    no_value g =
        let n = ids-length in
        ap (λ m. value_of (key_or_blank m)) (sym (passed-keys r (omega arith) ∙ key-end (omega arith)))
