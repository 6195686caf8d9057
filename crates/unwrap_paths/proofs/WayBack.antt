-- The loop of the way back.
use native.Mathlib.Omega.{arith}
use Prim.Native.Nat.{ℕ, zero, suc, ◌+◌, ◌-◌, ◌≤◌, ◌<◌}
use mathlib.Core.Path.{◌≡◌, refl, ap, sym, ◌∙◌, subst}
use mathlib.Core.Bool.{Bool, true}
use mathlib.Core.List.{List, [], ◌∷◌, ◌++◌, append-nil}
use lib.ListN.{length, take, set}
use lib.Seq.{get_or-set_same, get_or-set_other}
use borrow.Author.Count.{below_more}
use Rattle.lists.proofs.Cases.{bool_cases}
use Rattle.octets.specs.Numbers.{oct}
use Rattle.unwrap_paths.specs.inner.Levels.{Walk, starts, goes, WalkOf, Levelled, at-root, back, ReadOff, Distance}
use Rattle.unwrap_paths.specs.inner.Code.{PickedAt}

module _ (n : ℕ) (id kwk : ℕ → ℕ) (opened : ℕ → Bool) (is_root : ℕ → Bool) (L : ℕ → ℕ) (is : Levelled n id kwk opened is_root L) where
  abbrev W : List ℕ → ℕ → Type 0
  W = Walk n id kwk opened is_root

  -- a walk that ends with the entry at i goes on from one to the key that it names
  record Before (i l : ℕ) : Type 0 where
    was-opened : opened i ≡ true
    places : List ℕ
    walk : W places (kwk i)
    is-length : suc (length places) ≡ l

  before : (i : ℕ) → i < n → 0 < L i → Before i (L i)
  before i h g = by (is.shortest i h g)
    where
      by : WalkOf n id kwk opened is_root i (L i) → Before i (L i)
      by w = take-apart w.before w.walk w.is
        where
          take-apart : (p : List ℕ) → W (i ∷ p) (id i) → suc (length p) ≡ L i → Before i (L i)
          take-apart p (goes _ h o e v) q = record { was-opened = o; places = p; walk = v; is-length = q }

  -- ---- from an entry of level suc d to the key that it names
  module _ (i d : ℕ) (h : i < n) (l : L i ≡ suc d) where
    b : Before i (L i)
    b = before i h (omega arith)

    root-least : is_root (kwk i) ≡ true → d ≡ 0
    unfolding b
    root-least r =
        let m = (is.least i (id i) [] (goes i h b.was-opened refl (starts (kwk i) r))).1 in omega arith

    below : (j : ℕ) → j < n → id j ≡ kwk i → 0 < L j → d ≤ L j
    unfolding b
    below j g e s =
        let w = is.shortest j g s in
        let m = (is.least i (id i) (j ∷ w.before) (goes i h b.was-opened refl (subst (W (j ∷ w.before)) e w.walk))).1 in
        let q = w.is in omega arith

    zero-root : d ≡ 0 → is_root (kwk i) ≡ true
    unfolding b
    zero-root z = by b.places b.walk b.is-length
      where
        by : (p : List ℕ) → W p (kwk i) → suc (length p) ≡ L i → is_root (kwk i) ≡ true
        by [] (starts _ r) q = r
        by (j ∷ p) w q = absurd (omega arith)

    found : 0 < d → (j : ℕ) × (j < n) × (id j ≡ kwk i) × (L j ≡ d)
    unfolding b
    found g = by b.places b.walk b.is-length
      where
        by : (p : List ℕ) → W p (kwk i) → suc (length p) ≡ L i → (j : ℕ) × (j < n) × (id j ≡ kwk i) × (L j ≡ d)
        by [] w q = absurd (omega arith)
        by (j ∷ p) (goes _ a o e w) q =
            let m = is.least j (kwk i) p (goes j a o e w) in
            let s = below j a e m.0 in
            let y = m.1 in (j, a, e, omega arith)

    pub next-distance : Distance n id is_root L (kwk i) d
    next-distance =
        record {
          root = zero-root;
          not_root = λ g. bool_cases (is_root (kwk i)) (λ r. let z = root-least r in absurd (omega arith)) (λ r. r);
          some = found;
          least = λ g. below;
        }

  -- ---- what is read off further back is read off from here
  pub one-back : (k d i : ℕ) → Distance n id is_root L k (suc d) → i < n → id i ≡ k → L i ≡ suc d →
      ((j : ℕ) → j < n → id j ≡ k → L j ≡ suc d → kwk i ≤ kwk j) → (p : List ℕ) → ReadOff n id kwk opened is_root L (kwk i) d p →
      ReadOff n id kwk opened is_root L k (suc d) (i ∷ p)
  one-back k d i f h e l low p r =
      record {
        trail = kwk i ∷ r.trail;
        best = back i h e (f.not_root (omega arith)) l (before i h (omega arith)).was-opened (f.least (omega arith)) low r.best;
      }

-- ---- the loop, over lists
-- each place is inside
pub inside-next : (n : ℕ) (places : List ℕ) (count i : ℕ) → count < length places → i < n → ((k : ℕ) → k < count → oct places k < n) →
    (k : ℕ) → k < count + 1 → oct (set places count i) k < n
inside-next n places count i h g f =
    below_more (λ k. oct (set places count i) k < n) count
    (λ k b. subst (λ (x : ℕ). x < n) (sym (get_or-set_other places count k i 0 (λ q. let z : k < count = b in omega arith))) (f k b))
    (subst (λ (x : ℕ). x < n) (sym (get_or-set_same places count i 0 h)) g)

module _ (n : ℕ) (ids kwks lv : List ℕ) (k₀ d₀ : ℕ) where
  -- what the places so far make of a path from here on
  pub record Way (places : List ℕ) (count at left : ℕ) (opened is_root : ℕ → Bool) : Type 0 where
    pub distance : Distance n (oct ids) is_root (oct lv) at left
    pub rest : (p : List ℕ) → ReadOff n (oct ids) (oct kwks) opened is_root (oct lv) at left p →
        ReadOff n (oct ids) (oct kwks) opened is_root (oct lv) k₀ d₀ (take count places ++ p)

  abbrev pub Ways : List ℕ → ℕ → ℕ → ℕ → Type 0
  Ways places count at left =
      (opened is_root : ℕ → Bool) → Levelled n (oct ids) (oct kwks) opened is_root (oct lv) →
      Distance n (oct ids) is_root (oct lv) k₀ d₀ → Way places count at left opened is_root

  pub way-start : (places : List ℕ) → Ways places 0 k₀ d₀
  way-start places opened is_root is d = record { distance = d; rest = λ p r. r }

  pub way_next : (places : List ℕ) (count at left i : ℕ) → count < length places → 0 < left → PickedAt n ids kwks lv at left i →
      Ways places count at left → Ways (set places count i) (count + 1) (oct kwks i) (left - 1)
  way_next places count at left i h g f w opened is_root is d =
      let x = w opened is_root is d in
      let e : left ≡ suc (left - 1) = omega arith in
      let l : oct lv i ≡ suc (left - 1) = f.level-is ∙ e in
      record {
        distance = next-distance n (oct ids) (oct kwks) opened is_root (oct lv) is i (left - 1) f.inside l;
        rest = λ p r.
            let o = one-back n (oct ids) (oct kwks) opened is_root (oct lv) is at (left - 1) i
            (subst (Distance n (oct ids) is_root (oct lv) at) e x.distance) f.inside f.id-is l
            (λ j a b c. f.lowest j a b (c ∙ sym e)) p r in
            subst (ReadOff n (oct ids) (oct kwks) opened is_root (oct lv) k₀ d₀) (sym (more places count i h p))
            (x.rest (i ∷ p) (subst (λ (m : ℕ). ReadOff n (oct ids) (oct kwks) opened is_root (oct lv) at m (i ∷ p)) (sym e) o));
      }
    where
      more : (l : List ℕ) (k x : ℕ) → k < length l → (rest : List ℕ) → take (k + 1) (set l k x) ++ rest ≡ take k l ++ (x ∷ rest)
      more l k x h rest = subst (λ (m : ℕ). take m (set l k x) ++ rest ≡ take k l ++ (x ∷ rest)) (let z : suc k ≡ k + 1 = omega arith in z)
          (go l k x h rest)
        where
          go : (l : List ℕ) (k x : ℕ) → k < length l → (rest : List ℕ) → take (suc k) (set l k x) ++ rest ≡ take k l ++ (x ∷ rest)
          go [] k x h rest = absurd (omega arith)
          go (a ∷ l) zero x h rest = refl
          go (a ∷ l) (suc k) x h rest = ap (λ (m : List ℕ). a ∷ m) (go l k x (omega arith) rest)

  -- ---- the end, and what never comes
  pub way_end : (places : List ℕ) (count at left : ℕ) → left ≤ 0 → Ways places count at left → (opened is_root : ℕ → Bool) →
      Levelled n (oct ids) (oct kwks) opened is_root (oct lv) → Distance n (oct ids) is_root (oct lv) k₀ d₀ →
      ReadOff n (oct ids) (oct kwks) opened is_root (oct lv) k₀ d₀ (take count places)
  way_end places count at left h w opened is_root is d =
      let x = w opened is_root is d in
      let z : left ≡ 0 = omega arith in
      let o : ReadOff n (oct ids) (oct kwks) opened is_root (oct lv) at 0 [] =
      record { trail = []; best = at-root at (x.distance.root z) } in
      subst (ReadOff n (oct ids) (oct kwks) opened is_root (oct lv) k₀ d₀) (append-nil (take count places))
      (x.rest [] (subst (λ (m : ℕ). ReadOff n (oct ids) (oct kwks) opened is_root (oct lv) at m []) (sym z) o))

  pub way_never : (places : List ℕ) (count at left : ℕ) → 0 < left →
      ((j : ℕ) → j < n → oct ids j ≡ at → oct lv j ≡ left → ⊥) → Ways places count at left → (opened is_root : ℕ → Bool) →
      Levelled n (oct ids) (oct kwks) opened is_root (oct lv) → Distance n (oct ids) is_root (oct lv) k₀ d₀ →
      ReadOff n (oct ids) (oct kwks) opened is_root (oct lv) k₀ d₀ (take count places)
  way_never places count at left h none w opened is_root is d =
      let s = (w opened is_root is d).distance.some h in absurd (none s.0 s.1 s.2 s.3)
