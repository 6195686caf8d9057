-- Breadth first: each turn keeps what the levels say, and at the end they are those of the shortest walks.
use native.Mathlib.Omega.{arith}
use Prim.Native.Nat.{ℕ, suc, ◌≤◌, ◌<◌}
use mathlib.Core.Path.{◌≡◌, refl, ap, sym, ◌∙◌, subst}
use mathlib.Core.Bool.{Bool, true, false, false≢true}
use mathlib.Core.Logic.{◌⊎◌, inl, inr, ⊎_elim}
use mathlib.Core.List.{List, [], ◌∷◌}
use lib.ListN.{length}
use Rattle.unwrap_search.proofs.Statuses.{eq-cases}
use Rattle.unwrap_paths.specs.inner.Levels.{Walk, starts, goes, WalkOf, Levelling, Next, set, stays, Lowest, Levelled}

module _ (n : ℕ) (id kwk : ℕ → ℕ) (opened : ℕ → Bool) (is_root : ℕ → Bool) where
  -- ---- a turn
  module _ (L : ℕ → ℕ) (S : ℕ → Bool) (inv : Levelling n id kwk opened is_root L S) (j : ℕ) (low : Lowest n id kwk opened is_root L S j)
      (M : ℕ → ℕ) (R : ℕ → Bool) (next : (i : ℕ) → i < n → Next n id kwk opened is_root L j i (M i))
      (here : R j ≡ true) (other : (i : ℕ) → (i ≡ j → ⊥) → R i ≡ S i) where
    -- a level that is set stays
    kept : (i : ℕ) → i < n → 0 < L i → M i ≡ L i
    kept i h g = by (next i h)
      where
        by : Next n id kwk opened is_root L j i (M i) → M i ≡ L i
        by (set z o e q) = absurd (omega arith)
        by (stays f q) = q

    -- what a level is after the turn
    by_next : (i : ℕ) → i < n → (P : ℕ → Type 0) → (L i ≡ 0 → opened i ≡ true → kwk i ≡ id j → P (suc (L j))) →
        ((L i ≡ 0 → opened i ≡ true → kwk i ≡ id j → ⊥) → P (L i)) → P (M i)
    by_next i h P f g = by (next i h)
      where
        by : Next n id kwk opened is_root L j i (M i) → P (M i)
        by (set z o e q) = subst P (sym q) (f z o e)
        by (stays s q) = subst P (sym q) (g s)

    was : (i : ℕ) → R i ≡ true → (i ≡ j) ⊎ (S i ≡ true)
    was i r = eq-cases i j inl (λ f. inr (sym (other i f) ∙ r))

    stays_open : (i : ℕ) → R i ≡ false → S i ≡ false
    stays_open i r = sym (other i (λ e. false≢true (sym r ∙ (ap R e ∙ here)))) ∙ r

    still : (i : ℕ) → S i ≡ true → R i ≡ true
    still i r = eq-cases i j (λ e. ap R e ∙ here) (λ f. other i f ∙ r)

    j-kept : M j ≡ L j
    j-kept = kept j low.inside low.some

    turn-sound : (i : ℕ) → i < n → 0 < M i → WalkOf n id kwk opened is_root i (M i)
    turn-sound i h =
        by_next i h (λ (l : ℕ). 0 < l → WalkOf n id kwk opened is_root i l)
        (λ z o e g.
        let w = inv.sound j low.inside low.some in
        record {
          before = j ∷ w.before;
          walk = goes i h o refl (subst (Walk n id kwk opened is_root (j ∷ w.before)) (sym e) w.walk);
          is = ap suc w.is;
        })
        (λ f. inv.sound i h)

    turn-rooted : (i : ℕ) → i < n → opened i ≡ true → is_root (kwk i) ≡ true → M i ≡ 1
    turn-rooted i h o r = let e = inv.rooted i h o r in kept i h (omega arith) ∙ e

    -- an entry that was reached before has a level of at most one more than the one that is tried now
    bounded : (i : ℕ) → i < n → 0 < L i → L i ≤ suc (L j)
    bounded i h g =
        ⊎_elim (λ e. omega arith)
        (λ c. let o = inv.ordered c.0 j c.1 low.inside c.2 low.untried low.some in
        let q = c.4 in omega arith) (inv.came i h g)

    spread-here : (i : ℕ) → i < n → opened i ≡ true → kwk i ≡ id j → (0 < M i) × (M i ≤ suc (L j))
    spread-here i h o e =
        by_next i h (λ (l : ℕ). (0 < l) × (l ≤ suc (L j))) (λ z p d. (omega arith, omega arith))
        (λ f. eq-cases (L i) 0 (λ z. absurd (f z o e)) (λ z. (omega arith, bounded i h (omega arith))))

    -- one that was tried has a level
    tried-some : (k : ℕ) → k < n → S k ≡ true → 0 < L k
    tried-some = inv.tried

    turn-spread : (k : ℕ) → k < n → R k ≡ true → (i : ℕ) → i < n → opened i ≡ true → kwk i ≡ id k → (0 < M i) × (M i ≤ suc (M k))
    turn-spread k hk r i h o e =
        ⊎_elim
        (λ q.
        let kj : M k ≡ L j = ap M q ∙ j-kept in
        subst (λ (m : ℕ). (0 < M i) × (M i ≤ suc m)) (sym kj) (spread-here i h o (e ∙ ap id q)))
        (λ s.
        let g = inv.spread k hk s i h o e in
        let a = kept i h g.0 in
        let b = kept k hk (tried-some k hk s) in
        let x = g.0 in
        let y = g.1 in (omega arith, omega arith))
        (was k r)

    turn-tried : (k : ℕ) → k < n → R k ≡ true → 0 < M k
    turn-tried k hk r =
        ⊎_elim (λ q. let e : M k ≡ L j = ap M q ∙ j-kept in let s = low.some in omega arith)
        (λ s. let g = tried-some k hk s in let e = kept k hk g in omega arith) (was k r)

    turn-ordered : (i k : ℕ) → i < n → k < n → R i ≡ true → R k ≡ false → 0 < M k → M i ≤ M k
    turn-ordered i k h hk r q =
        by_next k hk (λ (l : ℕ). 0 < l → M i ≤ l) (λ z o e g. let x = at_most in omega arith)
        (λ f g.
        ⊎_elim (λ e. let m : M i ≡ L j = ap M e ∙ j-kept in let x = low.least k hk (stays_open k q) g in omega arith)
        (λ s. let m = kept i h (tried-some i h s) in
        let x = inv.ordered i k h hk s (stays_open k q) g in omega arith) (was i r))
      where
        at_most : M i ≤ L j
        at_most =
            ⊎_elim (λ e. let m : M i ≡ L j = ap M e ∙ j-kept in omega arith)
            (λ s. let m = kept i h (tried-some i h s) in
            let x = inv.ordered i j h low.inside s low.untried low.some in omega arith) (was i r)

    abbrev Came : ℕ → Type 0
    Came l = (l ≡ 1) ⊎ ((k : ℕ) × (k < n) × (R k ≡ true) × (0 < M k) × (l ≡ suc (M k)))

    turn-came : (i : ℕ) → i < n → 0 < M i → Came (M i)
    turn-came i h =
        by_next i h (λ (l : ℕ). 0 < l → Came l)
        (λ z o e g. let s = low.some in let m = j-kept in inr (j, low.inside, here, omega arith, ap suc (sym m)))
        (λ f g.
        ⊎_elim inl
        (λ c.
        let m = kept c.0 c.1 c.3 in
        let x = c.3 in inr (c.0, c.1, still c.0 c.2, omega arith, c.4 ∙ ap suc (sym m)))
        (inv.came i h g))

    pub turn : Levelling n id kwk opened is_root M R
    turn =
        record {
          sound = turn-sound;
          rooted = turn-rooted;
          tried = turn-tried;
          spread = turn-spread;
          ordered = turn-ordered;
          came = turn-came;
        }

  -- ---- the start: those under a key that chains start with have level 1, and none was tried
  pub begun : (L : ℕ → ℕ) (S : ℕ → Bool) → ((i : ℕ) → i < n → S i ≡ false) →
      ((i : ℕ) → i < n → opened i ≡ true → is_root (kwk i) ≡ true → L i ≡ 1) →
      ((i : ℕ) → i < n → 0 < L i → (L i ≡ 1) × (opened i ≡ true) × (is_root (kwk i) ≡ true)) →
      Levelling n id kwk opened is_root L S
  begun L S none first only =
      record {
        sound = λ i h g.
            let o = only i h g in
            record { before = []; walk = goes i h o.1 refl (starts (kwk i) o.2); is = sym o.0 };
        rooted = first;
        tried = λ k h s. absurd (false≢true (sym (none k h) ∙ s));
        spread = λ k h s. absurd (false≢true (sym (none k h) ∙ s));
        ordered = λ i k h g s. absurd (false≢true (sym (none i h) ∙ s));
        came = λ i h g. inl (only i h g).0;
      }

  -- ---- the end: each that has a level was tried
  module _ (L : ℕ → ℕ) (S : ℕ → Bool) (inv : Levelling n id kwk opened is_root L S)
      (all : (i : ℕ) → i < n → 0 < L i → S i ≡ true) where
    least : (i k : ℕ) (p : List ℕ) → Walk n id kwk opened is_root (i ∷ p) k → (0 < L i) × (L i ≤ suc (length p))
    least i k [] (goes _ h o e (starts _ r)) = let q = inv.rooted i h o r in (omega arith, omega arith)
    least i k (j ∷ p) (goes _ h o e w) =
        further i j p h o w (least j (kwk i) p w)
      where
        further : (i j : ℕ) (p : List ℕ) → i < n → opened i ≡ true → Walk n id kwk opened is_root (j ∷ p) (kwk i) →
            (0 < L j) × (L j ≤ suc (length p)) → (0 < L i) × (L i ≤ suc (suc (length p)))
        further i j p h o (goes _ g d e v) b =
            let s = inv.spread j g (all j g b.0) i h o (sym e) in
            let x = s.1 in
            let y = b.1 in (s.0, omega arith)

    pub levelled : Levelled n id kwk opened is_root L
    levelled = record { shortest = inv.sound; least = least }
