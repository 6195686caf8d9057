-- The loop of the search for levels: its start, its turns and its end.
use native.Mathlib.Omega.{arith}
use Prim.Native.Nat.{ℕ, zero, suc, ◌+◌, ◌≤◌, ◌<◌}
use mathlib.Core.Path.{◌≡◌, refl, ap, sym, ◌∙◌, subst}
use mathlib.Core.Bool.{Bool, true, false, cond, false≢true}
use mathlib.Core.Logic.{◌⊎◌, inl, inr, ⊎_elim}
use mathlib.Core.List.{List}
use lib.ListN.{length, set}
use lib.Seq.{get_or-set_same, get_or-set_other}
use Rattle.lists.proofs.Cases.{bool_cases, lt-cases}
use Rattle.octets.specs.Numbers.{oct}
use Rattle.state_keys.specs.Limits.{limits}
use Rattle.unwrap_paths.specs.declared.levels.Mark.{Mark}
use Rattle.unwrap_paths.specs.inner.Levels.{Next, Levelling, Levelled}
use Rattle.unwrap_paths.specs.inner.Levels as levels
use Rattle.unwrap_paths.specs.inner.Code.{mark_at, opens, opens_first, is_opened, is_tried, first_level, LeastAt, next_level, Roots, HasLevels}
use Rattle.unwrap_search.proofs.Statuses.{eq-cases}
use Rattle.unwrap_paths.proofs.Levelling.{turn, begun, levelled}
use Rattle.unwrap_paths.proofs.Steps.{next-set, next-other, next-unopened, next-stays, first-root, first-other, first-opened}

-- ---- how many were not tried: the measure, and a bound on the levels
unfoldable pub untried : ℕ → (ℕ → Bool) → ℕ
untried zero S = 0
untried (suc n) S = cond (S n) (untried n S) (suc (untried n S))

untried-same : (n : ℕ) (S R : ℕ → Bool) → ((i : ℕ) → i < n → R i ≡ S i) → untried n R ≡ untried n S
unfolding untried
untried-same zero S R f = refl
untried-same (suc n) S R f =
    let e = untried-same n S R (λ i h. f i (omega arith)) in
    λ k. cond (f n (let z : n < suc n = omega arith in z) k) (e k) (suc (e k))

untried-fell : (n : ℕ) (S R : ℕ → Bool) (j : ℕ) → j < n → S j ≡ false → R j ≡ true → ((i : ℕ) → (i ≡ j → ⊥) → R i ≡ S i) →
    suc (untried n R) ≡ untried n S
unfolding untried
untried-fell zero S R j h s r f = absurd (omega arith)
untried-fell (suc n) S R j h s r f =
    eq-cases n j
    (λ e.
    let a : S n ≡ false = ap S e ∙ s in
    let b : R n ≡ true = ap R e ∙ r in
    let c = untried-same n S R (λ i g. f i (λ q. omega arith)) in rw (a, b) (ap suc c))
    (λ e.
    let c = untried-fell n S R j (omega arith) s r f in
    bool_cases (S n) (λ a. rw (f n e, a) c) (λ a. rw (f n e, a) (ap suc c)))

untried-all : (n : ℕ) (S : ℕ → Bool) → ((i : ℕ) → i < n → S i ≡ false) → untried n S ≡ n
unfolding untried
untried-all zero S f = refl
untried-all (suc n) S f =
    let e = untried-all n S (λ i h. f i (omega arith)) in
    rw (f n (let z : n < suc n = omega arith in z)) (ap suc e)

-- ---- what is known at each turn
module _ (n : ℕ) (ids kwks : List ℕ) (marks : List Mark) where
  abbrev pub Known : List ℕ → List Bool → Type 0
  Known lv tried =
      (is_root : ℕ → Bool) → Roots n kwks marks is_root →
      Levelling n (oct ids) (oct kwks) (is_opened marks) is_root (oct lv) (is_tried tried)

  -- so that no level is over n
  pub record Bound (lv : List ℕ) (tried : List Bool) : Type 0 where
    pub most : (i : ℕ) → i < n → oct lv i + untried n (is_tried tried) ≤ n + 1
    pub tried-some : (i : ℕ) → i < n → is_tried tried i ≡ true → 0 < oct lv i
    pub tried-most : (i : ℕ) → i < n → is_tried tried i ≡ true → oct lv i + untried n (is_tried tried) ≤ n

  module _ (lv : List ℕ) (tried : List Bool) (first : (i : ℕ) → i < n → oct lv i ≡ first_level (mark_at marks i))
      (none : (i : ℕ) → i < n → is_tried tried i ≡ false) where
    pub known_start : Known lv tried
    known_start is_root roots =
        begun n (oct ids) (oct kwks) (is_opened marks) is_root (oct lv) (is_tried tried) none
        (λ i h o r. first i h ∙ sym (first-root (mark_at marks i) (sym (roots i h o) ∙ r)))
        (λ i h g.
        bool_cases (opens_first (mark_at marks i))
        (λ e.
        let o = first-opened (mark_at marks i) e in (first i h ∙ sym (first-root (mark_at marks i) e), o, roots i h o ∙ e))
        (λ e. let z : oct lv i ≡ 0 = first i h ∙ sym (first-other (mark_at marks i) e) in absurd (omega arith)))

    pub bound-start : Bound lv tried
    bound-start =
        record {
          most = λ i h.
              let u = untried-all n (is_tried tried) none in
              bool_cases (opens_first (mark_at marks i)) (λ e. let z = first i h ∙ sym (first-root (mark_at marks i) e) in omega arith)
              (λ e. let z = first i h ∙ sym (first-other (mark_at marks i) e) in omega arith);
          tried-some = λ i h t. absurd (false≢true (sym (none i h) ∙ t));
          tried-most = λ i h t. absurd (false≢true (sym (none i h) ∙ t));
        }

  -- ---- a turn
  module _ (lv : List ℕ) (tried : List Bool) (j : ℕ) (found : LeastAt n lv tried j) (fits : n ≤ length tried) (more : List ℕ)
      (spread : (i : ℕ) → i < n → oct more i ≡ next_level (oct lv i) (mark_at marks i) (oct kwks i) (oct ids j) (oct lv j)) where
    here : is_tried (set tried j true) j ≡ true
    here = let h = found.inside in get_or-set_same tried j true false (omega arith)

    other : (i : ℕ) → (i ≡ j → ⊥) → is_tried (set tried j true) i ≡ is_tried tried i
    other i f = get_or-set_other tried j i true false f

    fell : suc (untried n (is_tried (set tried j true))) ≡ untried n (is_tried tried)
    fell = untried-fell n (is_tried tried) (is_tried (set tried j true)) j found.inside found.untried here other

    pub turn-less : untried n (is_tried (set tried j true)) < untried n (is_tried tried)
    turn-less = let e = fell in omega arith

    stays : (i : ℕ) (is_root : ℕ → Bool) → oct more i ≡ oct lv i →
        (oct lv i ≡ 0 → is_opened marks i ≡ true → oct kwks i ≡ oct ids j → ⊥) →
        Next n (oct ids) (oct kwks) (is_opened marks) is_root (oct lv) j i (oct more i)
    stays i is_root e f = levels.stays f e

    next : (is_root : ℕ → Bool) (i : ℕ) → i < n → Next n (oct ids) (oct kwks) (is_opened marks) is_root (oct lv) j i (oct more i)
    next is_root i h =
        let s = spread i h in
        let l = oct lv i in
        let m = mark_at marks i in
        let k = oct kwks i in
        let d = oct ids j in
        let o = oct lv j in
        eq-cases l 0
        (λ a.
        bool_cases (opens m)
        (λ b.
        eq-cases k d
        (λ e. levels.set a b e (s ∙ sym (next-set l m k d o a b e) ∙ (let z : o + 1 ≡ suc o = omega arith in z)))
        (λ e. stays i is_root (s ∙ sym (next-other l m k d o a b e)) (λ z p q. e q)))
        (λ b. stays i is_root (s ∙ sym (next-unopened l m k d o a b) ∙ sym a) (λ z p q. false≢true (sym b ∙ p))))
        (λ a. stays i is_root (s ∙ sym (next-stays l m k d o a)) (λ z p q. a z))

    pub turn-known : Known lv tried → Known more (set tried j true)
    turn-known known is_root roots =
        turn n (oct ids) (oct kwks) (is_opened marks) is_root (oct lv) (is_tried tried) (known is_root roots) j
        (record {
          inside = found.inside;
          untried = found.untried;
          some = found.some;
          least = λ i h u g. let f = found.least i h u g in by_order (oct lv j) (oct lv i) f;
        }) (oct more) (is_tried (set tried j true)) (next is_root) here other
      where
        by_order : (a b : ℕ) → (b < a → ⊥) → a ≤ b
        by_order a b f = omega arith

    -- a level that is set stays
    kept : (i : ℕ) → i < n → 0 < oct lv i → oct more i ≡ oct lv i
    kept i h g = by (next (λ x. false) i h)
      where
        by : Next n (oct ids) (oct kwks) (is_opened marks) (λ x. false) (oct lv) j i (oct more i) → oct more i ≡ oct lv i
        by (levels.set z o q r) = absurd (omega arith)
        by (levels.stays f r) = r

    was : (i : ℕ) → is_tried (set tried j true) i ≡ true → (i ≡ j) ⊎ (is_tried tried i ≡ true)
    was i t = eq-cases i j inl (λ f. inr (sym (other i f) ∙ t))

    module _ (bound : Bound lv tried) where
      abbrev left : ℕ
      left = untried n (is_tried (set tried j true))

      turn-most : (i : ℕ) → i < n → oct more i + left ≤ n + 1
      turn-most i h = by (next (λ x. false) i h)
        where
          by : Next n (oct ids) (oct kwks) (is_opened marks) (λ x. false) (oct lv) j i (oct more i) → oct more i + left ≤ n + 1
          by (levels.set z o q r) = let e = fell in let b = bound.most j found.inside in omega arith
          by (levels.stays f r) = let e = fell in let a = bound.most i h in omega arith

      turn-some : (i : ℕ) → i < n → is_tried (set tried j true) i ≡ true → 0 < oct more i
      turn-some i h t =
          ⊎_elim
          (λ e.
          let s = found.some in
          let k = kept j found.inside s in subst (λ (m : ℕ). 0 < oct more m) (sym e) (let z : 0 < oct more j = omega arith in z))
          (λ s. let p = bound.tried-some i h s in let k = kept i h p in omega arith) (was i t)

      turn-tried : (i : ℕ) → i < n → is_tried (set tried j true) i ≡ true → oct more i + left ≤ n
      turn-tried i h t =
          ⊎_elim
          (λ e.
          let k = kept j found.inside found.some in
          let b = bound.most j found.inside in
          let f = fell in
          subst (λ (m : ℕ). oct more m + left ≤ n) (sym e) (let z : oct more j + left ≤ n = omega arith in z))
          (λ s.
          let k = kept i h (bound.tried-some i h s) in
          let b = bound.tried-most i h s in
          let f = fell in omega arith)
          (was i t)

      pub turn-bound : Bound more (set tried j true)
      turn-bound = record { most = turn-most; tried-some = turn-some; tried-most = turn-tried }

  -- ---- the end
  known-end : (lv : List ℕ) (tried : List Bool) → Known lv tried →
      ((i : ℕ) → i < n → is_tried tried i ≡ false → 0 < oct lv i → ⊥) → (is_root : ℕ → Bool) → Roots n kwks marks is_root →
      Levelled n (oct ids) (oct kwks) (is_opened marks) is_root (oct lv)
  known-end lv tried known none is_root roots =
      levelled n (oct ids) (oct kwks) (is_opened marks) is_root (oct lv) (is_tried tried) (known is_root roots)
      (λ i h g. bool_cases (is_tried tried i) (λ e. e) (λ e. absurd (none i h e g)))

  pub has-levels : (lv : List ℕ) (tried : List Bool) → Known lv tried → Bound lv tried →
      ((i : ℕ) → i < n → is_tried tried i ≡ false → 0 < oct lv i → ⊥) → HasLevels n ids kwks marks lv
  has-levels lv tried known bound none =
      record {
        within = λ i h.
            bool_cases (is_tried tried i) (λ t. let b = bound.tried-most i h t in omega arith)
            (λ t. lt-cases 0 (oct lv i) (λ g. absurd (none i h t g)) (λ g. omega arith));
        levelled = known-end lv tried known none;
      }

  pub some-untried : (lv : List ℕ) (tried : List Bool) (j : ℕ) → LeastAt n lv tried j → Bound lv tried → length tried ≡ limits.wrap_keys →
      n ≤ limits.wrap_keys → oct lv j ≤ limits.wrap_keys
  some-untried lv tried j found bound e h =
      let f = untried-fell n (is_tried tried) (is_tried (set tried j true)) j found.inside found.untried
      (let g = found.inside in get_or-set_same tried j true false (omega arith))
      (λ i g. get_or-set_other tried j i true false g) in
      let b = bound.most j found.inside in omega arith
