-- The steps of the search for levels.
use native.Mathlib.Omega.{arith}
use Prim.Native.Nat.{ℕ, ◌+◌, ◌≤◌, ◌<◌}
use mathlib.Core.Path.{◌≡◌, refl, sym, ◌∙◌}
use mathlib.Core.Bool.{true, false, false≢true}
use mathlib.Core.List.{List}
use borrow.Author.Tests.{eq-eqb, ne_eqb}
use borrow.Author.Count.{below_more}
use lib.ListN.{length, set}
use lib.Seq.{get_or-set_same, get_or-set_other}
use Rattle.octets.specs.Numbers.{oct}
use Rattle.unwrap_paths.specs.declared.levels.Mark.{Mark}
use Rattle.unwrap_paths.specs.declared.levels.Mark.TheVariants.{NotOpened, Opened, OpenedFirst}
use Rattle.unwrap_paths.specs.inner.Code.{opens, opens_first, first_level, next_level}

-- ---- one entry
pub first-root : (m : Mark) → opens_first m ≡ true → 1 ≡ first_level m
first-root NotOpened e = absurd (false≢true e)
first-root Opened e = absurd (false≢true e)
first-root OpenedFirst e = refl

pub first-other : (m : Mark) → opens_first m ≡ false → 0 ≡ first_level m
first-other NotOpened e = refl
first-other Opened e = refl
first-other OpenedFirst e = absurd (false≢true (sym e))

pub first-opened : (m : Mark) → opens_first m ≡ true → opens m ≡ true
first-opened NotOpened e = e
first-opened Opened e = refl
first-opened OpenedFirst e = refl

module _ (level : ℕ) (mark : Mark) (kwk id of : ℕ) where
  pub next-unopened : level ≡ 0 → opens mark ≡ false → 0 ≡ next_level level mark kwk id of
  next-unopened a b = rw (eq-eqb level 0 a, b) (sym a)

  pub next-set : level ≡ 0 → opens mark ≡ true → kwk ≡ id → of + 1 ≡ next_level level mark kwk id of
  next-set a b c = rw (eq-eqb level 0 a, b, eq-eqb kwk id c) refl

  pub next-other : level ≡ 0 → opens mark ≡ true → (kwk ≡ id → ⊥) → level ≡ next_level level mark kwk id of
  next-other a b c = rw (eq-eqb level 0 a, b, ne_eqb kwk id c) refl

  pub next-stays : (level ≡ 0 → ⊥) → level ≡ next_level level mark kwk id of
  next-stays a = rw (ne_eqb level 0 a) refl

-- ---- an array filled place by place
pub record Partly (f : ℕ → ℕ) (old out : List ℕ) (i : ℕ) : Type 0 where
  pub below : (j : ℕ) → j < i → oct out j ≡ f j
  pub above : (j : ℕ) → i ≤ j → oct out j ≡ oct old j

module _ (f : ℕ → ℕ) (old : List ℕ) where
  pub partly_none : Partly f old old 0
  partly_none = record { below = λ j h. absurd (omega arith); above = λ j h. refl }

  pub partly-next : (out : List ℕ) (i v : ℕ) → i < length out → v ≡ f i → Partly f old out i → Partly f old (set out i v) (i + 1)
  partly-next out i v h e p =
      record {
        below = below_more (λ j. oct (set out i v) j ≡ f j) i
            (λ j g. get_or-set_other out i j v 0 (λ q. let z : j < i = g in omega arith) ∙ p.below j g)
            (get_or-set_same out i v 0 h ∙ e);
        above = λ j g.
            get_or-set_other out i j v 0 (λ q. let z : i + 1 ≤ j = g in omega arith) ∙ p.above j (let z : i + 1 ≤ j = g in omega arith);
      }
