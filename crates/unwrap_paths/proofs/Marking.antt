-- Levels depend on the marks of the first n entries alone, and these are read off what stands for them.
use native.Mathlib.Omega.{arith}
use Prim.Native.Nat.{ℕ, ◌+◌, ◌<◌}
use mathlib.Core.Path.{◌≡◌, ap, sym, ◌∙◌}
use mathlib.Core.Bool.{Bool}
use mathlib.Core.List.{List, ◌∷◌, map}
use lib.ListN.{length, get_or, set}
use lib.Seq.{get_or-set_same, get_or-set_other}
use Rattle.std.proofs.Common.{below_more}
use Rattle.std.proofs.lemmas.List.{get_or-map}
use Rattle.octets.specs.Numbers.{oct}
use Rattle.unwrap_paths.specs.declared.levels.Mark.{Mark}
use Rattle.unwrap_paths.specs.declared.levels.Mark.TheVariants.{NotOpened}
use Rattle.unwrap_paths.specs.inner.Levels.{Walk, starts, goes}
use Rattle.unwrap_paths.specs.inner.Code.{mark_at, opens, opens_first, is_opened, HasLevels}

-- a walk over entries of which one test says that they opened is one by another test that says the same of them
walk-alike : (n : ℕ) (id kwk : ℕ → ℕ) (o p is_root : ℕ → Bool) → ((i : ℕ) → i < n → p i ≡ o i) → (q : List ℕ) (k : ℕ) →
    Walk n id kwk o is_root q k → Walk n id kwk p is_root q k
walk-alike n id kwk o p is_root same _ _ (starts k r) = starts k r
walk-alike n id kwk o p is_root same _ _ (goes {p = q} {k = k} i h e s w) =
    goes i h (same i h ∙ e) s (walk-alike n id kwk o p is_root same q (kwk i) w)

pub has-levels-alike : (n : ℕ) (ids kwks : List ℕ) (marks others : List Mark) (lv : List ℕ) →
    ((i : ℕ) → i < n → mark_at marks i ≡ mark_at others i) → HasLevels n ids kwks marks lv → HasLevels n ids kwks others lv
has-levels-alike n ids kwks marks others lv same has =
    record {
      within = has.within;
      levelled = λ is_root roots.
          let l = has.levelled is_root (λ i h o. roots i h (sym (ap opens (same i h)) ∙ o) ∙ sym (ap opens_first (same i h))) in
          record {
            shortest = λ i h g.
                let w = l.shortest i h g in
                record {
                  before = w.before;
                  walk = walk-alike n (oct ids) (oct kwks) (is_opened marks) (is_opened others) is_root
                      (λ j k. ap opens (sym (same j k))) (i ∷ w.before) (oct ids i) w.walk;
                  is = w.is;
                };
            least = λ i k p w.
                l.least i k p
                (walk-alike n (oct ids) (oct kwks) (is_opened others) (is_opened marks) is_root (λ j h. ap opens (same j h)) (i ∷ p) k w);
          };
    }

-- one mark more is read: that of the entry at i
pub mark-read : {M : Type 0} (h : M → Mark) (given : List M) (out : List Mark) (i : ℕ) (x : M) (y : Mark) →
    i < length given → i < length out → x ≡ get_or given i x → y ≡ h x →
    ((j : ℕ) → j < i → mark_at out j ≡ mark_at (map h given) j) →
    (j : ℕ) → j < i + 1 → mark_at (set out i y) j ≡ mark_at (map h given) j
mark-read h given out i x y g o e m below =
    below_more (λ j. mark_at (set out i y) j ≡ mark_at (map h given) j) i
    (λ j l. get_or-set_other out i j y NotOpened (λ q. let z : j < i = l in omega arith) ∙ below j l)
    (get_or-set_same out i y NotOpened o ∙ m ∙ ap h e ∙ sym (get_or-map h given i x NotOpened g))
