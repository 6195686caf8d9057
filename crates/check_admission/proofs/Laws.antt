-- What the code of numbers 2 and 3 finds is what the definitions say.
use native.Mathlib.Omega.{arith}
use Prim.Native.Nat.{ℕ, ◌≤◌}
use mathlib.Core.Path.{◌≡◌, refl, ap, sym, ◌∙◌}
use mathlib.Core.Bool.{Bool, true, false, cond, not, ◌&&◌, ◌||◌, or-false}
use mathlib.Core.List.{List, [], ◌∷◌}
use borrow.Author.Tests.{lt-leb}
use Rattle.state_keys.specs.Limits.{Limits}
use Rattle.lists.specs.Lists.{any, keep}
use Rattle.lists.proofs.Cases.{lt-cases}
use Rattle.state_sa.specs.Entry.{due}
use Rattle.state_sa.specs.declared.entry.Sa.{Sa}
use Rattle.state_table.specs.Table.{not_due, table_formed}
use Rattle.state.specs.declared.State.{State}
use Rattle.state.specs.State.{state_formed}
use Rattle.state.specs.Least.{acceptable}
use Rattle.wire_frames.specs.Exchange.{exchange_of}
use Rattle.rules_refusals.specs.Number2.{over_live_rekey, unwanted_member, other_spis}
use Rattle.rules_refusals.specs.Number3.{not_acceptable}
use Rattle.rules_refusals.specs.Refusals.{number2, number3, one, applies}
use Rattle.check_admission.specs.inner.Steps.{is_over, barred}

-- ---- one that passes a test among those that pass another
one_kept : {A : Type 0} (p : A → Bool) (b : Bool) (a : A) (k : List A) → any p (cond b (a ∷ k) k) ≡ ((b && p a) || any p k)
unfolding any
one_kept p true a k = refl
one_kept p false a k = refl

pub over-among : (now : ℕ) (spi : List ℕ) (l : List Sa) → any (is_over now spi) l ≡ any (over_live_rekey spi) (not_due now l)
unfolding any keep is_over
over-among now spi [] = refl
over-among now spi (s ∷ l) =
    ap (λ (b : Bool). is_over now spi s || b) (over-among now spi l)
    ∙ sym (one_kept (over_live_rekey spi) (not (due now s)) s (not_due now l))

-- ---- number 2
last-true : (a b c : Bool) → true ≡ ((a || false) || (b || (c || (true || false))))
last-true true b c = refl
last-true false true c = refl
last-true false false true = refl
last-true false false false = refl

module _ (limits : Limits) (s : State) (now : ℕ) (x : ℕ) (spi : List ℕ) where
  pub two_formed : (r : Bool) → state_formed limits s ≡ true → r ≡ barred limits s.table (exchange_of x) spi now →
      r ≡ applies (number2 limits s now x spi)
  unfolding barred one unwanted_member other_spis
  two_formed r e f = rw (e, or-false, or-false) f

  pub two-broken : state_formed limits s ≡ false → true ≡ applies (number2 limits s now x spi)
  unfolding one
  two-broken e =
      rw e (last-true (not (exchange_of x).admitted) (unwanted_member limits s now x) (other_spis s now x spi))

  pub formed-count : state_formed limits s ≡ true → s.table.count ≤ limits.sas
  unfolding state_formed table_formed
  formed-count e =
      lt-cases limits.sas s.table.count
      (λ g.
      let z : ◌≡◌ {A = Bool} false true = rw (lt-leb s.table.count limits.sas g) at e in
      let w : ◌≡◌ {A = ℕ} 0 1 = cc in absurd (omega arith)) (λ g. g)

-- ---- number 3
module _ (s : State) (x id : ℕ) where
  pub number3-judged : (r : Bool) → (exchange_of x).compares_message_id ≡ true → r ≡ not (acceptable id s.least) →
      r ≡ applies (number3 s x id)
  unfolding one not_acceptable
  number3-judged r e f = rw (e, or-false) f

  pub number3-not : (exchange_of x).compares_message_id ≡ false → false ≡ applies (number3 s x id)
  unfolding one not_acceptable
  number3-not e = rw e
