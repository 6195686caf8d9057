-- Document 02, T-07: when an SA is due.
use Rattle.std.proofs.Common.{◌≡◌, ℕ, ◌+◌, ◌*◌, ◌%◌, ◌^◌, ◌<◌, ◌≤◌, Bool, true, false, ◌⊎◌, sym, refl, ap, ◌∙◌, inl, inr, arith, le-leb, leb-true}
use mathlib.Core.Bool.{false≢true, or-false}
use Rattle.state_sa.specs.declared.entry.Condition.{Condition}
use Rattle.state_sa.specs.declared.entry.Condition.TheVariants.{Live, Retiring}
use Rattle.state_sa.specs.declared.entry.Lifetime.{Lifetime}
use Rattle.state_sa.specs.declared.entry.Lifetime.TheVariants.{Unlimited, Limited}
use Rattle.state_sa.specs.declared.entry.Sa.{Sa}
use Rattle.state_sa.specs.Clock.{elapsed, elapsed_at_least}
use Rattle.lists.proofs.Cases.{and_parts, or_cases, or_right}
use Rattle.state_sa.specs.DueSays.{DelayRan, LifetimeRan}
use Rattle.state_sa.specs.Entry.{most_seconds, fit_lifetime, sa_sized, sa_formed, due_by, ran_out, due, retired}

module _ (now : ℕ) where
  passed-of : (start n : ℕ) → elapsed_at_least now start n ≡ true → 1000 * n ≤ elapsed now start
  unfolding elapsed_at_least
  passed-of start n e = leb-true (1000 * n) (elapsed now start) e

  of-passed : (start n : ℕ) → 1000 * n ≤ elapsed now start → elapsed_at_least now start n ≡ true
  unfolding elapsed_at_least
  of-passed start n l = le-leb (1000 * n) (elapsed now start) l

  module _ (s : Sa) where
    by-delay : (c : Condition) → s.condition ≡ c → due_by now c ≡ true → DelayRan now s
    by-delay Live e q = absurd (false≢true q)
    by-delay (Retiring a d) e q = record { start = a; delay = d; retires = e; passed = passed-of a d q }

    by-lifetime : (t : Lifetime) → s.lifetime ≡ t → ran_out now t ≡ true → LifetimeRan now s
    by-lifetime Unlimited e q = absurd (false≢true q)
    by-lifetime (Limited a n) e q = record { start = a; seconds = n; limited = e; passed = passed-of a n q }

    -- "A live SA is due when its lifetime has run, by the same modulo rule as retiring"; "A retiring SA is due at whichever comes first."
    pub due-means : due now s ≡ true → DelayRan now s ⊎ LifetimeRan now s
    unfolding due
    due-means e = go (or_cases (due_by now s.condition) (ran_out now s.lifetime) e)
      where
        go : (due_by now s.condition ≡ true) ⊎ (ran_out now s.lifetime ≡ true) → DelayRan now s ⊎ LifetimeRan now s
        go (inl q) = inl (by-delay s.condition refl q)
        go (inr q) = inr (by-lifetime s.lifetime refl q)

    pub means-due : DelayRan now s ⊎ LifetimeRan now s → due now s ≡ true
    unfolding due
    means-due (inl r) = rw (ap (due_by now) r.retires ∙ of-passed r.start r.delay r.passed)
    means-due (inr r) =
        or_right (due_by now s.condition) (ran_out now s.lifetime)
        (ap (ran_out now) r.limited ∙ of-passed r.start r.seconds r.passed)

    -- an SA without a lifetime: "a retiring SA is due when (now − start) modulo 2^32 is at least 1,000 × delay", a live one is not
    pub due-without : s.lifetime ≡ Unlimited → due now s ≡ due_by now s.condition
    unfolding due
    due-without e = rw (ap (ran_out now) e) (or-false (due_by now s.condition))

    -- a live SA is due exactly when its lifetime has run
    pub due-of-live : s.condition ≡ Live → due now s ≡ ran_out now s.lifetime
    unfolding due
    due-of-live e = rw (ap (due_by now) e)

-- A LIFETIME OF UP TO 2,000,000 SECONDS RUNS OUT AT SOME TICK OF THE COUNTER, and at none before: k ticks after its start it has run
-- exactly where k is at least 1,000 × its seconds, for every k that the counter has
module _ (start n : ℕ) (inside : start < 2 ^ 32) where
  elapsed-after : (k : ℕ) → k < 2 ^ 32 → elapsed ((start + k) % 2 ^ 32) start ≡ k
  elapsed-after k h = omega arith

  pub runs-out : n ≤ most_seconds → ran_out ((start + 1000 * n) % 2 ^ 32) (Limited start n) ≡ true
  runs-out h =
      let l : 1000 * n < 2 ^ 32 = omega arith in
      let e = elapsed-after (1000 * n) l in
      of-passed ((start + 1000 * n) % 2 ^ 32) start n (omega arith)

  pub not-before : (k : ℕ) → k < 1000 * n → k < 2 ^ 32 → ran_out ((start + k) % 2 ^ 32) (Limited start n) ≡ false
  not-before k h l =
      let e = elapsed-after k l in
      go (ran_out ((start + k) % 2 ^ 32) (Limited start n)) refl
    where
      go : (b : Bool) → ran_out ((start + k) % 2 ^ 32) (Limited start n) ≡ b → ran_out ((start + k) % 2 ^ 32) (Limited start n) ≡ false
      go false q = q
      go true q =
          let p = passed-of ((start + k) % 2 ^ 32) start n q in
          let e = elapsed-after k l in
          absurd (omega arith)

-- "A retiring SA is due at whichever comes first": retiring leaves the lifetime and its start
pub retired-lifetime : (now delay : ℕ) (s : Sa) → (retired now delay s).lifetime ≡ s.lifetime
unfolding retired
retired-lifetime now delay s = refl

-- "at most 2,000,000 seconds": of an SA that is as a table's SAs must be
pub formed-lifetime : (s : Sa) → sa_formed s ≡ true → (start n : ℕ) → s.lifetime ≡ Limited start n → n ≤ most_seconds
unfolding sa_formed
formed-lifetime s e start n q =
    leb-true n most_seconds (ap fit_lifetime (sym q) ∙ (and_parts (sa_sized s) (fit_lifetime s.lifetime) e).1)
