-- Document 01's samples of the clock.
use Rattle.std.proofs.Common.{◌≡◌, ℕ, true, false, refl}
use lib.Dec.{leb-zero}
use Rattle.state_sa.specs.declared.entry.Condition.TheVariants.{Retiring}
use Rattle.state_sa.specs.Clock.{elapsed, elapsed_at_least}
use Rattle.state_sa.specs.Entry.{due_by}

-- "start 4,294,967,000, delay 1: at 703 elapsed 999, not due; at 704 due"
pub wrapped-elapsed : elapsed 703 4294967000 ≡ 999
wrapped-elapsed = refl

pub wrapped-not-due : due_by 703 (Retiring 4294967000 1) ≡ false
unfolding elapsed_at_least
wrapped-not-due = refl

pub wrapped-due : due_by 704 (Retiring 4294967000 1) ≡ true
unfolding elapsed_at_least
wrapped-due = refl

-- "delay 0: due at its own start"
pub delay-zero : (start : ℕ) → due_by start (Retiring start 0) ≡ true
unfolding elapsed_at_least
delay-zero start = leb-zero (elapsed start start)
