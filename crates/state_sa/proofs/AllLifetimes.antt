-- Samples of lifetimes (document 02, T-07), computed.
use Rattle.std.proofs.Common.{◌≡◌, ℕ, Bool, true, false, [], ◌∷◌, map, refl}
use lib.Dec.{leb-zero}
use Rattle.lists.specs.Lists.{any}
use Rattle.state_keys.specs.Algorithms.{size_of}
use Rattle.state_sa.specs.declared.entry.Condition.{Condition}
use Rattle.state_sa.specs.declared.entry.Condition.TheVariants.{Live, Retiring}
use Rattle.state_sa.specs.declared.entry.Lifetime.{Lifetime}
use Rattle.state_sa.specs.declared.entry.Lifetime.TheVariants.{Unlimited, Limited}
use Rattle.state_sa.specs.Clock.{elapsed, elapsed_at_least}
use Rattle.state_sa.specs.Entry.{fit_lifetime, sa_sized, sa_formed, ran_out, due, retired, make_sa}

-- "at most 2,000,000 seconds": of a lifetime, and of an SA that is as a table's SAs must be
pub fit-lifetimes : map fit_lifetime (Unlimited ∷ Limited 7 0 ∷ Limited 7 2000000 ∷ Limited 0 2000001 ∷ Limited 0 4294967295 ∷ [])
    ≡ true ∷ true ∷ true ∷ false ∷ false ∷ []
fit-lifetimes = refl

pub fit-sas : map (λ (t : Lifetime). sa_formed (make_sa 3 [] [] 20 0 0 Live t)) (Unlimited ∷ Limited 0 2000000 ∷ Limited 0 2000001 ∷ [])
    ≡ true ∷ true ∷ false ∷ []
unfolding sa_formed sa_sized size_of any
fit-sas = refl

-- of one second from tick 4,294,967,000 on, by the same modulo rule; of 0 seconds due at its own start; the most there is
pub lifetimes-run : map (λ (now : ℕ). ran_out now (Limited 4294967000 1)) (4294967000 ∷ 0 ∷ 703 ∷ 704 ∷ 4294966999 ∷ [])
    ≡ false ∷ false ∷ false ∷ true ∷ true ∷ []
unfolding elapsed_at_least
lifetimes-run = refl

pub lifetime-zero : (start : ℕ) → ran_out start (Limited start 0) ≡ true
unfolding elapsed_at_least
lifetime-zero start = leb-zero (elapsed start start)

pub longest : map (λ (now : ℕ). ran_out now (Limited 5 2000000)) (5 ∷ 2000000004 ∷ 2000000005 ∷ 4 ∷ []) ≡ false ∷ false ∷ true ∷ true ∷ []
unfolding elapsed_at_least
longest = refl

-- "A retiring SA is due at whichever comes first": a delay of 5 s from tick 1,000 on, a lifetime of 3 s and of 9 s from tick 0 on
abbrev due_at : Condition → Lifetime → ℕ → Bool
due_at c t now = due now (make_sa 3 [] [] 20 0 0 c t)

pub whichever-first : map (due_at (Retiring 1000 5) (Limited 0 3)) (2999 ∷ 3000 ∷ 5999 ∷ 6000 ∷ []) ≡ false ∷ true ∷ true ∷ true ∷ []
unfolding due elapsed_at_least
whichever-first = refl

pub delay-first : map (due_at (Retiring 1000 5) (Limited 0 9)) (3000 ∷ 5999 ∷ 6000 ∷ 9000 ∷ []) ≡ false ∷ false ∷ true ∷ true ∷ []
unfolding due elapsed_at_least
delay-first = refl

-- each is judged afresh at each tick: at 1,500, after the counter went round, a delay that had run has not
pub after-the-wrap : map (due_at (Retiring 1000 5) Unlimited) (6000 ∷ 500 ∷ 1500 ∷ []) ≡ true ∷ true ∷ false ∷ []
unfolding due elapsed_at_least
after-the-wrap = refl

pub live-runs-out : map (due_at Live (Limited 0 3)) (2999 ∷ 3000 ∷ []) ≡ false ∷ true ∷ []
unfolding due elapsed_at_least
live-runs-out = refl

-- it keeps its lifetime and start
pub lifetime-stays : (retired 1000 5 (make_sa 3 [] [] 20 0 0 Live (Limited 7 3))).lifetime ≡ Limited 7 3
unfolding retired
lifetime-stays = refl
