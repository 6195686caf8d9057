-- WHAT STANDS AT A TICK, computed on a member with one Rekey SA: a live one without a lifetime stands at every tick, under its own SPI
-- alone; one with a lifetime until that has run; one that retires stands at none, before it is due and then.
use Prim.Native.Nat.{ℕ}
use mathlib.Core.Path.{◌≡◌, refl, sym, subst}
use mathlib.Core.Bool.{true, false, false≢true}
use mathlib.Core.List.{List, [], ◌∷◌, Memᴰ}
use lib.ListN.{replicate}
use Rattle.octets.specs.Compare.{order_of, same}
use Rattle.state_keys.specs.Limits.{limits}
use Rattle.lists.specs.Lists.{all, any, count, keep, heads, rising}
use Rattle.state_keys.specs.Algorithms.{size_of}
use Rattle.state_keys.specs.Kinds.{rekey_sizes, rekey_of}
use Rattle.state_sa.specs.Clock.{elapsed_at_least}
use Rattle.state_sa.specs.Entry.{named, sa_sized, sa_formed, live_rekey, due, rekey_sa, with_condition}
use Rattle.state_sa.specs.declared.entry.Condition.TheVariants.{Retiring}
use Rattle.state_sa.specs.declared.entry.Lifetime.{Lifetime}
use Rattle.state_sa.specs.declared.entry.Lifetime.TheVariants.{Unlimited, Limited}
use Rattle.state_sa.specs.declared.entry.Sa.{Sa}
use Rattle.state_table.specs.Table.{table_of, table_formed}
use Rattle.state.specs.declared.State.{State}
use Rattle.state.specs.declared.least.Least.TheVariants.{Id}
use Rattle.state.specs.Held.{held_of, distinct, held_formed}
use Rattle.state.specs.State.{state_formed}
use Rattle.rules_refusals.specs.Number2.{not_due_sas, over_live_rekey}
use Rattle.rules_outcome.specs.Run.{StandsAt}

abbrev pub rekey_spi : List ℕ
rekey_spi = replicate 16 1

abbrev pub one : Sa
one = rekey_sa rekey_spi (rekey_of (replicate 36 2) 20 16) Unlimited

-- with least Message ID 7
abbrev pub having : Sa → State
having a = record { table = table_of limits (a ∷ []); held = held_of limits []; least = Id 7; profile = false }

abbrev pub seven : State
seven = having one

pub seven-formed : state_formed limits seven ≡ true
unfolding state_formed table_formed held_formed distinct table_of held_of all count heads rising sa_sized sa_formed live_rekey rekey_sa rekey_sizes
    size_of any
seven-formed = refl

pub seven-stands : (now : ℕ) → StandsAt now rekey_spi seven
unfolding table_of any keep named live_rekey due rekey_sa same order_of
seven-stands now = refl

pub not-by-another-spi : (now : ℕ) → StandsAt now (replicate 16 2) seven → ⊥
unfolding table_of any keep named live_rekey due rekey_sa same order_of
not-by-another-spi now e = false≢true e

-- "retiring (start tick, delay in seconds)": at 999 not due, at 1,000 due
pub not-while-retiring :
    let s = having (with_condition (Retiring 0 1) one) in (StandsAt 999 rekey_spi s → ⊥) × (StandsAt 1000 rekey_spi s → ⊥)
unfolding table_of any keep named live_rekey due rekey_sa elapsed_at_least same order_of
not-while-retiring = (λ e. false≢true e, λ e. false≢true e)

-- "A live SA is due when its lifetime has run" (document 02, T-07): one second from tick 0 on, and 0 seconds
abbrev lasting : Lifetime → State
lasting t = having (rekey_sa rekey_spi (rekey_of (replicate 36 2) 20 16) t)

pub until-it-ran : StandsAt 999 rekey_spi (lasting (Limited 0 1)) × (StandsAt 1000 rekey_spi (lasting (Limited 0 1)) → ⊥)
    × (StandsAt 5 rekey_spi (lasting (Limited 5 0)) → ⊥)
unfolding table_of any keep named live_rekey due rekey_sa elapsed_at_least same order_of
until-it-ran = (refl, λ e. false≢true e, λ e. false≢true e)

-- ---- the one that stands
pub not-due : (now : ℕ) → due now one ≡ false
unfolding due rekey_sa
not-due now = refl

standing-one : (now : ℕ) → not_due_sas now seven ≡ one ∷ []
unfolding table_of keep due rekey_sa
standing-one now = refl

pub one_in : (now : ℕ) → Memᴰ one (not_due_sas now seven)
one_in now = subst (Memᴰ one) (sym (standing-one now)) (Memᴰ.head refl)

pub over-one : over_live_rekey rekey_spi one ≡ true
unfolding named live_rekey rekey_sa same order_of
over-one = refl
