-- The theorems that docs/CLAIMS.md cites under "Document 02: T-07, keys that run out".
use Prim.Native.Nat.{ℕ, ◌<◌, ◌^◌, ◌≤◌, ◌+◌, ◌*◌, ◌%◌}
use mathlib.Core.Bool.{Bool, true, false}
use mathlib.Core.List.{List}
use mathlib.Core.Logic.{◌⊎◌}
use mathlib.Core.Path.{◌≡◌}
use Rattle.wire_frames.specs.Frame.{Frame}
use Rattle.wire_frames.specs.Grammar.{IsFrame}
use Rattle.state_keys.specs.Limits.{limits, Limits}
use Rattle.lists.specs.Lists.{all}
use Rattle.state_sa.specs.DueSays.{DelayRan, LifetimeRan}
use Rattle.state_sa.specs.Entry.{retired, due, ran_out, most_seconds, due_by}
use Rattle.state_sa.specs.declared.entry.Condition.TheVariants.{Live}
use Rattle.state_sa.specs.declared.entry.Lifetime.TheVariants.{Limited, Unlimited}
use Rattle.state_sa.specs.declared.entry.Sa.{Sa}
use Rattle.state_table.specs.Table.{sas_of}
use Rattle.state.proofs.BrokenValues.{BrokenKept, broken_values, Formed, fit_values}
use Rattle.state.specs.State.{new_state, swept_state}
use Rattle.state.specs.declared.State.{State}
use Rattle.rules_refusals.proofs.AllSamples.{Samples}
use Rattle.rules_refusals.specs.Number2.{over_live_rekey}
use Rattle.rules_chains.specs.Chain.{In}
use Rattle.rules_outcome.specs.LifetimeSays.{LifetimesFit}
use Rattle.rules_outcome.specs.NamedKey.{Inband}
use Rattle.rules_outcome.specs.Outcome.{Outcome}
use Rattle.rules_outcome.specs.Run.{Event, Run, Throughout}
use Rattle.rules_outcome.proofs.RanOut as ofRanOut
use Rattle.state.proofs.BrokenValues as ofBrokenValues
use Rattle.state_sa.proofs.Lifetimes as ofLifetimes
use Rattle.rules_outcome.proofs.Inband as ofInband
use Rattle.rules_refusals.proofs.AllSamples as ofAllSamples
pub use Rattle.wire_frames.proofs.AllBreaks.{samples-break}

pub members-lifetimes : (profile : Bool) {e : State} {l : List Event} (r : Run limits (new_state limits profile) l e) →
    Throughout limits LifetimesFit r
members-lifetimes = ofRanOut.members-lifetimes

pub broken-kept : BrokenKept broken_values
broken-kept = ofBrokenValues.broken-kept

pub fit-formed : Formed true fit_values
fit-formed = ofBrokenValues.fit-formed

pub retired-lifetime : (now delay : ℕ) (s : Sa) → (retired now delay s).lifetime ≡ s.lifetime
retired-lifetime = ofLifetimes.retired-lifetime

pub due-of-live : (now : ℕ) (s : Sa) → s.condition ≡ Live → due now s ≡ ran_out now s.lifetime
due-of-live = ofLifetimes.due-of-live

pub due-means : (now : ℕ) (s : Sa) → due now s ≡ true → DelayRan now s ⊎ LifetimeRan now s
due-means = ofLifetimes.due-means

pub means-due : (now : ℕ) (s : Sa) → DelayRan now s ⊎ LifetimeRan now s → due now s ≡ true
means-due = ofLifetimes.means-due

pub runs-out : (start n : ℕ) (inside : start < 2 ^ 32) → n ≤ most_seconds → ran_out ((start + 1000 * n) % 2 ^ 32) (Limited start n) ≡ true
runs-out = ofLifetimes.runs-out

pub not-before : (start n : ℕ) (inside : start < 2 ^ 32) (k : ℕ) → k < 1000 * n → k < 2 ^ 32 →
    ran_out ((start + k) % 2 ^ 32) (Limited start n) ≡ false
not-before = ofLifetimes.not-before

pub over-ran-out : (limits : Limits) (now : ℕ) (lent octets : List ℕ) (f : Frame) (x : f.header.exchange ≡ 41) (s : State)
    (e : IsFrame s.profile octets f) (b : Sa) (m : In b (sas_of s.table)) (over : over_live_rekey f.header.spi b ≡ true)
    (is-due : due now b ≡ true) → Outcome limits s now lent octets 2 s
over-ran-out = ofRanOut.over-ran-out

pub over-swept : (limits : Limits) (now : ℕ) (lent octets : List ℕ) (f : Frame) (x : f.header.exchange ≡ 41) (s : State)
    (e : IsFrame s.profile octets f) (b : Sa) (m : In b (sas_of s.table)) (over : over_live_rekey f.header.spi b ≡ true)
    (is-due : due now b ≡ true) → Outcome limits (swept_state limits now s) now lent octets 2 (swept_state limits now s)
over-swept = ofRanOut.over-swept

pub empty-is-2 : (limits : Limits) (s : State) (now : ℕ) (lent octets : List ℕ) (f : Frame) (e : IsFrame s.profile octets f)
    (b : Inband f) (n : ℕ) (next : State) (o : Outcome limits s now lent octets n next) → all (due now) (sas_of s.table) ≡ true →
    (n ≡ 2) × (next ≡ s)
empty-is-2 = ofInband.empty-is-2

pub samples-answered : Samples
samples-answered = ofAllSamples.samples-answered

pub due-without : (now : ℕ) (s : Sa) → s.lifetime ≡ Unlimited → due now s ≡ due_by now s.condition
due-without = ofLifetimes.due-without
