-- The theorems that docs/CLAIMS.md cites under "Document 02: T-01, a plant with many streams".
use Prim.Native.Nat.{◌≤◌}
use mathlib.Core.Bool.{true}
use mathlib.Core.Path.{◌≡◌}
use lib.ListN.{length}
use Rattle.state_keys.specs.Limits.{Limits, limits_before_t01, limits}
use Rattle.state.specs.State.{state_formed}
use Rattle.state.specs.declared.State.{State}
use Rattle.rules_outcome.specs.Wider.{Within, Wider, AnswersKept, SameMember, in_places}
use Rattle.rules_outcome.proofs.Wider as ofWider
pub use Rattle.rules_refusals.proofs.SamplesOf7.{samples_of7}
pub use Rattle.rules_refusals.proofs.SamplesOf2And3.{samples_of2_and3}
pub use Rattle.rules_refusals.proofs.SamplesOfLimits.{samples_before_t01}

pub formed-within : (limits : Limits) (s : State) → state_formed limits s ≡ true → Within limits s
formed-within = ofWider.formed-within

pub answers-kept : (a b : Limits) → Wider a b → AnswersKept a b
answers-kept = ofWider.answers-kept

pub answers-kept-by-t01 : AnswersKept limits_before_t01 limits
answers-kept-by-t01 = ofWider.answers-kept-by-t01

pub same-in-places : (limits : Limits) (s : State) → s.table.count ≤ length s.table.sas → s.held.count ≤ length s.held.keys →
    SameMember s (in_places limits s)
same-in-places = ofWider.same-in-places
