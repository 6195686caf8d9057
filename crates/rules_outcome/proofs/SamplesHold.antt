-- EACH OF DOCUMENT 01'S SAMPLES MARKED P HOLDS, and the rows of ours.
use mathlib.Core.Path.{refl, ap, ◌∙◌}
use Rattle.octets.specs.Numbers.{number}
use Rattle.octets.specs.Walk.{chain, chain_up_to, many}
use Rattle.wire_attributes.specs.Tree.{values_of}
use Rattle.wire_attributes.specs.Layout.{attribute}
use Rattle.state_sa.specs.Entry.{due_by}
use Rattle.state_sa.proofs.Lifetimes.{due-without}
use Rattle.state_sa.proofs.Samples.{wrapped-elapsed, wrapped-not-due, wrapped-due}
use Rattle.state_sa.proofs.Samples as clock
use Rattle.rules_outcome.specs.Samples.{Sample, clock-wraps, delay-zero, least-seven, last-id}
use Rattle.rules_outcome.specs.Samples.{two_steps, circle, two-values, lent-of-28}
use Rattle.rules_outcome.specs.Samples.{key-length-128, key-tree, no-rekey-sa, key-tree-anew, Says}
use Rattle.rules_outcome.proofs.SamplesRekeys.{least-seven-holds, last-id-holds}
use Rattle.rules_outcome.proofs.SamplesFrame.{lent-of-28-holds}
use Rattle.rules_outcome.proofs.SamplesPaths.{two-steps-holds, no-rekey-sa-holds}
use Rattle.rules_outcome.proofs.SamplesTree.{key-tree-holds}
use Rattle.rules_outcome.proofs.SamplesRenewed.{key-tree-anew-holds}
use Rattle.rules_outcome.proofs.SamplesEntries.{circle-holds, two-values-holds}

clock-wraps-holds : Says clock-wraps
clock-wraps-holds a t e = (
  wrapped-elapsed,
  due-without 703 a t ∙ ap (due_by 703) e ∙ wrapped-not-due,
  due-without 704 a t ∙ ap (due_by 704) e ∙ wrapped-due,
)

delay-zero-holds : Says delay-zero
delay-zero-holds a start t e = due-without start a t ∙ ap (due_by start) e ∙ clock.delay-zero start

key-length-holds : Says key-length-128
unfolding attribute many chain chain_up_to number values_of
key-length-holds b = refl

-- THE CLAIM
pub samples-hold : (x : Sample) → Says x
samples-hold clock-wraps = clock-wraps-holds
samples-hold delay-zero = delay-zero-holds
samples-hold least-seven = least-seven-holds
samples-hold last-id = last-id-holds
samples-hold two_steps = two-steps-holds
samples-hold circle = circle-holds
samples-hold two-values = two-values-holds
samples-hold lent-of-28 = lent-of-28-holds
samples-hold key-length-128 = key-length-holds
samples-hold key-tree = key-tree-holds
samples-hold no-rekey-sa = no-rekey-sa-holds
samples-hold key-tree-anew = key-tree-anew-holds
