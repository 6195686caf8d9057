use Rattle.std.proofs.Common.{◌≡◌, true, List, ℕ, ◌-◌, ◌≤◌, length, drop}
use Rattle.aes.specs.inner.Schedule.{ExpandsInverse}
use Rattle.wire_attributes.specs.Layout.{attributes}
use Rattle.wire_readers.specs.inner.Values.{is_whole}
use Rattle.state.specs.declared.held.HeldKey.{HeldKey}
use Rattle.unwrap_lending.specs.inner.Lending.{LendsTwo}
use Rattle.unwrap_copies.specs.inner.Answer.{copies_in}
use Rattle.unwrap_copies.specs.inner.Named.{tries_of_all}
use Rattle.unwrap_copies.specs.inner.Ready.{IsExpanded, IsReady}
use Rattle.unwrap_copies.proofs.OpenersLaws.{Listed}
use Rattle.unwrap_copies.proofs.Progress.{Progress}
use Rattle.unwrap_copies.proofs.copies.Given as goal

-- what is known of the copies passed
abbrev pub invariant-loop-x : goal.invariant-loop-x
invariant-loop-x l =
    (l.at ≤ length l.a) × (is_whole (attributes l.place 0 (drop l.at l.a)) ≡ true) × IsExpanded l.last.schedule ×
    ((v : List ℕ) (new old : List HeldKey) → ExpandsInverse v l.schedule.words → LendsTwo new old l.carried l.fresh l.ids l.block →
    Progress l.need (tries_of_all v new old (copies_in l.place l.a)) (tries_of_all v new old (copies_in l.place (drop l.at l.a))) l.known ×
    Listed l.need v new old (copies_in l.place l.a) (copies_in l.place (drop l.at l.a)) l.openers × IsReady v new old l.last)

abbrev pub decreases-loop-x : goal.decreases-loop-x
decreases-loop-x l = length l.a - l.at
