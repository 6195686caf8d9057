-- One line over a member: it is taken, or it stops the reading.
use Rattle.std.specs.Prelude.{◌≡◌, Bool, true, false, Option, Some, None}
use Rattle.state_keys.specs.Limits.{limits}
use Rattle.state.specs.declared.State.{State}
use Rattle.rules_outcome.specs.Run.{Event}
use Rattle.gikev2.specs.declared.Member.{Member}
use Rattle.journal_rules.specs.Line.{Said, says}
use Rattle.journal_rules.specs.Replay.{TakesEffect, StopsReading}

-- what becomes of what a line says, by whether it is taken
abbrev pub LineTakes : State → Said → Bool → State → Type 0
LineTakes s said true next = (x : Event) × (said ≡ says x) × TakesEffect limits s x next
LineTakes s said false next = StopsReading limits s said × (next ≡ s)

-- what a line that says `said` makes of a member in the state s: the next member, or none if it stops the reading
abbrev pub TakesLine : State → Said → Option Member → Type 0
TakesLine s said (Some next) = LineTakes s said true next.state
TakesLine s said None = LineTakes s said false s
