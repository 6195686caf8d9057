use Rattle.std.proofs.Common.{◌≡◌, ◌+◌, ◌<◌, ◌≤◌, length, take, drop}
use Rattle.state_keys.specs.Limits.{limits}
use Rattle.state_sa.specs.Entry.{sa_before}
use Rattle.state_table.specs.Table.{table_of}
use Rattle.rules_outcome.specs.After.{insert_all}
use Rattle.apply.proofs.Turns.{Moving}
use Rattle.apply.proofs.entering.enter_all.Given as goal

abbrev pub invariant-loop-j : goal.invariant-loop-j
invariant-loop-j l =
    (length l.initial.sas ≡ limits.sas) × (l.count < limits.sas) × (l.j ≤ l.count) ×
    Moving sa_before l.initial.sas l.count l.initial.carried l.sas l.carried l.placed l.j

abbrev pub invariant-loop-i : goal.invariant-loop-i
invariant-loop-i l =
    (l.i ≤ l.n) × (l.n ≤ length l.new) × (length (take l.initial.count l.initial.sas) + l.n ≤ limits.sas) ×
    (length l.sas ≡ limits.sas) × (l.count + l.i ≤ limits.sas) ×
    (record { sas = l.sas; count = l.count } ≡ table_of limits (insert_all (drop l.i (take l.n l.new)) (take l.initial.count l.initial.sas)))
