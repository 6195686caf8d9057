use Rattle.std.proofs.Common.{sym, ◌∙◌}
use Rattle.state_keys.specs.Limits.{limits}
use Rattle.state.proofs.Laws.{held-over, held-each, held-distinct}
use Rattle.state.proofs.held.Held.is_formed.Goals as goal

pub returns-then-n-gt-HELD_KEYS : goal.returns-then-n-gt-HELD_KEYS
returns-then-n-gt-HELD_KEYS c = held-over limits c.args.self c.if-n-gt-HELD_KEYS.true

pub returns-then-not-each_formed : goal.returns-then-not-each_formed
returns-then-not-each_formed c =
    held-each limits c.args.self c.if-n-gt-HELD_KEYS.false (sym c.each_formed.ensures ∙ c.if-not-each_formed.true)

pub returns : goal.returns
returns c =
    held-distinct limits c.args.self _ c.ids-ids.result c.if-n-gt-HELD_KEYS.false (sym c.each_formed.ensures ∙ c.if-not-each_formed.false)
    c.ids-ids.ensures c.are_distinct.ensures
