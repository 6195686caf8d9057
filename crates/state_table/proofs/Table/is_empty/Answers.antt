use Rattle.state_keys.specs.Limits.{limits}
use Rattle.state_table.proofs.Laws.{empty-is}
use Rattle.state_table.proofs.Table.is_empty.Goals as goal

pub returns : goal.returns
returns c = let a = c.args in empty-is limits a.tick _ a.self c.count_standing.ensures
