use borrow.Author.Rules.{rules}
use Rattle.unwrap_tree.proofs.Gathering.{entry-is}
use Rattle.unwrap_tree.proofs.entries.entry.Goals as goal

-- `unwrap_tree::entries::entry` meets its contract.

pub returns : goal.returns
returns c = search (rules, entry-is)
