use Rattle.std.proofs.Common.{subst, Option}
use Rattle.unwrap_tree.specs.declared.source.Source.{Source}
use Rattle.unwrap_tree.specs.inner.Source.{EntriesOf}
use Rattle.unwrap_tree.proofs.NoEntries.{none-for}
use Rattle.unwrap_tree.proofs.reach_any.Goals as goal

-- `unwrap_tree::reach_any` meets its contract.

pub returns-in-None : goal.returns-in-None
returns-in-None c l held h z lends =
    let a = c.args in
    none-for _ c.none.ensures.empty a.zero held a.ids.now a.block.now lends c.requires.count_value c.new.result c.new.ensures l
    (subst (λ (r : Option Source). EntriesOf a.kd.now r l) c.in-None.is h)
