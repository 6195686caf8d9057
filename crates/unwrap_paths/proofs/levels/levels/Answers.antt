use Rattle.unwrap_paths.proofs.Marking.{has-levels-alike}
use Rattle.unwrap_paths.proofs.levels.levels.Goals as goal

-- `unwrap_paths::levels::levels` meets its contract.

pub returns : goal.returns
returns g c = λ h f. has-levels-alike _ _ _ _ _ _ (c.marks_of.ensures h f) (c.levels_by_marks.ensures)
