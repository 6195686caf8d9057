use Rattle.std.proofs.Common.{arith}
use lib.ListN.{length-set}
use Rattle.unwrap_paths.proofs.Marking.{mark-read}
use Rattle.unwrap_paths.proofs.levels.marks_of.Goals as goal

-- `unwrap_paths::levels::marks_of` meets its contract.

pub loop-i-preserved : goal.loop-i-preserved
loop-i-preserved g c =
    let l = c.loop-i in
    let x = c.index-given-i in (
      simp length-set l.invariant.0,
      λ h f. mark-read h c.args.given.now l.out l.i x.result c.into.result (omega arith) (omega arith) x.is (f _ _ c.into.ensures)
          (l.invariant.1 h f),
    )
