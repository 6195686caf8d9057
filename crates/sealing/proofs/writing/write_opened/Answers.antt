use native.Mathlib.Omega.{arith}
use Rattle.sealing.proofs.CopyLaws.{opened-put}
use Rattle.sealing.proofs.writing.write_opened.Goals as goal

-- `sealing::writing::write_opened` meets its contract.

pub returns : goal.returns
returns c = λ part en e.
    let a = c.args in
    opened-put part a.frame.now a.room.now a.p (omega arith) c.make_header-h.ensures c.copy.ensures.1 en
    (c.gctr_in.ensures _ e)
