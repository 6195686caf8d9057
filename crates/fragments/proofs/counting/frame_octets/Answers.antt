use Rattle.fragments.proofs.CountLaws.{frame-more, frame-over, frame-end}
use native.Mathlib.Omega.{arith}
use Rattle.fragments.proofs.counting.frame_octets.Goals as goal

pub returns-then-octets-p : goal.returns-then-octets-p
returns-then-octets-p c =
    let l = c.loop-p in
    frame-over c.args.pieces.now l.p-index l.octets l.invariant.counted _ (omega arith) c.if-octets-p.true

pub loop-p-preserved : goal.loop-p-preserved
loop-p-preserved c =
    let l = c.loop-p in
    record {
      few = omega arith;
      counted = frame-more c.args.pieces.now l.p-index l.octets l.invariant.counted _ (omega arith) c.if-octets-p.false;
    }

pub returns : goal.returns
returns c =
    let l = c.loop-p in
    frame-end c.args.pieces.now l.p-index l.octets l.invariant.counted (omega arith)
