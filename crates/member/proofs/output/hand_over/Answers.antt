use Rattle.std.proofs.Common.{sym, arith, length-take-le}
use Rattle.member.proofs.HandingLaws.{over-held, over-all}
use Rattle.member.proofs.output.hand_over.Goals as goal

-- `member::output::hand_over` meets its contract: its count is that of the octets.

pub returns-then-handed : goal.returns-then-handed
returns-then-handed c = over-held c.if-handed.true

pub slice_bounds-write_all-end : goal.slice_bounds-write_all-end
slice_bounds-write_all-end c =
    sym (length-take-le c.args.at c.args.out.now c.requires)

pub returns : goal.returns
returns c =
    let n = length-take-le c.args.at c.args.out.now c.requires in
    over-all c.if-handed.false (omega (arith, n))
