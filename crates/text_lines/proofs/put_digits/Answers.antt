use Rattle.text_rules.proofs.HexLaws.{written-more, written-end}
use Rattle.text_lines.proofs.RoomLaws.{puts-more, puts-done}
use Rattle.text_lines.proofs.put_digits.Goals as goal

-- `text_lines::put_digits` meets its contract. The invariant: the digits of the octets passed are put.

pub loop-octet-preserved : goal.loop-octet-preserved
loop-octet-preserved c =
    let l = c.loop-octet in
    puts-more _ l.invariant (written-more c.args.octets.now l.octet-index c.loop-octet-test.true) c.put_octet-place.ensures

pub returns : goal.returns
returns c =
    puts-done c.loop-octet.invariant (written-end c.args.octets.now c.loop-octet.octet-index c.loop-octet-test.false)
