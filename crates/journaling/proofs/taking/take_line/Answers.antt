use Rattle.std.proofs.Common.{sym, ap, arith}
use Rattle.journal_rules.specs.Line.{said_of}
use Rattle.journaling.proofs.TakeLaws.{takes-line-as, text-taken, text-other, text-long, octets-there}
use Rattle.journaling.proofs.taking.take_line.Goals as goal

-- `journaling::taking::take_line` meets its contract.

pub returns-then-text-gt-LONGEST_DIGITS : goal.returns-then-text-gt-LONGEST_DIGITS
returns-then-text-gt-LONGEST_DIGITS c = let s = c.args in text-long s.member.state s.text.now (omega arith)

pub returns-then-not-is_hex : goal.returns-then-not-is_hex
returns-then-not-is_hex c = text-other c.args.member.state c.args.text.now (sym c.if-not-is_hex.ensures)

pub returns : goal.returns
returns c =
    let text = c.args.text.now in
    let r = c.take_octets.result in
    let e = octets-there text c.put_octets-n.ensures (omega arith) c.requires in
    text-taken c.args.member.state text (sym c.if-not-is_hex.ensures) r
    (takes-line-as c.args.member.state r (ap said_of e) c.take_octets.ensures)
