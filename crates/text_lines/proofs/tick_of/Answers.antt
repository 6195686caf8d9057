use native.Mathlib.Omega.{arith}
use Rattle.text_rules.proofs.InputLaws.{tick-octets}
use Rattle.text_lines.proofs.tick_of.Goals as goal

-- `text_lines::tick_of` meets its contract.

pub returns : goal.returns
returns c =
    let e = tick-octets c.args.text.now c.requires in
    omega (arith, e, c.octet_at-d.ensures, c.octet_at-c.ensures, c.octet_at-b.ensures, c.octet_at-a.ensures, c.from_be_bytes.ensures)
