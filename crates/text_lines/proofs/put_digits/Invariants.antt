use lib.ListN.{drop}
use Rattle.text_rules.specs.Hex.{digits_of}
use Rattle.text_lines.proofs.RoomLaws.{Puts}
use Rattle.text_lines.proofs.put_digits.Given as goal

abbrev pub invariant-loop-octet : goal.invariant-loop-octet
invariant-loop-octet l = Puts l.initial.room l.at (digits_of l.octets) l.room l.place (digits_of (drop l.octet-index l.octets))
