-- What a frame says of the member afterwards, out of its facts, the row of its exchange and its Message ID.
use Rattle.std.specs.Prelude.{ℕ, ◌-◌, ltb}
use Rattle.ikev2_numbers.specs.Codes.{payload_header_octets}
use Rattle.wire_frames.specs.declared.exchanges.Exchange.{Exchange}
use Rattle.check_judging.specs.declared.facts.Facts.{Facts}
use Rattle.apply.specs.declared.next.Said.{Said}

-- what a frame says, by the row of its exchange, its Message ID and its facts; a Delete payload starts 4 octets before its body
abbrev pub said_by : Exchange → ℕ → Facts → Said
said_by row id x = record {
  delay = x.policies.delay;
  rekey = ltb 0 x.policies.rekeys;
  initial = x.policies.initial;
  least = row.least;
  id = id;
  deletes = record { count = x.payloads.deletes; start = x.payloads.delete.start - payload_header_octets };
}
