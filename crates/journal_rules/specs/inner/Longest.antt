-- The longest line that a reader must look into: a key length, the longest key that a length can count, a tick and the longest frame.
use Rattle.std.specs.Prelude.{ℕ, ◌+◌, ◌-◌, ◌*◌}
use Rattle.ikev2_numbers.specs.Codes.{most_octets}
use Rattle.journal_rules.specs.Line.{tick_octets, leaving_octet}

-- ff stands for leaving
abbrev pub most_key_octets : ℕ
most_key_octets = leaving_octet - 1

abbrev pub longest_octets : ℕ
longest_octets = 1 + (most_key_octets + (tick_octets + most_octets))

abbrev pub longest_digits : ℕ
longest_digits = 2 * longest_octets
