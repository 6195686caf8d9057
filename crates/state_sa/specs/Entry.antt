-- An SA of the table: "protocol, SPI, keying octets of a size the table below needs (a Rekey SA also the octet counts of their two parts),
-- and is live or retiring (start tick, delay in seconds)". Document 02, T-07: "Each SA entry gains its lifetime (GSA_KEY_LIFETIME, ..) and
-- the tick of its start, or "no lifetime" if the attribute is missing".
use Rattle.std.specs.Prelude.{ℕ, ◌+◌, Bool, true, false, cond, ◌&&◌, ◌||◌, List, [], take, ◌==◌, nat_le, nat_lt}
use Rattle.state_keys.specs.Rooms.{sa_room, spi_room}
use Rattle.ikev2_numbers.specs.Codes.{data_spi_octets, protocol_esp, protocol_gike_update, rekey_spi_octets}
use Rattle.octets.specs.Compare.{less, same}
use Rattle.state_keys.specs.Algorithms.{is_encryption_size}
use Rattle.state_keys.specs.Kinds.{padded, rekey_sizes}
use Rattle.state_keys.specs.declared.kinds.EspKey.{EspKey}
use Rattle.state_keys.specs.declared.kinds.RekeyKey.{RekeyKey}
use Rattle.state_sa.specs.declared.entry.Condition.{Condition}
use Rattle.state_sa.specs.declared.entry.Condition.TheVariants.{Live, Retiring}
use Rattle.state_sa.specs.declared.entry.Lifetime.{Lifetime}
use Rattle.state_sa.specs.declared.entry.Lifetime.TheVariants.{Unlimited, Limited}
use Rattle.state_sa.specs.declared.entry.Sa.{Sa}
use Rattle.state_sa.specs.Clock.{elapsed_at_least}

-- protocols (RFC 9838, section 4.4.2): ESP, and GIKE_UPDATE for a Rekey SA; then the count of octets in an SPI of each
abbrev pub esp_protocol : ℕ
esp_protocol = protocol_esp

abbrev pub rekey_protocol : ℕ
rekey_protocol = protocol_gike_update

abbrev pub sa_spi_size : ℕ → ℕ
sa_spi_size p = cond (p == esp_protocol) data_spi_octets (cond (p == rekey_protocol) rekey_spi_octets 0)

-- the octets of the SPI that are in use
abbrev pub sa_spi : Sa → List ℕ
sa_spi s = take (sa_spi_size s.protocol) s.spi

-- "strictly rising by protocol (3 or 6), then SPI octets": a stands before b
unfoldable pub sa_before : Sa → Sa → Bool
sa_before a b =
    cond (nat_lt a.protocol b.protocol) true (cond (nat_lt b.protocol a.protocol) false (less (sa_spi a) (sa_spi b)))

-- the SA has protocol p and SPI x
unfoldable pub named : ℕ → List ℕ → Sa → Bool
named p x s = s.protocol == p && same (sa_spi s) x

-- "protocol (3 or 6) ... keying octets of a size the table below needs": an ESP SA "the first number, a Rekey SA the sum of both"
unfoldable pub sa_sized : Sa → Bool
sa_sized s =
    cond (s.protocol == esp_protocol) (is_encryption_size s.count)
    (s.protocol == rekey_protocol && (rekey_sizes s.encryption s.wrapping && s.count == s.encryption + s.wrapping))

-- "at most 2,000,000 seconds"
abbrev pub most_seconds : ℕ
most_seconds = 2000000

abbrev pub fit_lifetime : Lifetime → Bool
fit_lifetime Unlimited = true
fit_lifetime (Limited start seconds) = nat_le seconds most_seconds

-- the SA can stand in the table
unfoldable pub sa_formed : Sa → Bool
sa_formed s = sa_sized s && fit_lifetime s.lifetime

abbrev pub is_live : Condition → Bool
is_live Live = true
is_live (Retiring start delay) = false

-- a live Rekey SA
unfoldable pub live_rekey : Sa → Bool
live_rekey s = s.protocol == rekey_protocol && is_live s.condition

-- "A retiring SA is due when (now − start) modulo 2^32 is at least 1,000 × delay"
abbrev pub due_by : ℕ → Condition → Bool
due_by now Live = false
due_by now (Retiring start delay) = elapsed_at_least now start delay

-- "A live SA is due when its lifetime has run, by the same modulo rule as retiring" (document 02, T-07)
abbrev pub ran_out : ℕ → Lifetime → Bool
ran_out now Unlimited = false
ran_out now (Limited start seconds) = elapsed_at_least now start seconds

-- "A retiring SA is due at whichever comes first."
unfoldable pub due : ℕ → Sa → Bool
due now s = due_by now s.condition || ran_out now s.lifetime

-- an SA by its parts: protocol, SPI, keying octets with their count and the counts of their two parts, condition, lifetime
abbrev pub make_sa : ℕ → List ℕ → List ℕ → ℕ → ℕ → ℕ → Condition → Lifetime → Sa
make_sa p x o n e w c t = record {
  protocol = p;
  spi = x;
  octets = o;
  count = n;
  encryption = e;
  wrapping = w;
  condition = c;
  lifetime = t;
}

-- the same SA in another condition, with its lifetime
abbrev pub with_condition : Condition → Sa → Sa
with_condition c s = make_sa s.protocol s.spi s.octets s.count s.encryption s.wrapping c s.lifetime

-- a live SA retires at a tick with a delay; a retiring one keeps its start and delay
abbrev pub retired_by : ℕ → ℕ → Condition → Condition
retired_by now delay Live = Retiring now delay
retired_by now delay (Retiring s d) = Retiring s d

unfoldable pub retired : ℕ → ℕ → Sa → Sa
retired now delay s = with_condition (retired_by now delay s.condition) s

-- "The new SAs enter as live": with SPI x, a key of their kind and a lifetime t. An ESP SA has no part counts
unfoldable pub esp_sa : List ℕ → EspKey → Lifetime → Sa
esp_sa x k t = make_sa esp_protocol (padded spi_room x) (padded sa_room (take k.count k.octets)) k.count 0 0 Live t

unfoldable pub rekey_sa : List ℕ → RekeyKey → Lifetime → Sa
rekey_sa x k t = make_sa rekey_protocol (padded spi_room x) k.octets (k.encryption + k.wrapping) k.encryption k.wrapping Live t

-- the keying octets of a Rekey SA with the octet counts of their two parts
abbrev pub keying_of : Sa → RekeyKey
keying_of s = record { octets = s.octets; encryption = s.encryption; wrapping = s.wrapping }

-- the value of an unused place of the table
abbrev pub blank_sa : Sa
blank_sa = make_sa 0 (padded spi_room []) (padded sa_room []) 0 0 0 Live Unlimited
