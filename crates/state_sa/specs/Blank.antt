-- The unused places of an SA: the 12 octets behind an ESP SPI, the octets behind the keying octets, an ESP SA's part counts. They are 0 in
-- every SA made from a key as its constructor made it.
use Rattle.std.specs.Prelude.{◌≡◌, take}
use Rattle.state_keys.specs.Rooms.{sa_room, spi_room}
use Rattle.state_keys.specs.Kinds.{padded}
use Rattle.state_sa.specs.declared.entry.Sa.{Sa}
use Rattle.state_sa.specs.Entry.{esp_protocol, sa_spi}

pub record ZeroPadded (s : Sa) : Type 0 where
  pub spi : s.spi ≡ padded spi_room (sa_spi s)
  pub octets : s.octets ≡ padded sa_room (take s.count s.octets)
  pub parts : s.protocol ≡ esp_protocol → (s.encryption ≡ 0) × (s.wrapping ≡ 0)
