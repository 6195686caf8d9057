-- The octets that a value has room for: the most that its kind of key needs by the algorithm table.
use Rattle.std.specs.Prelude.{ℕ}

-- a wrapping key: KW_5649_256
abbrev pub wrapping_key_room : ℕ
wrapping_key_room = 32

-- the key of an ESP SA, or the encryption part of a Rekey SA's: AES-GCM-16 with 256 bits and four octets of salt
abbrev pub encryption_key_room : ℕ
encryption_key_room = 36

-- the keying octets of any SA: those of a Rekey SA are an encryption part and a wrapping part
abbrev pub sa_room : ℕ
sa_room = 68

-- the SPI of any SA: that of a Rekey SA
abbrev pub spi_room : ℕ
spi_room = 16
