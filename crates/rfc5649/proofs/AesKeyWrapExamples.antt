-- The definition at RFC 5649's own examples (section 6): "wrap 20 octets" and "wrap 7 octets of key data with a 192-bit KEK". Code and
-- definition are proved against each other, so a slip that both make (five rounds in place of six) would pass without these.
use Prim.Native.Nat.{ℕ}
use mathlib.Core.Path.{◌≡◌, refl}
use mathlib.Core.List.{List, [], ◌∷◌}
use Rattle.octets.specs.Compare.{order_of}
use Rattle.std.specs.declared.cmp.Ordering.TheVariants.{Equal}
use Rattle.octets.specs.Numbers.{number, octets_of}
use Rattle.octets.proofs.Order.{order-equal}
use Rattle.fips197.specs.Field.{xtimes, power}
use Rattle.fips197.specs.Sbox.{sbox}
use Rattle.fips197.specs.Expansion.{key_expansion, temp}
use Rattle.fips197.specs.Cipher.{cipher, cipher_with}
use Rattle.rfc5649.specs.Steps.{stored, step, row, rows}
use Rattle.rfc5649.specs.Wrap.{pad_to_blocks, registers, register_octets, start_registers, wrap_of}

-- KEK: 5840df6e29b02af1 ab493b705bf16ea1 ae8338f4dcc176a8
abbrev kek : List ℕ
kek =
    0x58 ∷ 0x40 ∷ 0xdf ∷ 0x6e ∷ 0x29 ∷ 0xb0 ∷ 0x2a ∷ 0xf1 ∷ 0xab ∷ 0x49 ∷ 0x3b ∷ 0x70 ∷ 0x5b ∷ 0xf1 ∷ 0x6e ∷ 0xa1 ∷
    0xae ∷ 0x83 ∷ 0x38 ∷ 0xf4 ∷ 0xdc ∷ 0xc1 ∷ 0x76 ∷ 0xa8 ∷ []

-- Key: c37b7e6492584340 bed1220780894115 5068f738
abbrev twenty : List ℕ
twenty =
    0xc3 ∷ 0x7b ∷ 0x7e ∷ 0x64 ∷ 0x92 ∷ 0x58 ∷ 0x43 ∷ 0x40 ∷ 0xbe ∷ 0xd1 ∷ 0x22 ∷ 0x07 ∷ 0x80 ∷ 0x89 ∷ 0x41 ∷ 0x15 ∷
    0x50 ∷ 0x68 ∷ 0xf7 ∷ 0x38 ∷ []

-- Wrap: 138bdeaa9b8fa7fc 61f97742e72248ee 5ae6ae5360d1ae6a 5f54f373fa543b6a
abbrev twenty_wrapped : List ℕ
twenty_wrapped =
    0x13 ∷ 0x8b ∷ 0xde ∷ 0xaa ∷ 0x9b ∷ 0x8f ∷ 0xa7 ∷ 0xfc ∷ 0x61 ∷ 0xf9 ∷ 0x77 ∷ 0x42 ∷ 0xe7 ∷ 0x22 ∷ 0x48 ∷ 0xee ∷
    0x5a ∷ 0xe6 ∷ 0xae ∷ 0x53 ∷ 0x60 ∷ 0xd1 ∷ 0xae ∷ 0x6a ∷ 0x5f ∷ 0x54 ∷ 0xf3 ∷ 0x73 ∷ 0xfa ∷ 0x54 ∷ 0x3b ∷ 0x6a ∷ []

-- A and R[1] to R[3] before the steps
abbrev twenty_begun : List ℕ
twenty_begun = 0xa65959a600000014 ∷ 0xc37b7e6492584340 ∷ 0xbed1220780894115 ∷ 0x5068f73800000000 ∷ []

-- computed as an order: an equation of lists takes longer where it fails, as it does in most edits
twenty-wrapped : order_of (register_octets (rows kek 3 6 twenty_begun)) twenty_wrapped ≡ Equal
unfolding order_of register_octets number octets_of rows row step stored cipher cipher_with key_expansion temp power xtimes sbox
twenty-wrapped = refl

pub wraps-twenty-octets : wrap_of kek twenty ≡ twenty_wrapped
unfolding wrap_of start_registers pad_to_blocks registers number
wraps-twenty-octets = order-equal (register_octets (rows kek 3 6 twenty_begun)) twenty_wrapped twenty-wrapped

-- Key: 466f7250617369
-- Wrap: afbeb0f07dfbf541 9200f2ccb50bb24f
pub wraps-seven-octets :
    wrap_of kek (0x46 ∷ 0x6f ∷ 0x72 ∷ 0x50 ∷ 0x61 ∷ 0x73 ∷ 0x69 ∷ []) ≡
    0xaf ∷ 0xbe ∷ 0xb0 ∷ 0xf0 ∷ 0x7d ∷ 0xfb ∷ 0xf5 ∷ 0x41 ∷ 0x92 ∷ 0x00 ∷ 0xf2 ∷ 0xcc ∷ 0xb5 ∷ 0x0b ∷ 0xb2 ∷ 0x4f ∷ []
unfolding wrap_of pad_to_blocks number octets_of cipher cipher_with key_expansion temp power xtimes sbox
wraps-seven-octets = refl
