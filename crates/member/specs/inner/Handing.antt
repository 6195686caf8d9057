-- Octets handed to the write of the standard output. No contract can name what a write writes: what is seen of it is the count of the
-- octets handed to it, modulo 2^64, and whether one failed, which `hand_over` alone sets (src/output.rt).
use Rattle.std.specs.Prelude.{◌≡◌, ℕ, ◌+◌, ◌%◌, ◌^◌, true, false, List, [], ◌++◌, length}
use Rattle.member.specs.declared.output.Handed.{Handed}

-- before the first write
abbrev pub nothing_handed : Handed
nothing_handed = record { count = 0; failed = false }

-- `octets` are due. Those up to and with a write that fails are handed over (`over`), those behind are held back (`rest`). Where a write
-- has failed before, none is handed over
pub record HandedOver (h : Handed) (octets : List ℕ) (e : Handed) : Type 0 where
  pub over : List ℕ
  pub rest : List ℕ
  pub parts : octets ≡ over ++ rest
  pub count : e.count % 2 ^ 64 ≡ (h.count + length over) % 2 ^ 64
  pub all : e.failed ≡ false → rest ≡ []
  pub none : h.failed ≡ true → over ≡ []
  pub stays : h.failed ≡ true → e.failed ≡ true
