use mathlib.Core.Path.{ap, ap₂, ◌∙◌}
use Prim.Native.Nat.{ℕ}
use lib.Bits.{bit_xor}
use lib.ListN.{get_or}
use Rattle.aes.specs.inner.Word.{b0, b1, b2, b3}
use Rattle.aes.proofs.Rotations.{ror8-is, ror16-is, ror24-is}
use Rattle.aes.proofs.words.column.Goals as goal

-- `aes::words::column` meets its contract.

pub returns : goal.returns
returns c =
    let a = c.args in
    let t = a.t.now in
    ap (λ (z : ℕ). bit_xor z a.k)
    (ap₂ bit_xor
    (ap (bit_xor (get_or t (b0 a.a) 0)) (c.rotate_right-q.ensures ∙ ror8-is (get_or t (b1 a.b) 0) (c.type_inv.t (b1 a.b)).fits))
    (ap₂ bit_xor (c.rotate_right-r.ensures ∙ ror16-is (get_or t (b2 a.c) 0) (c.type_inv.t (b2 a.c)).fits)
    (c.rotate_right-u.ensures ∙ ror24-is (get_or t (b3 a.d) 0) (c.type_inv.t (b3 a.d)).fits)))
