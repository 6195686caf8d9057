use mathlib.Core.Path.{refl, sym, ap, ◌∙◌}
use Prim.Native.Nat.{◌+◌, ◌/◌, ◌%◌}
use native.Mathlib.Omega.{arith}
use lib.Bits.{bit_xor}
use Rattle.octets.specs.Numbers.{oct}
use Rattle.gcm.proofs.StreamLaws.{in_block, text_at}
use Rattle.gcm.proofs.stream.gctr_at.Goals as goal

-- `gcm::stream::gctr_at` meets its contract.

pub returns : goal.returns
returns c = λ key e.
    let a = c.args in
    ap (bit_xor (oct a.c.now a.i))
    (in_block a.nonce.now c.requires.nonce_len.0 key c.block_of-b.result (2 + a.i / 16) a.i (omega arith) (omega arith)
    (c.block_of-b.ensures ∙ c.encipher_counter-m.ensures key e) (a.i % 16) refl)
    ∙ sym (text_at a.nonce.now c.requires.nonce_len.0 key a.c.now a.i c.requires.nonce_len.1)
