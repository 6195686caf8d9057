use mathlib.Core.Path.{refl, subst}
use Prim.Native.Nat.{ℕ}
use native.Mathlib.Omega.{arith}
use Rattle.gcm.specs.inner.Puts.{masked, PutsOctets}
use Rattle.gcm.proofs.StreamLaws.{nothing_put, one-put}
use Rattle.gcm.proofs.stream.add_block.Goals as goal

-- `gcm::stream::add_block` meets its contract.

pub loop-i-init : goal.loop-i-init
loop-i-init c = let a = c.args in nothing_put (masked a.m a.c.now a.at) a.at a.room.now

pub loop-i-preserved : goal.loop-i-preserved
unfolding masked
loop-i-preserved c =
    let a = c.args in
    one-put (masked a.m a.c.now a.at) a.at a.room.now (omega arith) (omega arith) refl c.loop-i.invariant

pub returns : goal.returns
returns c =
    let a = c.args in
    subst (λ (n : ℕ). PutsOctets (masked a.m a.c.now a.at) a.at n a.room.now c.loop-i.room) (omega arith)
    c.loop-i.invariant
