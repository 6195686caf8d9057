use borrow.Author.Rules.{rules}
use mathlib.Core.Path.{refl}
use native.Mathlib.Omega.{arith}
use Rattle.rfc5649.specs.Wrap.{register_octets}
use Rattle.keywrap.proofs.Loading.{stored-turn}
use Rattle.keywrap.proofs.load.store.Goals as goal

-- `keywrap::load::store` meets its contract.

pub loop-i-init : goal.loop-i-init
unfolding register_octets
loop-i-init c = (refl, refl)

pub loop-i-preserved : goal.loop-i-preserved
loop-i-preserved c =
    let a = c.args in
    let e = stored-turn a.s.now a.room.now c.loop-i.room c.loop-i.i (omega arith) c.loop-i.invariant.1 c.octets_of.ensures c.copy.ensures.1 in
    (search rules, e)
