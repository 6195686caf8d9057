use Rattle.std.proofs.Common.{arith, sym, ◌∙◌}
use Rattle.state_keys.specs.Limits.{limits}
use Rattle.state.proofs.Laws.{key_here, key-next, key-end, key_in, key-out}
use Rattle.state.proofs.held.Held.find.Goals as goal

pub returns-then-self-gt-HELD_KEYS : goal.returns-then-self-gt-HELD_KEYS
returns-then-self-gt-HELD_KEYS c = sym (key-out limits c.args.self c.args.id c.if-self-gt-HELD_KEYS.true)

pub returns-then-k-id : goal.returns-then-k-id
returns-then-k-id c =
    let a = c.args in
    sym (key_in limits a.self a.id c.if-self-gt-HELD_KEYS.false ∙ c.loop-k.invariant
    ∙ key_here a.id _ c.loop-k.k-index _ c.loop-k-test.true c.if-k-id.true)

pub loop-k-preserved : goal.loop-k-preserved
loop-k-preserved c = c.loop-k.invariant ∙ key-next c.args.id _ c.loop-k.k-index _ c.loop-k-test.true c.if-k-id.false

pub returns : goal.returns
returns c =
    let a = c.args in
    sym (key_in limits a.self a.id c.if-self-gt-HELD_KEYS.false ∙ c.loop-k.invariant
    ∙ key-end a.id _ c.loop-k.k-index (omega (arith, c.loop-k-test.false)))
