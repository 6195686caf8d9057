use native.Mathlib.Omega.{arith}
use Prim.Native.Nat.{◌≤◌}
use mathlib.Core.Path.{sym, ◌∙◌, subst, ap}
use mathlib.Core.Logic.{⊎_elim}
use lib.ListN.{get_or}
use Rattle.state_keys.specs.Limits.{limits}
use Rattle.state_keys.proofs.Sizes.{wrapping-le}
use Rattle.state_keys.proofs.Made.{or-blank}
use Rattle.state.specs.Held.{held_key}
use Rattle.unwrap_lending.specs.inner.Lending.{key_octets}
use Rattle.unwrap_lending.proofs.Filling.{placed-none, named-sized, named_more, named-all}
use Rattle.unwrap_lending.proofs.lend_named.Goals as goal
use Rattle.std.specs.Prelude.{Option}
use Rattle.state_keys.specs.Kinds.{key_or_blank}
use Rattle.state_keys.specs.declared.kinds.WrappingKey.{WrappingKey}

-- `unwrap_lending::lend_named` meets its contract.

pub loop-i-init : goal.loop-i-init
loop-i-init c = placed-none _ _ c.requires.ids_len_bound.1

pub put-requires-clause-count_le_key_octets : goal.put-requires-clause-count_le_key_octets
put-requires-clause-count_le_key_octets c =
    let a = c.args in
    let f = or-blank c.find.result c.blank.result c.unwrap_or-key.result c.blank.ensures c.unwrap_or-key.ensures ∙ ap key_or_blank c.find.ensures in
    let m : (key_or_blank (held_key limits (get_or a.ids.now c.loop-i.i 0) a.reached.now)).count ≤ key_octets =
    ⊎_elim (λ z. omega arith) (λ z. wrapping-le _ z)
    (named-sized a.reached.now c.requires.reached_value a.ids.now (get_or a.ids.now c.loop-i.i 0)) in
    subst (λ (x : WrappingKey). x.count ≤ key_octets) (sym f) m

pub loop-i-preserved : goal.loop-i-preserved
loop-i-preserved c =
    let a = c.args in
    let l = c.loop-i in
    let n = c.requires.ids_len_bound.0 in
    let h = c.loop-i-test.true in
    let f = or-blank c.find.result c.blank.result c.unwrap_or-key.result c.blank.ensures c.unwrap_or-key.ensures ∙ ap key_or_blank c.find.ensures in
    named_more a.reached.now c.requires.reached_value a.ids.now l.block l.i l.invariant h (omega arith) _ f _ c.put.ensures

pub returns : goal.returns
returns c =
    named-all c.args.reached.now c.requires.reached_value c.args.ids.now c.loop-i.block c.loop-i.i c.loop-i-test.false (omega arith)
    c.loop-i.invariant
