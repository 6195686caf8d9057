use Rattle.std.proofs.Common.{◌≡◌, ◌∙◌, ap, length, arith, rules}
use lib.ListN.{length-set}
use Rattle.octets.specs.Numbers.{oct}
use Rattle.state_keys.specs.Limits.{limits}
use Rattle.unwrap_paths.specs.inner.Holding.{held_at}
use Rattle.unwrap_paths.proofs.Keeping.{keep-none, keep-next, keep-end}
use Rattle.unwrap_paths.proofs.held.path_keys.Goals as goal
use Rattle.state_keys.specs.Kinds.{key_or_blank}
use Rattle.state_keys.proofs.Made.{or-blank}

-- `unwrap_paths::held::path_keys` meets its contract.

pub loop-i-init : goal.loop-i-init
loop-i-init c =
    let a = c.args in
    let h = keep-none (held_at a.links.ids a.reached) a.trail.places a.trail.count c.new.result c.new.ensures in (h.filled.long, h)

pub loop-i-preserved : goal.loop-i-preserved
loop-i-preserved c =
    let l = c.loop-i in
    let a = c.args in
    let places = a.trail.places in
    let e : length places ≡ limits.wrap_keys = search rules in
    let key = or-blank c.find.result c.blank.result c.unwrap_or-key.result c.blank.ensures c.unwrap_or-key.ensures ∙ ap key_or_blank c.find.ensures in (
      simp length-set l.invariant.0,
      keep-next (held_at a.links.ids a.reached) places a.trail.count l.keys l.i _ c.loop-i-test.true (omega (arith, e, c.requires.few))
          (omega (arith, c.requires.few)) (ap (λ k. record { id = oct a.links.ids (oct places l.i); key = k }) key) l.invariant.1,
    )

pub returns : goal.returns
returns c =
    let v = c.loop-i in
    let a = c.args in
    let places = a.trail.places in
    let e : length places ≡ limits.wrap_keys = search rules in
    let i : v.i ≡ a.trail.count = omega arith in
    keep-end (held_at a.links.ids a.reached) places a.trail.count v.keys v.i i (omega (arith, e, c.requires.few))
    (omega (arith, c.requires.few)) v.invariant.1
