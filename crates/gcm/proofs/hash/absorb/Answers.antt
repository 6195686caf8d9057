use mathlib.Core.Path.{◌≡◌, refl, sym, ap, subst, ◌∙◌}
use Prim.Native.Nat.{ℕ, ◌*◌, ◌/◌}
use native.Mathlib.Omega.{arith}
use lib.ListN.{length, length-drop}
use Rattle.gcm.specs.inner.Halves.{pair_number}
use Rattle.gcm.proofs.HashLaws.{Absorbing, absorbed, last_one, none_left, from_start, tail-is}
use Rattle.octets.specs.Numbers.{number}
use Rattle.gcm.proofs.hash.absorb.Goals as goal

-- `gcm::hash::absorb` meets its contract.

pub loop-i-init : goal.loop-i-init
loop-i-init c = record { inside = omega arith; left = λ h m. refl }

pub loop-i-preserved : goal.loop-i-preserved
loop-i-preserved c =
    absorbed c.args.w.now c.args.s.now (pair_number c.args.y) (pair_number c.loop-i.z) c.loop-i.i c.loop-i.invariant (omega arith)
    c.block_at.ensures c.hash_block-z.ensures

pub last_block-requires : goal.last_block-requires
last_block-requires c =
    let s = c.args.s.now in
    let at = 16 * (length s / 16) in
    let t = ap length (tail-is s at) ∙ length-drop at s in
    omega (arith, t)

-- the loop has gone over all whole blocks
pub returns-then-at-s : goal.returns-then-at-s
returns-then-at-s c h m =
    let a = c.args in
    let s = a.s.now in
    let at = 16 * (length s / 16) in
    let v = subst (λ (i : ℕ). Absorbing a.w.now s (pair_number a.y) (pair_number c.loop-i.z) (16 * i))
    (let q : c.loop-i.i ≡ length s / 16 = omega arith in q) c.loop-i.invariant in
    let x = c.last_block.ensures ∙ ap (number 16) (tail-is s at) in
    sym (last_one h (pair_number c.loop-i.z) at s (omega arith) (omega arith) x (c.hash_block-z-then-at-s.ensures h m))
    ∙ sym (v.left h m) ∙ from_start h (pair_number a.y) s

pub returns-else-at-s : goal.returns-else-at-s
returns-else-at-s c h m =
    let a = c.args in
    let s = a.s.now in
    sym (none_left h (pair_number c.loop-i.z) (16 * c.loop-i.i) s (omega arith)) ∙ sym (c.loop-i.invariant.left h m)
    ∙ from_start h (pair_number a.y) s
