use native.Mathlib.Omega.{arith}
use mathlib.Core.Path.{◌≡◌, sym, ◌∙◌, ap}
use Prim.Native.Nat.{ℕ, ◌+◌, ◌-◌}
use lib.ListN.{length, take, drop}
use Rattle.state_keys.specs.Kinds.{wrapping_key, key_wrap_part}
use Rattle.state_keys.proofs.Sizes.{rekey-le}
use borrow.Author.Rules.{rules}
use Rattle.state_keys.proofs.kinds.RekeyKey.key_wrap_part.Goals as goal

pub returns-then-not-are_sizes : goal.returns-then-not-are_sizes
unfolding key_wrap_part
returns-then-not-are_sizes c = let s = sym c.are_sizes.ensures ∙ c.if-not-are_sizes.true in rw s

pub overflow_add-e : goal.overflow_add-e
overflow_add-e c = let s = sym c.are_sizes.ensures ∙ c.if-not-are_sizes.false in let b = rekey-le _ _ s in record { fits = omega arith }

pub slice_bounds-new-end : goal.slice_bounds-new-end
slice_bounds-new-end c =
    let s = sym c.are_sizes.ensures ∙ c.if-not-are_sizes.false in
    let n : length c.args.self.octets ≡ 68 = search rules in
    let b = rekey-le _ _ s in
    omega arith

pub returns : goal.returns
unfolding key_wrap_part
returns c =
    let k = c.args.self in
    let s = sym c.are_sizes.ensures ∙ c.if-not-are_sizes.false in
    let w : (k.encryption + k.wrapping) - k.encryption ≡ k.wrapping = omega arith in
    rw s (c.new.ensures ∙ ap (λ (m : ℕ). wrapping_key (take m (drop k.encryption k.octets))) w)
