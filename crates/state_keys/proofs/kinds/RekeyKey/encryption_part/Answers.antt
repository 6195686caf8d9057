use native.Mathlib.Omega.{arith}
use mathlib.Core.Path.{◌≡◌, sym, ◌∙◌}
use lib.ListN.{length}
use lib.Seq.{length-take-le}
use borrow.Author.Rules.{rules}
use Rattle.state_keys.specs.Kinds.{encryption_part}
use Rattle.state_keys.proofs.Sizes.{rekey-le}
use Rattle.state_keys.proofs.kinds.RekeyKey.encryption_part.Goals as goal

pub returns-then-not-are_sizes : goal.returns-then-not-are_sizes
unfolding encryption_part
returns-then-not-are_sizes c = let s = sym c.are_sizes.ensures ∙ c.if-not-are_sizes.true in rw s

pub slice_bounds-o-end : goal.slice_bounds-o-end
slice_bounds-o-end c =
    let s = sym c.are_sizes.ensures ∙ c.if-not-are_sizes.false in
    let n : length c.args.self.octets ≡ 68 = search rules in
    let b = rekey-le _ _ s in
    omega arith

pub slice_bounds-new-end : goal.slice_bounds-new-end
slice_bounds-new-end c =
    let k = c.args.self in
    let s = sym c.are_sizes.ensures ∙ c.if-not-are_sizes.false in
    let n : length k.octets ≡ 68 = search rules in
    let b = rekey-le _ _ s in
    sym (length-take-le k.encryption k.octets (omega arith))

pub returns : goal.returns
unfolding encryption_part
returns c = let s = sym c.are_sizes.ensures ∙ c.if-not-are_sizes.false in rw s c.new.ensures
