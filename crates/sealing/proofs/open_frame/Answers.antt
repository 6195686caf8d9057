use borrow.Author.Rules.{rules}
use Prim.Native.Nat.{ℕ}
use lib.ListN.{length}
use mathlib.Core.Path.{◌≡◌, subst}
use mathlib.Core.List.{List}
use native.Mathlib.Omega.{arith}
use Rattle.state_keys.proofs.Sizes.{encryption-le}
use Rattle.sealing.specs.Unsealing.{UnsealsInto}
use Rattle.sealing.proofs.UnderLaws.{from_start, part-fits}
use Rattle.sealing.proofs.open_frame.Goals as goal

-- `sealing::open_frame` meets its contract.

pub slice_bounds-open_part-end : goal.slice_bounds-open_part-end
slice_bounds-open_part-end c =
    let n : length c.args.key.octets ≡ 36 = search rules in
    let l = encryption-le c.args.key.count c.requires.count_value in
    omega arith

pub open_part-requires : goal.open_part-requires
open_part-requires c =
    let k = c.args.key in
    let n : length k.octets ≡ 36 = search rules in
    let l = encryption-le k.count c.requires.count_value in
    record {
      salt_octets_in_bounds = part-fits k.count k.octets c.requires.count_value (omega arith);
      frame_value = c.requires.frame_value;
    }

pub returns : goal.returns
returns c =
    let a = c.args in
    subst (λ (p : List ℕ). UnsealsInto p a.frame.now a.room.now c.open_part.result c.open_part.new.room)
    (from_start a.key.octets a.key.count) c.open_part.ensures
