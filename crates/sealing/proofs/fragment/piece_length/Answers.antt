use borrow.Author.Rules.{rules}
use mathlib.Core.Path.{◌≡◌, subst}
use mathlib.Core.List.{List}
use Prim.Native.Nat.{ℕ}
use native.Mathlib.Omega.{arith}
use lib.ListN.{length, take}
use Rattle.octets.specs.Octets.{Octets}
use Rattle.state_keys.proofs.Sizes.{encryption-le}
use Rattle.rfc5282.specs.Number10.{small-room}
use Rattle.rfc5282.proofs.FragmentLaws.{fragment-is}
use Rattle.sealing.specs.inner.Judging.{BodyJudged}
use Rattle.sealing.proofs.UnderLaws.{from_start, part-fits}
use Rattle.sealing.proofs.PieceLaws.{piece-judged}
use Rattle.sealing.proofs.fragment.piece_length.Goals as goal

-- `sealing::fragment::piece_length` meets its contract.

pub returns-then-room-lt-MOST_OCTETS : goal.returns-then-room-lt-MOST_OCTETS
returns-then-room-lt-MOST_OCTETS c =
    λ lent e. small-room (omega (arith, e, c.if-room-lt-MOST_OCTETS.true))

pub slice_bounds-count_piece-end : goal.slice_bounds-count_piece-end
slice_bounds-count_piece-end c =
    let n : length c.args.key.octets ≡ 36 = search rules in
    let l = encryption-le c.args.key.count c.requires.count_value in
    omega arith

pub count_piece-requires : goal.count_piece-requires
count_piece-requires c =
    let k = c.args.key in
    let n : length k.octets ≡ 36 = search rules in
    let l = encryption-le k.count c.requires.count_value in
    record {
      salt_octets_in_bounds = part-fits k.count k.octets c.requires.count_value (omega arith);
      frame_value = c.requires.frame_value;
    }

pub returns : goal.returns
returns c =
    λ lent e.
    let a = c.args in
    let o : Octets a.frame.now = λ i. (c.shared_slice_known-1.given i).fits in
    piece-judged (take a.key.count a.key.octets) a.frame.now o (fragment-is a.frame.now c.requires.frame_value)
    c.count_piece.result
    (subst (λ (p : List ℕ). BodyJudged 36 p a.frame.now c.count_piece.result) (from_start a.key.octets a.key.count)
    c.count_piece.ensures) lent (omega (arith, e, c.if-room-lt-MOST_OCTETS.false))
