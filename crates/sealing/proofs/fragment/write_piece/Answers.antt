use borrow.Author.Rules.{rules}
use mathlib.Core.Path.{◌≡◌, sym, subst}
use mathlib.Core.List.{List}
use Prim.Native.Nat.{ℕ}
use native.Mathlib.Omega.{arith}
use lib.ListN.{length}
use Rattle.state_keys.proofs.Sizes.{encryption-le}
use Rattle.rfc5282.specs.Keys.{aes_key_of, salt_of}
use Rattle.rfc5282.specs.SealedFragment.{OpensFragment}
use Rattle.sealing.specs.Pieces.{PieceOf}
use Rattle.sealing.proofs.UnderLaws.{from_start, part-fits}
use Rattle.sealing.proofs.fragment.write_piece.Goals as goal

-- `sealing::fragment::write_piece` meets its contract.

pub slice_bounds-write_under-end : goal.slice_bounds-write_under-end
slice_bounds-write_under-end c =
    let n : length c.args.key.octets ≡ 36 = search rules in
    let l = encryption-le c.args.key.count c.requires.count_value in
    omega arith

pub write_under-requires : goal.write_under-requires
write_under-requires c =
    let a = c.args in
    let k = a.key in
    let n : length k.octets ≡ 36 = search rules in
    let l = encryption-le k.count c.requires.count_value in record {
      salt_octets_in_bounds = part-fits k.count k.octets c.requires.count_value (omega arith);
      piece_of = subst (λ (x : List ℕ). PieceOf x a.frame.now a.p) (sym (from_start k.octets k.count)) c.requires.piece_of;
      p_in_bounds = c.requires.p_in_bounds;
    }

pub returns : goal.returns
returns c =
    λ piece h.
    let a = c.args in
    let k = a.key in
    c.write_under.ensures piece
    (subst (λ (x : List ℕ). OpensFragment (aes_key_of x) (salt_of x) a.frame.now piece) (sym (from_start k.octets k.count)) h)
