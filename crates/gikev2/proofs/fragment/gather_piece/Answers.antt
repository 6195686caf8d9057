use mathlib.Core.Path.{sym, ap, ◌∙◌, subst}
use mathlib.Core.List.{List}
use Prim.Native.Nat.{ℕ}
use native.Mathlib.Omega.{arith}
use Rattle.sealing.proofs.PieceLaws.{piece-within, piece-most}
use Rattle.fragments.specs.Collection.{counted, collection_of}
use Rattle.fragments.specs.Gathering.{gathered}
use Rattle.fragments.specs.inner.Places.{Taking}
use Rattle.rules_sealed.specs.SealingKey.{encryption_octets_of}
use Rattle.gikev2.proofs.FragmentLaws.{piece_cut}
use Rattle.gikev2.proofs.fragment.gather_piece.Goals as goal

-- `gikev2::fragment::gather_piece` meets its contract.

pub write_piece-requires : goal.write_piece-requires
write_piece-requires c =
    let l = piece-within (encryption_octets_of c.args.key) c.args.frame.now c.args.p c.requires.of in
    let n = piece-most (encryption_octets_of c.args.key) c.args.frame.now c.args.p c.requires.of in
    record {
      count_value = c.requires.sized;
      piece_of = c.requires.of;
      p_in_bounds = omega (arith, l, n);
    }

pub slice_bounds-gather-end : goal.slice_bounds-gather-end
slice_bounds-gather-end c =
    let l = piece-within (encryption_octets_of c.args.key) c.args.frame.now c.args.p c.requires.of in
    let n = piece-most (encryption_octets_of c.args.key) c.args.frame.now c.args.p c.requires.of in
    omega (arith, l, n)

pub gather-requires : goal.gather-requires
gather-requires c =
    let v = c.write_piece in
    let x = c.requires.of in
    let e = piece_cut x.piece c.args.p x.count v.new.out _ (v.ensures x.piece x.opens) in
    record {
      le_total = c.requires.counts;
      taking = subst (λ (y : List ℕ). Taking (counted c.args.collection) c.args.f y c.args.n) (sym e) c.requires.taking;
    }

pub returns : goal.returns
returns c t =
    let v = c.write_piece in
    let x = t.of in
    let e = piece_cut x.piece c.args.p x.count v.new.out _ (v.ensures x.piece x.opens) in
    c.gather.ensures ∙ ap (λ (y : List ℕ). collection_of (gathered (counted c.args.collection) c.args.f y)) e
