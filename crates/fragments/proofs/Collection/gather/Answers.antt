use native.Mathlib.Omega.{arith}
use Prim.Native.Nat.{ℕ, ◌-◌}
use mathlib.Core.Path.{refl}
use lib.ListN.{replicate, length-replicate}
use Rattle.ikev2_numbers.specs.Codes.{header_octets, most_octets}
use Rattle.fragments.specs.inner.FitWaiting.{LongCollection}
use Rattle.fragments.proofs.GatherLaws.{few, count-is, size_is, before-is, joins, gathers}
use Rattle.fragments.proofs.Collection.gather.Goals as goal

pub shared_ref_as_front-kept : goal.shared_ref_as_front-kept
shared_ref_as_front-kept c =
    let a = c.args.self in
    let long : LongCollection a = record { spis-size = omega arith; pieces-size = omega arith; octets-size = omega arith } in
    let h = few a c.args.f long c.requires.le_total c.args.piece.now c.args.n c.requires.taking in
    omega arith

pub with_piece-pieces-requires : goal.with_piece-pieces-requires
with_piece-pieces-requires c =
    let a = c.args.self in
    let long : LongCollection a = record { spis-size = omega arith; pieces-size = omega arith; octets-size = omega arith } in
    let h = few a c.args.f long c.requires.le_total c.args.piece.now c.args.n c.requires.taking in
    let n = count-is a c.args.f long c.requires.le_total c.args.piece.now c.args.n c.requires.taking in
    omega arith

pub lead-named-requires : goal.lead-named-requires
lead-named-requires c =
    let a = c.args.self in
    let long : LongCollection a = record { spis-size = omega arith; pieces-size = omega arith; octets-size = omega arith } in
    let h = few a c.args.f long c.requires.le_total c.args.piece.now c.args.n c.requires.taking in
    omega arith

pub overflow_add-next : goal.overflow_add-next
overflow_add-next c =
    let a = c.args.self in
    let long : LongCollection a = record { spis-size = omega arith; pieces-size = omega arith; octets-size = omega arith } in
    let h = few a c.args.f long c.requires.le_total c.args.piece.now c.args.n c.requires.taking in
    record { fits = omega arith }

pub join-requires-clause-before_le_size : goal.join-requires-clause-before_le_size
join-requires-clause-before_le_size c =
    let a = c.args.self in
    let long : LongCollection a = record { spis-size = omega arith; pieces-size = omega arith; octets-size = omega arith } in
    let k = c.pieces_ahead-ahead in
    let j = joins a c.args.f long c.requires.le_total c.args.piece.now c.args.n c.requires.taking k.result k.ensures.0
    c.frame_octets-before.result c.frame_octets-before.ensures c.frame_octets-size.result c.frame_octets-size.ensures
    (replicate most_octets 0) (length-replicate {A = ℕ} most_octets 0) in
    j.0

pub join-requires-clause-piece_in_bounds : goal.join-requires-clause-piece_in_bounds
join-requires-clause-piece_in_bounds c =
    let a = c.args.self in
    let long : LongCollection a = record { spis-size = omega arith; pieces-size = omega arith; octets-size = omega arith } in
    let k = c.pieces_ahead-ahead in
    let j = joins a c.args.f long c.requires.le_total c.args.piece.now c.args.n c.requires.taking k.result k.ensures.0
    c.frame_octets-before.result c.frame_octets-before.ensures c.frame_octets-size.result c.frame_octets-size.ensures
    (replicate most_octets 0) (length-replicate {A = ℕ} most_octets 0) in
    j.1

pub returns : goal.returns
returns c =
    let a = c.args.self in
    let long : LongCollection a = record { spis-size = omega arith; pieces-size = omega arith; octets-size = omega arith } in
    let k = c.pieces_ahead-ahead in
    let x = before-is a c.args.f long c.requires.le_total c.args.piece.now c.args.n c.requires.taking k.result k.ensures.0
    c.frame_octets-before.result c.frame_octets-before.ensures in
    let y = size_is a c.args.f long c.requires.le_total c.args.piece.now c.args.n c.requires.taking
    c.frame_octets-size.result c.frame_octets-size.ensures in
    gathers a c.args.f long c.requires.le_total c.args.piece.now c.args.n c.requires.taking
    c.lead-named.result c.lead-named.ensures c.with_piece-pieces.result
    c.with_piece-pieces.ensures (replicate most_octets 0) c.join.new.out refl
    (c.frame_octets-size.result - header_octets) (c.frame_octets-before.result - header_octets) (omega arith) (omega arith)
    c.join.ensures
