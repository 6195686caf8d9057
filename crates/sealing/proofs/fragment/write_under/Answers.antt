use borrow.Author.Rules.{rules}
use mathlib.Core.Path.{subst}
use mathlib.Core.List.{List}
use Prim.Native.Nat.{ℕ, ◌+◌, ◌-◌}
use native.Mathlib.Omega.{arith}
use lib.ListN.{length}
use Rattle.aes.specs.inner.Schedule.{Expands}
use Rattle.sealing.proofs.CopyLaws.{part-size}
use Rattle.sealing.proofs.UnderLaws.{from_start, key-size}
use Rattle.sealing.proofs.PieceLaws.{piece-within, piece-most, piece-put}
use Rattle.sealing.proofs.fragment.write_under.Goals as goal

-- `sealing::fragment::write_under` meets its contract.

pub expand-schedule-requires : goal.expand-schedule-requires
expand-schedule-requires c =
    record {
      tables_value = c.tables-tables.ensures;
      t = key-size c.args.part.now c.requires.salt_octets_in_bounds.0 c.requires.salt_octets_in_bounds.1;
    }

pub make_nonce-nonce-requires : goal.make_nonce-nonce-requires
make_nonce-nonce-requires c =
    let a = c.args in
    (c.requires.salt_octets_in_bounds.0, omega (arith, piece-within a.part.now a.frame.now a.p c.requires.piece_of))

pub slice_bounds-gctr_in-end-2 : goal.slice_bounds-gctr_in-end-2
slice_bounds-gctr_in-end-2 c =
    let a = c.args in
    omega (arith, piece-within a.part.now a.frame.now a.p c.requires.piece_of)

pub gctr_in-requires : goal.gctr_in-requires
gctr_in-requires c =
    let a = c.args in
    let w = piece-within a.part.now a.frame.now a.p c.requires.piece_of in
    let m = piece-most a.part.now a.frame.now a.p c.requires.piece_of in
    let y = part-size a.frame.now 44 (44 + a.p) (omega (arith, w)) in record {
      tables_value = (c.tables-tables.ensures, record { key = _; expands = c.expand-schedule.ensures });
      nonce_len = (search rules, omega (arith, y, c.requires.p_in_bounds), omega (arith, y, w, m));
    }

pub returns : goal.returns
returns c =
    λ piece h.
    let a = c.args in
    piece-put a.part.now a.frame.now a.p c.requires.piece_of piece h a.out.now c.make_nonce-nonce.ensures
    (c.gctr_in.ensures _
    (subst (λ (k : List ℕ). Expands k c.expand-schedule.result.words) (from_start a.part.now (length a.part.now - 4))
    c.expand-schedule.ensures))
