use mathlib.Core.Path.{refl, sym, subst}
use Prim.Native.Nat.{ℕ}
use Rattle.std.specs.Prelude.{Option}
use native.Mathlib.Omega.{arith}
use Rattle.octets.specs.Octets.{Octets}
use Rattle.rfc5282.specs.Number10.{small-room}
use Rattle.rfc5282.proofs.OuterLaws.{outer-is}
use Rattle.sealing.specs.Unsealing.{UnsealsInto}
use Rattle.sealing.proofs.UnderLaws.{some_written}
use Rattle.sealing.proofs.open_under.Goals as goal

-- `sealing::open_under` meets its contract.

pub returns-then-room-lt-MOST_OCTETS : goal.returns-then-room-lt-MOST_OCTETS
returns-then-room-lt-MOST_OCTETS c =
    λ part en e. record { clause = small-room c.if-room-lt-MOST_OCTETS.true; room-is = refl }

pub judge_body-requires : goal.judge_body-requires
judge_body-requires c =
    let f = outer-is c.args.frame.now c.requires.nonce_len.1 in
    record {
      tables_value = c.requires.tables_value;
      nonce_len = (c.requires.nonce_len.0, f.least, f.most);
    }

pub write_opened-requires : goal.write_opened-requires
write_opened-requires c =
    let f = outer-is c.args.frame.now c.requires.nonce_len.1 in
    let b = c.in_ok-p.ensures.0 in
    record {
      tables_value = c.requires.tables_value;
      nonce_len = (c.requires.nonce_len.0, b, f.most, omega (arith, b, f.most, c.if-room-lt-MOST_OCTETS.false));
    }

pub returns-in_err-p : goal.returns-in_err-p
returns-in_err-p c =
    λ part en e.
    let a = c.args in
    subst (λ (r : Option ℕ). UnsealsInto part a.frame.now a.room.now r a.room.now) (sym c.from_residual.ensures)
    (record { clause = c.in_err-p.ensures.1 part en e a.room.now; room-is = refl })

pub returns : goal.returns
returns c =
    λ part en e.
    let a = c.args in
    let o : Octets a.frame.now = λ i. (c.shared_slice_known-2-1.given i).fits in
    some_written part a.frame.now a.room.now o (outer-is a.frame.now c.requires.nonce_len.1) _
    (c.in_ok-p.ensures.1 part en e)
    (omega (arith, c.if-room-lt-MOST_OCTETS.false)) (c.write_opened.ensures part en e)
