use mathlib.Core.Path.{subst, sym}
use Prim.Native.Nat.{ℕ}
use Rattle.std.specs.Prelude.{Option}
use Rattle.keywrap.specs.Answers.{OpenAnswers}
use Rattle.keywrap.proofs.Answering.{is-so}
use Rattle.keywrap.proofs.Opening.{put-none, put_some}
use Rattle.keywrap.proofs.open.Goals as goal

-- `keywrap::open` meets its contract.

pub expand_inverse-requires : goal.expand_inverse-requires
expand_inverse-requires c =
    record {
      tables_value = c.inverse_tables-tables.ensures;
      t = is-so c.is_key.ensures c.if-not-is_key.false;
    }

pub returns-in_err-opened : goal.returns-in_err-opened
returns-in_err-opened c =
    let a = c.args in
    let e = c.expand_inverse.ensures in
    subst (λ (r : Option ℕ). OpenAnswers a.key.now a.wrapped.now a.room.now r a.room.now) (sym c.from_residual.ensures)
    (put-none a.key.now a.wrapped.now a.room.now e.key-is (c.in_err-opened.ensures a.key.now e))

pub returns : goal.returns
returns c =
    let a = c.args in
    let e = c.expand_inverse.ensures in
    let o = c.in_ok-opened.opened in
    put_some a.key.now a.wrapped.now a.room.now e.key-is o.count o.octets (c.in_ok-opened.ensures a.key.now e)
    c.put.ensures.value c.put.ensures.room_after
