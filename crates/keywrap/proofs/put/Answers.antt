use mathlib.Core.Path.{sym, ap, ◌∙◌}
use mathlib.Core.Bool.{Bool}
use mathlib.Core.List.{List, ◌++◌}
use Prim.Native.Nat.{ℕ}
use borrow.Author.Tests.{le-leb, lt-leb}
use lib.ListN.{length, drop}
use lib.Seq.{take-length}
use Rattle.std.specs.Prelude.{Some}
use Rattle.keywrap.specs.inner.Room.{answer_by, room_by, put_answer, put_room}
use Rattle.keywrap.proofs.put.Goals as goal

-- `keywrap::put` meets its contract.

pub returns-then-octets-room : goal.returns-then-octets-room
unfolding put_answer put_room
returns-then-octets-room c =
    let a = c.args in
    let t = le-leb (length a.octets.now) (length a.room.now) c.if-octets-room.true in
    let d = c.copy.ensures in record {
      value = ap Some d.0 ∙ ap (λ (b : Bool). answer_by b a.octets.now) (sym t);
      room_after = d.1 ∙ ap (λ (x : List ℕ). x ++ drop (length a.octets.now) a.room.now) (take-length a.octets.now)
          ∙ ap (λ (b : Bool). room_by b a.octets.now a.room.now) (sym t);
    }

pub returns : goal.returns
unfolding put_answer put_room
returns c =
    let a = c.args in
    let t = lt-leb (length a.octets.now) (length a.room.now) c.if-octets-room.false in
    record {
      value = ap (λ (b : Bool). answer_by b a.octets.now) (sym t);
      room_after = ap (λ (b : Bool). room_by b a.octets.now a.room.now) (sym t);
    }
