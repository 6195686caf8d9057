use mathlib.Core.Path.{sym}
use Rattle.octets.specs.Octets.{Octets}
use Rattle.rfc5282.proofs.OuterLaws.{outer-is}
use Rattle.gikev2.specs.declared.call.Answer.TheVariants as answer
use Rattle.gikev2.proofs.SealedLaws.{given-as, outer-refused, two-refused}
use Rattle.gikev2.proofs.Member.receive_sealed.Goals as goal

-- `gikev2::Member::receive_sealed` meets its contract.

pub returns-then-not-is_outer : goal.returns-then-not-is_outer
returns-then-not-is_outer c =
    let a = c.args in
    let x = c.refuse.result in
    given-as a.self a.tick a.frame.now a.room.now x.answer (answer.BrokenLayout 0) x.member a.self a.room.now
    c.refuse.ensures.0 c.refuse.ensures.1
    (outer-refused a.self a.tick a.frame.now a.room.now (sym c.if-not-is_outer.ensures))

pub is_not_for-requires : goal.is_not_for-requires
is_not_for-requires c = (outer-is c.args.frame.now (sym c.if-not-is_outer.ensures)).least

pub returns-then-is_not_for : goal.returns-then-is_not_for
returns-then-is_not_for c =
    let a = c.args in
    let o : Octets a.frame.now = λ k. (c.type_inv.frame k).fits in
    let x = c.refuse-then-is_not_for.result in
    let e = c.refuse-then-is_not_for.ensures in
    given-as a.self a.tick a.frame.now a.room.now x.answer answer.NotForMember x.member a.self a.room.now e.0 e.1
    (two-refused a.self a.tick a.frame.now a.room.now o (sym c.if-not-is_outer.ensures) (sym c.if-is_not_for.ensures))

pub open_sealed-requires : goal.open_sealed-requires
open_sealed-requires c = (sym c.if-not-is_outer.ensures, sym c.if-is_not_for.ensures)
