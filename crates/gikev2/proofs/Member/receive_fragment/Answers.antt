use mathlib.Core.Path.{sym}
use native.Mathlib.Omega.{arith}
use Rattle.octets.specs.Octets.{Octets}
use Rattle.gikev2.proofs.GatheringLaws.{given-as}
use Rattle.rfc5282.proofs.FragmentLaws.{fragment-is}
use Rattle.gikev2.proofs.FragmentLaws.{not-fragment, not-for}
use Rattle.gikev2.proofs.Member.receive_fragment.Goals as goal

-- `gikev2::Member::receive_fragment` meets its contract.

pub returns-then-not-is_fragment : goal.returns-then-not-is_fragment
returns-then-not-is_fragment c =
    let a = c.args in
    given-as c.refuse_fragment.ensures
    (not-fragment a.self a.collection a.tick a.frame.now a.room.now (sym c.if-not-is_fragment.ensures))

pub is_not_for-requires : goal.is_not_for-requires
is_not_for-requires c =
    let g = fragment-is c.args.frame.now (sym c.if-not-is_fragment.ensures) in
    omega (arith, g.body)

pub returns-then-is_not_for : goal.returns-then-is_not_for
returns-then-is_not_for c =
    let a = c.args in
    let o : Octets a.frame.now = λ i. (c.type_inv.frame i).fits in
    given-as c.refuse_fragment-then-is_not_for.ensures
    (not-for a.self a.collection a.tick a.frame.now a.room.now o (sym c.if-not-is_fragment.ensures) (sym c.if-is_not_for.ensures))

pub open_fragment-requires : goal.open_fragment-requires
open_fragment-requires c =
    record {
      fragment = sym c.if-not-is_fragment.ensures;
      not-2 = sym c.if-is_not_for.ensures;
    }
