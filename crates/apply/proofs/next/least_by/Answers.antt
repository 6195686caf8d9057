use mathlib.Core.Path.{ap, sym, ◌∙◌}
use Rattle.wire_frames.specs.declared.exchanges.LeastAfter.{LeastAfter}
use Rattle.rules_outcome.specs.After.{least_by}
use Rattle.apply.proofs.NextLaws.{least-new, least_kept}
use Rattle.apply.proofs.next.least_by.Goals as goal

pub returns-then-x : goal.returns-then-x
returns-then-x c = let a = c.args in least-new a.x a.before c.if-x.true

pub returns-in-Zero : goal.returns-in-Zero
returns-in-Zero c =
    let a = c.args in
    let e = ap (λ (y : LeastAfter). least_by y a.x.id a.before) c.in-Zero.is in
    least_kept a.x a.before _ c.if-x.false (sym e)

pub returns-in-OwnPlusOne : goal.returns-in-OwnPlusOne
returns-in-OwnPlusOne c =
    let a = c.args in
    let e = ap (λ (y : LeastAfter). least_by y a.x.id a.before) c.in-OwnPlusOne.is in
    least_kept a.x a.before _ c.if-x.false (c.after.ensures ∙ sym e)

pub returns-in-Kept : goal.returns-in-Kept
returns-in-Kept c =
    let a = c.args in
    let e = ap (λ (y : LeastAfter). least_by y a.x.id a.before) c.in-Kept.is in
    least_kept a.x a.before _ c.if-x.false (sym e)
