use Prim.Native.Nat.{ℕ}
use mathlib.Core.Path.{refl, subst}
use mathlib.Core.List.{[], ◌∷◌}
use lib.ListN.{take}
use Rattle.std.specs.Prelude.{Some}
use Rattle.keywrap.specs.Answers.{OpenAnswers}
use Rattle.keywrap.specs.inner.Blank.{blank}
use Rattle.lists.proofs.Parts.{copied}
use Rattle.unwrap_copies.specs.declared.answer.CopyFound.TheVariants.{Nothing, Conflict}
use Rattle.unwrap_copies.proofs.Joining.{tell}
use Rattle.unwrap_copies.proofs.Opening.{opened-none, opened-wrong, opened-right}
use Rattle.unwrap_copies.proofs.answer.open_copy.Goals as goal

-- `unwrap_copies::answer::open_copy` meets its contract.

pub returns-in_default : goal.returns-in_default
returns-in_default c v x =
    let w = c.args.wrapped.now in
    tell (record { key = v; wrapped = w } ∷ []) c.args.need c.nothing.result Nothing c.nothing.ensures
    (opened-none v w blank x.key-is (c.in_default.ensures v x))

pub returns-then-size-need : goal.returns-then-size-need
returns-then-size-need c v x =
    let o = c.in-Some.opened in
    let w = c.args.wrapped.now in
    tell (record { key = v; wrapped = w } ∷ []) c.args.need c.conflict.result Conflict c.conflict.ensures
    (opened-wrong v w o.octets o.count c.args.need (c.in-Some.ensures v x) c.if-size-need.true)

pub returns : goal.returns
returns c v x =
    let n = c.args.need in
    let o = c.in-Some.opened.octets in
    let w = c.args.wrapped.now in
    opened-right v w o n n _ x.key-is
    (subst (λ (m : ℕ). OpenAnswers v w blank (Some m) o) c.if-size-need.false (c.in-Some.ensures v x)) refl
    (copied 68 (take n o) _ c.copy.ensures.1)
