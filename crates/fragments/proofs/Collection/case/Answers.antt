use native.Mathlib.Omega.{arith}
use mathlib.Core.Path.{sym, ◌∙◌}
use Rattle.fragments.proofs.FitLaws.{fit_is}
use Rattle.fragments.proofs.PlaceLaws.{case_same, case-other, case-unfit}
use Rattle.fragments.proofs.Collection.case.Goals as goal
use Rattle.fragments.proofs.Collection.case.Goals.{else-is_fit-via-then-is_fit+else-is_of_rekey, else-is_fit-via-else-is_fit}

pub shared_ref_as_front-case_within : goal.shared_ref_as_front-case_within
shared_ref_as_front-case_within c =
    let a = c.args.self in
    let f = fit_is a (sym c.is_fit.ensures ∙ c.if-is_fit.true) in
    omega (arith, f.some-lacks, f.total-most)

pub returns-then-is_of_rekey : goal.returns-then-is_of_rekey
returns-then-is_of_rekey c =
    let a = c.args in
    c.case_within.ensures
    ∙ case_same a.self a.f (sym c.if-is_fit.true ∙ c.is_fit.ensures) (sym c.if-is_of_rekey.true ∙ c.is_of_rekey.ensures)

pub returns : goal.returns
returns c =
    let a = c.args in
    elim c.else-is_fit.branch [
      | else-is_fit-via-then-is_fit+else-is_of_rekey w ↦
          case-other a.self a.f (sym w.if-is_fit.true ∙ c.is_fit.ensures) (sym w.if-is_of_rekey.false ∙ w.is_of_rekey.ensures)
      | else-is_fit-via-else-is_fit w ↦ case-unfit a.self a.f c.requires (sym w.if-is_fit.false ∙ c.is_fit.ensures)
    ]
