use mathlib.Core.Path.{sym, ◌∙◌}
use Rattle.lists.proofs.Cases.{never}
use Rattle.check_judging.proofs.Tests.{by-list, by_first, by-second, by-third}
use Rattle.check_judging.proofs.number6.number_6.Goals as goal
use Rattle.check_judging.proofs.number6.number_6.Goals.{then-any_unfit_key, else-any_unfit_key, then-any_unpaired, else-any_unpaired}

pub returns-then-any_unpaired-2 : goal.returns-then-any_unpaired-2
returns-then-any_unpaired-2 c l m x y =
    let k = c.any_unfit_key.ensures in
    c.if-any_unpaired-2.true ∙ elim c.if-any_unfit_key.branch [
      | then-any_unfit_key v ↦ by-list _ _ _ _ _ k v.if-any_unfit_key.true
      | else-any_unfit_key v ↦ elim c.if-any_unpaired.branch [
        | then-any_unpaired w ↦ by_first _ _ _ _ _ k v.if-any_unfit_key.false
            (sym (v.any_unpaired.ensures l m x y) ∙ sym v.value-is ∙ w.if-any_unpaired.true)
        | else-any_unpaired w ↦ by-second _ _ _ _ _ k v.if-any_unfit_key.false
            (sym (v.any_unpaired.ensures l m x y) ∙ sym v.value-is ∙ w.if-any_unpaired.false)
            (sym (w.any_unpaired-else-any_unpaired.ensures m l y x) ∙ sym w.value-is ∙ c.if-any_unpaired-2.true)
      ]
    ]

pub returns-else-any_unpaired-2 : goal.returns-else-any_unpaired-2
returns-else-any_unpaired-2 c l m x y =
    let k = c.any_unfit_key.ensures in
    c.any_in_table.ensures l x ∙ elim c.if-any_unpaired.branch [
      | then-any_unpaired w ↦ never c.if-any_unpaired.value (w.value-is ∙ w.if-any_unpaired.true) c.if-any_unpaired-2.false
      | else-any_unpaired w ↦ elim c.if-any_unfit_key.branch [
        | then-any_unfit_key v ↦ never c.if-any_unfit_key.value (v.value-is ∙ v.if-any_unfit_key.true) w.if-any_unpaired.false
        | else-any_unfit_key v ↦ by-third _ _ _ _ _ k v.if-any_unfit_key.false
            (sym (v.any_unpaired.ensures l m x y) ∙ sym v.value-is ∙ w.if-any_unpaired.false)
            (sym (w.any_unpaired-else-any_unpaired.ensures m l y x) ∙ sym w.value-is ∙ c.if-any_unpaired-2.false)
      ]
    ]
