use mir.Syntax.{w32}
use mir.Val.{Fits}
use mathlib.Core.Path.{◌∙◌}
use Rattle.aes.proofs.Rotations.{ror24-is}
use Rattle.aes.proofs.Growing.{rotated, subbed, left-long, left-short}
use borrow.Author.Rules.{rules}
use Rattle.aes.proofs.expansion.temp_at.Goals as goal
use Rattle.aes.proofs.expansion.temp_at.Goals.{else-nk-gt6-via-then-nk-gt6+else-p-eq4, else-nk-gt6-via-else-nk-gt6}

-- `aes::expansion::temp_at` meets its contract.

pub returns-then-p-eq0 : goal.returns-then-p-eq0
returns-then-p-eq0 c =
    let a = c.args in
    let f : Fits w32 a.x = search rules in
    rotated a.t.now a.at c.requires.1 a.nk a.x a.p c.if-p-eq0.true f.fits
    (c.rotate_right-y.ensures ∙ ror24-is a.x f.fits) c.join.ensures c.last_column.ensures

pub returns-then-p-eq4 : goal.returns-then-p-eq4
returns-then-p-eq4 c =
    let a = c.args in
    subbed a.t.now a.at c.requires.1 a.nk a.x a.p c.if-p-eq0.false
    c.if-nk-gt6.true c.if-p-eq4.true c.last_column-then-p-eq4.ensures

pub returns : goal.returns
returns c =
    let a = c.args in
    elim c.else-nk-gt6.branch [
      | else-nk-gt6-via-then-nk-gt6+else-p-eq4 w ↦ left-long a.nk a.x a.p c.if-p-eq0.false w.if-p-eq4.false
      | else-nk-gt6-via-else-nk-gt6 w ↦ left-short a.nk a.x a.p c.if-p-eq0.false w.if-nk-gt6.false
    ]
