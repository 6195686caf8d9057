use Rattle.std.proofs.Common.{sym, refl, ◌∙◌, inl, inr, arith}
use Rattle.member.proofs.turns_left.Goals as goal

-- `member::turns_left` meets its contract.

pub returns-then-ended : goal.returns-then-ended
returns-then-ended c = inl (inl (sym c.ended-ended.ensures ∙ c.if-ended.true), refl)

pub returns-then-failed : goal.returns-then-failed
returns-then-failed c = inl (inr (sym c.failed-failed.ensures ∙ c.if-failed.true), refl)

pub returns : goal.returns
returns c =
    inr (sym c.ended-ended.ensures ∙ c.if-ended.false, sym c.failed-failed.ensures ∙ c.if-failed.false, omega (arith, c.requires))
