use Rattle.std.proofs.Common.{ap, sym, ◌∙◌, Some}
use Rattle.gikev2.specs.Member.{answered, sa_answer}
use Rattle.gikev2.proofs.Member.sa.Goals as goal

pub returns-in_err-a : goal.returns-in_err-a
unfolding sa_answer answered
returns-in_err-a c = c.from_residual.ensures ∙ sym (ap answered (sym c.find.ensures ∙ c.in_err-a.was))

pub returns : goal.returns
unfolding sa_answer answered
returns c = ap Some c.answer.ensures ∙ sym (ap answered (sym c.find.ensures ∙ c.in_ok-a.was))
