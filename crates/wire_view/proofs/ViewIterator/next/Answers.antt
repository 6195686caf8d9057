use Rattle.std.proofs.Common.{rules}
use Rattle.wire_view.proofs.LeftLaws.{yields-first, progress}
use Rattle.wire_view.proofs.ViewIterator.next.Goals as goal

pub returns-clause-steps : goal.returns-clause-steps
returns-clause-steps c = yields-first c.args.self.now c.step_at-step.result c.step_at-step.ensures

pub returns-clause-goes : goal.returns-clause-goes
returns-clause-goes c = progress (λ v. search rules) _ _ _ (yields-first c.args.self.now c.step_at-step.result c.step_at-step.ensures)
