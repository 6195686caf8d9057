use mathlib.Core.Path.{ap}
use Rattle.std.proofs.lemmas.Result.{err_from_is_err_and}
use Rattle.wire_readers.specs.inner.Values.{is_whole}
use Rattle.gikev2.proofs.ReceiveLaws.{judged-refused}
use Rattle.gikev2.proofs.call.judge.Goals as goal

-- `gikev2::call::judge` meets its contract.

pub refusal-requires : goal.refusal-requires
refusal-requires c = ap is_whole c.requires.1

pub returns-in_err-x : goal.returns-in_err-x
returns-in_err-x c =
    let a = c.args in
    let p = err_from_is_err_and c.from_residual.result c.from_residual.ensures.1 in
    rw (p.1, p.2) (λ f q. judged-refused a.state a.tick a.lent.now f _ (c.in_err-x.ensures f q))

pub decide-requires : goal.decide-requires
decide-requires c =
    let p = c.requires in
    let n = c.in_ok-x.ensures p.0 p.1 in
    (p.0, record { whole_is = p.1; clauses = n.0; facts = n.1 })

pub returns : goal.returns
returns c = λ f q.
    let n = c.in_ok-x.ensures f q in
    c.decide.ensures f (record { whole_is = q; clauses = n.0; facts = n.1 })
