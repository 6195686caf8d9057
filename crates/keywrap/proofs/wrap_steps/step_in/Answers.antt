use mir.Syntax.{w64}
use mir.Val.{Fits}
use Rattle.keywrap.proofs.Turns.{stepped}
use borrow.Author.Rules.{rules}
use Rattle.keywrap.proofs.wrap_steps.step_in.Goals as goal

-- `keywrap::wrap_steps::step_in` meets its contract.

pub returns : goal.returns
returns c = λ key e.
    let a = c.args in
    let p = c.encrypt_pair-b.result in
    let h : Fits w64 p.hi = search rules in
    let l : Fits w64 p.lo = search rules in
    stepped key a.s.now a.t a.i p.hi p.lo h.fits l.fits (c.encrypt_pair-b.ensures key e)
