use Rattle.std.specs.Prelude.{◌≡◌, ◌↔◌, IsTrue, EachIndex, slice_index}
use borrow.Author.Rules.{rules}
use Rattle.rfc5649.proofs.Checks.{zero-test}
use Rattle.keywrap.proofs.verify.is_zero.Goals as goal

pub returns : goal.returns
returns c =
    let s = c.args.s.now in
    let h : IsTrue c.all.result ↔ EachIndex s (λ k. slice_index s k ≡ 0) = search rules in
    zero-test s c.all.result h
