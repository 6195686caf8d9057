use Rattle.std.proofs.Common.{ℕ, ◌∷◌, ap, sym, ◌∙◌}
use Rattle.journal_rules.specs.Line.{said_of}
use Rattle.journaling.proofs.TakeLaws.{takes-line-as, no-octets-said}
use Rattle.journaling.proofs.taking.take_octets.Goals as goal

-- `journaling::taking::take_octets` meets its contract.

pub returns-in_err-n : goal.returns-in_err-n
returns-in_err-n c = rw c.from_residual.ensures (no-octets-said c.args.member.state c.args.o.now c.in_err-n.ensures.cases)

pub returns : goal.returns
returns c =
    let e = ap (λ (k : ℕ). k ∷ c.in_ok-n.behind.now) c.wide.ensures.0 ∙ sym c.in_ok-n.ensures.cases.0 in
    takes-line-as c.args.member.state c.take_entry.result (ap said_of e) c.take_entry.ensures
