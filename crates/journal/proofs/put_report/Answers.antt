use native.Mathlib.Omega.{arith}
use Rattle.journal.proofs.ReportLaws.{report-counts, report-line}
use Rattle.journal.proofs.put_report.Goals as goal

-- `journal::put_report` meets its contract.

pub returns-then-line-eq0 : goal.returns-then-line-eq0
returns-then-line-eq0 c =
    let s = c.args in
    report-counts s.sas s.held s.line c.put_number-a.ensures c.put-b.ensures c.put_number-c.ensures (omega
    (arith, c.if-line-eq0.true))
    c.put.ensures

pub returns : goal.returns
returns c =
    let s = c.args in
    report-line s.sas s.held s.line c.put_number-a.ensures c.put-b.ensures c.put_number-c.ensures
    (λ z. omega (arith, z, c.if-line-eq0.false)) c.put-d.ensures c.put_number-e.ensures c.put-2.ensures
