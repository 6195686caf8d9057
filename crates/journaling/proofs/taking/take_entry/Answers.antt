use Rattle.std.proofs.Common.{sym, ◌∙◌, arith}
use Rattle.journaling.proofs.TakeLaws.{leaving-taken, leaving-other, sweep-there, sweep-taken}
use Rattle.journaling.proofs.TakeLaws.{handed-taken, none-handed}
use Rattle.journaling.proofs.taking.take_entry.Goals as goal

-- `journaling::taking::take_entry` meets its contract.

pub returns-then-o-ne0 : goal.returns-then-o-ne0
returns-then-o-ne0 c =
    let s = c.args in
    leaving-other s.member s.n s.o.now (omega arith) (λ z. omega (arith, z, c.if-o-ne0.true))

pub returns-then-n-eq-LEAVING : goal.returns-then-n-eq-LEAVING
returns-then-n-eq-LEAVING c =
    let s = c.args in
    leaving-taken s.member s.n s.o.now (omega arith) (omega (arith, c.if-o-ne0.false)) c.leave.result c.leave.ensures

pub be32_at-requires : goal.be32_at-requires
be32_at-requires c =
    let s = c.args in
    let z = sweep-there s.member s.n s.o.now (λ q. omega (arith, q, c.if-n-eq-LEAVING.false)) (sym
    c.is_sweep.ensures ∙ c.if-is_sweep.true) in
    omega arith

pub returns-then-is_sweep : goal.returns-then-is_sweep
returns-then-is_sweep c =
    let s = c.args in
    sweep-taken s.member s.n s.o.now (λ q. omega (arith, q, c.if-n-eq-LEAVING.false)) (sym
    c.is_sweep.ensures ∙ c.if-is_sweep.true)
    c.be32_at.result c.be32_at.ensures c.sweep.result c.sweep.ensures

pub take_frame-requires : goal.take_frame-requires
take_frame-requires c = sym c.hands_in.ensures ∙ c.if-hands_in.true

pub returns-then-hands_in : goal.returns-then-hands_in
returns-then-hands_in c =
    let s = c.args in
    handed-taken s.member s.n s.o.now (λ q. omega (arith, q, c.if-n-eq-LEAVING.false)) (sym
    c.is_sweep.ensures ∙ c.if-is_sweep.false)
    c.take_frame.result c.take_frame.ensures

pub returns : goal.returns
returns c =
    let s = c.args in
    none-handed s.member s.n s.o.now (λ q. omega (arith, q, c.if-n-eq-LEAVING.false)) (sym
    c.is_sweep.ensures ∙ c.if-is_sweep.false)
    (sym c.hands_in.ensures ∙ c.if-hands_in.false)
