use mathlib.Core.Path.{refl, sym, ◌∙◌}
use lib.ListN.{take}
use Rattle.state_keys.specs.Limits.{limits}
use Rattle.check_payloads.proofs.FrameLaws.{reads-to}
use Rattle.check_judging.proofs.HeadLaws.{row_is, at-2, at-3, further, few-sas, no_header}
use Rattle.check_judging.proofs.refusal.refusal.Goals as goal

pub returns-then-number_2 : goal.returns-then-number_2
returns-then-number_2 c = λ f q.
    let a = c.args in
    let h = c.in-Some.header in
    let e = c.in-Some.ensures in
    sym (at-2 limits a.state a.tick a.lent.now a.s.now f q h e (sym c.if-number_2.true ∙ c.number_2.ensures))

pub returns-then-number_3 : goal.returns-then-number_3
returns-then-number_3 c = λ f q.
    let a = c.args in
    let h = c.in-Some.header in
    let e = c.in-Some.ensures in
    sym (at-3 limits a.state a.tick a.lent.now a.s.now f q h e (sym c.if-number_2.false ∙ c.number_2.ensures)
    (sym c.if-number_3.true ∙ c.number_3.ensures))

pub on_frame-requires-clause-count_le_sas : goal.on_frame-requires-clause-count_le_sas
on_frame-requires-clause-count_le_sas c =
    let a = c.args in
    few-sas limits a.state a.tick c.in-Some.header.exchange (take 16 a.s.now) (sym c.if-number_2.false ∙ c.number_2.ensures)

pub on_frame-requires-clause-f_value : goal.on_frame-requires-clause-f_value
on_frame-requires-clause-f_value c = λ f q.
    let a = c.args in
    let h = c.in-Some.header in
    let e = c.in-Some.ensures in
    row_is limits a.state a.tick a.lent.now a.s.now f q h e c.exchange_of.result c.exchange_of.ensures

pub unreachable-requires : goal.unreachable-requires
unreachable-requires c =
    let a = c.args in
    let f = reads-to a.state.profile a.s.now c.requires in
    no_header a.state.profile a.s.now f.0 f.1 c.in-None.ensures

pub returns : goal.returns
returns c = λ f q.
    let a = c.args in
    let h = c.in-Some.header in
    let e = c.in-Some.ensures in
    let r =
    row_is limits a.state a.tick a.lent.now a.s.now f q h e c.exchange_of.result c.exchange_of.ensures in
    let n = further limits a.state a.tick a.lent.now a.s.now f q h e _
    (sym c.if-number_2.false ∙ c.number_2.ensures) (sym c.if-number_3.false ∙ c.number_3.ensures) refl in
    rw (← n, r) (c.on_frame.ensures f q)
