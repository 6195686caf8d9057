use mathlib.Core.Path.{sym}
use Rattle.check_judging.proofs.FrameLaws.{own, own-names, at-4, at_5, at-6, at_7, at_none}
use Rattle.check_judging.proofs.refusal.on_facts.Goals as goal

pub slice_bounds-number_6-count : goal.slice_bounds-number_6-count
slice_bounds-number_6-count c =
    let a = c.args in
    let p = c.requires in
    (own a.state a.tick a.lent.now a.s.now p.count_le_sas a.row a.x p.x_value p.s_value p.f_value).gsa_order

pub slice_bounds-number_6-start : goal.slice_bounds-number_6-start
slice_bounds-number_6-start c =
    let a = c.args in
    let p = c.requires in
    (own a.state a.tick a.lent.now a.s.now p.count_le_sas a.row a.x p.x_value p.s_value p.f_value).gsa_order

pub slice_bounds-number_6-end : goal.slice_bounds-number_6-end
slice_bounds-number_6-end c =
    let a = c.args in
    let p = c.requires in
    (own a.state a.tick a.lent.now a.s.now p.count_le_sas a.row a.x p.x_value p.s_value p.f_value).gsa_inside

pub slice_bounds-number_6-count-2 : goal.slice_bounds-number_6-count-2
slice_bounds-number_6-count-2 c =
    let a = c.args in
    let p = c.requires in
    (own a.state a.tick a.lent.now a.s.now p.count_le_sas a.row a.x p.x_value p.s_value p.f_value).kd_order

pub slice_bounds-number_6-start-2 : goal.slice_bounds-number_6-start-2
slice_bounds-number_6-start-2 c =
    let a = c.args in
    let p = c.requires in
    (own a.state a.tick a.lent.now a.s.now p.count_le_sas a.row a.x p.x_value p.s_value p.f_value).kd_order

pub slice_bounds-number_6-end-2 : goal.slice_bounds-number_6-end-2
slice_bounds-number_6-end-2 c =
    let a = c.args in
    let p = c.requires in
    (own a.state a.tick a.lent.now a.s.now p.count_le_sas a.row a.x p.x_value p.s_value p.f_value).kd_inside

pub number_6-requires : goal.number_6-requires
number_6-requires c =
    let a = c.args in
    let p = c.requires in
    own-names a.state a.tick a.lent.now a.s.now p.count_le_sas a.row a.x p.x_value p.s_value p.f_value

pub returns-then-number_4 : goal.returns-then-number_4
returns-then-number_4 c = λ f q.
    let a = c.args in
    let p = c.requires in
    sym (at-4 a.state a.tick a.lent.now a.s.now p.count_le_sas a.row a.x p.x_value _
    c.number_4.ensures c.if-number_4.true f q
    (p.f_value f q))

pub returns-then-number_5 : goal.returns-then-number_5
returns-then-number_5 c = λ f q.
    let a = c.args in
    let p = c.requires in
    sym (at_5 a.state a.tick a.lent.now a.s.now p.count_le_sas a.row a.x p.x_value _
    c.number_4.ensures c.if-number_4.false _ c.number_5.ensures c.if-number_5.true f q
    (p.f_value f q))

pub returns-then-number_6 : goal.returns-then-number_6
returns-then-number_6 c = λ f q.
    let a = c.args in
    let p = c.requires in
    sym (at-6 a.state a.tick a.lent.now a.s.now p.count_le_sas a.row a.x p.x_value _
    c.number_4.ensures c.if-number_4.false _ c.number_5.ensures c.if-number_5.false _ c.number_6.ensures
    c.if-number_6.true f q
    (p.f_value f q))

pub returns-then-number_7 : goal.returns-then-number_7
returns-then-number_7 c = λ f q.
    let a = c.args in
    let p = c.requires in
    sym (at_7 a.state a.tick a.lent.now a.s.now p.count_le_sas a.row a.x p.x_value _
    c.number_4.ensures c.if-number_4.false _ c.number_5.ensures c.if-number_5.false _ c.number_6.ensures
    c.if-number_6.false _ c.count_standing.ensures _ c.number_7.ensures c.if-number_7.true f q
    (p.f_value f q))

pub returns : goal.returns
returns c = λ f q.
    let a = c.args in
    let p = c.requires in
    sym (at_none a.state a.tick a.lent.now a.s.now p.count_le_sas a.row a.x p.x_value _
    c.number_4.ensures c.if-number_4.false _ c.number_5.ensures c.if-number_5.false _ c.number_6.ensures
    c.if-number_6.false _ c.count_standing.ensures _ c.number_7.ensures c.if-number_7.false f q
    (p.f_value f q))
