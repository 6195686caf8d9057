use mathlib.Core.Path.{refl}
use Rattle.gikev2.proofs.ReceiveLaws.{whole-tree, no-tree, receives-broken, receives-tree, receives-refused}
use Rattle.gikev2.proofs.Member.receive.Goals as goal

pub judge-requires : goal.judge-requires
judge-requires c =
    let r = c.layout_with_profile in
    whole-tree c.args.self.state.profile
    c.args.frame.now r.result r.ensures.layout c.in-Ok.is

pub returns-in-Err : goal.returns-in-Err
returns-in-Err c =
    let a = c.args in
    let r = c.layout_with_profile in
    receives-broken a.self a.tick a.lent.now a.frame.now c.in-Err.broken.at
    (no-tree a.self.state.profile a.frame.now r.result r.ensures.layout c.in-Err.broken.at c.in-Err.is) _ _
    refl refl

pub returns-in-Ok-judge : goal.returns-in-Ok-judge
returns-in-Ok-judge c =
    let a = c.args in
    let r = c.layout_with_profile in
    let t = whole-tree a.self.state.profile a.frame.now r.result r.ensures.layout c.in-Ok.is in
    receives-tree a.self a.tick a.lent.now a.frame.now t.0 t.1 _ _ (c.in-Ok-judge.ensures t.0 t.1)

pub returns-in-Err-judge : goal.returns-in-Err-judge
returns-in-Err-judge c =
    let a = c.args in
    let r = c.layout_with_profile in
    let t = whole-tree a.self.state.profile a.frame.now r.result r.ensures.layout c.in-Ok.is in
    receives-refused a.self a.tick a.lent.now a.frame.now t.0 t.1 c.in-Err-judge.refusal (c.in-Err-judge.ensures t.0 t.1) c.into.result
    c.into.ensures _ _ refl refl
