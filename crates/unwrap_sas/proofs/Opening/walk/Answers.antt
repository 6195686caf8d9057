use Rattle.std.proofs.Common.{refl, subst}
use Rattle.unwrap_sas.specs.inner.Policies.{IsBy}
use Rattle.unwrap_sas.proofs.PolicyAt.{policy-at}
use Rattle.unwrap_sas.proofs.Along.{along-start, along-end, along-conflict, along-wide, along-announces, along-room, along-none, along-sa}
use Rattle.unwrap_sas.proofs.Opening.walk.Goals as goal

pub loop-at-init : goal.loop-at-init
loop-at-init c =
    let a = c.args in
    let s = a.self.now in
    along-start s.reads a.gsa.now s.kd.now s.schedule.words s.carried.now s.fresh.now s.ids.now s.block.now s.tick _
    c.no_openers-openers.result c.requires.gsa_value refl c.no_openers-openers.ensures

pub policy_at-one-requires-clause-policy_stands_at : goal.policy_at-one-requires-clause-policy_stands_at
policy_at-one-requires-clause-policy_stands_at c =
    let here = policy-at _ _ _ c.policy_parts-p.ensures in
    record { head = here.some; order = here.order; inside = here.inside; small = here.small (λ i. (c.type_inv.gsa i).fits) }

pub policy_at-one-requires-clause-announces : goal.policy_at-one-requires-clause-announces
policy_at-one-requires-clause-announces c =
    let l = c.loop-at in
    let a = c.args in
    let s = a.self.now in
    let here = policy-at _ _ _ c.policy_parts-p.ensures in
    let z = c.if-p-ne-NO_PROTOCOL.true in
    let f = c.requires.checks_passed in (
      f.0,
      (here.sa-at z).sa,
      along-announces s.reads a.gsa.now s.kd.now s.schedule.words s.carried.now s.fresh.now s.ids.now s.block.now s.tick
          l.at l.missing l.sas l.count l.openers l.invariant _ here z f.0 f.1,
    )

pub returns-in-Conflict : goal.returns-in-Conflict
returns-in-Conflict c =
    let l = c.loop-at in
    let a = c.args in
    let s = a.self.now in
    let here = policy-at _ _ _ c.policy_parts-p.ensures in
    along-conflict s.reads a.gsa.now s.kd.now s.schedule.words s.carried.now s.fresh.now s.ids.now s.block.now s.tick l.at l.missing l.sas l.count l.openers
    l.invariant _ here c.if-p-ne-NO_PROTOCOL.true
    (λ roots entries size f b i.
    subst (λ y. IsBy s.tick y c.policy_at-one.result.sa c.policy_at-one.result.openers roots entries size f b) c.in-Conflict.is
    (c.policy_at-one.ensures roots entries size f b i)) l.count l.sas l.openers

pub bounds-sas-count : goal.bounds-sas-count
bounds-sas-count c =
    let l = c.loop-at in
    let a = c.args in
    let s = a.self.now in
    let here = policy-at _ _ _ c.policy_parts-p.ensures in
    let f = c.requires.checks_passed in
    along-room s.reads a.gsa.now s.kd.now s.schedule.words s.carried.now s.fresh.now s.ids.now s.block.now s.tick l.at l.missing l.sas l.count l.openers
    l.invariant _ here c.if-p-ne-NO_PROTOCOL.true f.0 f.1

pub loop-at-preserved-in-Nothing : goal.loop-at-preserved-in-Nothing
loop-at-preserved-in-Nothing c =
    let l = c.loop-at in
    let a = c.args in
    let s = a.self.now in
    let here = policy-at _ _ _ c.policy_parts-p.ensures in
    along-none s.reads a.gsa.now s.kd.now s.schedule.words s.carried.now s.fresh.now s.ids.now s.block.now s.tick l.at l.missing l.sas l.count l.openers
    l.invariant _ here c.if-p-ne-NO_PROTOCOL.true
    (λ roots entries size f b i.
    subst (λ y. IsBy s.tick y c.policy_at-one.result.sa c.policy_at-one.result.openers roots entries size f b) c.in-Nothing.is
    (c.policy_at-one.ensures roots entries size f b i))

pub loop-at-preserved-in-Key : goal.loop-at-preserved-in-Key
loop-at-preserved-in-Key c =
    let l = c.loop-at in
    let a = c.args in
    let s = a.self.now in
    let here = policy-at _ _ _ c.policy_parts-p.ensures in
    let z = c.if-p-ne-NO_PROTOCOL.true in
    let f = c.requires.checks_passed in
    let room = along-room s.reads a.gsa.now s.kd.now s.schedule.words s.carried.now s.fresh.now s.ids.now s.block.now s.tick l.at l.missing l.sas l.count l.openers
    l.invariant _ here z f.0 f.1 in
    along-sa s.reads a.gsa.now s.kd.now s.schedule.words s.carried.now s.fresh.now s.ids.now s.block.now s.tick l.at l.missing l.sas l.count l.openers
    l.invariant _ here z
    c.policy_at-one.result.sa c.policy_at-one.result.openers c.rekey_openers-openers.result c.rekey_openers-openers.ensures.0
    c.rekey_openers-openers.ensures.1 room
    (λ roots entries size f b i.
    subst (λ y. IsBy s.tick y c.policy_at-one.result.sa c.policy_at-one.result.openers roots entries size f b) c.in-Key.is
    (c.policy_at-one.ensures roots entries size f b i))

pub loop-at-preserved : goal.loop-at-preserved
loop-at-preserved c =
    let l = c.loop-at in
    let a = c.args in
    let s = a.self.now in
    let here = policy-at _ _ _ c.policy_parts-p.ensures in
    along-wide s.reads a.gsa.now s.kd.now s.schedule.words s.carried.now s.fresh.now s.ids.now s.block.now s.tick l.at l.missing l.sas l.count l.openers
    l.invariant _ here c.if-p-ne-NO_PROTOCOL.false

pub returns : goal.returns
returns c =
    let l = c.loop-at in
    let a = c.args in
    let s = a.self.now in
    along-end s.reads a.gsa.now s.kd.now s.schedule.words s.carried.now s.fresh.now s.ids.now s.block.now s.tick l.at l.missing l.sas l.count l.openers
    l.invariant c.found_by.result c.found_by.ensures c.loop-at-test.false
