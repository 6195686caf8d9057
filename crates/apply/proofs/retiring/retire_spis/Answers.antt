use native.Mathlib.Omega.{arith}
use mathlib.Core.Path.{◌≡◌, refl, ap, sym, subst, ◌∙◌}
use mathlib.Core.List.{List}
use lib.ListN.{length, length-set}
use Rattle.state_keys.specs.Limits.{limits}
use Rattle.lists.proofs.Cases.{lt-cases}
use Rattle.lists.proofs.Lists.{length-of-map}
use Rattle.state_sa.specs.Entry.{blank_sa}
use Rattle.state_sa.specs.declared.entry.Sa.{Sa}
use Rattle.state_table.specs.Table.{retired_if}
use Rattle.state_table.proofs.Laws.{retired-yes, retired-no}
use Rattle.wire_frames.specs.Delete.{delete_of}
use Rattle.apply.specs.inner.Tables.{named_in}
use Rattle.apply.proofs.RetiringLaws.{there_out, there-made}
use Rattle.apply.proofs.Turns.{Turned, turned_more, turned_same}
use borrow.Author.Rules.{rules}
use Rattle.apply.proofs.retiring.retire_spis.Goals as goal
use Rattle.apply.proofs.retiring.retire_spis.Goals.{then-is_named, else-is_named}

pub loop-i-init : goal.loop-i-init
loop-i-init c =
    let e : length c.args.t.sas ≡ limits.sas = search (rules, length-of-map) in (e, e, refl)

pub loop-i-preserved : goal.loop-i-preserved
loop-i-preserved c =
    let l = c.loop-i in
    let a = c.args in
    let v = l.invariant in
    let q = named_in (delete_of a.o.now).spis in
    let f = retired_if q a.tick a.delay in
    let n = c.is_named.ensures in
    let few = c.places-n.ensures.0 in
    elim c.if-is_named.branch [
      | then-is_named w ↦ rw w.sas-is (
        v.0,
        length-set l.sas l.i _ ∙ v.1,
        turned_more f a.t.sas l.sas l.i _ (omega arith) v.2 _
            (retired-yes q a.tick a.delay _ _ (sym w.if-is_named.true ∙ n) w.retire.ensures),
      )
      | else-is_named w ↦ rw w.sas-is (
        v.0,
        v.1,
        turned_same f a.t.sas l.sas l.i _ (omega arith) v.2 (retired-no q a.tick a.delay _ blank_sa (sym w.if-is_named.false ∙ n)),
      )
    ]

pub returns : goal.returns
returns c =
    let k = c.loop-i in
    let p = c.places-n in
    let a = c.args in
    let v = k.invariant in
    let t = a.t in
    let q = named_in (delete_of a.o.now).spis in
    let f = retired_if q a.tick a.delay in
    let e : k.i ≡ p.result = omega arith in
    lt-cases limits.sas t.count
    (λ g.
    let z = subst (Turned f t.sas k.sas) (e ∙ p.ensures.1 g) v.2 in
    ap (λ (x : List Sa). record { sas = x; count = t.count }) z ∙ there_out a.tick a.delay q t g)
    (λ g. there-made a.tick a.delay q t k.sas g (subst (Turned f t.sas k.sas) (e ∙ p.ensures.2 g) v.2))
