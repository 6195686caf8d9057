use native.Mathlib.Omega.{arith}
use Prim.Native.Nat.{ℕ, ◌+◌, ◌-◌, ◌≤◌, ◌<◌}
use mathlib.Core.Path.{◌≡◌, sym, ap, ◌∙◌}
use lib.ListN.{length, take, drop, set, length-take, length-set}
use Rattle.state_keys.specs.Limits.{limits}
use Rattle.lists.proofs.Lists.{length-of-map}
use Rattle.state_sa.specs.Entry.{sa_before}
use Rattle.state_table.specs.Table.{sas_of, table_of}
use Rattle.state_table.specs.declared.Table.{Table}
use Rattle.rules_outcome.specs.After.{insert_all}
use Rattle.unwrap_sas.specs.inner.Keyed.{new_sas}
use Rattle.apply.proofs.TableLaws.{none-entered, some-entered, one-entered, enter-made}
use Rattle.apply.proofs.Turns.{moving-start, moving-ahead, moving-aside, moving-end}
use borrow.Author.Rules.{rules}
use Rattle.apply.proofs.entering.enter_all.Goals as goal
use Rattle.apply.proofs.entering.enter_all.Goals.{then-goes_ahead, else-goes_ahead}

pub loop-i-init : goal.loop-i-init
loop-i-init c =
    let a = c.args in
    let long : length a.new ≡ new_sas = search (rules, length-of-map) in
    let own : length a.t.sas ≡ limits.sas = search (rules, length-of-map) in
    let some = length-take a.t.count a.t.sas in
    let room : a.t.count + a.n ≤ limits.sas = c.requires.0 in
    let h : a.n ≤ length a.new = omega (arith, long, c.requires.2) in
    let g : length (sas_of a.t) + a.n ≤ limits.sas = omega arith in
    (omega arith, h, g, own, room, c.requires.1 ∙ sym (none-entered limits a.new a.n h (sas_of a.t) g))

pub loop-j-init : goal.loop-j-init
loop-j-init c =
    let v = c.loop-i.invariant in
    (v.3, omega (arith, v.4), omega arith, moving-start sa_before _ _ _)

pub loop-j-preserved : goal.loop-j-preserved
loop-j-preserved c =
    let l = c.loop-j in
    let k = c.loop-i in
    let v = l.invariant in
    let h : k.count < length k.sas = omega (arith, v.0, v.1) in
    let f = c.goes_ahead.ensures in
    elim c.if-goes_ahead.branch [
      | then-goes_ahead w ↦ rw (w.sas-is, w.carried-is, w.placed-is) (
        v.0,
        v.1,
        omega arith,
        moving-ahead sa_before k.sas k.count _ h l.sas l.carried l.placed l.j v.3 _ (omega arith) (sym w.if-goes_ahead.true ∙ f),
      )
      | else-goes_ahead w ↦ rw (w.sas-is, w.carried-is, w.placed-is) (
        v.0,
        v.1,
        omega arith,
        moving-aside sa_before k.sas k.count _ h l.sas l.carried l.placed l.j v.3 _ (omega arith) (sym w.if-goes_ahead.false ∙ f),
      )
    ]

pub loop-i-preserved : goal.loop-i-preserved
loop-i-preserved c =
    let k = c.loop-i in
    let l = c.loop-j in
    let a = c.args in
    let v = k.invariant in
    let w = l.invariant in
    let i : ℕ = k.i - 1 in
    let n : k.i ≡ i + 1 = omega arith in
    let g : i < a.n = omega (arith, v.0) in
    let e : k.count ≡ l.j = omega (arith, w.2) in
    let h : k.count < length k.sas = omega (arith, w.0, w.1) in
    let last : ℕ → Table = λ j. table_of limits (insert_all (drop j (take a.n a.new)) (sas_of a.t)) in (
      omega (arith, v.0),
      v.1,
      v.2,
      length-set l.sas k.count l.carried ∙ w.3.same ∙ w.0,
      omega (arith, v.4),
      enter-made limits k.sas k.count _ (insert_all (drop (i + 1) (take a.n a.new)) (sas_of a.t)) _ (v.5 ∙ ap last n)
          (some-entered limits a.new a.n v.1 (sas_of a.t) v.2 i g)
          (ap (λ j. set l.sas j l.carried) e
          ∙ moving-end sa_before k.sas k.count _ h l.sas l.carried l.placed l.j w.3 e)
          ∙ one-entered limits a.new a.n v.1 (sas_of a.t) v.2 i _ g,
    )

pub returns : goal.returns
returns c =
    let l = c.loop-i in
    let a = c.args in
    let z : l.i ≡ 0 = omega arith in
    l.invariant.5 ∙ ap (λ (j : ℕ). table_of limits (insert_all (drop j (take a.n a.new)) (sas_of a.t))) z
