use mathlib.Core.Path.{◌≡◌, subst}
use mathlib.Core.Bool.{Bool, true}
use Rattle.wire_bags.specs.Bag.{bags}
use Rattle.wire_readers.specs.inner.Values.{is_whole}
use Rattle.unwrap_tree.proofs.SourceLaws.{stand-none, stand-fresh, stand-member}
use Rattle.unwrap_tree.proofs.source.entries_at.Goals as goal

pub returns-then-registers : goal.returns-then-registers
returns-then-registers c f y =
    let a = c.args in
    let t = c.if-registers.true in
    stand-member a.kd.now f a.bag (y.unread (y.apart t)) (y.member t)

pub fresh_source-requires : goal.fresh_source-requires
fresh_source-requires c =
    let p = c.requires in record {
      gsa_value = (p.gsa_value.0, subst (λ (x : Bool). is_whole (bags x 0 c.args.kd.now) ≡ true) c.if-reads.true p.gsa_value.1);
      fresh_source = (p.sourced.0, p.sourced.1.fresh c.if-reads.true);
    }

pub returns-then-reads : goal.returns-then-reads
returns-then-reads c f y =
    let a = c.args in
    stand-fresh a.kd.now f c.fresh_source.result (y.none c.if-registers.false)
    (c.fresh_source.ensures f (y.fresh c.if-reads.true))

pub returns : goal.returns
returns c f y =
    let a = c.args in
    stand-none a.kd.now f (y.none c.if-registers.false) (y.unread c.if-reads.false)
