use Rattle.std.proofs.Common.{arith}
use Rattle.check_pairing.proofs.Places.{stretch-is}
use Rattle.unwrap_sas.proofs.OwnBag.{own-whole, own-answers}
use Rattle.unwrap_sas.proofs.Opening.copies.Goals as goal

pub bag_stretch-bag-requires : goal.bag_stretch-bag-requires
bag_stretch-bag-requires c =
    (c.args.self.now.reads, c.requires.opens_by.whole)

pub slice_bounds-copies-count : goal.slice_bounds-copies-count
slice_bounds-copies-count c =
    let a = c.args in
    let s = a.self.now in
    let own = stretch-is a.protocol a.spi.now s.kd.now s.reads c.bag_stretch-bag.result c.bag_stretch-bag.ensures
    c.requires.opens_by.whole c.requires.one_bag in
    own.order

pub slice_bounds-copies-start : goal.slice_bounds-copies-start
slice_bounds-copies-start c =
    let a = c.args in
    let s = a.self.now in
    let own = stretch-is a.protocol a.spi.now s.kd.now s.reads c.bag_stretch-bag.result c.bag_stretch-bag.ensures
    c.requires.opens_by.whole c.requires.one_bag in
    omega (arith, own.order, own.inside)

pub slice_bounds-copies-end : goal.slice_bounds-copies-end
slice_bounds-copies-end c =
    let a = c.args in
    let s = a.self.now in
    let own = stretch-is a.protocol a.spi.now s.kd.now s.reads c.bag_stretch-bag.result c.bag_stretch-bag.ensures
    c.requires.opens_by.whole c.requires.one_bag in
    own.inside

pub copies-requires-clause-a_value : goal.copies-requires-clause-a_value
copies-requires-clause-a_value c =
    let a = c.args in
    let s = a.self.now in
    let own = stretch-is a.protocol a.spi.now s.kd.now s.reads c.bag_stretch-bag.result c.bag_stretch-bag.ensures
    c.requires.opens_by.whole c.requires.one_bag in
    own-whole s.reads s.kd.now a.protocol a.spi.now c.bag_stretch-bag.result own c.in_bag.result c.in_bag.ensures

pub returns : goal.returns
returns c roots entries size f p o bags protocol spi need =
    let a = c.args in
    let s = a.self.now in
    let own = stretch-is a.protocol a.spi.now s.kd.now s.reads c.bag_stretch-bag.result c.bag_stretch-bag.ensures
    c.requires.opens_by.whole c.requires.one_bag in
    own-answers s.reads s.kd.now a.protocol a.spi.now c.bag_stretch-bag.result own c.in_bag.result c.in_bag.ensures f p bags protocol spi
    a.need need roots entries size c.copies.result (c.copies.ensures roots entries size o.zero o.new o.old o.expands o.lends o.agrees)
