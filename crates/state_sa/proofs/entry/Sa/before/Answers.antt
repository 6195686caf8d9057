use Rattle.std.proofs.Common.{◌≡◌, length, arith, rules, le-ltb, lt-ltb}
use Rattle.state_sa.specs.Entry.{sa_before}
use Rattle.state_sa.proofs.Laws.{before-spi}
use Rattle.state_sa.proofs.entry.Sa.before.Goals as goal

pub returns-then-self-other : goal.returns-then-self-other
unfolding sa_before
returns-then-self-other c = rw (lt-ltb _ _ c.if-self-other.true)

pub returns-then-other-self : goal.returns-then-other-self
unfolding sa_before
returns-then-other-self c = simp (le-ltb _ _ c.if-self-other.false, lt-ltb _ _ c.if-other-self.true)

pub slice_bounds-less-end : goal.slice_bounds-less-end
slice_bounds-less-end c =
    let g = c.well_formed.0 in
    let n : length c.args.self.spi ≡ 16 = search (rules, g) in
    omega (arith, c.spi_size-n.ensures.1)

pub slice_bounds-less-end-2 : goal.slice_bounds-less-end-2
slice_bounds-less-end-2 c =
    let g = c.well_formed.1.0 in
    let n : length c.args.other.spi ≡ 16 = search (rules, g) in
    omega (arith, c.spi_size-m.ensures.1)

pub returns : goal.returns
returns c =
    let a = c.args in
    before-spi a.self a.other _ _ _ c.if-self-other.false c.if-other-self.false
    c.spi_size-n.ensures.0
    c.spi_size-m.ensures.0 c.less.ensures
