use Rattle.std.proofs.Common.{true, sym, subst}
use Rattle.state_sa.specs.Entry.{rekey_protocol}
use Rattle.unwrap_tree.specs.inner.Source.{FreshStand}
use Rattle.check_pairing.proofs.Places.{stretch-is}
use Rattle.unwrap_tree.proofs.SourceLaws.{no-rekey, bag-paired, fresh-stand}
use Rattle.unwrap_tree.proofs.source.fresh_source.Goals as goal

pub returns-in_err-spi : goal.returns-in_err-spi
returns-in_err-spi c f y =
    let a = c.args in subst (FreshStand a.kd.now f) (sym c.from_residual.ensures) (no-rekey f a.gsa.now a.kd.now y c.in_err-spi.ensures)

pub returns : goal.returns
returns c f y =
    let g = c.args.gsa.now in
    let k = c.args.kd.now in
    let r = c.in_ok-spi.spi in
    let first = c.in_ok-spi.ensures in
    fresh-stand f g k y r first c.bag_stretch-bag.result
    (stretch-is rekey_protocol _ k true c.bag_stretch-bag.result c.bag_stretch-bag.ensures c.requires.gsa_value.1 (bag-paired f g k y r first))
