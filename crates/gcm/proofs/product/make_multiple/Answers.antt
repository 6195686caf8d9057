use Rattle.gcm.specs.inner.Halves.{pair_number}
use Rattle.gcm.proofs.MultipleLaws.{multiple-is}
use Rattle.gcm.proofs.product.make_multiple.Goals as goal

-- `gcm::product::make_multiple` meets its contract.

pub returns : goal.returns
unfolding pair_number
returns c =
    let a = c.args in
    multiple-is (pair_number a.y) a.d c.shift-v1.ensures c.shift-v2.ensures c.shift-v3.ensures
    c.add_where-z1.ensures c.add_where-z2.ensures c.add_where-z3.ensures c.add_where.ensures
