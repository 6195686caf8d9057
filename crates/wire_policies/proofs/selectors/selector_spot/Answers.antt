use Rattle.std.proofs.Common.{rules}
use Rattle.wire_policies.proofs.SelectorLaws.{missing, no-type, cut, fits, wrong}
use Rattle.wire_policies.proofs.selectors.selector_spot.Goals as goal
use Rattle.wire_policies.proofs.selectors.selector_spot.Goals.{then-n-eq0-via-then-n-eq0, then-n-eq0-via-else-n-eq0+then-s-n, then-n-eq0-via-else-n-eq0+else-s-n+then-be16_at-n}

pub returns-then-is_empty : goal.returns-then-is_empty
returns-then-is_empty c = missing c.args.holder c.args.base c.args.s.now (search rules)

pub returns-then-n-eq0 : goal.returns-then-n-eq0
returns-then-n-eq0 c =
    let a = c.args in
    elim c.then-n-eq0.branch [
      | then-n-eq0-via-then-n-eq0 w ↦ no-type a.holder a.base a.s.now (search rules) _ _ c.wide.ensures.0 c.selector_size-n.ensures.0 w.if-n-eq0.true
      | then-n-eq0-via-else-n-eq0+then-s-n w ↦ cut a.holder a.base a.s.now (search rules) _ _ c.wide.ensures.0 c.selector_size-n.ensures.0 w.if-n-eq0.false w.if-s-n.true
      | then-n-eq0-via-else-n-eq0+else-s-n+then-be16_at-n w ↦
          wrong a.holder a.base a.s.now (search rules) _ _ c.wide.ensures.0 c.selector_size-n.ensures.0 w.if-n-eq0.false w.if-s-n.false _
          w.be16_at.ensures.0 w.if-be16_at-n.true
    ]

pub returns : goal.returns
returns c =
    let a = c.args in
    fits a.holder a.base a.s.now (search rules) _ _ c.wide.ensures.0 c.selector_size-n.ensures.0 c.if-n-eq0.false c.if-s-n.false _
    c.be16_at.ensures.0 c.if-be16_at-n.false
