use Rattle.std.proofs.Common.{◌≡◌, ℕ, ◌+◌, ap, sym, ◌∙◌}
use Rattle.octets.specs.Numbers.{oct}
use Rattle.wire_attributes.proofs.Loops.{exit-is}
use Rattle.wire_policies.specs.Policy.{spi_size}
use Rattle.wire_bags.specs.Bag.{place_of}
use Rattle.wire_bags.proofs.BagLaws.{good, inner-broken, bad}
use Rattle.wire_bags.proofs.bag_spot.Goals as goal

pub returns-then-not-head_fits : goal.returns-then-not-head_fits
returns-then-not-head_fits c = bad c.args.fresh c.args.base c.args.s.now (sym c.head_fits.ensures ∙ c.if-not-head_fits.true)

pub returns-in_err-are_attributes : goal.returns-in_err-are_attributes
returns-in_err-are_attributes c =
    let a = c.args in
    let z : c.spi_size-z.result ≡ spi_size (oct a.s.now 0) = c.spi_size-z.ensures.0 ∙ ap spi_size c.wide-p.ensures.0 in
    exit-is _ _ c.from_residual.ensures.1
    ∙ inner-broken a.fresh a.base a.s.now (sym c.head_fits.ensures ∙ c.if-not-head_fits.false) _ _ _ (ap (λ (u : ℕ). 4 + u) z)
    c.be16_at-n.ensures.0 (c.place_of.ensures ∙ ap (place_of a.fresh) c.wide-p.ensures.0) _ c.in_err-are_attributes.ensures

pub returns : goal.returns
returns c =
    let a = c.args in
    let z : c.spi_size-z.result ≡ spi_size (oct a.s.now 0) = c.spi_size-z.ensures.0 ∙ ap spi_size c.wide-p.ensures.0 in
    good a.fresh a.base a.s.now (sym c.head_fits.ensures ∙ c.if-not-head_fits.false) _ _ _ (ap (λ (u : ℕ). 4 + u) z)
    c.be16_at-n.ensures.0 (c.place_of.ensures ∙ ap (place_of a.fresh) c.wide-p.ensures.0) c.in_ok-are_attributes.ensures
