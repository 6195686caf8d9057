use native.Mathlib.Omega.{arith}
use borrow.Author.Tests.{eq-eqb, ne_eqb}
use mathlib.Core.Path.{◌≡◌, refl, ap, sym, ◌∙◌}
use mathlib.Core.Bool.{Bool, not, cond, ◌&&◌}
use lib.Dec.{ltb, eqb}
use lib.ListN.{drop}
use Rattle.wire_attributes.specs.Place.{in_policy}
use Rattle.state_sa.specs.Entry.{most_seconds}
use Rattle.check_suites.proofs.PolicyLaws.{transforms-are}
use Rattle.check_composition.proofs.SaLaws.{attributes-whole, of-sa-is}
use Rattle.check_composition.proofs.of_sa.Goals as goal
use Rattle.check_composition.proofs.of_sa.Goals.{then-rekey, else-rekey}

pub slice_bounds-suite-count : goal.slice_bounds-suite-count
slice_bounds-suite-count c =
    let f = c.sa_parts-p.ensures (in_policy c.args.protocol) c.requires.0 c.requires.1 in omega (arith, f.then, f.inside)

pub slice_bounds-suite-start : goal.slice_bounds-suite-start
slice_bounds-suite-start c =
    let f = c.sa_parts-p.ensures (in_policy c.args.protocol) c.requires.0 c.requires.1 in omega (arith, f.then, f.inside)

pub suite-u-requires : goal.suite-u-requires
suite-u-requires c =
    let p = in_policy c.args.protocol in
    let f = c.sa_parts-p.ensures p c.requires.0 c.requires.1 in
    let r = c.sa_parts-p.result in
    (c.requires.0.suite.transforms, drop r.attributes c.args.o.now, transforms-are p c.args.o.now c.requires.0 r f)

pub slice_bounds-numbers_of-count : goal.slice_bounds-numbers_of-count
slice_bounds-numbers_of-count c = (c.sa_parts-p.ensures (in_policy c.args.protocol) c.requires.0 c.requires.1).inside

pub slice_bounds-numbers_of-start : goal.slice_bounds-numbers_of-start
slice_bounds-numbers_of-start c = (c.sa_parts-p.ensures (in_policy c.args.protocol) c.requires.0 c.requires.1).inside

pub numbers_of-n-requires : goal.numbers_of-n-requires
numbers_of-n-requires c =
    let f = c.sa_parts-p.ensures (in_policy c.args.protocol) c.requires.0 c.requires.1 in
    let p = c.in_policy-place in
    (refl, attributes-whole c.args.protocol c.args.o.now c.requires.0 c.sa_parts-p.result f p.result p.ensures)

pub slice_bounds-numbers_of-count-2 : goal.slice_bounds-numbers_of-count-2
slice_bounds-numbers_of-count-2 c = (c.sa_parts-p.ensures (in_policy c.args.protocol) c.requires.0 c.requires.1).inside

pub slice_bounds-numbers_of-start-2 : goal.slice_bounds-numbers_of-start-2
slice_bounds-numbers_of-start-2 c = (c.sa_parts-p.ensures (in_policy c.args.protocol) c.requires.0 c.requires.1).inside

pub numbers_of-m-requires : goal.numbers_of-m-requires
numbers_of-m-requires c =
    let f = c.sa_parts-p.ensures (in_policy c.args.protocol) c.requires.0 c.requires.1 in
    let p = c.in_policy-place in
    (refl, attributes-whole c.args.protocol c.args.o.now c.requires.0 c.sa_parts-p.result f p.result p.ensures)

pub slice_bounds-is_group_address-count : goal.slice_bounds-is_group_address-count
slice_bounds-is_group_address-count c = (c.sa_parts-p.ensures (in_policy c.args.protocol) c.requires.0 c.requires.1).order

pub slice_bounds-is_group_address-start : goal.slice_bounds-is_group_address-start
slice_bounds-is_group_address-start c = (c.sa_parts-p.ensures (in_policy c.args.protocol) c.requires.0 c.requires.1).order

pub slice_bounds-is_group_address-end : goal.slice_bounds-is_group_address-end
slice_bounds-is_group_address-end c =
    let f = c.sa_parts-p.ensures (in_policy c.args.protocol) c.requires.0 c.requires.1 in omega (arith, f.then, f.inside)

pub is_group_address-group-requires : goal.is_group_address-group-requires
is_group_address-group-requires c =
    (c.requires.0.destination, (c.sa_parts-p.ensures (in_policy c.args.protocol) c.requires.0 c.requires.1).destination)

pub returns : goal.returns
returns c = λ x spi i.
    let a = c.args in
    let o = a.o.now in
    let f = c.sa_parts-p.ensures (in_policy a.protocol) x i in
    let r = c.sa_parts-p.result in
    let n = c.numbers_of-n.result in
    let m = c.numbers_of-m.result in
    let none = c.no_policies.ensures in
    let given : c.if-rekey.result ≡ cond (eqb a.protocol 6) n.greatest 0 =
    elim c.if-rekey.branch [
      | then-rekey w ↦ w.result-is ∙ sym (ap (λ (b : Bool). cond b n.greatest 0) (eq-eqb a.protocol 6 w.if-rekey.true))
      | else-rekey w ↦ w.result-is ∙ sym (ap (λ (b : Bool). cond b n.greatest 0) (ne_eqb a.protocol 6 w.if-rekey.false))
    ] in
    (λ j.
    record {
      sas = 1;
      esps = c.one_if.result;
      rekeys = c.one_if-2.result;
      wides = (none j).wides;
      ah = eqb a.protocol 2;
      two_lengths = ltb 0 c.suite-u.result.doubled;
      two_message_ids = ltb 1 n.count;
      two_delays = (none j).two_delays;
      two_lifetimes = ltb 1 m.count;
      elsewhere = eqb a.protocol 6 && not c.is_group_address-group.result;
      long = ltb most_seconds m.greatest;
      unfit = not c.is_fit-fit.result;
      delay = (none j).delay;
      initial = c.if-rekey.result;
    })
    ∙ of-sa-is a.protocol o x r f c.in_policy-place.result c.in_policy-place.ensures a.authentication spi c.suite-u.result
    (c.suite-u.ensures x.suite.transforms (drop r.attributes o) (transforms-are (in_policy a.protocol) o x r f))
    n c.numbers_of-n.ensures.0 m c.numbers_of-m.ensures.0 c.is_group_address-group.result
    (c.is_group_address-group.ensures x.destination f.destination) c.is_fit-fit.result c.is_fit-fit.ensures c.one_if.result
    c.one_if-2.result c.one_if.ensures c.one_if-2.ensures c.if-rekey.result given
