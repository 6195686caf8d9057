use native.Mathlib.Omega.{arith}
use mathlib.Core.Path.{◌≡◌, refl, ap, ◌∙◌}
use mathlib.Core.Bool.{false}
use lib.Dec.{ltb}
use Rattle.wire_attributes.specs.Place.{in_policy}
use Rattle.wire_policies.specs.Policy.{SaBody}
use Rattle.wire_policies.specs.Grammar.{IsSaBody}
use Rattle.wire_readers.specs.inner.Bodies.{SaPartsAre}
use Rattle.check_composition.specs.declared.numbers.Numbers.{Numbers}
use Rattle.check_composition.proofs.SaLaws.{attributes-whole, lifetimes-are}
use Rattle.unwrap_sas.specs.inner.Policies.{lifetimes_of}
use Rattle.unwrap_sas.proofs.LifetimeLaws.{lifetime-missing, lifetime-there}
use borrow.Author.Rules.{rules}
use Rattle.unwrap_sas.proofs.lifetime.of_policy.Statement.{statement}
use Rattle.unwrap_sas.proofs.lifetime.of_policy.Tie as tie

sa-parts-requires : tie.Need-sa_parts-p-requires
sa-parts-requires c κs =
    (in_policy c.args.protocol, c.requires.0, c.requires.1)

parts : (c : tie.After-sa_parts-p) (x : SaBody)
    → IsSaBody (in_policy c.args.protocol) c.args.x.now x
    → SaPartsAre (in_policy c.args.protocol) c.args.x.now x c.sa_parts-p.result
parts c x i = c.sa_parts-p.ensures (in_policy c.args.protocol) x i

-- those of the policy that is known to be there
own : (c : tie.After-sa_parts-p)
    → let a = c.args in
    SaPartsAre (in_policy a.protocol) a.x.now c.requires.0 c.sa_parts-p.result
own c = parts c c.requires.0 c.requires.1

in-policy-requires : tie.Need-in_policy-place-requires
in-policy-requires c κs = search rules

sub-numbers-of : tie.Need-slice_bounds-numbers_of-count
sub-numbers-of c = let f = own c.before in omega (arith, f.then, f.inside)

part-numbers-of-start : tie.Need-slice_bounds-numbers_of-start
part-numbers-of-start c = let f = own c.before in omega (arith, f.then, f.inside)

part-numbers-of-end : tie.Need-slice_bounds-numbers_of-end
part-numbers-of-end c = search rules

numbers-of-requires : tie.Need-numbers_of-n-requires
numbers-of-requires c κs =
    let p = c.in_policy-place in (
      refl,
      attributes-whole c.args.protocol c.args.x.now c.requires.0 c.sa_parts-p.result (own c.before.before) p.result p.ensures,
    )

-- one lifetime at most
few : (c : tie.After-numbers_of-n) → ltb 1 c.numbers_of-n.result.count ≡ false
few c =
    let p = c.in_policy-place in
    ap (λ (m : Numbers). ltb 1 m.count)
    (lifetimes-are c.args.protocol c.args.x.now c.requires.0 c.sa_parts-p.result (own c.before.before.before) p.result p.ensures
    c.numbers_of-n.result c.numbers_of-n.ensures.0)
    ∙ c.requires.2

returns : tie.Need-returns-then-n-eq0
returns c =
    let a = c.args in
    let p = c.in_policy-place in
    λ x i.
    lifetime-missing a.tick (lifetimes_of a.protocol x) c.numbers_of-n.result
    (lifetimes-are a.protocol a.x.now x c.sa_parts-p.result (parts c.before.before.before.before.before x i) p.result p.ensures c.numbers_of-n.result
    c.numbers_of-n.ensures.0)
    (few c.before.before) c.if-n-eq0.true

returns-2 : tie.Need-returns
returns-2 c =
    let a = c.args in
    let p = c.in_policy-place in
    λ x i.
    lifetime-there a.tick (lifetimes_of a.protocol x) c.numbers_of-n.result
    (lifetimes-are a.protocol a.x.now x c.sa_parts-p.result (parts c.before.before.before.before.before x i) p.result p.ensures c.numbers_of-n.result
    c.numbers_of-n.ensures.0)
    (few c.before.before) c.if-n-eq0.false

pub of_policy_spec : {M : Type 1} → statement M
of_policy_spec =
    tie.close
    (tie.spec
    sa-parts-requires
    in-policy-requires
    sub-numbers-of
    part-numbers-of-start
    part-numbers-of-end
    numbers-of-requires
    returns
    returns-2)
