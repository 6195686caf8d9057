use mathlib.Core.Path.{◌≡◌, refl, ap, sym, subst, ◌∙◌}
use Prim.Native.Nat.{◌≤◌}
use borrow.Author.Rules.{rules}
use lib.ListN.{length}
use mathlib.Core.Bool.{Bool}
use Rattle.wire_attributes.specs.Place.{in_bag}
use Rattle.state_keys.specs.Limits.{limits}
use Rattle.lists.specs.Lists.{any}
use Rattle.check_bagkeys.specs.declared.wrapped.KeyFacts.{KeyFacts}
use Rattle.check_bagkeys.proofs.BagLaws.{none-there}
use Rattle.check_bagkeys.proofs.KeyLaws.{no_keys}
use Rattle.check_bagkeys.proofs.fresh_of.Goals as goal

-- `check_bagkeys::fresh_of` meets its contract.

pub keys_of-requires : goal.keys_of-requires
keys_of-requires c = (refl, c.requires)

pub returns-then-fresh : goal.returns-then-fresh
returns-then-fresh c = λ first e. c.keys_of.ensures

pub returns-else-fresh : goal.returns-else-fresh
unfolding any
returns-else-fresh c = λ first e.
    let a = c.args in
    let none : c.default.result ≡ no_keys = search rules in
    let h = none-there limits a.fresh first a.a.now a.place (e ∙ ap (λ (b : Bool). in_bag b first) c.if-fresh.false) in
    (none ∙ h.0, subst (λ (k : KeyFacts). k.keys ≤ length a.a.now) (sym none) h.1)
