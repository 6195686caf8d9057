use mathlib.Core.Path.{◌≡◌}
use mathlib.Core.List.{◌++◌}
use Rattle.unwrap_copies.specs.declared.answer.CopyFound.TheVariants.{Conflict}
use Rattle.unwrap_copies.proofs.Joining.{tell, both-agree, both-differ}
use borrow.Author.Rules.{rules}
use Rattle.unwrap_copies.proofs.answer.merge_values.Goals as goal

pub returns-then-eq : goal.returns-then-eq
returns-then-eq c need l m p q =
    let a = c.args in
    let e : a.a.octets ≡ a.b.octets = search rules in
    both-agree l m need a.a a.b p q c.requires.0 c.requires.1 e

pub returns-else-eq : goal.returns-else-eq
returns-else-eq c need l m p q =
    let a = c.args in
    let e : (a.a.octets ≡ a.b.octets → ⊥) = search rules in
    tell (l ++ m) need c.conflict.result Conflict c.conflict.ensures
    (both-differ l m need a.a a.b p q c.requires.0 c.requires.1 e)
