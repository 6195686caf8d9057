use mathlib.Core.Path.{◌≡◌, ap, ◌∙◌}
use lib.ListN.{length}
use Rattle.state_keys.specs.Algorithms.{is_wrapping_size}
use Rattle.unwrap_search.proofs.Searching.{is-key-size}
use Rattle.unwrap_lending.proofs.Naming.{named-size}
use Rattle.unwrap_copies.proofs.Trying.{under-named, ready-some}
use borrow.Author.Rules.{rules}
use Rattle.unwrap_copies.proofs.ready.ready_for.Goals as goal

-- `unwrap_copies::ready::ready_for` meets its contract.

pub expand_inverse-expanded-requires-clause-t : goal.expand_inverse-expanded-requires-clause-t
expand_inverse-expanded-requires-clause-t c =
    let key = c.octets_named-key in
    let h = c.requires.lends_two in
    let a = c.args in
    let e = key.ensures.result_value h.0 h.1 h.2.own h.2.held in
    let some : (length key.result.now ≡ 0 → ⊥) = search rules in
    let size = named-size a.kwk h.0 h.1 a.carried.now a.fresh.now a.ids.now a.block.now h.2 (λ z. some (ap length e ∙ z)) in
    is-key-size (length key.result.now) (ap (λ m. is_wrapping_size (length m)) e ∙ size)

pub returns-clause-by_index : goal.returns-clause-by_index
returns-clause-by_index c v new old x lends k =
    let key = c.octets_named-key in
    let some : (length key.result.now ≡ 0 → ⊥) = search rules in
    ready-some v new old c.args.kwk key.result.now c.expand_inverse-expanded.result c.expand_inverse-expanded.ensures
    (under-named v new old c.args.kwk c.if-kwk-eq0.false key.result.now (key.ensures.result_value new old lends.own lends.held) some)
