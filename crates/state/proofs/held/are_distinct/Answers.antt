use Rattle.std.proofs.Common.{◌≡◌, ℕ, ◌+◌, arith, ap, sym, ◌∙◌, get_or, drop, eqb}
use Rattle.std.specs.List.{list_any}
use Rattle.octets.proofs.Walks.{to_end}
use Rattle.state.proofs.Laws.{distinct-yes, distinct-no, distinct-end, any-list}
use Rattle.state.proofs.held.are_distinct.Goals as goal

pub returns-then-contains : goal.returns-then-contains
returns-then-contains c =
    let s = c.args.ids.now in
    let i = c.loop-i.i in
    let id = get_or s i 0 in
    let h : c.contains.result ≡ list_any (λ (b : ℕ). eqb b id) (drop (i + 1) s) =
    c.contains.ensures.value ∙ ap (list_any (λ (b : ℕ). eqb b id)) (to_end s (i + 1)) in
    sym (c.loop-i.invariant ∙ distinct-no s i c.loop-i-test.true (sym c.if-contains.true ∙ h ∙ any-list (λ (b : ℕ). eqb b id) (drop (i + 1) s)))

pub loop-i-preserved : goal.loop-i-preserved
loop-i-preserved c =
    let s = c.args.ids.now in
    let i = c.loop-i.i in
    let id = get_or s i 0 in
    let h : c.contains.result ≡ list_any (λ (b : ℕ). eqb b id) (drop (i + 1) s) =
    c.contains.ensures.value ∙ ap (list_any (λ (b : ℕ). eqb b id)) (to_end s (i + 1)) in
    c.loop-i.invariant ∙ distinct-yes s i c.loop-i-test.true (sym c.if-contains.false ∙ h ∙ any-list (λ (b : ℕ). eqb b id) (drop (i + 1) s))

pub returns : goal.returns
returns c = sym (c.loop-i.invariant ∙ distinct-end _ c.loop-i.i (omega (arith, c.loop-i-test.false)))
