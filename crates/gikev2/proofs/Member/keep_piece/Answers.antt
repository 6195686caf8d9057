use mathlib.Core.Path.{sym, ◌∙◌}
use Rattle.octets.specs.Octets.{Octets}
use Rattle.gikev2.proofs.GatheringLaws.{together, is-together, to-complete, is-whole, is-kept}
use Rattle.gikev2.proofs.Member.keep_piece.Goals as goal

-- `gikev2::Member::keep_piece` meets its contract.

pub gather_piece-gathered-requires : goal.gather_piece-gathered-requires
gather_piece-gathered-requires c = c.requires.write

pub complete-requires : goal.complete-requires
complete-requires c =
    let g = c.gather_piece-gathered in
    let o : Octets c.args.frame.now = λ i. (c.type_inv.frame i).fits in
    let e = g.ensures c.requires.write in
    let d = sym (c.is_complete.ensures (together o c.requires) (is-together o c.requires e)) ∙ c.if-is_complete.true in
    (together o c.requires, to-complete o c.requires e d)

pub returns-then-is_complete : goal.returns-then-is_complete
returns-then-is_complete c =
    let x = c.complete in
    let g = c.gather_piece-gathered in
    let o : Octets c.args.frame.now = λ i. (c.type_inv.frame i).fits in
    let e = g.ensures c.requires.write in
    let d = sym (c.is_complete.ensures (together o c.requires) (is-together o c.requires e)) ∙ c.if-is_complete.true in
    is-whole o c.requires d x.result _ (x.ensures (together o c.requires) (to-complete o c.requires e d))

pub returns : goal.returns
returns c =
    let g = c.gather_piece-gathered in
    let o : Octets c.args.frame.now = λ i. (c.type_inv.frame i).fits in
    let e = g.ensures c.requires.write in
    is-kept o c.requires e (sym (c.is_complete.ensures (together o c.requires) (is-together o c.requires e)) ∙ c.if-is_complete.false)
