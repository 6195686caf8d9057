use borrow.Author.Rules.{rules}
use mathlib.Core.Path.{◌≡◌, refl, ◌∙◌}
use lib.ListN.{length}
use Rattle.journal.proofs.ReportLaws.{fed-none, fed-more, left-fewer}
use Rattle.journal.proofs.read_input.Goals as goal

-- `journal::read_input` meets its contract.

pub loop-turns-init : goal.loop-turns-init
loop-turns-init c = (refl, fed-none c.begin-r.result c.begin-r.ensures)

pub turns_after-turns-requires : goal.turns_after-turns-requires
turns_after-turns-requires c = c.loop-turns-test.true

pub loop-turns-smaller : goal.loop-turns-smaller
loop-turns-smaller c =
    let l = c.loop-turns in
    left-fewer l.turns c.unwrap_or-n.result c.turns_after-turns.result
    c.loop-turns-test.true c.turns_after-turns.ensures

pub loop-turns-preserved : goal.loop-turns-preserved
loop-turns-preserved c =
    let l = c.loop-turns in
    let k : length c.read.new.buf ≡ length l.block = search rules in
    (k ∙ l.invariant.0, fed-more l.invariant.1 c.feed-next.ensures)

pub shape_of-block : goal.shape_of-block
shape_of-block c = c.loop-turns.invariant.0

pub returns : goal.returns
returns c = c.loop-turns.invariant.1
