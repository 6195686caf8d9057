use mathlib.Core.Path.{refl, sym, ap, ◌∙◌}
use Prim.Native.Nat.{ℕ}
use native.Mathlib.Omega.{arith}
use lib.ListN.{drop}
use Rattle.text_rules.specs.Hex.{octets_of_hex}
use Rattle.text_rules.specs.Input.{frame}
use Rattle.text_rules.proofs.InputLaws.{taken-bounds, asked-taken, asked-other, part-rest}
use Rattle.text_lines.proofs.RoomLaws.{put_as}
use Rattle.text_lines.proofs.later_line.Goals as goal

-- `text_lines::later_line` meets its contract.

pub returns-then-not-is_taken : goal.returns-then-not-is_taken
returns-then-not-is_taken c = (asked-other c.args.line.now (sym c.if-not-is_taken.ensures), refl)

pub tick_of-tick-requires : goal.tick_of-tick-requires
tick_of-tick-requires c = (taken-bounds 8 32776 c.args.line.now (sym c.if-not-is_taken.ensures)).0

pub slice_bounds-put_octets-count : goal.slice_bounds-put_octets-count
slice_bounds-put_octets-count c = omega (arith, taken-bounds 8 32776 c.args.line.now (sym c.if-not-is_taken.ensures))

pub slice_bounds-put_octets-start : goal.slice_bounds-put_octets-start
slice_bounds-put_octets-start c = omega (arith, taken-bounds 8 32776 c.args.line.now (sym c.if-not-is_taken.ensures))

pub returns : goal.returns
returns c =
    let line = c.args.line.now in
    let e = asked-taken line (sym c.if-not-is_taken.ensures) in
    let n = ap (λ (n : ℕ). frame n (octets_of_hex (drop 8 line))) (sym c.tick_of-tick.ensures) in
    (e ∙ n, put_as (ap octets_of_hex (part-rest 8 line)) c.put_octets-len.ensures)
