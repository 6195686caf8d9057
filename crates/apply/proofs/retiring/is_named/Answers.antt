use Rattle.std.proofs.Common.{sym, ◌∙◌}
use Rattle.wire_frames.specs.Delete.{delete_of}
use Rattle.apply.proofs.RetiringLaws.{other-named, unnamed-start, unnamed-inside, unnamed-end, unnamed-zero, unnamed-spi, unnamed-next}
use Rattle.apply.proofs.retiring.is_named.Goals as goal
use Rattle.apply.proofs.retiring.is_named.Goals.{then-is_zero-via-then-is_zero, then-is_zero-via-else-is_zero+then-is_named}

pub returns-then-a-ne-ESP : goal.returns-then-a-ne-ESP
returns-then-a-ne-ESP c = let a = c.args in other-named a.a (delete_of a.o.now).spis c.if-a-ne-ESP.true

pub loop-i-init : goal.loop-i-init
loop-i-init c = unnamed-start _ _ _ c.if-a-ne-ESP.false c.requires c.delete_parts-i-end.ensures.count

pub spi_at-x-requires : goal.spi_at-x-requires
spi_at-x-requires c = let w = c.loop-i.invariant in (w.fits, unnamed-inside _ _ _ _ w c.loop-i-test.true)

pub returns-then-is_zero : goal.returns-then-is_zero
returns-then-is_zero c =
    let l = c.loop-i in
    elim c.then-is_zero.branch [
      | then-is_zero-via-then-is_zero w ↦
          unnamed-zero _ _ _ _ l.invariant c.loop-i-test.true _ c.spi_at-x.ensures (sym c.is_zero.ensures ∙ w.if-is_zero.true)
      | then-is_zero-via-else-is_zero+then-is_named w ↦
          unnamed-spi _ _ _ _ l.invariant c.loop-i-test.true _ c.spi_at-x.ensures (sym c.is_zero.ensures ∙ w.if-is_zero.false)
          (sym w.if-is_named.true ∙ w.is_named.ensures)
    ]

pub loop-i-preserved : goal.loop-i-preserved
loop-i-preserved c =
    unnamed-next _ _ _ _ c.loop-i.invariant c.loop-i-test.true _ c.spi_at-x.ensures (sym c.is_zero.ensures ∙ c.if-is_zero.false)
    (sym c.if-is_named.false ∙ c.is_named.ensures)

pub returns : goal.returns
returns c = unnamed-end _ _ _ _ c.loop-i.invariant c.loop-i-test.false
