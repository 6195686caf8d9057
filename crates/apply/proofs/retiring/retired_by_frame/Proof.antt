use native.Mathlib.Omega.{arith}
use Prim.Native.Nat.{◌-◌}
use mathlib.Core.Path.{◌≡◌, ap, ◌∙◌}
use mathlib.Core.List.{List}
use mathlib.Core.Bool.{false}
use lib.ListN.{length}
use Rattle.wire_frames.specs.Delete.{Delete}
use Rattle.check_payloads.proofs.StepLaws.{Step, reads-next, step}
use Rattle.check_payloads.proofs.DeletedLaws.{fits-here}
use Rattle.check_payloads.specs.inner.Deletion.{spis_in}
use Rattle.apply.specs.inner.Tables.{named_in, retired_there, AreDeletes}
use Rattle.apply.proofs.FrameLaws.{same-deletes, Going, going_start, going_end, going-kind, going-here, going-later}
use borrow.Author.Rules.{rules}
use Rattle.apply.proofs.retiring.retired_by_frame.Statement.{statement}
use Rattle.apply.proofs.retiring.retired_by_frame.Tie as tie

abbrev invariant-loop : tie.invariant-loop-left
invariant-loop s tick delay out₀ left₀ kind₀ at₀ out left kind at =
    (all : List Delete) × AreDeletes s (record { count = left₀; start = at₀ }) all × Going s tick delay out₀ all out left kind at

abbrev decreases-loop : tie.decreases-loop-left
decreases-loop s tick delay out₀ left₀ kind₀ at₀ out left kind at = length s - at

loop-holds : tie.Need-loop-left-init invariant-loop decreases-loop
loop-holds c =
    let p = c.requires in
    (p.0, record { count = p.1.count; from = p.1.from }, going_start _ _ _ _ _ p.0 p.1)

some : (c : tie.In-loop-left invariant-loop decreases-loop) → c.loop-left.left ≡ 0 → ⊥
some c z = omega (arith, c.loop-left-test.true)

sub-payload-parts : tie.Need-slice_bounds-payload_parts-count invariant-loop decreases-loop
sub-payload-parts c = c.loop-left.invariant.2.inside (some c)

part-payload-parts-start : tie.Need-slice_bounds-payload_parts-start invariant-loop decreases-loop
part-payload-parts-start c = c.loop-left.invariant.2.inside (some c)

part-payload-parts-end : tie.Need-slice_bounds-payload_parts-end invariant-loop decreases-loop
part-payload-parts-end c = search rules

payload-parts-requires : tie.Need-payload_parts-p-requires invariant-loop decreases-loop
payload-parts-requires c κs =
    let l = c.loop-left in
    let s = c.args.s.now in
    let w = l.invariant.2 in (
      going-kind _ _ _ _ _ _ l.left l.kind l.at w (some c.before),
      (false, reads-next false l.kind s l.at (w.rest (some c.before))),
    )

one : (c : tie.After-payload_parts-p invariant-loop decreases-loop)
    → let l = c.loop-left in
    Step false l.kind c.args.s.now l.at c.payload_parts-p.result
one c =
    let l = c.loop-left in
    let s = c.args.s.now in
    let w = l.invariant.2 in
    let z = some c.before.before in
    step false l.kind s l.at c.payload_parts-p.result (w.inside z)
    (c.payload_parts-p.ensures false (reads-next false l.kind s l.at (w.rest z)))

add-e : tie.Need-overflow_add-e invariant-loop decreases-loop
add-e c = let g = one c.before in record { fits = omega (arith, g.inside) }

add-retire-spis : tie.Need-overflow_add-at invariant-loop decreases-loop
add-retire-spis c = let g = one c.before.before in record { fits = omega (arith, g.some, g.inside) }

sub-retire-spis : tie.Need-slice_bounds-retire_spis-count invariant-loop decreases-loop
sub-retire-spis c = let g = one c.before.before in omega (arith, g.some)

part-retire-spis-start : tie.Need-slice_bounds-retire_spis-start invariant-loop decreases-loop
part-retire-spis-start c = let g = one c.before.before in omega (arith, g.some)

part-retire-spis-end : tie.Need-slice_bounds-retire_spis-end invariant-loop decreases-loop
part-retire-spis-end c = let g = one c.before.before in omega (arith, g.inside)

retire-spis-requires : tie.Need-retire_spis-out-requires invariant-loop decreases-loop
retire-spis-requires c κs =
    let l = c.loop-left in
    fits-here l.kind c.args.s.now l.at c.payload_parts-p.result
    (one c.before.before.before) c.if-kind-eq-DELETE.true

sub-left : tie.Need-overflow_sub-left invariant-loop decreases-loop
sub-left c = search (rules, c.loop-left-test.true)

loop-less : tie.Need-loop-left-smaller-then-kind-eq-DELETE invariant-loop decreases-loop
loop-less c = let g = one c.before.before.before.before in omega (arith, g.inside, g.some)

loop-again : tie.Need-loop-left-preserved-then-kind-eq-DELETE invariant-loop decreases-loop
loop-again c =
    let l = c.loop-left in (
      l.invariant.0,
      l.invariant.1,
      going-here _ _ _ _ _ _ l.left l.kind l.at l.invariant.2 (some c.before.before.before.before.before.before) _ (one c.before.before.before.before) c.if-kind-eq-DELETE.true _
          c.retire_spis-out.ensures,
    )

loop-less-2 : tie.Need-loop-left-smaller invariant-loop decreases-loop
loop-less-2 c = let g = one c.before.before in omega (arith, g.inside, g.some)

loop-again-2 : tie.Need-loop-left-preserved invariant-loop decreases-loop
loop-again-2 c =
    let l = c.loop-left in (
      l.invariant.0,
      l.invariant.1,
      going-later _ _ _ _ _ _ l.left l.kind l.at l.invariant.2 (some c.before.before.before.before) _ (one c.before.before) c.if-kind-eq-DELETE.false,
    )

returns : tie.Need-returns invariant-loop decreases-loop
returns c =
    let l = c.loop-left in
    let i = l.invariant in
    let a = c.args in
    λ d x.
    let y = same-deletes _ _ i.0 d i.1 (record { count = x.count; from = x.from }) in
    going_end _ _ _ _ i.0 _ l.left l.kind l.at i.2 c.loop-left-test.false
    ∙ ap (λ (z : List Delete). retired_there (named_in (spis_in z)) a.tick a.delay a.t) y

pub retired_by_frame_spec : {M : Type 1} → statement M
retired_by_frame_spec =
    tie.close
    (tie.spec
    invariant-loop
    decreases-loop
    loop-holds
    sub-payload-parts
    part-payload-parts-start
    part-payload-parts-end
    payload-parts-requires
    add-e
    add-retire-spis
    sub-retire-spis
    part-retire-spis-start
    part-retire-spis-end
    retire-spis-requires
    sub-left
    loop-less
    loop-again
    loop-less-2
    loop-again-2
    returns)
