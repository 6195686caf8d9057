use Rattle.wire_frames.specs.Exchange.{reads_fresh}
use Rattle.check_payloads.proofs.FoundLaws.{OfFrame}
use Rattle.receive.proofs.BodyLaws.{of-frame, holds-policies, bodied}
use Rattle.receive.proofs.deciding.decide.Statement.{statement}
use Rattle.receive.proofs.deciding.decide.Tie as tie

-- the payloads of the frame that is known to be there
own : (c : tie.After-kd-1) →
    OfFrame (reads_fresh c.args.state.profile c.requires.0.header.exchange) c.args.frame.now c.requires.0 c.args.x.payloads
own c =
    let a = c.args in
    let p = c.requires in
    of-frame a.state a.tick a.lent.now a.frame.now a.x p.0 p.1

sub-by-bodies : tie.Need-slice_bounds-by_bodies-count
sub-by-bodies c = (own c).gsa_order

part-by-bodies-start : tie.Need-slice_bounds-by_bodies-start
part-by-bodies-start c = (own c).gsa_order

part-by-bodies-end : tie.Need-slice_bounds-by_bodies-end
part-by-bodies-end c = (own c).gsa_inside

sub-by-bodies-2 : tie.Need-slice_bounds-by_bodies-count-2
sub-by-bodies-2 c = (own c.before).kd_order

part-by-bodies-start-2 : tie.Need-slice_bounds-by_bodies-start-2
part-by-bodies-start-2 c = (own c.before).kd_order

part-by-bodies-end-2 : tie.Need-slice_bounds-by_bodies-end-2
part-by-bodies-end-2 c = (own c.before).kd_inside

by-bodies-requires : tie.Need-by_bodies-requires
by-bodies-requires c κs =
    let a = c.args in
    let p = c.requires in (
      (holds-policies a.state a.tick a.lent.now a.frame.now a.x p.0 p.1).held,
      (p.0, bodied a.state a.tick a.lent.now a.frame.now a.x p.0 p.1),
    )

returns : tie.Need-returns
returns c =
    let a = c.args in
    λ f q. c.by_bodies.ensures f (bodied a.state a.tick a.lent.now a.frame.now a.x f q)

pub decide_spec : {M : Type 1} → statement M
decide_spec =
    tie.close
    (tie.spec
    sub-by-bodies
    part-by-bodies-start
    part-by-bodies-end
    sub-by-bodies-2
    part-by-bodies-start-2
    part-by-bodies-end-2
    by-bodies-requires
    returns)
