use mathlib.Core.Path.{refl, ap}
use Rattle.wire_frames.specs.Frame.{Frame}
use Rattle.wire_readers.specs.inner.Values.{is_whole}
use Rattle.receive.specs.inner.Passing.{Bagged, Bodied, reads_by}
use Rattle.receive.specs.inner.Opening.{Openable, FrameWithKeys}
use Rattle.receive.proofs.BodyLaws.{bagged-by}
use Rattle.receive.proofs.deciding.by_bodies.Statement.{statement}
use Rattle.receive.proofs.deciding.by_bodies.Tie as tie

-- `receive::deciding::by_bodies` meets its contract.

row-of-requires : tie.Need-row_of-row-requires
row-of-requires c κs =
    (c.args.state.profile, ap is_whole c.requires.1.1.passed.whole_is)

-- the frame's bodies, by the row that was read
bodies : (c : tie.After-row_of-row) (f : Frame) →
    let a = c.args in
    Bodied a.state a.tick a.lent.now a.frame.now a.x a.gsa.now a.kd.now f →
    Bagged c.row_of-row.result a.state a.tick a.lent.now a.gsa.now a.kd.now a.x.member_bag f
bodies c f b = bagged-by b c.row_of-row.result (c.row_of-row.ensures _ f b.passed.whole_is)

key-zero-requires : tie.Need-key_zero-zero-requires
key-zero-requires c κs =
    let a = c.args in
    let p = c.requires.1 in
    (c.row_of-row.result, a.state, a.gsa.now, a.kd.now, a.x.member_bag, p.0, refl, refl, bodies c.before p.0 p.1)

-- what its keys are opened with, for every frame that the octets are
opening : (c : tie.After-key_zero-zero) (f : Frame) →
    let a = c.args in
    let row = c.row_of-row.result in
    Bodied a.state a.tick a.lent.now a.frame.now a.x a.gsa.now a.kd.now f →
    Openable row a.state a.tick a.lent.now a.gsa.now a.kd.now a.x.member_bag a.state.held
    c.key_zero-zero.result (reads_by a.state row) f
opening c f b =
    let w = bodies c.before.before f b in
    record { bagged = w; list = refl; key = c.key_zero-zero.ensures _ _ _ _ _ f refl refl w; fresh = refl }

open-keys-requires : tie.Need-open_keys-opened-requires
open-keys-requires c κs =
    let p = c.requires in (
      p.0,
      (
        c.args.state,
        c.args.lent.now,
        p.1.0,
        opening c.before.before.before.before p.1.0 p.1.1,
      ),
    )

-- its keys opened
opened : (c : tie.After-open_keys-opened) (f : Frame) →
    let a = c.args in
    Bodied a.state a.tick a.lent.now a.frame.now a.x a.gsa.now a.kd.now f →
    FrameWithKeys a.state a.tick a.lent.now a.frame.now a.x c.open_keys-opened.result f
opened c f b =
    record { passed = b.passed; opened = c.open_keys-opened.ensures _ _ f (opening c.before.before.before.before.before f b) }

conclude-requires : tie.Need-conclude-requires
conclude-requires c κs =
    let p = c.requires.1 in (
      p.0,
      c.args.lent.now,
      opened c p.0
          p.1,
    )

returns : tie.Need-returns
returns c = λ f b. c.conclude.ensures f c.args.lent.now
    (opened c.before f b)

pub by_bodies_spec : {M : Type 1} → statement M
by_bodies_spec =
    tie.close (tie.spec row-of-requires key-zero-requires open-keys-requires conclude-requires returns)
