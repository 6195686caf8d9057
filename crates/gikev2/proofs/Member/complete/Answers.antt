use native.Mathlib.Omega.{arith}
use mathlib.Core.Path.{refl}
use Rattle.gikev2.proofs.FragmentLaws.{whole-within, whole-answered}
use Rattle.gikev2.proofs.Member.complete.Goals as goal

-- `gikev2::Member::complete` meets its contract.

pub write_whole-n-requires : goal.write_whole-n-requires
write_whole-n-requires c =
    let t = c.requires.1 in
    record {
      holding = (c.requires.0, record { is = t.is; few = t.few; small = t.small });
      most_octets_in_bounds = t.holds;
    }

pub slice_bounds-receive-end : goal.slice_bounds-receive-end
slice_bounds-receive-end c =
    let v = c.write_whole-n in
    let l = whole-within c.args.self c.args.tick c.requires.0 c.args.room.now v.result v.new.room
    (v.ensures c.requires.0 c.requires.1.is) in
    omega (arith, l)

pub returns : goal.returns
returns c w t =
    let x = c.receive-x in
    let v = c.write_whole-n in
    whole-answered c.args.self c.args.tick w c.args.room.now v.result v.new.room (v.ensures w t.is)
    x.result.answer _ x.ensures refl c.new.ensures
