use native.Mathlib.Omega.{arith}
use Rattle.octets.specs.Octets.{Octets}
use Rattle.state_keys.specs.Limits.{limits}
use Rattle.rules_sealed.specs.SealingKey.{encryption_octets_of}
use Rattle.rules_sealed.proofs.SealedKeys.{table-formed, some-live}
use Rattle.gikev2.proofs.SealedLaws.{not_so, key-part, opened-fits, not-opened-given, opened-given}
use Rattle.gikev2.proofs.Member.open_sealed.Goals as goal

-- `gikev2::Member::open_sealed` meets its contract.

pub sealing_key-key-requires : goal.sealing_key-key-requires
sealing_key-key-requires c =
    let a = c.args in (
      table-formed limits a.self.state a.tick a.frame.now (not_so c.requires.1),
      some-live limits a.self.state a.tick a.frame.now (not_so c.requires.1),
    )

pub slice_bounds-receive-end : goal.slice_bounds-receive-end
slice_bounds-receive-end c =
    let a = c.args in
    let k = c.sealing_key-key.result in
    let l = opened-fits a.self a.tick a.frame.now a.room.now (encryption_octets_of k) c.open_frame.result
    c.open_frame.new.room c.open_frame.ensures c.in-Some.n c.in-Some.is in
    omega (arith, l)

pub returns-in-None : goal.returns-in-None
returns-in-None c =
    let a = c.args in
    let k = c.sealing_key-key in
    let o : Octets a.frame.now = λ i. (c.type_inv.frame i).fits in
    let x = c.refuse.result in
    let e = c.refuse.ensures in
    not-opened-given a.self a.tick a.frame.now a.room.now (encryption_octets_of k.result) c.open_frame.result
    c.open_frame.new.room c.open_frame.ensures o c.requires.0 c.requires.1 (key-part a.self k.result k.ensures)
    c.in-None.is x.answer x.member e.0 e.1

pub returns-in-Some : goal.returns-in-Some
returns-in-Some c =
    let a = c.args in
    let k = c.sealing_key-key in
    let o : Octets a.frame.now = λ i. (c.type_inv.frame i).fits in
    let x = c.receive.result in
    opened-given a.self a.tick a.frame.now a.room.now (encryption_octets_of k.result) c.open_frame.result
    c.open_frame.new.room c.open_frame.ensures o c.requires.0 c.requires.1 (key-part a.self k.result k.ensures)
    c.in-Some.n c.in-Some.is _ x.answer x.member c.receive.ensures
