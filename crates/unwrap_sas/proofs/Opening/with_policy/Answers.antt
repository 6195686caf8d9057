use Rattle.std.proofs.Common.{arith}
use Rattle.wire_attributes.specs.Place.{in_policy}
use Rattle.unwrap_sas.proofs.OnePolicy.{few-octets, lifetime-of, named-with, need-is, sizes-are}
use Rattle.unwrap_sas.proofs.Opening.with_policy.Goals as goal

pub overflow_add-e : goal.overflow_add-e
overflow_add-e c =
    let a = c.args in
    let s = a.self.now in
    let p = c.requires.announces in
    let h = p.2 in
    let n = c.needs-n in
    let sized = sizes-are s.reads s.kd.now a.protocol a.spi.now a.x.now p.0 p.1 h n.result (n.ensures (in_policy a.protocol) h.body h.is) in
    let f = few-octets _ _ _ _ sized in record { fits = omega arith }

pub copies-copied-requires-clause-need_le_sa_room : goal.copies-copied-requires-clause-need_le_sa_room
copies-copied-requires-clause-need_le_sa_room c =
    let a = c.args in
    let s = a.self.now in
    let p = c.requires.announces in
    let h = p.2 in
    let n = c.needs-n in
    let sized = sizes-are s.reads s.kd.now a.protocol a.spi.now a.x.now p.0 p.1 h n.result (n.ensures (in_policy a.protocol) h.body h.is) in
    few-octets _ _ _ _ sized

pub one_sa-requires : goal.one_sa-requires
one_sa-requires c =
    let a = c.args in
    let s = a.self.now in
    let p = c.requires.announces in
    let h = p.2 in
    let n = c.needs-n in
    let sized = sizes-are s.reads s.kd.now a.protocol a.spi.now a.x.now p.0 p.1 h n.result (n.ensures (in_policy a.protocol) h.body h.is) in
    sized

pub returns : goal.returns
returns c roots entries size f p i =
    let a = c.args in
    let s = a.self.now in
    let n = c.needs-n in
    let h = i.stands in
    let is = n.ensures (in_policy a.protocol) h.body h.is in
    let t = c.of_policy-t in
    let lasts = lifetime-of s.reads s.kd.now a.protocol a.spi.now a.x.now f p h t.result s.tick t.ensures in
    let name = named-with s.reads s.kd.now a.protocol a.spi.now a.x.now f p h n.result is t.result s.tick lasts in
    let need = need-is s.reads s.kd.now a.protocol a.spi.now a.x.now f p h n.result is in
    c.one_sa.ensures s.tick roots entries size f p
    (record {
      name = name;
      answers = c.copies-copied.ensures roots entries size f p i.opening h.bags h.protocol-is h.spi-is need;
    })
