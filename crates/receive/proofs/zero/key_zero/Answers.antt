use Rattle.std.proofs.Common.{◌≡◌, length, rules, get_or, Fits, w8, sym, ◌∙◌, ap}
use Rattle.octets.specs.Octets.{Octets}
use Rattle.state_keys.specs.Limits.{limits}
use Rattle.state_table.specs.Table.{swept}
use Rattle.state_table.specs.declared.Table.{Table}
use Rattle.receive.proofs.ZeroKeyLaws.{lent-some, lent-zero, stands-formed, stands_live, own-zero}
use Rattle.receive.proofs.zero.key_zero.Goals as goal

-- `receive::zero::key_zero` meets its contract.

pub unwrap-requires : goal.unwrap-requires
unwrap-requires c =
    let p = c.requires in
    lent-some p.8 (p.7 ∙ c.in-Lent.is) c.new.result c.new.ensures

pub default_key-requires : goal.default_key-requires
default_key-requires c =
    let p = c.requires in
    let z = p.7 ∙ c.in-RekeySa.is in
    let w = c.sweep.ensures ∙ ap (λ (t : Table). swept limits c.args.tick t) (sym p.6) in
    (stands-formed p.8 z c.sweep.result w, stands_live p.8 z c.sweep.result w)

pub returns-in-Lent : goal.returns-in-Lent
returns-in-Lent c e m g k bag f t z b =
    lent-zero b (z ∙ c.in-Lent.is) c.unwrap.result (sym c.new.ensures ∙ c.unwrap.ensures)
    (λ i. (c.type_inv.lent i).fits)

pub returns-in-RekeySa : goal.returns-in-RekeySa
returns-in-RekeySa c e m g k bag f t z b =
    let r = c.default_key.result in
    let array : length r.octets ≡ 32 = search rules in
    let small : Octets r.octets = λ i. let f : Fits w8 (get_or r.octets i 0) = search rules in f.fits in
    own-zero b (z ∙ c.in-RekeySa.is) c.sweep.result
    (c.sweep.ensures ∙ ap (λ (x : Table). swept limits c.args.tick x) (sym t)) r c.default_key.ensures array small
