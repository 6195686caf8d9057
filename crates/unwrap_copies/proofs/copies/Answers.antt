use Rattle.std.proofs.Common.{ap, sym, ◌∙◌, subst, List, ℕ, drop, map, arith}
use Rattle.wire_attributes.specs.Tree.{SaKey, sa_key_of}
use Rattle.state_keys.specs.Kinds.{value_of}
use Rattle.unwrap_copies.specs.inner.Answer.{copies_in}
use Rattle.unwrap_copies.specs.declared.answer.CopyFound.TheVariants.{Key}
use Rattle.unwrap_copies.specs.inner.Named.{tries_of_all}
use Rattle.unwrap_copies.specs.inner.Openers.{Noted}
use Rattle.unwrap_copies.specs.inner.Ready.{IsExpanded}
use Rattle.unwrap_copies.proofs.Walking.{next-copies, next-tries, no-tries}
use Rattle.unwrap_copies.proofs.Joining.{told}
use Rattle.unwrap_copies.proofs.OpenersLaws.{no-conflict, Listed, listed-none, listed_next, openers-are}
use Rattle.unwrap_copies.proofs.Progress.{starts, goes_on, ends}
use Rattle.unwrap_copies.proofs.Reaching.{answers}
use Rattle.unwrap_copies.proofs.copies.Goals as goal

pub loop-x-init : goal.loop-x-init
loop-x-init c =
    let a = c.args in
    let zero = c.key_zero-last in (
      omega arith,
      c.requires.a_value,
      subst IsExpanded (sym zero.ensures.id_value.1) c.requires.tables_value.1,
      λ v new old x lends. (
        starts a.need (tries_of_all v new old (copies_in a.place a.a.now)) c.nothing-known.result c.nothing-known.ensures,
        listed-none a.need v new old (copies_in a.place a.a.now) c.no_openers-openers.result c.no_openers-openers.ensures,
        zero.ensures.by_index v new old x,
      ),
    )

pub loop-x-preserved : goal.loop-x-preserved
loop-x-preserved c =
    let a = c.args in
    let s = a.a.now in
    let l = c.loop-x in
    let m = c.in-Some.ensures in
    let f = m.value in
    let is = c.attribute_value-copy.ensures.result_value ∙ m.octets in
    let id = c.be32_at-kwk in
    let key = c.ready_for-key in
    let one = c.try_copy-one in
    let n = c.note-openers in (
      f.inside,
      f.rest,
      key.ensures.id_value.1,
      λ v new old x lends.
          let p = l.invariant.3 v new old x lends in
          let r = key.ensures.by_index v new old x lends p.2 in
          let k = sa_key_of c.attribute_value-copy.result.now in
          let t = one.ensures v new old r (sym id.ensures ∙ sym key.ensures.id_value.0) in (
            goes_on a.need (tries_of_all v new old (copies_in a.place s)) _ _ _ l.known one.result c.merge-known.result
                (next-tries a.place s l.at _ _ f _ is v new old) p.0 t c.merge-known.ensures,
            listed_next a.need v new old (copies_in a.place s) (copies_in a.place (drop c.in-Some.x.end s)) k l.openers n.result
                (subst (λ (y : List SaKey). Listed a.need v new old (copies_in a.place s) y l.openers)
                (next-copies a.place s l.at _ _ f _ is) p.1)
                one.result t
                (subst (λ (i : ℕ). Noted one.result.found i l.openers n.result) id.ensures n.ensures),
            r,
          ),
    )

pub returns : goal.returns
returns c roots entries size zero new old x lends agrees =
    let l = c.loop-x in
    let a = c.args in
    let s = a.a.now in
    let v = value_of zero in
    let all = copies_in a.place s in
    let f = c.in_default.ensures.0 in
    let p = l.invariant.3 v new old x lends in
    let t = ends a.need (tries_of_all v new old all) _ l.known (no-tries a.place s l.at v new old f) p.0 in
    record {
      answers = answers zero new old all roots entries size agrees a.need l.known t;
      openers = λ k room.
          openers-are a.need zero new old all l.openers (copies_in a.place (drop l.at s)) p.1 (ap (map sa_key_of) f) roots
          entries size agrees
          (no-conflict (tries_of_all v new old all) a.need l.known.octets l.known.count
          (told (tries_of_all v new old all) a.need l.known Key k t))
          room;
    }
