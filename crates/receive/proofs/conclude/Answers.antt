use mathlib.Core.Path.{ap}
use Rattle.std.proofs.lemmas.Result.{err_from_is_err_and}
use Rattle.wire_readers.specs.inner.Values.{is_whole}
use Rattle.check_payloads.proofs.FrameLaws.{long}
use Rattle.receive.proofs.ClauseLaws.{state-formed}
use Rattle.receive.proofs.ConcludingLaws.{table_fits, by-keys, room-is, new-few}
use Rattle.receive.proofs.DecidingLaws.{refuses, opens, keys-known}
use Rattle.receive.proofs.SaidLaws.{told}
use Rattle.receive.proofs.conclude.Goals as goal

-- `receive::conclude` meets its contract.

pub row_of-requires : goal.row_of-requires
row_of-requires c = (c.args.state.profile, ap is_whole c.requires.2.passed.whole_is)

pub said-said-requires : goal.said-said-requires
said-said-requires c = long c.args.state.profile c.args.frame.now (ap is_whole c.requires.2.passed.whole_is)

pub returns-in_err-judge_keys : goal.returns-in_err-judge_keys
returns-in_err-judge_keys c =
    let p = err_from_is_err_and c.from_residual.result c.from_residual.ensures.1 in
    rw (p.1, p.2) (λ f lent o. refuses c.args.opened o _ c.in_err-judge_keys.ensures)

pub next-after-requires : goal.next-after-requires
next-after-requires c =
    let a = c.args in
    let x = c.requires in
    let o = x.2 in
    let r = a.opened in
    let w = opens r c.in_ok-judge_keys.ensures in
    let k = keys-known r o w.fit in
    record {
      told = (
        x.0,
        told a.state a.tick x.1 a.frame.now a.x x.0 o.passed c.row_of.result
            (c.row_of.ensures a.state.profile x.0 o.passed.whole_is) c.said-said.result c.said-said.ensures,
      );
      count_le_sas = (
        table_fits a.state (state-formed a.state a.tick x.1 x.0 o.passed.clauses),
        room-is a.state a.tick x.1 a.frame.now a.x r.keyed r.over r.held x.0 k w.each,
        new-few a.state a.tick x.1 a.frame.now a.x r.keyed r.over r.held x.0 k w.each,
      );
    }

pub returns : goal.returns
returns c = λ f lent o.
    let a = c.args in
    let r = a.opened in
    let w = opens r c.in_ok-judge_keys.ensures in
    by-keys a.state a.tick lent a.frame.now a.x r.keyed r.over r.held f (keys-known r o w.fit) w.each w.room _
    (c.next-after.ensures f
    (told a.state a.tick lent a.frame.now a.x f o.passed c.row_of.result (c.row_of.ensures a.state.profile f o.passed.whole_is)
    c.said-said.result c.said-said.ensures))
