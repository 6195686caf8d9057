use native.Mathlib.Omega.{arith}
use Rattle.octets.specs.Octets.{Octets}
use Rattle.gikev2.proofs.GatheringLaws.{given-as, long-enough, is-replayed, is-too-many, counts-one, is-passed, is-too-long}
use Rattle.gikev2.proofs.GatheringLaws.{is-taken}
use Rattle.gikev2.proofs.Member.judge_piece.Goals as goal

-- `gikev2::Member::judge_piece` meets its contract.

pub names_in-f-requires : goal.names_in-f-requires
names_in-f-requires c = long-enough c.requires.outside

pub returns-then-number_3 : goal.returns-then-number_3
returns-then-number_3 c =
    let o : Octets c.args.frame.now = λ i. (c.type_inv.frame i).fits in
    let u = c.requires in
    let f = c.names_in-f.ensures in
    given-as c.refuse_fragment.ensures
    (is-replayed c.args.collection o u f c.number_3.ensures c.if-number_3.true)

pub returns-then-f-gt-MOST_FRAGMENTS : goal.returns-then-f-gt-MOST_FRAGMENTS
returns-then-f-gt-MOST_FRAGMENTS c =
    let o : Octets c.args.frame.now = λ i. (c.type_inv.frame i).fits in
    let u = c.requires in
    let f = c.names_in-f.ensures in
    given-as c.refuse_fragment-then-f-gt-MOST_FRAGMENTS.ensures
    (is-too-many c.args.collection o u f c.number_3.ensures c.if-number_3.false
    c.if-f-gt-MOST_FRAGMENTS.true)

pub place-requires : goal.place-requires
place-requires c =
    let o : Octets c.args.frame.now = λ i. (c.type_inv.frame i).fits in
    let u = c.requires in
    let f = c.names_in-f.ensures in
    counts-one c.args.collection o u f c.number_3.ensures c.if-number_3.false

pub keep_piece-requires : goal.keep_piece-requires
keep_piece-requires c =
    let o : Octets c.args.frame.now = λ i. (c.type_inv.frame i).fits in
    let u = c.requires in
    let f = c.names_in-f.ensures in
    let l = c.if-f-gt-MOST_FRAGMENTS.false in
    is-taken c.args.collection o u f c.number_3.ensures c.if-number_3.false
    (omega (arith, l)) c.place.result (c.place.ensures _ u.piece.of.count) c.in-Taken.n
    c.in-Taken.is

pub returns-in-Passed : goal.returns-in-Passed
returns-in-Passed c =
    let o : Octets c.args.frame.now = λ i. (c.type_inv.frame i).fits in
    let u = c.requires in
    let f = c.names_in-f.ensures in
    let l = c.if-f-gt-MOST_FRAGMENTS.false in
    is-passed c.args.collection o u f c.number_3.ensures c.if-number_3.false
    (omega (arith, l)) c.place.result (c.place.ensures _ u.piece.of.count) c.in-Passed.is

pub returns-in-TooLong : goal.returns-in-TooLong
returns-in-TooLong c =
    let o : Octets c.args.frame.now = λ i. (c.type_inv.frame i).fits in
    let u = c.requires in
    let f = c.names_in-f.ensures in
    let l = c.if-f-gt-MOST_FRAGMENTS.false in
    given-as c.refuse_fragment-in-TooLong.ensures
    (is-too-long c.args.collection o u f c.number_3.ensures c.if-number_3.false
    (omega (arith, l)) c.place.result (c.place.ensures _ u.piece.of.count) c.in-TooLong.is)
