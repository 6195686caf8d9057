use native.Mathlib.Omega.{arith}
use Prim.Native.Nat.{◌-◌}
use mathlib.Core.Path.{◌≡◌}
use mathlib.Core.Logic.{⊎_elim, inl, inr}
use lib.ListN.{length}
use lib.Seq.{length-take-le}
use Rattle.gikev2.proofs.Laws.{Used, used_le, answer-rekey, answer-other}
use borrow.Author.Rules.{rules}
use Rattle.gikev2.proofs.answer.Goals as goal

pub slice_bounds-copy-end : goal.slice_bounds-copy-end
slice_bounds-copy-end c =
    let s = c.args.s in
    let i = c.if-n-gt-SA_OCTETS in
    let h : length s.octets ≡ 68 = search rules in
    let u : Used 68 i.n s.count = ⊎_elim (λ w. inl (w.if-n-gt-SA_OCTETS.true, w.n-is)) (λ w. inr (w.if-n-gt-SA_OCTETS.false, w.n-is)) i.branch-raw in
    let g = used_le 68 i.n s.count u in
    omega arith

pub copy-requires : goal.copy-requires
copy-requires c =
    let s = c.args.s in
    let i = c.if-n-gt-SA_OCTETS in
    let h : length s.octets ≡ 68 = search rules in
    let u : Used 68 i.n s.count = ⊎_elim (λ w. inl (w.if-n-gt-SA_OCTETS.true, w.n-is)) (λ w. inr (w.if-n-gt-SA_OCTETS.false, w.n-is)) i.branch-raw in
    let g = used_le 68 i.n s.count u in
    let k = length-take-le (i.n - 0) s.octets (omega arith) in
    omega arith

pub returns-then-s-eq-REKEY : goal.returns-then-s-eq-REKEY
returns-then-s-eq-REKEY c =
    let s = c.args.s in
    let i = c.if-n-gt-SA_OCTETS in
    let h : length s.octets ≡ 68 = search rules in
    let u : Used 68 i.n s.count = ⊎_elim (λ w. inl (w.if-n-gt-SA_OCTETS.true, w.n-is)) (λ w. inr (w.if-n-gt-SA_OCTETS.false, w.n-is)) i.branch-raw in
    answer-rekey s i.n _ h u c.copy.ensures.1 c.if-s-eq-REKEY.true

pub returns-else-s-eq-REKEY : goal.returns-else-s-eq-REKEY
returns-else-s-eq-REKEY c =
    let s = c.args.s in
    let i = c.if-n-gt-SA_OCTETS in
    let h : length s.octets ≡ 68 = search rules in
    let u : Used 68 i.n s.count = ⊎_elim (λ w. inl (w.if-n-gt-SA_OCTETS.true, w.n-is)) (λ w. inr (w.if-n-gt-SA_OCTETS.false, w.n-is)) i.branch-raw in
    answer-other s i.n _ h u c.copy.ensures.1 c.if-s-eq-REKEY.false
