use Rattle.std.proofs.Common.{◌≡◌, ℕ, ◌+◌, ◌≤◌, length, take, sym, refl, subst, arith}
use Rattle.text_lines.specs.inner.Reading.{LineKept}
use Rattle.journal_rules.specs.inner.Longest.{longest_digits}
use Rattle.journaling.specs.Reader.{had-stopped, reads_on}
use Rattle.journaling.specs.declared.reading.ReaderPlace.{ReaderPlace}
use Rattle.journaling.proofs.BlockLaws.{far-start, kept-within}
use Rattle.journaling.proofs.reading.feed.Goals as goal

-- `journaling::reading::feed` meets its contract.

pub returns-then-p : goal.returns-then-p
returns-then-p c = had-stopped c.if-p.true refl

pub read_block-place-requires : goal.read_block-place-requires
read_block-place-requires c =
    let s = c.args.r in
    let w = c.within in
    let long : length s.line ≡ longest_digits + 1 = omega arith in
    let few : w.result ≤ length s.line = omega (arith, w.ensures, long) in
    record { keeps = long; begun = few; room-long = omega arith }

pub returns : goal.returns
returns c =
    let w = c.within in
    let s = c.args.r in
    let p = s.place in
    let start : ReaderPlace = record { member = p.member; taken = p.taken; stopped = p.stopped; len = w.result } in
    let long : length s.line ≡ longest_digits + 1 = omega arith in
    let kept = subst (λ (n : ℕ). LineKept s.line n (take p.len s.line)) (sym w.ensures) (kept-within s.line p.len long) in
    reads_on c.if-p.false
    (c.read_block-place.ensures p.member.state p.taken (take p.len s.line)
    (far-start p.member.state p.taken (take p.len s.line) start s.line c.if-p.false refl refl kept))
