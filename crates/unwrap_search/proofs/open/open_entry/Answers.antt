use Prim.Native.Nat.{ℕ}
use mathlib.Core.Path.{refl, sym, subst}
use Rattle.std.specs.Prelude.{Some}
use Rattle.keywrap.specs.Answers.{OpenAnswers}
use Rattle.keywrap.specs.inner.Blank.{blank}
use Rattle.unwrap_search.specs.inner.Opened.{EntryOpened}
use Rattle.unwrap_search.proofs.Opening.{landed_none, landed-wrong, landed-right}
use Rattle.unwrap_search.proofs.open.open_entry.Goals as goal

-- `unwrap_search::open::open_entry` meets its contract.

pub returns-in_default : goal.returns-in_default
returns-in_default c v x = landed_none v c.args.wrapped.now blank c.args.size x.key-is (c.in_default.ensures v x)

pub returns-then-count-size : goal.returns-then-count-size
returns-then-count-size c v x =
    let o = c.in-Some.opened in
    landed-wrong v c.args.wrapped.now o.octets c.args.size o.count (c.in-Some.ensures v x) c.if-count-size.true

pub returns : goal.returns
returns c v x =
    let n = c.args.size in
    let o = c.in-Some.opened.octets in
    let w = c.args.wrapped.now in
    subst (EntryOpened v n w) (sym c.unwrap_or-key.ensures)
    (landed-right v w o n n c.new.result
    (subst (λ (m : ℕ). OpenAnswers v w blank (Some m) o) c.if-count-size.false (c.in-Some.ensures v x)) refl
    c.requires.size_value c.new.ensures)
