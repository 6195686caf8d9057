use mathlib.Core.Path.{sym, ap₂, ◌∙◌}
use native.Mathlib.Omega.{arith}
use lib.Dec.{leb}
use Rattle.rfc5282.proofs.FragmentLaws.{not-alone, no-numbers, number-0, last-number}
use Rattle.sealing.proofs.fragment.is_fragment.Goals as goal

-- `sealing::fragment::is_fragment` meets its contract.

pub returns-then-frame-lt-FRAGMENT_BODY_AT : goal.returns-then-frame-lt-FRAGMENT_BODY_AT
returns-then-frame-lt-FRAGMENT_BODY_AT c =
    let s = c.args.frame.now in
    no-numbers s (sym c.is_alone.ensures ∙ c.if-not-is_alone.false) c.if-frame-lt-FRAGMENT_BODY_AT.true

pub returns-then-number-lt1 : goal.returns-then-number-lt1
returns-then-number-lt1 c =
    let s = c.args.frame.now in
    number-0 s (sym c.is_alone.ensures ∙ c.if-not-is_alone.false) (omega (arith, c.if-frame-lt-FRAGMENT_BODY_AT.false))
    (omega (arith, c.be16_at-number.ensures.0, c.if-number-lt1.true))

pub returns-then-not-is_alone : goal.returns-then-not-is_alone
returns-then-not-is_alone c =
    not-alone c.args.frame.now (sym c.is_alone.ensures ∙ c.if-not-is_alone.true)

pub returns : goal.returns
returns c =
    let s = c.args.frame.now in
    ap₂ leb c.be16_at-number.ensures.0 c.be16_at.ensures.0
    ∙ last-number s (sym c.is_alone.ensures ∙ c.if-not-is_alone.false) (omega (arith, c.if-frame-lt-FRAGMENT_BODY_AT.false))
    (omega (arith, c.be16_at-number.ensures.0, c.if-number-lt1.false))
