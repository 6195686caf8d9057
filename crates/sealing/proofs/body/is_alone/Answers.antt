use mathlib.Core.Path.{sym, ap, ◌∙◌}
use Prim.Native.Nat.{ℕ, ◌+◌, ◌/◌}
use native.Mathlib.Omega.{arith}
use lib.Dec.{eqb}
use lib.ListN.{length}
use Rattle.rfc5282.proofs.OuterLaws.{too_short, too_long, miscounted, other-version, other-payload, last-test}
use Rattle.sealing.proofs.body.is_alone.Goals as goal

-- `sealing::body::is_alone` meets its contract.

pub returns-then-n-lt-ENCRYPTED_BODY_AT : goal.returns-then-n-lt-ENCRYPTED_BODY_AT
returns-then-n-lt-ENCRYPTED_BODY_AT c = too_short c.args.payload c.args.frame.now c.if-n-lt-ENCRYPTED_BODY_AT.true

pub returns-then-n-gt-MOST_OCTETS : goal.returns-then-n-gt-MOST_OCTETS
returns-then-n-gt-MOST_OCTETS c =
    let a = c.args in
    too_long a.payload a.frame.now (omega arith) c.if-n-gt-MOST_OCTETS.true

pub returns-then-be32_at-n : goal.returns-then-be32_at-n
returns-then-be32_at-n c =
    let a = c.args in
    miscounted a.payload a.frame.now (omega arith) (omega arith) (λ e. c.if-be32_at-n.true (c.be32_at.ensures ∙ e))

pub returns-then-wide-ne-MAJOR_VERSION : goal.returns-then-wide-ne-MAJOR_VERSION
returns-then-wide-ne-MAJOR_VERSION c =
    let a = c.args in
    other-version a.payload a.frame.now (omega arith) (omega arith) (sym c.be32_at.ensures ∙ c.if-be32_at-n.false)
    (λ e. c.if-wide-ne-MAJOR_VERSION.true (ap (λ (x : ℕ). x / 16) c.wide.ensures.0 ∙ e))

pub returns-then-frame-payload : goal.returns-then-frame-payload
returns-then-frame-payload c =
    let a = c.args in
    other-payload a.payload a.frame.now (omega arith) (omega arith) (sym c.be32_at.ensures ∙ c.if-be32_at-n.false)
    (ap (λ (x : ℕ). x / 16) (sym c.wide.ensures.0) ∙ c.if-wide-ne-MAJOR_VERSION.false) c.if-frame-payload.true

pub returns : goal.returns
returns c =
    let a = c.args in
    ap (λ (x : ℕ). eqb (28 + x) (length a.frame.now)) c.be16_at.ensures.0
    ∙ last-test a.payload a.frame.now (omega arith) (omega arith) (sym c.be32_at.ensures ∙ c.if-be32_at-n.false)
    (ap (λ (x : ℕ). x / 16) (sym c.wide.ensures.0) ∙ c.if-wide-ne-MAJOR_VERSION.false) c.if-frame-payload.false
