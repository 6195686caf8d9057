use mathlib.Core.Path.{◌∙◌}
use native.Mathlib.Omega.{arith}
use Rattle.rfc5282.specs.Keys.{aes_key_of}
use Rattle.sealing.proofs.UnderLaws.{too_short, not-tagged, unpadded, unpadded-bounds}
use Rattle.sealing.proofs.body.judge_body.Goals as goal

-- `sealing::body::judge_body` meets its contract.

pub returns-then-n-least : goal.returns-then-n-least
returns-then-n-least c =
    (tt, λ part en e. too_short c.args.at part c.args.frame.now c.requires.nonce_len.1 c.if-n-least.true)

pub returns-then-not-verify_tag : goal.returns-then-not-verify_tag
returns-then-not-verify_tag c =
    let a = c.args in (
      tt,
      λ part en e.
          not-tagged a.at part a.frame.now a.nonce.now (omega arith) en c.verify_tag.result
          (c.verify_tag.ensures (aes_key_of part) e) c.if-not-verify_tag.true,
    )

pub returns : goal.returns
returns c =
    let a = c.args in (
      unpadded-bounds a.at c.wide-pad.result a.frame.now (omega arith) c.checked_sub.result c.checked_sub.ensures,
      λ part en e.
          unpadded a.at part a.frame.now a.nonce.now (omega arith) en c.verify_tag.result
          (c.verify_tag.ensures (aes_key_of part) e) c.if-not-verify_tag.false c.wide-pad.result
          (c.wide-pad.ensures.0 ∙ c.gctr_at.ensures (aes_key_of part) e) c.checked_sub.result c.checked_sub.ensures,
    )
