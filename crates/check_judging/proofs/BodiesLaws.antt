-- The bodies of a frame to which number 4 does not apply.
use native.Mathlib.Omega.{arith}
use Prim.Native.Nat.{ℕ, ◌≤◌}
use mathlib.Core.Path.{◌≡◌, sym}
use mathlib.Core.Bool.{Bool, false}
use mathlib.Core.List.{List}
use borrow.Author.Tests.{ltb-false}
use Rattle.lists.specs.Lists.{count}
use Rattle.wire_frames.specs.Frame.{Frame}
use Rattle.check_payloads.specs.declared.PayloadFacts.{PayloadFacts}
use Rattle.check_payloads.proofs.FoundLaws.{OfFrame}
use Rattle.rules_refusals.specs.Contents.{has_gsa, has_kd}
use Rattle.rules_refusals.specs.Number4.{two_gsa, two_kd, number4_of_frame}
use Rattle.rules_refusals.specs.Refusals.{number4, applies}
use Rattle.rules_refusals.proofs.Clear.{clause-of-frame}

module _ (fresh : Bool) (s : List ℕ) (f : Frame) (b : PayloadFacts) (is : OfFrame fresh s f b) (none : false ≡ applies (number4 f)) where
  pub one-gsa-at-most : b.gsas ≤ 1
  unfolding two_gsa number4_of_frame
  one-gsa-at-most =
      let e : two_gsa f ≡ false = clause-of-frame (number4 f) 3 (sym none) in
      omega (arith, is.gsas, ltb-false 1 (count has_gsa f.payloads) e)

  pub one-kd-at-most : b.kds ≤ 1
  unfolding two_kd number4_of_frame
  one-kd-at-most =
      let e : two_kd f ≡ false = clause-of-frame (number4 f) 4 (sym none) in
      omega (arith, is.kds, ltb-false 1 (count has_kd f.payloads) e)
