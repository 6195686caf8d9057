-- The lifetime by the numbers that a policy's attributes give, of which there is one at most.
use native.Mathlib.Omega.{arith}
use Prim.Native.Nat.{ℕ}
use mathlib.Core.Path.{◌≡◌, ap, sym, ◌∙◌}
use mathlib.Core.List.{List}
use mathlib.Core.Bool.{Bool, true, false, cond}
use borrow.Author.Tests.{lt-ltb, le-ltb}
use lib.Dec.{ltb}
use lib.ListN.{length}
use Rattle.state_sa.specs.declared.entry.Lifetime.TheVariants.{Unlimited, Limited}
use Rattle.rules_refusals.specs.Contents.{some, several}
use Rattle.rules_refusals.specs.Fitness.{sum}
use Rattle.check_composition.specs.inner.Numbers.{greatest}
use Rattle.check_composition.specs.declared.numbers.Numbers.{Numbers}
use Rattle.check_composition.proofs.GivenLaws.{sum-given}
use Rattle.rules_outcome.specs.After.{lifetime_from}

module _ (tick : ℕ) (l : List ℕ) (n : Numbers) (is : n ≡ record { count = length l; greatest = greatest l })
    (few : ltb 1 n.count ≡ false) where
  count-is : n.count ≡ length l
  count-is = ap (λ (m : Numbers). m.count) is

  by-some : (b : Bool) → some l ≡ b → lifetime_from tick l ≡ cond b (Limited tick (sum (λ (k : ℕ). k) l)) Unlimited
  unfolding lifetime_from
  by-some b e = ap (λ (c : Bool). cond c (Limited tick (sum (λ (k : ℕ). k) l)) Unlimited) e

  pub lifetime-missing : n.count ≡ 0 → Unlimited ≡ lifetime_from tick l
  lifetime-missing z = let e = count-is in sym (by-some false (le-ltb 0 (length l) (omega arith)))

  pub lifetime-there : (n.count ≡ 0 → ⊥) → Limited tick n.greatest ≡ lifetime_from tick l
  lifetime-there z =
      let e = count-is in
      let once : several l ≡ false = ap (ltb 1) (sym count-is) ∙ few in
      ap (Limited tick) (ap (λ (m : Numbers). m.greatest) is ∙ sym (sum-given l once))
      ∙ sym (by-some true (lt-ltb 0 (length l) (omega (arith, z))))
