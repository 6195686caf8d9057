-- "A frame that meets none of refusals 1 to 8 is accepted exactly when each SA it announces has a copy of its key that opens under the key
-- its KWK ID names, be it key 0, the last key of such a chain or, in a rekey, a key the member held; otherwise it is refused as number 9."
-- "Over 128 then is 7, judged after 9" (document 02, T-11).
use native.Mathlib.Omega.{arith}
use Prim.Native.Nat.{ℕ, zero, suc, ◌<◌}
use mathlib.Core.Path.{◌≡◌, refl, subst}
use mathlib.Core.Logic.{◌⊎◌, inl, inr, ⊎_elim, ◌↔◌}
use mathlib.Core.List.{List}
use Rattle.state_keys.specs.Limits.{Limits}
use Rattle.lists.proofs.Cases.{lt-cases}
use Rattle.wire_policies.specs.Policy.{GroupSaPolicy}
use Rattle.wire_frames.specs.Frame.{Frame}
use Rattle.wire_frames.specs.Grammar.{IsFrame}
use Rattle.state.specs.declared.State.{State}
use Rattle.rules_outcome.specs.Holding.{OverHeldOf}
use Rattle.rules_outcome.specs.Answer.{KeyMissingOf}
use Rattle.rules_outcome.specs.Outcome.{Outcome}
use Rattle.rules_outcome.specs.Meets.{Meets}
use Rattle.rules_outcome.specs.Demand3.{Copy, EachSaOpens, OneMissing, Judged9}
use Rattle.rules_outcome.proofs.Meets.{at-most-9, meets-order, missing-met, missing-meets, over-met, met-or-over}
use Rattle.rules_outcome.proofs.Answering.{accepts}
use Rattle.rules_outcome.proofs.NamedKey.{Passes, to-under, under_to}
use Rattle.rules_outcome.proofs.Accepting.{HasCopy, missing-policy, policy-missing, after-opens, whole-accepted}
use Rattle.rules_outcome.proofs.Demands.{passes-2-and-4}

module _ (limits : Limits) (s : State) (now : ℕ) (lent octets : List ℕ) (f : Frame) (e : IsFrame s.profile octets f)
    (none : (m : ℕ) → m < 9 → Meets limits s now lent octets m → ⊥) where
  fit : Passes limits s now lent f
  fit = passes-2-and-4 limits s now lent octets f e (none 2 (omega arith)) (none 4 (omega arith))

  -- what is given then: 9 where it is met, 7 where it is not and the list would be over its limit
  data Given (n : ℕ) : Type 0 where
    zero-given : n ≡ 0 → EachSaOpens limits s now lent f → (OverHeldOf limits s now lent f → ⊥) → Given n
    missing-given : n ≡ 9 → KeyMissingOf limits s now lent f → Given n
    over-given : n ≡ 7 → (KeyMissingOf limits s now lent f → ⊥) → OverHeldOf limits s now lent f → Given n

  has-copy : (a : GroupSaPolicy) → HasCopy limits s now lent f a → Copy limits s now lent f a
  has-copy a h = (h.0, to-under limits s now lent f fit a h.0 h.1)

  given-0 : (next : State) → Outcome limits s now lent octets 0 next → Given 0
  given-0 next o =
      let w = whole-accepted limits s now lent octets f e next o in
      zero-given refl (λ a m. has-copy a (after-opens limits s now lent f next w.1 a m)) (accepts limits s now lent f w.0).no-over

  given-met : (n : ℕ) → Meets limits s now lent octets (suc n) → Given (suc n)
  given-met n x =
      let h = at-most-9 limits s now lent octets (suc n) (meets-order limits s now lent octets (suc n) x) in
      lt-cases (suc n) 9 (λ g. absurd (none (suc n) g x))
      (λ g.
      let q : suc n ≡ 9 = omega arith in
      missing-given q (missing-met limits s now lent octets f e (subst (Meets limits s now lent octets) q x)))

  given : (n : ℕ) (next : State) → Outcome limits s now lent octets n next → Given n
  given zero next o = given-0 next o
  given (suc n) next o =
      ⊎_elim (given-met n)
      (λ p.
      over-given p.0 (λ k. p.2 9 (missing-meets limits s now lent octets f e k)) (over-met limits s now lent octets f e p.1))
      (met-or-over limits s now lent octets n next o)

  -- an SA has no copy that opens
  unopened : KeyMissingOf limits s now lent f → OneMissing limits s now lent f
  unopened k =
      let x = missing-policy limits s now lent f k in
      (x.0, x.1, λ c. x.2 (c.0, under_to limits s now lent f fit x.0 c.0 c.1))

  missing : OneMissing limits s now lent f → KeyMissingOf limits s now lent f
  missing x = policy-missing limits s now lent f x.0 x.1 (λ h. x.2 (has-copy x.0 h))

  not-missing : EachSaOpens limits s now lent f → KeyMissingOf limits s now lent f → ⊥
  not-missing each k = let x = unopened k in x.2 (each x.0 x.1)

  by-given : (n : ℕ) → Given n → Judged9 limits s now lent f n
  by-given n (zero-given q each room) =
      record {
        one_of_three = inl q;
        accepted = (λ z. (each, room), λ h. q);
        refused = (λ z. absurd (omega (arith, q, z)), λ x. absurd (not-missing each (missing x)));
        over = (λ z. absurd (omega (arith, q, z)), λ h. absurd (room h.1));
      }
  by-given n (missing-given q k) =
      record {
        one_of_three = inr (inl q);
        accepted = (λ z. absurd (omega (arith, q, z)), λ h. absurd (not-missing h.0 k));
        refused = (λ z. unopened k, λ x. q);
        over = (λ z. absurd (omega (arith, q, z)), λ h. absurd (h.0 (unopened k)));
      }
  by-given n (over-given q k h) =
      record {
        one_of_three = inr (inr q);
        accepted = (λ z. absurd (omega (arith, q, z)), λ x. absurd (x.1 h));
        refused = (λ z. absurd (omega (arith, q, z)), λ x. absurd (k (missing x)));
        over = (λ z. (λ x. k (missing x), h), λ x. q);
      }

  -- THE CLAIM
  pub judged-9 : (n : ℕ) (next : State) → Outcome limits s now lent octets n next → Judged9 limits s now lent f n
  judged-9 n next o = by-given n (given n next o)

  -- its sentences one by one
  pub accepted-9-or-over : (n : ℕ) (next : State) → Outcome limits s now lent octets n next → (n ≡ 0) ⊎ (n ≡ 9) ⊎ (n ≡ 7)
  accepted-9-or-over n next o = (judged-9 n next o).one_of_three

  pub accepted-when-each-opens : (n : ℕ) (next : State) → Outcome limits s now lent octets n next →
      (n ≡ 0) ↔ (EachSaOpens limits s now lent f × (OverHeldOf limits s now lent f → ⊥))
  accepted-when-each-opens n next o = (judged-9 n next o).accepted

  pub refused-when-one-does-not : (n : ℕ) (next : State) → Outcome limits s now lent octets n next →
      (n ≡ 9) ↔ OneMissing limits s now lent f
  refused-when-one-does-not n next o = (judged-9 n next o).refused

  pub refused-when-over : (n : ℕ) (next : State) → Outcome limits s now lent octets n next →
      (n ≡ 7) ↔ ((OneMissing limits s now lent f → ⊥) × OverHeldOf limits s now lent f)
  refused-when-over n next o = (judged-9 n next o).over
