-- A frame whose keys are opened: the refusal that they give it, or what is known of it.
use Rattle.std.specs.Prelude.{Result, Ok, Err}
use Prim.Native.Nat.{ℕ, ◌<◌}
use native.Mathlib.Omega.{arith}
use mathlib.Core.Path.{◌≡◌, refl, sym, subst}
use mathlib.Core.Bool.{Bool, true, false}
use mathlib.Core.List.{List}
use Rattle.state_keys.specs.Limits.{limits}
use Rattle.wire_frames.specs.Frame.{Frame}
use Rattle.state.specs.declared.State.{State}
use Rattle.rules_chains.specs.Refusals.{EntriesConflict}
use Rattle.unwrap_conflicts.specs.inner.Values.{Decides}
use Rattle.rules_outcome.specs.Roots.{roots_of, entries_of, wrapping_size}
use Rattle.rules_outcome.specs.Outcome.{Judged}
use Rattle.check_judging.specs.inner.Verdicts.{number_of_refusal}
use Rattle.check_judging.specs.declared.facts.Facts.{Facts}
use Rattle.check_judging.specs.declared.numbers.Refusal.{Refusal}
use Rattle.check_judging.specs.declared.numbers.Refusal.TheVariants as refusal
use Rattle.receive.specs.declared.opening.KeysFound.{KeysFound}
use Rattle.unwrap_sas.specs.declared.joining.SasFault.{SasFault}
use Rattle.unwrap_sas.specs.declared.joining.SasFault.TheVariants.{KeyConflict, KeyMissing}
use Rattle.receive.specs.inner.Opening.{FrameWithKeys, number_of_keys}
use Rattle.receive.proofs.ConcludingLaws.{conflict-of-entries, KeysKnown, by-conflict, by-missing, by_over}

pub positive : (u : Refusal) → 0 < number_of_refusal u
positive refusal.NotForMember = omega arith
positive refusal.Replayed = omega arith
positive refusal.BadComposition = omega arith
positive refusal.Unsupported = omega arith
positive refusal.Unpaired = omega arith
positive refusal.OverLimit = omega arith
positive refusal.KeyConflict = omega arith
positive refusal.NoKey = omega arith

module _ {m : State} {now : ℕ} {lent s : List ℕ} {x : Facts} {f : Frame} (r : KeysFound) (o : FrameWithKeys m now lent s x r f) where
  tells : (y : Bool) → r.conflict ≡ y →
      Decides y (EntriesConflict (roots_of limits m now lent f) (entries_of f) (wrapping_size limits m now lent f))
  tells y e =
      subst (λ (z : Bool). Decides z (EntriesConflict (roots_of limits m now lent f) (entries_of f) (wrapping_size limits m now lent f))) e
      o.opened.conflict

  pub keys-known : r.conflict ≡ false → KeysKnown m now lent s x r.keyed r.over r.held f
  keys-known e = record { passed = o.passed; entries = tells false e; keys = o.opened.keys e; held-is = o.opened.held e }

  refused-by : (c : Bool) → r.conflict ≡ c → (y : Result (Unit {0}) SasFault) → r.keyed.found ≡ y → (w : Bool) → r.over ≡ w →
      0 < number_of_keys c y w → Judged limits m now lent f (number_of_keys c y w) m
  refused-by true e y g w h k = conflict-of-entries m now lent f o.passed.clauses (tells true e)
  refused-by false e (Err KeyConflict) g w h k = by-conflict m now lent s x r.keyed r.over r.held f (keys-known e) g
  refused-by false e (Err KeyMissing) g w h k = by-missing m now lent s x r.keyed r.over r.held f (keys-known e) g
  refused-by false e (Ok u) g true h k = by_over m now lent s x r.keyed r.over r.held f (keys-known e) g h
  refused-by false e (Ok u) g false h k = absurd (omega arith)

  -- the keys refuse the frame
  pub refuses : (u : Refusal) → number_of_keys r.conflict r.keyed.found r.over ≡ number_of_refusal u →
      Judged limits m now lent f (number_of_refusal u) m
  refuses u q =
      subst (λ (z : ℕ). Judged limits m now lent f z m) q
      (refused-by r.conflict refl r.keyed.found refl r.over refl (subst (λ (z : ℕ). 0 < z) (sym q) (positive u)))

-- the keys do not refuse it
pub record Opens (r : KeysFound) : Type 0 where
  pub fit : r.conflict ≡ false
  pub each : r.keyed.found ≡ Ok tt
  pub room : r.over ≡ false

module _ (r : KeysFound) where
  opens_by : (c : Bool) → r.conflict ≡ c → (y : Result (Unit {0}) SasFault) → r.keyed.found ≡ y → (w : Bool) → r.over ≡ w →
      number_of_keys c y w ≡ 0 → Opens r
  opens_by true e y g w h k = absurd (omega arith)
  opens_by false e (Err KeyConflict) g w h k = absurd (omega arith)
  opens_by false e (Err KeyMissing) g w h k = absurd (omega arith)
  opens_by false e (Ok u) g true h k = absurd (omega arith)
  opens_by false e (Ok u) g false h k = record { fit = e; each = g; room = h }

  pub opens : number_of_keys r.conflict r.keyed.found r.over ≡ 0 → Opens r
  opens z = opens_by r.conflict refl r.keyed.found refl r.over refl z
