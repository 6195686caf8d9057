-- THE OUTCOME OF A FRAGMENT IS ONE, and what each answer leaves as it was.
use native.Mathlib.Omega.{arith}
use Prim.Native.Nat.{ℕ}
use mathlib.Core.Path.{◌≡◌, refl, ap, ap₂, subst}
use mathlib.Core.List.{List, []}
use Rattle.state_keys.specs.Limits.{Limits}
use Rattle.wire_frames.specs.Frame.{figure}
use Rattle.state.specs.declared.State.{State}
use Rattle.gcm.specs.Opening.{put_at_start}
use Rattle.rfc5282.specs.Number10.{OpensFragmentInto}
use Rattle.rfc5282.proofs.PieceLaws.{piece-one}
use Rattle.fragments.specs.declared.Collection.{Collection}
use Rattle.fragments.specs.Collection.{collection_of}
use Rattle.fragments.specs.Gathering.{whole}
use Rattle.rules_outcome.specs.Outcome.{Outcome}
use Rattle.rules_outcome.proofs.Determined.{outcome-one}
use Rattle.rules_sealed.specs.SealingKey.{sealing_part}
use Rattle.rules_fragments.specs.FragmentOutcome.{FragmentAnswer, refused, complete}
use Rattle.rules_fragments.specs.FragmentOutcome.{Turn, refuses, passes_over, waits, completes, FirstTurn, gathered_with, judging_rows}
use Rattle.rules_fragments.specs.FragmentOutcome.{FragmentOutcome, is-refused, is-passed-over, is-waiting, is-complete}
use Rattle.rules_fragments.specs.FragmentSays.{SameGathered}
use Rattle.rules_fragments.proofs.TurnLaws.{place_of, place-one}

module _ (limits : Limits) (s : State) (now : ℕ) (c : Collection) (octets room : List ℕ) where
  -- two turns of one fragment have one place
  apart : (t u : Turn) → FirstTurn (judging_rows limits s now c octets room) t → FirstTurn (judging_rows limits s now c octets room) u →
      place_of t ≡ place_of u
  apart = place-one (judging_rows limits s now c octets room)

  one_piece : (x y : List ℕ) → OpensFragmentInto (sealing_part limits s) octets room x →
      OpensFragmentInto (sealing_part limits s) octets room y → x ≡ y
  one_piece x y h k = piece-one (sealing_part limits s) octets x y h.opens k.opens

  -- "Every public call's promise determines its answer and the member or lent storage after it, also on refusal, for all inputs"
  pub fragment-one : (a b : FragmentAnswer) (next other : State) (d e : Collection) (left rest : List ℕ) →
      FragmentOutcome limits s now c octets room a next d left → FragmentOutcome limits s now c octets room b other e rest →
      SameGathered a b next other d e left rest
  fragment-one _ _ _ _ _ _ _ _ (is-refused n p) (is-refused m q) =
      let e = apart (refuses n) (refuses m) p q in
      let i : n ≡ m = omega (arith, e) in
      record { answer = ap (λ (k : ℕ). refused k 0) i; member = refl; collection = refl; room = refl }
  fragment-one _ _ _ _ _ _ _ _ (is-refused n p) (is-passed-over q) =
      let e = apart (refuses n) passes_over p q in absurd (omega (arith, e))
  fragment-one _ _ _ _ _ _ _ _ (is-refused n p) (is-waiting y q k) = let e = apart (refuses n) waits p q in absurd (omega (arith, e))
  fragment-one _ _ _ _ _ _ _ _ (is-refused n p) (is-complete y q k v) =
      let e = apart (refuses n) completes p q in absurd (omega (arith, e))
  fragment-one _ _ _ _ _ _ _ _ (is-passed-over p) (is-refused m q) =
      let e = apart passes_over (refuses m) p q in absurd (omega (arith, e))
  fragment-one _ _ _ _ _ _ _ _ (is-passed-over p) (is-passed-over q) =
      record { answer = refl; member = refl; collection = refl; room = refl }
  fragment-one _ _ _ _ _ _ _ _ (is-passed-over p) (is-waiting y q k) =
      let e = apart passes_over waits p q in absurd (omega (arith, e))
  fragment-one _ _ _ _ _ _ _ _ (is-passed-over p) (is-complete y q k v) =
      let e = apart passes_over completes p q in absurd (omega (arith, e))
  fragment-one _ _ _ _ _ _ _ _ (is-waiting x p h) (is-refused m q) = let e = apart waits (refuses m) p q in absurd (omega (arith, e))
  fragment-one _ _ _ _ _ _ _ _ (is-waiting x p h) (is-passed-over q) = let e = apart waits passes_over p q in absurd (omega (arith, e))
  fragment-one _ _ _ _ _ _ _ _ (is-waiting x p h) (is-waiting y q k) =
      record {
        answer = refl;
        member = refl;
        collection = ap (λ (z : List ℕ). collection_of (gathered_with limits s now c octets room z)) (one_piece x y h k);
        room = refl;
      }
  fragment-one _ _ _ _ _ _ _ _ (is-waiting x p h) (is-complete y q k v) =
      let e = apart waits completes p q in absurd (omega (arith, e))
  fragment-one _ _ _ _ _ _ _ _ (is-complete x p h u) (is-refused m q) =
      let e = apart completes (refuses m) p q in absurd (omega (arith, e))
  fragment-one _ _ _ _ _ _ _ _ (is-complete x p h u) (is-passed-over q) =
      let e = apart completes passes_over p q in absurd (omega (arith, e))
  fragment-one _ _ _ _ _ _ _ _ (is-complete x p h u) (is-waiting y q k) =
      let e = apart completes waits p q in absurd (omega (arith, e))
  fragment-one _ _ _ _ _ _ _ _ (is-complete x {n} {next} p h u) (is-complete y {n = m} {next = other} q k v) =
      let w : List ℕ = whole (gathered_with limits s now c octets room y) in
      let e : whole (gathered_with limits s now c octets room x) ≡ w =
      ap (λ (z : List ℕ). whole (gathered_with limits s now c octets room z)) (one_piece x y h k) in
      let r = outcome-one limits s now [] w n m next other (subst (λ (z : List ℕ). Outcome limits s now [] z n next) e u) v in
      record {
        answer = ap₂ complete r.0 (ap (figure s.profile) e);
        member = r.1;
        collection = refl;
        room = ap (λ (z : List ℕ). put_at_start z room) e;
      }
