-- COLLECTIONS OF A RUN: each is empty or fit, with 0 in every unused place. And one that is not fit counts as empty.
use native.Mathlib.Omega.{arith}
use Prim.Native.Nat.{ℕ}
use mathlib.Core.Path.{◌≡◌, refl, ap, sym, ◌∙◌, subst}
use mathlib.Core.Bool.{true}
use mathlib.Core.Logic.{◌⊎◌, inl, inr}
use mathlib.Core.List.{List}
use lib.Seq.{length-take-le}
use Rattle.state_keys.specs.Limits.{Limits}
use Rattle.state.specs.declared.State.{State}
use Rattle.rfc5282.specs.Number10.{OpensFragmentInto}
use Rattle.fragments.specs.declared.Collection.{Collection}
use Rattle.fragments.specs.Collection.{Waiting, nothing, collection_of, empty_collection, fit, counted}
use Rattle.fragments.specs.inner.FitWaiting.{FitWaiting, FitNames, LongCollection}
use Rattle.fragments.proofs.RoundTrip.{held-made}
use Rattle.fragments.proofs.FitLaws.{made-fit, counted-made, counted-fit}
use Rattle.fragments.proofs.FitGathered.{gathered-fit}
use Rattle.rules_sealed.specs.SealingKey.{sealing_part}
use Rattle.rules_fragments.specs.FragmentOutcome.{FragmentAnswer, waiting, names_in}
use Rattle.rules_fragments.specs.FragmentOutcome.{waits, FirstTurn, gathered_with, judging_rows}
use Rattle.rules_fragments.specs.FragmentOutcome.{FragmentOutcome, is-refused, is-passed-over, is-waiting, is-complete}
use Rattle.rules_fragments.specs.FragmentSays.{Sound}
use Rattle.rules_fragments.specs.FragmentRun.{CarriedRun, carried-ends, carries, collects, empties, CarriedThroughout}
use Rattle.rules_fragments.proofs.PastLaws.{PastTotal, past-size, waits-is}

-- ---- what a waiting fragment leaves
module _ (limits : Limits) (s : State) (now : ℕ) (c : Collection) (octets room : List ℕ) where
  -- a fragment past its total is fit to be put to a collection
  pub fit-names : PastTotal limits s now c octets room → FitNames (names_in octets)
  fit-names p =
      let f = p.whole-layout in
      record {
        least = f.counted;
        in-total = f.in-total;
        total-most = p.total-most;
        version = f.frame.version;
        spis-size = length-take-le 16 octets (omega (arith, f.body));
      }

  waits-fit : (counted c ≡ nothing) ⊎ FitWaiting (counted c) → (piece : List ℕ) →
      OpensFragmentInto (sealing_part limits s) octets room piece → FirstTurn (judging_rows limits s now c octets room) waits →
      FitWaiting (gathered_with limits s now c octets room piece)
  waits-fit held piece h f =
      let p = past-size limits s now c octets room waits (omega arith) (omega arith) f in
      gathered-fit (counted c) (names_in octets) piece (fit-names p.past) held p.not-passed (p.fits piece h)
      (waits-is limits s now c octets room piece h f)

-- what it leaves is sound
made-sound : (w : Waiting) → FitWaiting w → Sound (collection_of w)
made-sound w f =
    record { empty-or-fit = inr (made-fit w f.limits); blank = ap collection_of (sym (held-made w f.no_lead)) }

empty-sound : Sound empty_collection
empty-sound = record { empty-or-fit = inl refl; blank = ap collection_of (sym (held-made nothing (λ e. refl))) }

-- "waiting": whatever was handed in, what is handed back is fit, and blank in unused places
pub waiting-sound : (limits : Limits) (s : State) (now : ℕ) (c : Collection) (octets room : List ℕ) → LongCollection c →
    (next : State) (kept : Collection) (after : List ℕ) → FragmentOutcome limits s now c octets room waiting next kept after →
    (fit kept ≡ true) × Sound kept
waiting-sound limits s now c octets room long _ _ _ (is-waiting x p h) =
    let w = gathered_with limits s now c octets room x in
    let f = waits-fit limits s now c octets room (counted-fit c long) x h p in
    (made-fit w f.limits, made-sound w f)

-- ---- a run
pub counted-empty : counted empty_collection ≡ nothing
unfolding counted fit collection_of
counted-empty = refl

-- empty, or made of what is within the limits
Grown : Collection → Type 0
Grown c = (c ≡ empty_collection) ⊎ ((w : Waiting) × FitWaiting w × (c ≡ collection_of w))

grown-counted : (c : Collection) → Grown c → (counted c ≡ nothing) ⊎ FitWaiting (counted c)
unfolding Grown
grown-counted c (inl e) = inl (ap counted e ∙ counted-empty)
grown-counted c (inr g) = inr (subst FitWaiting (sym (ap counted g.2 ∙ counted-made g.0 g.1)) g.1)

grown-sound : (c : Collection) → Grown c → Sound c
unfolding Grown
grown-sound c (inl e) = subst Sound (sym e) empty-sound
grown-sound c (inr g) = subst Sound (sym g.2) (made-sound g.0 g.1)

module _ (limits : Limits) where
  step-grown : (s : State) (now : ℕ) (c : Collection) (octets room : List ℕ) (a : FragmentAnswer) (next : State) (kept : Collection)
      (after : List ℕ) → FragmentOutcome limits s now c octets room a next kept after → Grown c → Grown kept
  unfolding Grown
  step-grown s now c octets room _ _ _ _ (is-refused n p) g = g
  step-grown s now c octets room _ _ _ _ (is-passed-over p) g = g
  step-grown s now c octets room _ _ _ _ (is-waiting x p h) g =
      inr (gathered_with limits s now c octets room x, waits-fit limits s now c octets room (grown-counted c g) x h p, refl)
  step-grown s now c octets room _ _ _ _ (is-complete x p h u) g = inl refl

  carried-sound : {s e : State} {c d : Collection} (r : CarriedRun limits s c e d) → Grown c → CarriedThroughout limits Sound r
  unfolding Grown
  carried-sound (carried-ends s c) g = grown-sound c g
  carried-sound (carries s c t r) g = (grown-sound c g, carried-sound r g)
  carried-sound (collects s c {m} {e} {k} octets room now a {after} o r) g =
      (grown-sound c g, carried-sound r (step-grown s now c octets room a m k after o g))
  carried-sound (empties s c r) g = (grown-sound c g, carried-sound r (inl refl))

  -- EVERY COLLECTION OF A RUN FROM THE EMPTY ONE is empty or fit, and blank in unused places
  pub collections-sound : {s e : State} {d : Collection} (r : CarriedRun limits s empty_collection e d) → CarriedThroughout limits Sound r
  unfolding Grown
  collections-sound r = carried-sound r (inl refl)
