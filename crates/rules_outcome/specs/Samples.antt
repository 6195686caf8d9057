-- DOCUMENT 01'S SAMPLES MARKED P, one row each, with what it says of the definitions, and three rows of ours. The frames stand in
-- specs/SampleFrames.antt. Document 02, T-04: "In both samples with a held list a Rekey SA_KEY comes under 5".
use Rattle.std.specs.Prelude.{ℕ, ◌≡◌, true, false, List, [], ◌∷◌, length, drop}
use Rattle.octets.specs.Walk.{whole, mapped}
use Rattle.fips197.specs.Key.{Key}
use Rattle.rfc5649.specs.Wrap.{wrap_of}
use Rattle.state_keys.specs.Limits.{limits}
use Rattle.wire_attributes.specs.Place.{in_transform}
use Rattle.wire_attributes.specs.Tree.{WrapKey, key_lengths}
use Rattle.wire_attributes.specs.Layout.{attributes}
use Rattle.wire_frames.specs.Frame.{Frame}
use Rattle.wire_frames.specs.Grammar.{IsFrame}
use Rattle.state_sa.specs.Clock.{elapsed}
use Rattle.state_sa.specs.Entry.{due}
use Rattle.state_sa.specs.declared.entry.Condition.TheVariants.{Retiring}
use Rattle.state_sa.specs.declared.entry.Lifetime.TheVariants.{Unlimited}
use Rattle.state_sa.specs.declared.entry.Sa.{Sa}
use Rattle.state.specs.declared.State.{State}
use Rattle.state.specs.declared.least.Least.TheVariants.{Id}
use Rattle.state.specs.Least.{acceptable}
use Rattle.state.specs.State.{new_state, state_formed}
use Rattle.rules_outcome.specs.Outcome.{Outcome}
use Rattle.rules_outcome.specs.Holding.{new_rekey}
use Rattle.rules_outcome.specs.Run.{Event, Run, AllQuiet, StandsAt}
use Rattle.rules_outcome.specs.SampleFrames.{Rekeys, Around, registering, entry, held_with, registered, FitKey, Registers}
use Rattle.rules_outcome.specs.SampleFrames.{created, Creates, copy_under, holding, renewed, Renews}

-- ---- the clock, of an SA without a lifetime: "a retiring SA is due at whichever comes first" (document 02, T-07)
abbrev ClockWraps : Type 0
ClockWraps = (a : Sa) → a.lifetime ≡ Unlimited → a.condition ≡ Retiring 4294967000 1 →
    (elapsed 703 4294967000 ≡ 999) × (due 703 a ≡ false) × (due 704 a ≡ true)

abbrev DelayZero : Type 0
DelayZero = (a : Sa) (start : ℕ) → a.lifetime ≡ Unlimited → a.condition ≡ Retiring start 0 → due start a ≡ true

-- ---- Message IDs
-- at any tick at which the Rekey SA with SPI `x` stands, any rekey over it with Message ID `i` is refused as number 3, whatever it holds
abbrev pub Refuses : State → List ℕ → ℕ → Type 0
Refuses s x i = (now : ℕ) (lent octets : List ℕ) → StandsAt now x s → (g : Frame) → IsFrame s.profile octets g →
    g.header.exchange ≡ 41 →
    g.header.spi ≡ x → g.header.message_id ≡ i → Outcome limits s now lent octets 3 s

-- the frame is taken, and `Then` holds of the state after it
pub record Taken (s : State) (now : ℕ) (lent octets : List ℕ) (Then : State → Type 0) : Type 0 where
  pub next : State
  pub outcome : Outcome limits s now lent octets 0 next
  pub after : Then next

-- at any tick at which that SA stands, each rekey over it with Message ID `i` and D alone is taken, and `Then` holds of the state after it
abbrev pub TakenThen : State → List ℕ → ℕ → (State → Type 0) → Type 0
TakenThen s x i Then = (now : ℕ) (lent octets : List ℕ) → StandsAt now x s → Rekeys s.profile x i octets → Taken s now lent octets Then

abbrev LeastSeven : Type 0
LeastSeven = (s : State) (x : List ℕ) → state_formed limits s ≡ true → s.least ≡ Id 7 →
    Refuses s x 6 × TakenThen s x 7 (λ (next : State). Unit {0}) × TakenThen s x 9 (λ (next : State). Refuses next x 9)

-- after any run in which no step leaves or brings a new Rekey SA, every rekey over the SA with SPI `x` is refused as number 3 at any tick
-- at which that SA stands
abbrev pub LaterRefused : State → List ℕ → Type 0
LaterRefused s x = (l : List Event) (e : State) (r : Run limits s l e) → AllQuiet limits r → (now : ℕ) (lent octets : List ℕ) →
    StandsAt now x e → (g : Frame) → IsFrame e.profile octets g → g.header.exchange ≡ 41 → g.header.spi ≡ x →
    Outcome limits e now lent octets 3 e

-- once any rekey with that Message ID is taken "with no new Rekey SA", every later one is refused; each with D alone is taken where the ID
-- is acceptable
pub record LastId : Type 0 where
  pub any-frame : (s next : State) (now : ℕ) (lent octets : List ℕ) (f : Frame) → IsFrame s.profile octets f → f.header.exchange ≡ 41 →
      f.header.message_id ≡ 4294967295 → new_rekey f ≡ false → Outcome limits s now lent octets 0 next → LaterRefused next f.header.spi
  pub taken : (s : State) (x : List ℕ) → state_formed limits s ≡ true → acceptable 4294967295 s.least ≡ true →
      TakenThen s x 4294967295 (λ (next : State). LaterRefused next x)

-- ---- entries in a registration
abbrev TwoValues : Type 0
TwoValues = (r : Around) (now : ℕ) (lent x v w v₉ octets : List ℕ) → FitKey lent v → FitKey lent w → FitKey lent v₉ →
    (v ≡ w → ⊥) →
    Registers r lent x (entry 5 0 (wrap_of lent v) ∷ entry 5 9 (wrap_of v₉ w) ∷ entry 9 0 (wrap_of lent v₉) ∷ []) octets →
    Outcome limits (new_state limits r.profile) now lent octets 8 (new_state limits r.profile)

-- for any entries
abbrev LentOf28 : Type 0
LentOf28 = (r : Around) (now : ℕ) (lent wrapped octets : List ℕ) (entries : List WrapKey) → length lent ≡ 28 →
    IsFrame r.profile octets (registering r wrapped entries) →
    Outcome limits (new_state limits r.profile) now lent octets 5 (new_state limits r.profile)

-- "No Rekey SA ..: empty" (document 02, T-04): both keys are reached
abbrev NoRekeySa : Type 0
NoRekeySa = (r : Around) (now : ℕ) (lent x v₅ v₉ octets : List ℕ) → FitKey lent v₅ → FitKey lent v₉ →
    Registers r lent x (entry 5 9 (wrap_of v₉ v₅) ∷ entry 9 0 (wrap_of lent v₉) ∷ []) octets →
    Outcome limits (new_state limits r.profile) now lent octets 0 (registered r x)

-- ---- entries in a registration that announces one Rekey SA
abbrev TwoSteps : Type 0
TwoSteps = (r : Around) (now : ℕ) (lent x v₅ v₉ octets : List ℕ) → FitKey lent v₉ →
    Creates r lent x 5 v₅ (entry 5 9 (wrap_of v₉ v₅) ∷ entry 9 0 (wrap_of lent v₉) ∷ []) octets →
    Outcome limits (new_state limits r.profile) now lent octets 0 (created r x (held_with 5 v₅ ∷ held_with 9 v₉ ∷ []))

-- for any wrapped octets, and whatever 5 the SA_KEY is wrapped under
abbrev Circle : Type 0
Circle = (r : Around) (now : ℕ) (lent x v₅ w₅ w₉ octets : List ℕ) → Creates r lent x 5 v₅ (entry 5 9 w₅ ∷ entry 9 5 w₉ ∷ []) octets →
    Outcome limits (new_state limits r.profile) now lent octets 9 (new_state limits r.profile)

-- RFC 9838, Appendix A.2, the member A: "KD(GP(SA1)(1{K_sa1}),MP(3{1},7{3},GSK_w{7})", "the Key Path K_sa1->1->3->7->GSK_w"
abbrev KeyTree : Type 0
KeyTree = (r : Around) (now : ℕ) (lent x v₁ v₃ v₇ octets : List ℕ) → FitKey lent v₃ → FitKey lent v₇ →
    Creates r lent x 1 v₁ (entry 1 3 (wrap_of v₃ v₁) ∷ entry 3 7 (wrap_of v₇ v₃) ∷ entry 7 0 (wrap_of lent v₇) ∷ []) octets →
    Outcome limits (new_state limits r.profile) now lent octets 0 (created r x (held_with 1 v₁ ∷ held_with 3 v₃ ∷ held_with 7 v₇ ∷ []))

-- ---- fresh tree keys in a rekey
-- RFC 9838, Appendix A.4, the member E, whose keys are 2->5->11: "KD(GP(SA3)(1{K_sa3},15{K_sa3}),MP(6{15},16{15},11{16})", with document
-- 02's private entries in the place of the Member bag (T-11). The old Rekey SA's default key is the last 16 of its keying octets. Neither
-- the copy under 1 nor the entry under 6 opens for E, whatever they are
abbrev KeyTreeAnew : Type 0
KeyTreeAnew = (r : Around) (now : ℕ) (lent z x v₂ v₅ v₁₁ v₁₅ v₁₆ w₁ w₆ octets : List ℕ) → Key v₂ → Key v₅ → Key v₁₁ →
    FitKey (drop 20 z) v₁₅ → FitKey (drop 20 z) v₁₆ →
    Renews r z x (copy_under 1 w₁ ∷ copy_under 15 (wrap_of v₁₅ x) ∷ [])
    (entry 15 6 w₆ ∷ entry 15 16 (wrap_of v₁₆ v₁₅) ∷ entry 16 11 (wrap_of v₁₁ v₁₆) ∷ []) octets →
    Outcome limits (holding r z (held_with 2 v₂ ∷ held_with 5 v₅ ∷ held_with 11 v₁₁ ∷ [])) now lent octets 0
    (renewed r now z x (held_with 15 v₁₅ ∷ held_with 16 v₁₆ ∷ held_with 11 v₁₁ ∷ []))

-- ---- the attribute, in a type 1 transform at any offset
abbrev KeyLength128 : Type 0
KeyLength128 = (b : ℕ) →
    mapped (key_lengths (in_transform 1)) (attributes (in_transform 1) b (0x80 ∷ 0x0e ∷ 0x00 ∷ 0x80 ∷ [])) ≡ whole (128 ∷ []) []

-- ---- THE TABLE
pub data Sample : Type 0 where
  -- "start 4,294,967,000, delay 1: at 703 elapsed 999, not due; at 704 due"
  clock-wraps : Sample
  -- "delay 0: due at its own start"
  delay-zero : Sample
  -- "least ID 7: 6 refused (3), 7 and 9 taken; after 9, 9 refused"
  least-seven : Sample
  -- "ID 4,294,967,295 taken with no new Rekey SA: every later rekey over that SA is 3"
  last-id : Sample
  -- "entries (5 under 9), (9 under 0), both opening: held 5, 9"; "a Rekey SA_KEY comes under 5: held 5, 9" (document 02, T-04)
  two_steps : Sample
  -- "(5 under 9), (9 under 5): held list empty"; "a Rekey SA_KEY comes under 5: .. refusal 9" (document 02, T-04)
  circle : Sample
  -- "(5 under 0) and (5 under 9), (9 under 0), two values for 5: 8"
  two-values : Sample
  -- "a 28-octet default key: 5"
  lent-of-28 : Sample
  -- "octets 80 0e 00 80 read as Key Length 128"
  key-length-128 : Sample
  -- NOT OF DOCUMENT 01, ours beside its nine: a Rekey SA's key under 1, entries (1 under 3), (3 under 7), (7 under 0), all opening: taken,
  -- held 1, 3, 7
  key-tree : Sample
  -- entries (5 under 9), (9 under 0), both opening, and no Rekey SA: taken, held list empty
  no-rekey-sa : Sample
  -- RFC 9838's tree from which F is expelled, by fresh keys in a rekey: member E holds 2, 5, 11, and then "15->16->11"
  key-tree-anew : Sample

abbrev pub Says : Sample → Type 0
Says clock-wraps = ClockWraps
Says delay-zero = DelayZero
Says least-seven = LeastSeven
Says last-id = LastId
Says two_steps = TwoSteps
Says circle = Circle
Says two-values = TwoValues
Says lent-of-28 = LentOf28
Says key-length-128 = KeyLength128
Says key-tree = KeyTree
Says no-rekey-sa = NoRekeySa
Says key-tree-anew = KeyTreeAnew
