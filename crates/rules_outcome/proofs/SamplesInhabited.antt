-- NO ROW OF THE SAMPLES IS EMPTY: for each there are a member, keys of 16 octets and octets of a frame that are as the row says.
use native.Mathlib.Omega.{arith}
use Prim.Native.Nat.{ℕ, zero, suc, ◌<◌}
use mathlib.Core.Path.{◌≡◌, refl, ap}
use mathlib.Core.Bool.{true}
use mathlib.Core.List.{List, [], ◌∷◌}
use lib.ListN.{length, drop, get_or, replicate}
use Rattle.octets.specs.Octets.{Octets}
use Rattle.octets.proofs.Octets.{no-octets, one-octet}
use Rattle.fips197.specs.Key.{Key, is_key}
use Rattle.rfc5649.specs.Wrap.{wrap_of}
use Rattle.state_keys.specs.Limits.{limits}
use Rattle.wire_attributes.specs.Tree.{WrapKey}
use Rattle.wire_frames.specs.Grammar.{IsFrame}
use Rattle.state_sa.specs.Entry.{rekey_sa, with_condition}
use Rattle.state_sa.specs.declared.entry.Condition.TheVariants.{Retiring}
use Rattle.state_sa.specs.declared.entry.Lifetime.TheVariants.{Unlimited}
use Rattle.state_sa.specs.declared.entry.Sa.{Sa}
use Rattle.state.specs.declared.State.{State}
use Rattle.state.specs.declared.least.Least.{Least}
use Rattle.state.specs.declared.least.Least.TheVariants.{Id}
use Rattle.state.specs.Least.{acceptable}
use Rattle.state.specs.State.{state_formed}
use Rattle.rules_outcome.specs.Outcome.{Outcome}
use Rattle.rules_outcome.specs.Run.{StandsAt}
use Rattle.rules_outcome.specs.SampleFrames.{Around, registering, entry, Keying, FitKey, Registers, Creates}
use Rattle.rules_outcome.specs.Samples.{Sample, clock-wraps, delay-zero, least-seven, last-id}
use Rattle.rules_outcome.specs.Samples.{two_steps, circle, two-values, lent-of-28}
use Rattle.rules_outcome.specs.Samples.{key-length-128, key-tree, no-rekey-sa, key-tree-anew}
use Rattle.rules_outcome.proofs.AtTick.{rekey_spi, one, seven, seven-formed, seven-stands, not-due, one_in, over-one}
use Rattle.rules_outcome.proofs.SamplesRekeys.{deleted, delete-taken, deleted-stands}
use Rattle.rules_outcome.proofs.SamplesRead.{around, Rekeyed, no-rekey-read, two-values-read, plain-read}
use Rattle.rules_outcome.proofs.SamplesRead.{laid-around, rekeys-read}
use Rattle.rules_outcome.proofs.SamplesReadAnew.{Renewal, renewal}
use Rattle.rules_outcome.proofs.SamplesReadTree.{tree_around, tree-read, two-steps-read, circle-read, creates-by}

-- ---- what a row asks for, as in specs/Samples.antt; the octets of its frame are below 256
pub record Messages (l : Least → Type 0) (ids : List ℕ → Type 0) : Type 0 where
  pub state : State
  pub spi : List ℕ
  pub is-formed : state_formed limits state ≡ true
  pub now : ℕ
  pub stands : StandsAt now spi state
  pub least : l state.least
  pub octets : ids spi

-- one with ID i that is taken, and a later one, with ID j, at a tick at which the Rekey SA with the SPI x stands
pub record Later (s : State) (x : List ℕ) (i j : ℕ) : Type 0 where
  pub now : ℕ
  pub lent : List ℕ
  pub rekey : Rekeyed x i
  pub next : State
  pub outcome : Outcome limits s now lent rekey.octets 0 next
  pub tick : ℕ
  pub stands : StandsAt tick x next
  pub later : Rekeyed x j

pub record Entries (made : List ℕ → List ℕ → List ℕ → List WrapKey) (Asked : List ℕ → List ℕ → List ℕ → Type 0) : Type 0 where
  pub r : Around
  pub lent : List ℕ
  pub x : List ℕ
  pub first : List ℕ
  pub second : List ℕ
  pub asked : Asked lent first second
  pub octets : List ℕ
  pub small : Octets octets
  pub registers : Registers r lent x (made lent first second) octets

pub record Values : Type 0 where
  pub r : Around
  pub lent : List ℕ
  pub x : List ℕ
  pub v : List ℕ
  pub w : List ℕ
  pub v₉ : List ℕ
  pub fit : FitKey lent v × FitKey lent w × FitKey lent v₉
  pub differ : v ≡ w → ⊥
  pub octets : List ℕ
  pub small : Octets octets
  pub registers : Registers r lent x (entry 5 0 (wrap_of lent v) ∷ entry 5 9 (wrap_of v₉ w) ∷ entry 9 0 (wrap_of lent v₉) ∷ []) octets

-- the SA_KEY under the value v of key k
pub record Created (k : ℕ) (made : List ℕ → List ℕ → List ℕ → List ℕ → List WrapKey) (Asked : List ℕ → List ℕ → List ℕ → Type 0) :
    Type 0 where
  pub r : Around
  pub lent : List ℕ
  pub x : List ℕ
  pub v : List ℕ
  pub first : List ℕ
  pub second : List ℕ
  pub asked : Asked lent first second
  pub octets : List ℕ
  pub small : Octets octets
  pub creates : Creates r lent x k v (made lent v first second) octets

pub record Lent : Type 0 where
  pub r : Around
  pub lent : List ℕ
  pub wrapped : List ℕ
  pub entries : List WrapKey
  pub size : length lent ≡ 28
  pub octets : List ℕ
  pub small : Octets octets
  pub reads : IsFrame r.profile octets (registering r wrapped entries)

abbrev pub Inhabited : Sample → Type 0
Inhabited clock-wraps = (a : Sa) × (a.lifetime ≡ Unlimited) × (a.condition ≡ Retiring 4294967000 1)
Inhabited delay-zero = (a : Sa) × ((start : ℕ) × (a.lifetime ≡ Unlimited) × (a.condition ≡ Retiring start 0))
Inhabited least-seven =
    (m : Messages (λ (l : Least). l ≡ Id 7) (λ (x : List ℕ). Rekeyed x 6 × Rekeyed x 7 × Rekeyed x 9)) × Later m.state m.spi 9 9
Inhabited last-id =
    (m : Messages (λ (l : Least). acceptable 4294967295 l ≡ true) (λ (x : List ℕ). Rekeyed x 4294967295))
    × Later m.state m.spi 4294967295 9
Inhabited two_steps =
    Created 5 (λ lent v₅ v₉ rest. entry 5 9 (wrap_of v₉ v₅) ∷ entry 9 0 (wrap_of lent v₉) ∷ []) (λ lent v₉ rest. FitKey lent v₉)
Inhabited circle = Created 5 (λ lent v₅ w₅ w₉. entry 5 9 w₅ ∷ entry 9 5 w₉ ∷ []) (λ lent w₅ w₉. Unit {0})
Inhabited two-values = Values
Inhabited lent-of-28 = Lent
Inhabited key-length-128 = Unit {0}
Inhabited key-tree =
    Created 1 (λ lent v₁ v₃ v₇. entry 1 3 (wrap_of v₃ v₁) ∷ entry 3 7 (wrap_of v₇ v₃) ∷ entry 7 0 (wrap_of lent v₇) ∷ [])
    (λ lent v₃ v₇. FitKey lent v₃ × FitKey lent v₇)
Inhabited no-rekey-sa =
    Entries (λ lent v₅ v₉. entry 5 9 (wrap_of v₉ v₅) ∷ entry 9 0 (wrap_of lent v₉) ∷ [])
    (λ lent v₅ v₉. FitKey lent v₅ × FitKey lent v₉)
Inhabited key-tree-anew = Renewal

same-octets : (n k : ℕ) → k < 256 → Octets (replicate n k)
same-octets zero k h = no-octets
same-octets (suc n) k h = one-octet k (replicate n k) h (same-octets n k h)

-- ---- a member with one live Rekey SA: an ID is taken over it, and it stands at every tick after that too
taken-once : (i j : ℕ) → acceptable i (Id 7) ≡ true → Rekeyed rekey_spi i → Rekeyed rekey_spi j → Later seven rekey_spi i j
taken-once i j c r later =
    let k = seven-stands 0 in
    let w = r.is in
    record {
      now = 0;
      lent = [];
      rekey = r;
      next = deleted seven 0 rekey_spi i w.spis [] seven-formed k;
      outcome = delete-taken seven 0 rekey_spi i w.spis [] seven-formed k r.octets w.reads w.some w.few c;
      tick = 1;
      stands =
          deleted-stands seven 0 rekey_spi i w.spis [] seven-formed k r.octets w.reads w.some w.few c 1 one (one_in 0)
          over-one (not-due 1);
      later = later;
    }

-- ---- keys of 16 octets
key-16 : (k : ℕ) → k < 256 → Key (replicate 16 k)
unfolding is_key
key-16 k h = record { size = tt; small = same-octets 16 k h }

abbrev lent_key : List ℕ
lent_key = replicate 16 1

fits : (k : ℕ) → k < 256 → FitKey lent_key (replicate 16 k)
fits k h = record { key = key-16 k h; size = refl }

keying : Keying (replicate 20 7)
keying = record { size = refl; octets = same-octets 20 7 (omega arith) }

lasting : one.lifetime ≡ Unlimited
unfolding rekey_sa
lasting = refl

-- THE CLAIM
pub samples-inhabited : (x : Sample) → Inhabited x
samples-inhabited clock-wraps = (with_condition (Retiring 4294967000 1) one, lasting, refl)
samples-inhabited delay-zero = (with_condition (Retiring 0 0) one, (0, lasting, refl))
samples-inhabited least-seven =
    let r = rekeys-read rekey_spi refl (same-octets 16 1 (omega arith)) in (
      record {
        state = seven;
        spi = rekey_spi;
        is-formed = seven-formed;
        now = 0;
        stands = seven-stands 0;
        least = refl;
        octets = (r.0, r.1, r.2);
      },
      taken-once 9 9 refl r.2 r.2,
    )
samples-inhabited last-id =
    let r = rekeys-read rekey_spi refl (same-octets 16 1 (omega arith)) in (
      record {
        state = seven;
        spi = rekey_spi;
        is-formed = seven-formed;
        now = 0;
        stands = seven-stands 0;
        least = refl;
        octets = r.3;
      },
      taken-once 4294967295 9 refl r.3 r.2,
    )
samples-inhabited two_steps =
    let key = key-16 1 (omega arith) in
    let small = same-octets 36 7 (omega arith) in
    let read = two-steps-read lent_key (replicate 36 7) (replicate 16 5) key refl refl small (fits 5 (omega arith)) (replicate 16 9)
    (fits 9 (omega arith)) in
    record {
      r = tree_around;
      lent = lent_key;
      x = replicate 36 7;
      v = replicate 16 5;
      first = replicate 16 9;
      second = [];
      asked = fits 9 (omega arith);
      octets = read.octets;
      small = read.small;
      creates = creates-by lent_key (replicate 36 7) (replicate 16 5) key refl refl small (fits 5 (omega arith)) 5 _ read;
    }
samples-inhabited circle =
    let key = key-16 1 (omega arith) in
    let small = same-octets 36 7 (omega arith) in
    let wrapped = same-octets 24 0 (omega arith) in
    let read = circle-read lent_key (replicate 36 7) (replicate 16 5) key refl refl small (fits 5 (omega arith)) (replicate 24 0)
    (replicate 24 0) refl wrapped refl wrapped in
    record {
      r = tree_around;
      lent = lent_key;
      x = replicate 36 7;
      v = replicate 16 5;
      first = replicate 24 0;
      second = replicate 24 0;
      asked = tt;
      octets = read.octets;
      small = read.small;
      creates = creates-by lent_key (replicate 36 7) (replicate 16 5) key refl refl small (fits 5 (omega arith)) 5 _ read;
    }
samples-inhabited two-values =
    let read = two-values-read lent_key (replicate 20 7) (replicate 16 9) (key-16 1 (omega arith)) refl keying (fits 9 (omega arith))
    (replicate 16 5) (replicate 16 6) (fits 5 (omega arith)) (fits 6 (omega arith)) in
    record {
      r = around;
      lent = lent_key;
      x = replicate 20 7;
      v = replicate 16 5;
      w = replicate 16 6;
      v₉ = replicate 16 9;
      fit = (fits 5 (omega arith), fits 6 (omega arith), fits 9 (omega arith));
      differ = λ e. let z : ◌≡◌ {A = ℕ} 5 6 = ap (λ (l : List ℕ). get_or l 0 0) e in omega arith;
      octets = read.octets;
      small = read.small;
      registers = record { key = key-16 1 (omega arith); keying = keying; reads = laid-around _ read };
    }
samples-inhabited lent-of-28 =
    record {
      r = around;
      lent = replicate 28 0;
      wrapped = replicate 32 0;
      entries = [];
      size = refl;
      octets = plain-read.octets;
      small = plain-read.small;
      reads = laid-around (registering around (replicate 32 0) []) plain-read;
    }
samples-inhabited key-length-128 = tt
samples-inhabited key-tree =
    let key = key-16 1 (omega arith) in
    let small = same-octets 36 7 (omega arith) in
    let w₃ = fits 6 (omega arith) in
    let w₇ = fits 9 (omega arith) in
    let read = tree-read lent_key (replicate 36 7) (replicate 16 5) key refl refl small (fits 5 (omega arith)) (replicate 16 6)
    (replicate 16 9) w₃ w₇ in
    record {
      r = tree_around;
      lent = lent_key;
      x = replicate 36 7;
      v = replicate 16 5;
      first = replicate 16 6;
      second = replicate 16 9;
      asked = (w₃, w₇);
      octets = read.octets;
      small = read.small;
      creates = creates-by lent_key (replicate 36 7) (replicate 16 5) key refl refl small (fits 5 (omega arith)) 1 _ read;
    }
samples-inhabited no-rekey-sa =
    let read = no-rekey-read lent_key (replicate 20 7) (replicate 16 9) (key-16 1 (omega arith)) refl keying (fits 9 (omega arith))
    (replicate 16 5) (fits 5 (omega arith)) in
    record {
      r = around;
      lent = lent_key;
      x = replicate 20 7;
      first = replicate 16 5;
      second = replicate 16 9;
      asked = (fits 5 (omega arith), fits 9 (omega arith));
      octets = read.octets;
      small = read.small;
      registers = record { key = key-16 1 (omega arith); keying = keying; reads = laid-around _ read };
    }
samples-inhabited key-tree-anew =
    let fit : (k : ℕ) → k < 256 → FitKey (drop 20 (replicate 36 3)) (replicate 16 k) = λ k h. record { key = key-16 k h; size = refl } in
    renewal (replicate 36 3) (replicate 36 7) (replicate 16 2) (replicate 16 5) (replicate 16 11) (replicate 16 15) (replicate 16 16) refl
    refl (same-octets 36 7 (omega arith)) (key-16 2 (omega arith)) (key-16 5 (omega arith)) (key-16 11 (omega arith))
    (fit 15 (omega arith)) (fit 16 (omega arith))
