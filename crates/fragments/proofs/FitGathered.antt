-- What waits with one fragment more is within its limits again.
use native.Mathlib.Omega.{arith}
use Prim.Native.Nat.{ℕ, ◌/◌, ◌<◌, ◌≤◌}
use mathlib.Core.Path.{◌≡◌, refl, sym, ◌∙◌}
use mathlib.Core.Bool.{Bool, true, false, ◌||◌, false≢true}
use mathlib.Core.Logic.{◌⊎◌, ⊎_elim}
use mathlib.Core.List.{List, [], ◌∷◌}
use lib.Dec.{ltb, eqb}
use lib.ListN.{length}
use borrow.Author.Tests.{ltb-true, ltb-false, eqb-false, lt-ltb, le-leb}
use Rattle.ikev2_numbers.specs.Codes.{major_version, minor_versions, most_octets}
use Rattle.lists.specs.Lists.{all, any, rising, insert}
use Rattle.lists.proofs.Cases.{bool_cases, or-none}
use Rattle.lists.proofs.Rising.{length-insert, all_insert, rising-insert}
use Rattle.fragments.specs.declared.Case.{Case}
use Rattle.fragments.specs.declared.Case.TheVariants.{Anew, PassedOver, Kept}
use Rattle.fragments.specs.declared.Names.{Names}
use Rattle.fragments.specs.Collection.{KeptPiece, Waiting, nothing, empty_lead, is_first, frame_size}
use Rattle.fragments.specs.Gathering.{of_same_rekey, is_kept, case_of, put_to, number_before, lead_with, with_piece, gathered, is_complete}
use Rattle.fragments.specs.inner.FitWaiting.{FitWaiting, FitNames, kept_numbered}

-- ---- the table by cases
-- a fragment that is kept: of the same rekey and total, and not there yet
pub record KeptCase (w : Waiting) (f : Names) : Type 0 where
  pub same-rekey : of_same_rekey w f ≡ true
  pub same_total : w.total ≡ f.total
  pub not_there : is_kept f.number w.kept ≡ false

module _ (w : Waiting) (f : Names) where
  pub kept_case : case_of w f ≡ Kept → KeptCase w f
  unfolding case_of
  kept_case e =
      bool_cases (of_same_rekey w f)
      (λ r.
      bool_cases (ltb w.total f.total) (λ g. let z : ◌≡◌ {A = ℕ} 0 1 = let q = rw (r, g) at e in cc in absurd (omega arith))
      (λ g.
      bool_cases (ltb f.total w.total) (λ h. let z : ◌≡◌ {A = ℕ} 0 1 = let q = rw (r, g, h) at e in cc in absurd (omega arith))
      (λ h.
      bool_cases (is_kept f.number w.kept)
      (λ k. let z : ◌≡◌ {A = ℕ} 0 1 = let q = rw (r, g, h, k) at e in cc in absurd (omega arith))
      (λ k.
      let a = ltb-false w.total f.total g in
      let b = ltb-false f.total w.total h in
      record { same-rekey = r; same_total = omega arith; not_there = k }))))
      (λ r. let z : ◌≡◌ {A = ℕ} 0 1 = let q = rw r at e in cc in absurd (omega arith))

-- ---- a piece put to others
before-trans : (a b c : KeptPiece) → number_before a b ≡ true → number_before b c ≡ true → number_before a c ≡ true
before-trans a b c e f =
    let x = ltb-true a.number b.number e in
    let y = ltb-true b.number c.number f in
    lt-ltb a.number c.number (omega arith)

-- of two different numbers one is the lower
apart : (m n : ℕ) → eqb m n ≡ false → (ltb n m || ltb m n) ≡ true
apart m n e =
    bool_cases (ltb n m) (λ g. rw g)
    (λ g.
    let a = ltb-false n m g in
    let b = eqb-false m n e in
    rw (g) (lt-ltb m n (omega arith)))

pub apart-all : (k : KeptPiece) (l : List KeptPiece) → is_kept k.number l ≡ false →
    all (λ (b : KeptPiece). number_before k b || number_before b k) l ≡ true
unfolding all any
apart-all k [] e = refl
apart-all k (b ∷ l) e =
    let p = or-none (eqb b.number k.number) (is_kept k.number l) e in
    rw (apart b.number k.number p.0) (apart-all k l p.1)

pub any-insert : {A : Type 0} (before : A → A → Bool) (q : A → Bool) (a : A) (l : List A) → any q (insert before a l) ≡ (q a || any q l)
unfolding any insert
any-insert before q a [] = refl
any-insert before q a (b ∷ l) =
    bool_cases (before a b) (λ e. rw e)
    (λ e. rw (e, any-insert before q a l) (bool_cases (q a) (λ f. bool_cases (q b) (λ g. rw (f, g)) (λ g. rw (f, g))) (λ f. rw f)))

-- what a fragment can be put to: fragments of its rekey and total, without itself, one too few at least
pub record Joins (w : Waiting) (f : Names) : Type 0 where
  pub few : length w.kept < f.total
  pub numbers : all (kept_numbered f.total) w.kept ≡ true
  pub rises : rising number_before w.kept ≡ true
  pub not_there : is_kept f.number w.kept ≡ false
  pub version : is_kept 1 w.kept ≡ true → w.lead.version / minor_versions ≡ major_version
  pub no_lead : is_kept 1 w.kept ≡ false → w.lead ≡ empty_lead

pub nothing-joins : (f : Names) → FitNames f → Joins nothing f
unfolding all rising any
nothing-joins f p =
    let a = p.least in
    let b = p.in-total in
    record {
      few = omega arith;
      numbers = refl;
      rises = refl;
      not_there = refl;
      version = λ e. absurd (false≢true e);
      no_lead = λ e. refl;
    }

pub kept-joins : (w : Waiting) (f : Names) → FitWaiting w → KeptCase w f → Joins w f
kept-joins w f p k =
    let l = p.limits in
    record {
      few = rw k.same_total at l.some-lacks;
      numbers = rw k.same_total at l.numbers;
      rises = l.rises;
      not_there = k.not_there;
      version = l.version;
      no_lead = p.no_lead;
    }

module _ (w : Waiting) (f : Names) (piece : List ℕ) (n : FitNames f) (j : Joins w f) where
  abbrev own : KeptPiece
  own = record { number = f.number; octets = piece }

  numbered-own : kept_numbered f.total own ≡ true
  numbered-own = rw (le-leb 1 f.number n.least) (le-leb f.number f.total n.in-total)

  first-with : is_kept 1 (insert number_before own w.kept) ≡ (is_first f.number || is_kept 1 w.kept)
  first-with = any-insert number_before (λ (k : KeptPiece). eqb k.number 1) own w.kept

  version-with : is_kept 1 (insert number_before own w.kept) ≡ true → (lead_with w.lead f).version / minor_versions ≡ major_version
  version-with e =
      bool_cases (is_first f.number) (λ g. rw g n.version)
      (λ g. let h = sym first-with ∙ e in rw g (j.version (rw g at h)))

  no-lead-with : is_kept 1 (insert number_before own w.kept) ≡ false → lead_with w.lead f ≡ empty_lead
  no-lead-with e = let p = or-none (is_first f.number) (is_kept 1 w.kept) (sym first-with ∙ e) in rw p.0 (j.no_lead p.1)

  pub with-fit : frame_size (with_piece w f piece).kept ≤ most_octets → is_complete (with_piece w f piece) ≡ false →
      FitWaiting (with_piece w f piece)
  unfolding with_piece
  with-fit s i =
      let c = length-insert number_before own w.kept in
      let a = eqb-false (length (insert number_before own w.kept)) f.total i in
      let b = j.few in
      record {
        limits =
            record {
              total-least = omega arith;
              total-most = n.total-most;
              some-kept = omega arith;
              some-lacks = omega arith;
              numbers = all_insert number_before (kept_numbered f.total) own w.kept numbered-own j.numbers;
              rises = rising-insert number_before before-trans own w.kept (apart-all own w.kept j.not_there) j.rises;
              small = s;
              version = version-with;
            };
        no_lead = no-lead-with;
        spis-size = n.spis-size;
      }

-- ---- THE STEP: nothing, or what is within its limits, with a fragment that is not passed over
case-cases : {P : Type 0} (k : Case) → (k ≡ Anew → P) → (k ≡ PassedOver → P) → (k ≡ Kept → P) → P
case-cases Anew a b c = a refl
case-cases PassedOver a b c = b refl
case-cases Kept a b c = c refl

pub nothing-anew : (f : Names) → FitNames f → case_of nothing f ≡ Anew
unfolding case_of
nothing-anew f n =
    let a = n.least in
    let b = n.in-total in
    let e : ltb 0 f.total ≡ true = lt-ltb 0 f.total (omega arith) in
    bool_cases (of_same_rekey nothing f) (λ g. rw (g, e)) (λ g. rw g)

module _ (w : Waiting) (f : Names) (piece : List ℕ) (n : FitNames f) where
  pub joins-start : (w ≡ nothing) ⊎ FitWaiting w → (case_of w f ≡ PassedOver → ⊥) → Joins (put_to (case_of w f) w) f
  joins-start p h =
      case-cases (case_of w f) (λ e. rw e (nothing-joins f n)) (λ e. absurd (h e))
      (λ e.
      rw e
      (⊎_elim (λ g. let z : ◌≡◌ {A = Case} Anew Kept = sym (nothing-anew f n) ∙ (rw g at e) in
      let y : ◌≡◌ {A = ℕ} 0 1 = cc in absurd (omega arith))
      (λ g. kept-joins w f g (kept_case w f e)) p))

  pub gathered-fit : (w ≡ nothing) ⊎ FitWaiting w → (case_of w f ≡ PassedOver → ⊥) → frame_size (gathered w f piece).kept ≤ most_octets →
      is_complete (gathered w f piece) ≡ false → FitWaiting (gathered w f piece)
  gathered-fit p h s i = with-fit (put_to (case_of w f) w) f piece n (joins-start p h) s i
