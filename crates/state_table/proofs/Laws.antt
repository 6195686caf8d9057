-- What the loops over a table find and make is what the definitions say.
use native.Mathlib.Omega.{arith}
use Prim.Native.Nat.{ℕ, suc, ◌+◌, ◌-◌, ◌≤◌, ◌<◌}
use mathlib.Core.Path.{◌≡◌, refl, ap, sym, ◌∙◌}
use mathlib.Core.Bool.{Bool, true, false, cond}
use mathlib.Core.List.{List, [], ◌∷◌, ◌++◌}
use borrow.Author.Tests.{le-leb, lt-leb, ne_eqb}
use lib.Dec.{leb, eqb, eqb-suc-zero}
use lib.ListN.{length, take, drop, get_or, replicate, drop_of_length-le}
use lib.Seq.{drop-cons}
use native.Mathlib.Numerals.{add-one}
use Rattle.std.specs.Prelude.{Some}
use Rattle.state_keys.specs.Limits.{Limits}
use Rattle.lists.specs.Lists.{all, count, keep, rising}
use Rattle.lists.proofs.Cases.{bool_cases, lt-cases}
use Rattle.lists.proofs.Lists.{all_yes, all-no, all_end, count_yes, count_no, count-end, rising-next, rising-end}
use Rattle.lists.proofs.Fill.{Filled, filled-count, filled-all}
use Rattle.state_sa.specs.Entry.{sa_before, sa_formed, live_rekey, due, retired, blank_sa}
use Rattle.state_sa.specs.declared.entry.Sa.{Sa}
use Rattle.state_table.specs.declared.Table.{Table}
use Rattle.state_table.specs.Table.{sas_of, table_of, table_formed, changed, swept, stays, not_due, empty_at, retired_if, none}
use Rattle.state_table.specs.inner.Changes.{standing_count}
use Rattle.state_table.specs.Table.{the_one, found_in_table}

-- ---- a table that was filled
pub table-made : (limits : Limits) (out l : List Sa) (k : ℕ) → Filled
    limits.sas blank_sa out k → k ≤ limits.sas → take k out ++ [] ≡ l →
    record { sas = out; count = k } ≡ table_of limits l
unfolding table_of
table-made limits out l k f le e =
    let p = filled-all limits.sas blank_sa out l k f le e in
    let q = filled-count limits.sas blank_sa out l k f le e in
    λ i. record { sas = p i; count = q i }

-- a table within its limit, and one that is not
module _ (limits : Limits) (t : Table) (f : List Sa → List Sa) where
  pub changed-in : t.count ≤ limits.sas → changed limits f t ≡ table_of limits (f (sas_of t))
  unfolding changed
  changed-in h = rw (le-leb t.count limits.sas h)

  pub changed-made : (out : List Sa) (k : ℕ) → t.count ≤ limits.sas →
      out ≡ f (sas_of t) ++ replicate (limits.sas - length (f (sas_of t))) blank_sa → k ≡ length (f (sas_of t)) →
      record { sas = out; count = k } ≡ changed limits f t
  unfolding changed table_of
  changed-made out k h p q = rw (le-leb t.count limits.sas h) (λ i. record { sas = p i; count = q i })

  pub changed-out : limits.sas < t.count → changed limits f t ≡ t
  unfolding changed
  changed-out h = rw (lt-leb t.count limits.sas h)

-- ---- the search of one SA: at place j of a list stands the SA that is found, or the search goes on, or it ends
module _ (p : Sa → Bool) (l : List Sa) (j : ℕ) where
  pub one-here : (d : Sa) → j < length l → true ≡ p (get_or l j d) → the_one p (drop j l) ≡ Some (get_or l j d)
  unfolding the_one
  one-here d h e = rw (drop-cons l j d, ← e)

  pub one-next : (d : Sa) → j < length l → false ≡ p (get_or l j d) → the_one p (drop j l) ≡ the_one p (drop (j + 1) l)
  unfolding the_one
  one-next d h e = rw (drop-cons l j d, ← e, add-one)

  pub one_end : length l ≤ j → the_one p (drop j l) ≡ none
  unfolding the_one
  one_end h = rw (drop_of_length-le l h)

module _ (limits : Limits) (p : Sa → Bool) (t : Table) where
  pub found_in : t.count ≤ limits.sas → found_in_table limits p t ≡ the_one p (sas_of t)
  unfolding found_in_table
  found_in h = rw (le-leb t.count limits.sas h)

  pub found-out : limits.sas < t.count → found_in_table limits p t ≡ none
  unfolding found_in_table
  found-out h = rw (lt-leb t.count limits.sas h)

-- ---- the test of a whole table
module _ (limits : Limits) (t : Table) where
  pub formed-over : limits.sas < t.count → false ≡ table_formed limits t
  unfolding table_formed
  formed-over h = rw (lt-leb t.count limits.sas h)

  module _ (h : t.count ≤ limits.sas) where
    pub formed-each : all sa_formed (sas_of t) ≡ false → false ≡ table_formed limits t
    unfolding table_formed
    formed-each e = rw (le-leb t.count limits.sas h, e)

    pub formed-rises : all sa_formed (sas_of t) ≡ true → rising sa_before (sas_of t) ≡ false → false ≡ table_formed limits t
    unfolding table_formed
    formed-rises e f = rw (le-leb t.count limits.sas h, e, f)

    pub formed-live : (k : ℕ) → all sa_formed (sas_of t) ≡ true → rising sa_before (sas_of t) ≡ true → k ≡ count live_rekey (sas_of t) →
        leb k 1 ≡ table_formed limits t
    unfolding table_formed
    formed-live k e f g = rw (le-leb t.count limits.sas h, e, f, g)

-- ---- the same by one pass, which stands at i and has met k live Rekey SAs
module _ (limits : Limits) (t : Table) (h : t.count ≤ limits.sas) (long : length t.sas ≡ limits.sas) where
  abbrev from : ℕ → List Sa
  from i = drop i (sas_of t)

  inside : t.count ≤ length t.sas
  inside = omega arith

  pub record Testing (k i : ℕ) : Type 0 where
    pub each : all sa_formed (sas_of t) ≡ all sa_formed (from i)
    pub rises : rising sa_before (sas_of t) ≡ rising sa_before (from i)
    pub live : count live_rekey (sas_of t) ≡ count live_rekey (from i) + k
    pub few : k ≤ i

  pub testing-start : Testing 0 0
  testing-start = record { each = refl; rises = refl; live = omega arith; few = omega arith }

  rises-not : rising sa_before (sas_of t) ≡ false → false ≡ table_formed limits t
  rises-not f = bool_cases (all sa_formed (sas_of t)) (λ e. formed-rises limits t h e f) (λ e. formed-each limits t h e)

  module _ (k i : ℕ) (w : Testing k i) (d : Sa) (g : i < t.count) where
    abbrev s : Sa
    s = get_or t.sas i d

    pub testing-not : false ≡ sa_formed s → false ≡ table_formed limits t
    testing-not e = formed-each limits t h (w.each ∙ all-no sa_formed t.sas t.count inside i d g e)

    pub testing-falls : i + 1 < t.count → false ≡ sa_before s (get_or t.sas (i + 1) d) → false ≡ table_formed limits t
    testing-falls f e = rises-not (w.rises ∙ rising-next sa_before t.sas t.count inside i d false f e)

    module _ (e : true ≡ sa_formed s) where
      testing-on : (m : ℕ) → rising sa_before (from i) ≡ rising sa_before (from (i + 1)) →
          count live_rekey (sas_of t) ≡ count live_rekey (from (i + 1)) + m → m ≤ i + 1 → Testing m (i + 1)
      testing-on m r l f = record {
        each = w.each ∙ all_yes sa_formed t.sas t.count inside i d g e;
        rises = w.rises ∙ r;
        live = l;
        few = f;
      }

      by-live : (b : Bool) → b ≡ live_rekey s → rising sa_before (from i) ≡ rising sa_before (from (i + 1)) → (m : ℕ) →
          m ≡ cond b (k + 1) k → Testing m (i + 1)
      by-live true l r m q =
          let c = count_yes live_rekey t.sas t.count inside i d g l in
          let o = w.live in
          let f = w.few in
          testing-on m r (omega arith) (omega arith)
      by-live false l r m q =
          let c = count_no live_rekey t.sas t.count inside i d g l in
          let o = w.live in
          let f = w.few in
          testing-on m r (omega arith) (omega arith)

      -- the next stands behind it, or there is no next
      pub testing-next : (b : Bool) → b ≡ live_rekey s → i + 1 < t.count → true ≡ sa_before s (get_or t.sas (i + 1) d) → (m : ℕ) →
          m ≡ cond b (k + 1) k → Testing m (i + 1)
      testing-next b l f r = by-live b l (rising-next sa_before t.sas t.count inside i d true f r)

      pub testing-last : (b : Bool) → b ≡ live_rekey s → t.count ≤ i + 1 → (m : ℕ) → m ≡ cond b (k + 1) k → Testing m (i + 1)
      testing-last b l f =
          by-live b l (rising-end sa_before t.sas t.count inside i d f
          ∙ sym (rising-end sa_before t.sas t.count inside (i + 1) d (omega arith)))

  pub testing-end : (k i : ℕ) → Testing k i → t.count ≤ i → leb k 1 ≡ table_formed limits t
  testing-end k i w g =
      let q = count-end live_rekey t.sas t.count inside i g in
      let o = w.live in
      formed-live limits t h k (w.each ∙ all_end sa_formed t.sas t.count inside i g)
      (w.rises ∙ rising-end sa_before t.sas t.count inside i blank_sa (omega arith)) (omega arith)

-- ---- what stays
-- every SA is due exactly when none is kept
pub none_kept : (now : ℕ) (l : List Sa) → eqb (length (not_due now l)) 0 ≡ all (due now) l
unfolding keep all
none_kept now [] = refl
none_kept now (s ∷ l) = bool_cases (due now s) (λ e. rw e (none_kept now l)) (λ e. rw e (eqb-suc-zero (length (not_due now l))))

-- how many stay is how many a swept table has
pub kept-count : {A : Type 0} (p : A → Bool) (l : List A) → count p l ≡ length (keep p l)
unfolding count keep
kept-count p [] = refl
kept-count p (a ∷ l) =
    let h = kept-count p l in bool_cases (p a) (λ g. rw g (omega arith)) (λ g. rw g h)

-- the count so far, with how many pass from place j of a list on
module _ (p : Sa → Bool) (l : List Sa) (j k : ℕ) (c : count p l ≡ count p (drop j l) + k) where
  pub counted-yes : (d : Sa) → j < length l → true ≡ p (get_or l j d) → count p l ≡ count p (drop (j + 1) l) + (k + 1)
  unfolding count
  counted-yes d h e =
      let f : count p (drop j l) ≡ count p (drop (suc j) l) + 1 = rw (drop-cons l j d, ← e) in
      let g : count p (drop (j + 1) l) ≡ count p (drop (suc j) l) = ap (λ (i : ℕ). count p (drop i l)) (add-one j) in
      omega arith

  pub counted-no : (d : Sa) → j < length l → false ≡ p (get_or l j d) → count p l ≡ count p (drop (j + 1) l) + k
  unfolding count
  counted-no d h e =
      let f : count p (drop j l) ≡ count p (drop (suc j) l) = rw (drop-cons l j d, ← e) in
      let g : count p (drop (j + 1) l) ≡ count p (drop (suc j) l) = ap (λ (i : ℕ). count p (drop i l)) (add-one j) in
      omega arith

  pub counted-all : length l ≤ j → k ≡ count p l
  unfolding count
  counted-all h =
      let f : count p (drop j l) ≡ 0 = rw (drop_of_length-le l h) in
      omega arith

module _ (limits : Limits) (now : ℕ) (t : Table) where
  pub standing-in : (k : ℕ) → t.count ≤ limits.sas → k ≡ count (stays now) (sas_of t) → k ≡ standing_count limits now t
  unfolding standing_count swept table_of
  standing-in k h e =
      e ∙ kept-count (stays now) (sas_of t) ∙ sym (ap (λ (x : Table). x.count) (changed-in limits t (not_due now) h))

  pub standing-out : limits.sas < t.count → t.count ≡ standing_count limits now t
  unfolding standing_count swept
  standing-out h = sym (ap (λ (x : Table). x.count) (changed-out limits t (not_due now) h))

empty-in : (limits : Limits) (now k : ℕ)
    (t : Table) → t.count ≤ limits.sas → k ≡ (swept limits now t).count → eqb k 0 ≡ empty_at limits now t
unfolding swept empty_at table_of
empty-in limits now k t h e =
    let q : k ≡ length (not_due now (sas_of t)) = e ∙ ap (λ (x : Table). x.count) (changed-in limits t (not_due now) h) in
    rw (le-leb t.count limits.sas h) (ap (λ (m : ℕ). eqb m 0) q ∙ none_kept now (sas_of t))

empty-out : (limits : Limits) (now k : ℕ)
    (t : Table) → limits.sas < t.count → k ≡ (swept limits now t).count → eqb k 0 ≡ empty_at limits now t
unfolding swept empty_at
empty-out limits now k t h e =
    let q : k ≡ t.count = e ∙ ap (λ (x : Table). x.count) (changed-out limits t (not_due now) h) in
    rw (lt-leb t.count limits.sas h) (ne_eqb k 0 (λ z. omega arith))

pub empty-is : (limits : Limits) (now k : ℕ) (t : Table) → k ≡ standing_count limits now t → eqb k 0 ≡ empty_at limits now t
unfolding standing_count
empty-is limits now k t e =
    lt-cases limits.sas t.count (λ h. empty-out limits now k t h e) (λ h. empty-in limits now k t h e)

-- ---- an SA that is picked, and one that is not
module _ (p : Sa → Bool) (now delay : ℕ) (s r : Sa) where
  pub retired-yes : true ≡ p s → r ≡ retired now delay s → r ≡ retired_if p now delay s
  unfolding retired_if
  retired-yes e f = rw (← e) f

  pub retired-no : false ≡ p s → s ≡ retired_if p now delay s
  unfolding retired_if
  retired-no e = rw (← e)
