-- A table that is as it must be stays so: swept, with SAs retired, and with one SA more.
use native.Mathlib.Omega.{arith}
use Prim.Native.Nat.{ℕ, zero, suc, ◌-◌, ◌≤◌, ◌<◌}
use mathlib.Core.Path.{◌≡◌, refl, sym, ◌∙◌}
use mathlib.Core.Bool.{Bool, true, false, not, ◌&&◌, ◌||◌, false≢true}
use mathlib.Core.Logic.{◌⊎◌, inl, inr}
use mathlib.Core.List.{List, [], ◌∷◌, map}
use borrow.Author.Tests.{le-leb, leb-true, lt-ltb}
use lib.Dec.{leb}
use lib.ListN.{length, take, replicate, length-map}
use lib.Seq.{take-append_seam}
use Rattle.state_keys.specs.Limits.{Limits}
use Rattle.lists.specs.Lists.{all, any, count, keep, rising, insert}
use Rattle.lists.proofs.Cases.{bool_cases, and_parts}
use Rattle.lists.proofs.Rising.{all_keep, count-keep, length-keep, length-insert, all_insert, count-insert, rising-keep, rising-insert}
use Rattle.lists.proofs.Rising.{all_map, count_map, rising-map}
use Rattle.state_sa.specs.Entry.{sa_spi, sa_before, named, sa_formed, live_rekey, due, blank_sa}
use Rattle.state_sa.specs.declared.entry.Sa.{Sa}
use Rattle.state_sa.proofs.Order.{SameName, before-trans, before-total, is-named}
use Rattle.state_sa.proofs.Kept.{retired-formed, retired-before-left, retired-before-right, retired-rekey}
use Rattle.state_table.specs.declared.Table.{Table}
use Rattle.state_table.specs.Table.{sas_of, table_of, table_formed, swept, not_due, retired_if}
use Rattle.state_table.specs.inner.Changes.{retired_where, entered}
use Rattle.state_table.proofs.Laws.{changed-in}

-- the SAs of a table that was made of a list are that list
pub sas-of-table : (limits : Limits) (l : List Sa) → sas_of (table_of limits l) ≡ l
unfolding table_of
sas-of-table limits l = take-append_seam l (replicate (limits.sas - length l) blank_sa)

take-le : {A : Type 0} (n : ℕ) (l : List A) → length (take n l) ≤ n
take-le zero l = omega arith
take-le (suc n) [] = omega arith
take-le (suc n) (a ∷ l) = let h = take-le n l in omega arith

-- ---- retiring leaves the order and the octets, and makes no SA live
module _ (p : Sa → Bool) (now delay : ℕ) where
  if-formed : (s : Sa) → sa_formed (retired_if p now delay s) ≡ sa_formed s
  unfolding retired_if
  if-formed s = bool_cases (p s) (λ e. rw e (retired-formed now delay s)) (λ e. rw e)

  if-before-left : (a b : Sa) → sa_before (retired_if p now delay a) b ≡ sa_before a b
  unfolding retired_if
  if-before-left a b = bool_cases (p a) (λ e. rw e (retired-before-left now delay a b)) (λ e. rw e)

  if-before-right : (a b : Sa) → sa_before a (retired_if p now delay b) ≡ sa_before a b
  unfolding retired_if
  if-before-right a b = bool_cases (p b) (λ e. rw e (retired-before-right now delay a b)) (λ e. rw e)

  if-before : (a b : Sa) → sa_before (retired_if p now delay a) (retired_if p now delay b) ≡ sa_before a b
  if-before a b = if-before-left a (retired_if p now delay b) ∙ if-before-right a b

  if-live : (s : Sa) → live_rekey (retired_if p now delay s) ≡ true → live_rekey s ≡ true
  unfolding retired_if
  if-live s e =
      bool_cases (p s)
      (λ g. absurd (false≢true (sym (retired-rekey now delay s) ∙ sym (rw g) ∙ e))) (λ g. sym (rw g) ∙ e)

-- ---- a list that is as the SAs of a table must be
module _ (limits : Limits) where
  pub record Fit (l : List Sa) : Type 0 where
    pub room : length l ≤ limits.sas
    pub each : all sa_formed l ≡ true
    pub rises : rising sa_before l ≡ true
    pub one : count live_rekey l ≤ 1

  pub fit_none : Fit []
  unfolding all rising count
  fit_none = record { room = omega arith; each = refl; rises = refl; one = omega arith }

  pub fit-keep : (p : Sa → Bool) (l : List Sa) → Fit l → Fit (keep p l)
  fit-keep p l f =
      let h = length-keep p l in
      let k = count-keep p live_rekey l in
      let g = f.room in
      let o = f.one in
      record {
        room = omega arith;
        each = all_keep p sa_formed l f.each;
        rises = rising-keep sa_before before-trans p l f.rises;
        one = omega arith;
      }

  pub fit-retired : (p : Sa → Bool) (now delay : ℕ) (l : List Sa) → Fit l → Fit (map (retired_if p now delay) l)
  fit-retired p now delay l f =
      let r = retired_if p now delay in
      let h = length-map l (retired_if p now delay) in
      let k = count_map (retired_if p now delay) live_rekey (if-live p now delay) l in
      let g = f.room in
      let o = f.one in
      record {
        room = omega arith;
        each = all_map r sa_formed (if-formed p now delay) l ∙ f.each;
        rises = rising-map r sa_before (if-before p now delay) l ∙ f.rises;
        one = omega arith;
      }

  -- an SA whose name is new stands before or after each of the list
  apart-one : (a b : Sa) → named a.protocol (sa_spi a) b ≡ false → (sa_before a b ≡ true) ⊎ (SameName a b ⊎ (sa_before b a ≡ true)) →
      (sa_before a b || sa_before b a) ≡ true
  apart-one a b e (inl x) = rw x
  apart-one a b e (inr (inl x)) = absurd (false≢true (sym e ∙ is-named a.protocol (sa_spi a) b (sym x.0) (sym x.1)))
  apart-one a b e (inr (inr x)) = bool_cases (sa_before a b) (λ g. rw g) (λ g. rw g x)

  apart : (a : Sa) (l : List Sa) → any (named a.protocol (sa_spi a)) l ≡ false → all (λ (b : Sa). sa_before a b || sa_before b a) l ≡ true
  unfolding any all
  apart a [] e = refl
  apart a (b ∷ l) e =
      bool_cases (named a.protocol (sa_spi a) b) (λ g. absurd (false≢true (sym e ∙ rw g)))
      (λ g. rw (apart-one a b g (before-total a b)) (apart a l (sym (rw g) ∙ e)))

  pub fit-entered : (a : Sa) (l : List Sa) → Fit l → length l < limits.sas → sa_formed a ≡ true → any
      (named a.protocol (sa_spi a)) l ≡ false →
      count live_rekey (a ∷ l) ≤ 1 → Fit (insert sa_before a l)
  fit-entered a l f r e n o =
      let h = length-insert sa_before a l in
      let k = count-insert sa_before live_rekey a l in
      record {
        room = omega arith;
        each = all_insert sa_before sa_formed a l e f.each;
        rises = rising-insert sa_before before-trans a l (apart a l n) f.rises;
        one = omega arith;
      }

  -- ---- the tables
  pub table-formed : (l : List Sa) → Fit l → table_formed limits (table_of limits l) ≡ true
  unfolding table_formed table_of
  table-formed l f =
      rw
      (take-append_seam l (replicate (limits.sas - length l) blank_sa), le-leb (length l) limits.sas f.room, f.each, f.rises)
      (le-leb (count live_rekey l) 1 f.one)

  pub formed-count : (t : Table) → table_formed limits t ≡ true → t.count ≤ limits.sas
  unfolding table_formed
  formed-count t e = leb-true t.count limits.sas (and_parts (leb t.count limits.sas) _ e).0

  pub formed-fit : (t : Table) → table_formed limits t ≡ true → Fit (sas_of t)
  unfolding table_formed
  formed-fit t e =
      let p = and_parts (leb t.count limits.sas) (all sa_formed (sas_of t) &&
      (rising sa_before (sas_of t) && leb (count live_rekey (sas_of t)) 1)) e in
      let q = and_parts (all sa_formed (sas_of t)) (rising sa_before (sas_of t) && leb (count live_rekey (sas_of t)) 1) p.1 in
      let r = and_parts (rising sa_before (sas_of t)) (leb (count live_rekey (sas_of t)) 1) q.1 in
      let c = leb-true t.count limits.sas p.0 in
      let h = take-le t.count t.sas in
      record { room = omega arith; each = q.0; rises = r.0; one = leb-true (count live_rekey (sas_of t)) 1 r.1 }

  pub new-formed : table_formed limits (table_of limits []) ≡ true
  new-formed = table-formed [] fit_none

  pub swept-formed : (now : ℕ) (t : Table) → table_formed limits t ≡ true → table_formed limits (swept limits now t) ≡ true
  unfolding swept
  swept-formed now t e =
      rw (changed-in limits t (not_due now) (formed-count t e))
      (table-formed (not_due now (sas_of t)) (fit-keep (λ (s : Sa). not (due now s)) (sas_of t) (formed-fit t e)))

  pub retired-where-formed : (p : Sa → Bool) (now delay : ℕ) (t : Table) → table_formed limits t ≡ true →
      table_formed limits (retired_where limits p now delay t) ≡ true
  retired-where-formed p now delay t e =
      rw (changed-in limits t (map (retired_if p now delay)) (formed-count t e))
      (table-formed (map (retired_if p now delay) (sas_of t)) (fit-retired p now delay (sas_of t) (formed-fit t e)))

  pub entered-formed : (a : Sa) (t : Table) → table_formed limits t ≡ true → t.count < limits.sas → length
      (sas_of t) < limits.sas → sa_formed a ≡ true →
      any (named a.protocol (sa_spi a)) (sas_of t) ≡ false → count live_rekey (a ∷ sas_of t) ≤ 1 → table_formed limits
      (entered limits a t) ≡ true
  unfolding entered
  entered-formed a t e c r f n o =
      rw (lt-ltb t.count limits.sas c) (table-formed (insert sa_before a (sas_of t)) (fit-entered a (sas_of t) (formed-fit t e) r f n o))
