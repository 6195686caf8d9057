-- A table that is blank in its unused places stays so, and nothing of a removed SA remains in a swept one.
use Prim.Native.Nat.{ℕ, ◌-◌}
use mathlib.Core.Path.{◌≡◌, ap, sym, subst}
use mathlib.Core.Bool.{Bool, true, not}
use mathlib.Core.List.{List, [], ◌∷◌, ◌++◌, map}
use borrow.Author.Tests.{lt-ltb, le-ltb}
use lib.ListN.{length, replicate}
use Rattle.state_keys.specs.Limits.{Limits}
use Rattle.lists.specs.Lists.{keep, insert}
use Rattle.lists.proofs.Cases.{bool_cases, lt-cases}
use Rattle.state_sa.specs.Entry.{sa_before, due, blank_sa}
use Rattle.state_sa.specs.Blank.{ZeroPadded}
use Rattle.state_sa.specs.declared.entry.Sa.{Sa}
use Rattle.state_sa.proofs.Kept.{retired-blank}
use Rattle.state_table.specs.declared.Table.{Table}
use Rattle.state_table.specs.Table.{sas_of, table_of, table_formed, changed, swept, not_due, retired_if}
use Rattle.state_table.specs.inner.Changes.{retired_where, entered}
use Rattle.state_table.specs.Blank.{AllBlank, no-sa, one_more, TableBlank}
use Rattle.state_table.proofs.Laws.{changed-in, changed-out}
use Rattle.state_table.proofs.Kept.{sas-of-table, formed-count}

head-blank : {s : Sa} {l : List Sa} → AllBlank (s ∷ l) → ZeroPadded s
head-blank (one_more b r) = b

rest-blank : {s : Sa} {l : List Sa} → AllBlank (s ∷ l) → AllBlank l
rest-blank (one_more b r) = r

keep-blank : (p : Sa → Bool) (l : List Sa) → AllBlank l → AllBlank (keep p l)
unfolding keep
keep-blank p [] b = no-sa
keep-blank p (s ∷ l) b =
    let r = keep-blank p l (rest-blank b) in
    bool_cases (p s) (λ e. rw e (one_more (head-blank b) r)) (λ e. rw e r)

insert-blank : (a : Sa) (l : List Sa) → ZeroPadded a → AllBlank l → AllBlank (insert sa_before a l)
unfolding insert
insert-blank a [] x b = one_more x no-sa
insert-blank a (s ∷ l) x b =
    bool_cases (sa_before a s) (λ e. rw e (one_more x b)) (λ e. rw e (one_more (head-blank b) (insert-blank a l x (rest-blank b))))

retired-blank-if : (p : Sa → Bool) (now delay : ℕ) (s : Sa) → ZeroPadded s → ZeroPadded (retired_if p now delay s)
unfolding retired_if
retired-blank-if p now delay s b = bool_cases (p s) (λ e. rw e (retired-blank now delay s b)) (λ e. rw e b)

map-blank : (p : Sa → Bool) (now delay : ℕ) (l : List Sa) → AllBlank l → AllBlank (map (retired_if p now delay) l)
map-blank p now delay [] b = no-sa
map-blank p now delay (s ∷ l) b = one_more (retired-blank-if p now delay s (head-blank b)) (map-blank p now delay l (rest-blank b))

module _ (limits : Limits) where
  pub table-blank : (l : List Sa) → AllBlank l → TableBlank limits (table_of limits l)
  table-blank l b =
      let e = sas-of-table limits l in
      record { places = ap (table_of limits) (sym e); each = subst AllBlank (sym e) b }

  changed-blank : (f : List Sa → List Sa) → ((l : List Sa) → AllBlank l → AllBlank (f l)) → (t : Table) → TableBlank limits t →
      TableBlank limits (changed limits f t)
  changed-blank f k t b =
      lt-cases limits.sas t.count (λ h. subst (TableBlank limits) (sym (changed-out limits t f h)) b)
      (λ h. subst (TableBlank limits) (sym (changed-in limits t f h)) (table-blank (f (sas_of t)) (k (sas_of t) b.each)))

  pub new-blank : TableBlank limits (table_of limits [])
  new-blank = table-blank [] no-sa

  pub swept-blank : (now : ℕ) (t : Table) → TableBlank limits t → TableBlank limits (swept limits now t)
  unfolding swept
  swept-blank now t b = changed-blank (not_due now) (keep-blank (λ (s : Sa). not (due now s))) t b

  pub retired-where-blank : (p : Sa → Bool) (now delay : ℕ) (t : Table) → TableBlank limits t →
      TableBlank limits (retired_where limits p now delay t)
  retired-where-blank p now delay t b = changed-blank (map (retired_if p now delay)) (map-blank p now delay) t b

  pub entered-blank : (a : Sa) (t : Table) → ZeroPadded a → TableBlank limits t → TableBlank limits (entered limits a t)
  unfolding entered
  entered-blank a t x b =
      lt-cases t.count limits.sas
      (λ h. rw (lt-ltb t.count limits.sas h) (table-blank (insert sa_before a (sas_of t)) (insert-blank a (sas_of t) x b.each)))
      (λ h. rw (le-ltb t.count limits.sas h) b)

  -- every place of a swept table holds an SA that is not due, or is blank: no octet of a removed key remains
  pub swept-places : (now : ℕ) (t : Table) → table_formed limits t ≡ true →
      (swept limits now t).sas ≡ not_due now (sas_of t) ++ replicate (limits.sas - length (not_due now (sas_of t))) blank_sa
  unfolding swept table_of
  swept-places now t e = ap (λ (x : Table). x.sas) (changed-in limits t (not_due now) (formed-count limits t e))
