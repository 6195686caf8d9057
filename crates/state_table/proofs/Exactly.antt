-- What sweeping and entering leave, by the members of the table.
use Prim.Native.Nat.{ℕ, ◌<◌}
use mathlib.Core.Path.{◌≡◌, ap, sym, ◌∙◌, subst}
use mathlib.Core.Bool.{true, false, not}
use mathlib.Core.Logic.{◌⊎◌}
use mathlib.Core.List.{Memᴰ}
use borrow.Author.Tests.{lt-ltb, not-true}
use Rattle.state_keys.specs.Limits.{Limits}
use Rattle.lists.specs.Lists.{insert}
use Rattle.lists.proofs.Members.{kept-member, member-kept, inserted-member, member-inserted}
use Rattle.state_sa.specs.Entry.{sa_before, due}
use Rattle.state_sa.specs.declared.entry.Sa.{Sa}
use Rattle.state_table.specs.declared.Table.{Table}
use Rattle.state_table.specs.Table.{sas_of, table_of, table_formed, swept, not_due}
use Rattle.state_table.specs.inner.Changes.{entered}
use Rattle.state_table.specs.Blank.{TableBlank}
use Rattle.state_table.proofs.Laws.{changed-in}
use Rattle.state_table.proofs.Kept.{sas-of-table, formed-count}
use Rattle.state_table.proofs.Finds.{table-unique}

module _ (limits : Limits) (t : Table) (f : table_formed limits t ≡ true) where
  swept-sas : (now : ℕ) → sas_of (swept limits now t) ≡ not_due now (sas_of t)
  unfolding swept
  swept-sas now = ap sas_of (changed-in limits t (not_due now) (formed-count limits t f)) ∙ sas-of-table limits (not_due now (sas_of t))

  -- "Sweeping removes exactly those due": what is left was there and is not due, and what was there and is not due is left
  pub sweep-leaves : (now : ℕ) (s : Sa) → Memᴰ s (sas_of (swept limits now t)) → Memᴰ s (sas_of t) × (due now s ≡ false)
  sweep-leaves now s m =
      let k = kept-member (λ (x : Sa). not (due now x)) s (sas_of t) (subst (Memᴰ s) (swept-sas now) m) in
      (k.0, not-true (due now s) k.1)

  pub sweep-keeps : (now : ℕ) (s : Sa) → Memᴰ s (sas_of t) → due now s ≡ false → Memᴰ s (sas_of (swept limits now t))
  sweep-keeps now s m e = subst (Memᴰ s) (sym (swept-sas now)) (member-kept (λ (x : Sa). not (due now x)) s (sas_of t) m (ap not e))

module _ (limits : Limits) (a : Sa) (t : Table) (r : t.count < limits.sas) where
  entered-sas : sas_of (entered limits a t) ≡ insert sa_before a (sas_of t)
  unfolding entered
  entered-sas = rw (lt-ltb t.count limits.sas r) (sas-of-table limits (insert sa_before a (sas_of t)))

  -- after one SA entered, the table has it and what it had
  pub enter-leaves : (s : Sa) → Memᴰ s (sas_of (entered limits a t)) → (s ≡ a) ⊎ Memᴰ s (sas_of t)
  enter-leaves s m = inserted-member sa_before a s (sas_of t) (subst (Memᴰ s) entered-sas m)

  pub enter-keeps : (s : Sa) → (s ≡ a) ⊎ Memᴰ s (sas_of t) → Memᴰ s (sas_of (entered limits a t))
  enter-keeps s m = subst (Memᴰ s) (sym entered-sas) (member-inserted sa_before a s (sas_of t) m)

-- two tables as they must be, blank in their unused places, with the same SAs are one table
pub table_same : (limits : Limits) (t u : Table) → table_formed limits t ≡ true → table_formed limits u ≡ true → TableBlank limits t →
    TableBlank limits u → ((s : Sa) → Memᴰ s (sas_of t) → Memᴰ s (sas_of u)) →
    ((s : Sa) → Memᴰ s (sas_of u) → Memᴰ s (sas_of t)) → t ≡ u
table_same limits t u e f b c g h = b.places ∙ ap (table_of limits) (table-unique limits t u e f g h) ∙ sym c.places
