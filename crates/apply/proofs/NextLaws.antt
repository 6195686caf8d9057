-- The state after an accepted frame is the one that the definitions say.
use native.Mathlib.Omega.{arith}
use Prim.Native.Nat.{ℕ, ◌+◌, ◌≤◌}
use mathlib.Core.Path.{◌≡◌, refl, ap, sym, ◌∙◌}
use mathlib.Core.Bool.{Bool, true, false, not, cond, ◌&&◌, ◌||◌, or_comm}
use mathlib.Core.List.{List, map}
use lib.Dec.{eqb}
use lib.ListN.{length, length-map, length-take}
use Rattle.state_keys.specs.Limits.{limits}
use Rattle.lists.proofs.Rising.{length-keep}
use Rattle.wire_frames.specs.Delete.{Delete}
use Rattle.wire_frames.specs.Frame.{Frame}
use Rattle.state_sa.specs.Entry.{rekey_protocol, due}
use Rattle.state_sa.specs.declared.entry.Sa.{Sa}
use Rattle.state_table.specs.Table.{sas_of, table_of, not_due, swept, retired_if}
use Rattle.state_table.specs.declared.Table.{Table}
use Rattle.state_table.proofs.Laws.{changed-in}
use Rattle.state_table.proofs.Kept.{sas-of-table}
use Rattle.state.specs.declared.State.{State}
use Rattle.state.specs.declared.least.Least.{Least}
use Rattle.state.specs.declared.least.Least.TheVariants.{Id}
use Rattle.check_payloads.specs.inner.Deletion.{spis_in}
use Rattle.rules_refusals.specs.Contents.{deletes_of}
use Rattle.rules_refusals.specs.Number2.{not_due_sas}
use Rattle.rules_outcome.specs.Holding.{new_rekey}
use Rattle.rules_outcome.specs.After.{delay_of, named_in_delete, replaced, old_sas, insert_all, least_by, least_afterwards}
use Rattle.apply.specs.declared.next.Said.{Said}
use Rattle.apply.specs.inner.Tables.{named_in, outdated, retired_there, AreDeletes}
use Rattle.apply.specs.inner.Following.{Told}
use Rattle.apply.proofs.TableLaws.{picked-too, named-kept}
use Rattle.apply.proofs.RetiringLaws.{there-table}

-- ---- the old SAs
pub swept-made : (now : ℕ) (t : Table) → t.count ≤ limits.sas → swept limits now t ≡ table_of limits (not_due now (sas_of t))
unfolding swept
swept-made now t h = changed-in limits t (not_due now) h

pub standing-room : (now : ℕ) (t : Table) → t.count ≤ limits.sas → length (not_due now (sas_of t)) ≤ limits.sas
standing-room now t h =
    let k = length-keep (λ (s : Sa). not (due now s)) (sas_of t) in
    let n = length-take t.count t.sas in
    omega arith

same_test : (f : Frame) (new : Bool) → new_rekey f ≡ new → (a : Sa) →
    (outdated new a || named_in_delete f a) ≡ (named_in_delete f a || replaced f a)
unfolding replaced
same_test f new e a =
    or_comm (outdated new a) (named_in_delete f a) ∙ ap (λ (b : Bool). named_in_delete f a || (b && eqb a.protocol rekey_protocol)) (sym e)

-- the code's way to them: those that stand, with a new Rekey SA the old one retired, then retired by the frame's Delete payloads
module _ (s : List ℕ) (now : ℕ) (x : Said) (t stand gone : Table) (h : t.count ≤ limits.sas)
    (e : stand ≡ table_of limits (map (retired_if (outdated x.rekey) now x.delay) (not_due now (sas_of t))))
    (by-frame : (l : List Delete) → AreDeletes s x.deletes l → gone ≡ retired_there (named_in (spis_in l)) now x.delay stand)
    (f : Frame) (m : State) (q : Told s x f) (k : m.table ≡ t) where
  pub gone-is : gone ≡ table_of limits (old_sas m now f)
  unfolding named_in_delete old_sas
  gone-is =
      let l = not_due now (sas_of t) in
      let old = retired_if (outdated x.rekey) now x.delay in
      let n = length-map l old in
      let room : length (map old l) ≤ limits.sas = omega (arith, n, standing-room now t h) in
      by-frame (deletes_of f) q.deletes ∙ there-table now x.delay (named_in_delete f) stand (map old l) room e
      ∙ ap (table_of limits) (picked-too now x.delay (outdated x.rekey) (named_in_delete f) (named-kept now x.delay
      (spis_in (deletes_of f))) l)
      ∙ (λ i. table_of limits (map (retired_if (λ (a : Sa). same_test f x.rekey q.rekey a i) now (sym q.delay i))
      (not_due now (sas_of (sym k i)))))

-- ---- there is room for the new ones, and the table is that of these SAs
module _ (m : State) (now : ℕ) (f : Frame) where
  pub old-length : length (old_sas m now f) ≡ length (not_due_sas now m)
  unfolding old_sas
  old-length = length-map (not_due_sas now m) (retired_if (λ (a : Sa). named_in_delete f a || replaced f a) now (delay_of f))

  pub old-made : (t : Table) → t ≡ table_of limits (old_sas m now f) → t ≡ table_of limits (sas_of t)
  old-made t e = e ∙ ap (table_of limits) (sym (sas-of-table limits (old_sas m now f)) ∙ ap sas_of (sym e))

  pub old-room : (t : Table) (n : ℕ) → t ≡ table_of limits (old_sas m now f) → length (not_due_sas now m) + n ≤ limits.sas →
      t.count + n ≤ limits.sas
  unfolding table_of
  old-room t n e h = let k : t.count ≡ length (not_due_sas now m) = ap (λ (x : Table). x.count) e ∙ old-length in omega arith

  pub entered-old : (t r : Table) (new : List Sa) → t ≡ table_of limits (old_sas m now f) →
      r ≡ table_of limits (insert_all new (sas_of t)) → r ≡ table_of limits (insert_all new (old_sas m now f))
  entered-old t r new e g =
      g ∙ ap (λ (l : List Sa). table_of limits (insert_all new l)) (ap sas_of e ∙ sas-of-table limits (old_sas m now f))

-- ---- the least Message ID
module _ (x : Said) (before : Least) where
  abbrev pub LeastIs : Least → Type 0
  LeastIs l = l ≡ cond x.rekey (Id x.initial) (least_by x.least x.id before)

  pub least-new : x.rekey ≡ true → LeastIs (Id x.initial)
  least-new e = rw e refl

  pub least_kept : (l : Least) → x.rekey ≡ false → l ≡ least_by x.least x.id before → LeastIs l
  least_kept l e g = rw e g

module _ (x : Said) (m : State) where
  pub least-told : (s : List ℕ) (f : Frame) → Told s x f → (l : Least) → LeastIs x m.least l → l ≡ least_afterwards m f
  unfolding least_afterwards
  least-told s f t l e =
      e ∙ (λ j. cond (sym t.rekey j) (Id (sym t.initial j)) (least_by (sym t.least j) (sym t.id j) m.least))
