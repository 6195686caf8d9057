-- The SAs that stood before a frame was accepted: what retires keeps its name and octets, and a new Rekey SA leaves no other live.
use Prim.Native.Nat.{ℕ}
use mathlib.Core.Path.{◌≡◌, refl, ap, sym, ◌∙◌, subst}
use mathlib.Core.Bool.{Bool, true, false, ◌||◌, false≢true}
use mathlib.Core.List.{List, [], ◌∷◌, map}
use lib.Dec.{eqb}
use lib.ListN.{length, length-map}
use Rattle.state_keys.specs.Limits.{Limits}
use Rattle.lists.specs.Lists.{any, count}
use Rattle.lists.proofs.Cases.{bool_cases}
use Rattle.wire_frames.specs.Frame.{Frame}
use Rattle.state_sa.specs.Entry.{rekey_protocol, named, live_rekey, retired}
use Rattle.state_sa.specs.declared.entry.Sa.{Sa}
use Rattle.state_sa.proofs.Kept.{retired-rekey}
use Rattle.state_table.specs.Table.{sas_of, table_of, table_formed, swept, stays, not_due, changed, retired_if}
use Rattle.state_table.specs.Blank.{TableBlank}
use Rattle.state_table.proofs.Laws.{changed-in}
use Rattle.state_table.proofs.Kept.{Fit, fit-keep, fit-retired, formed-fit, formed-count, swept-formed, sas-of-table}
use Rattle.state_table.proofs.Blanks.{swept-blank, retired-where-blank}
use Rattle.state.specs.declared.State.{State}
use Rattle.rules_refusals.specs.Number2.{not_due_sas}
use Rattle.rules_outcome.specs.Holding.{new_rekey}
use Rattle.rules_outcome.specs.After.{named_in_delete, replaced, retires, old_sa, old_sas}

any-map : {A : Type 0} (g : A → A) (q : A → Bool) → ((a : A) → q (g a) ≡ q a) → (l : List A) → any q (map g l) ≡ any q l
unfolding any
any-map g q e [] = refl
any-map g q e (a ∷ l) = λ i. e a i || any-map g q e l i

count-never : {A : Type 0} (g : A → A) (q : A → Bool) → ((a : A) → q (g a) ≡ false) → (l : List A) → count q (map g l) ≡ 0
unfolding count
count-never g q e [] = refl
count-never g q e (a ∷ l) = rw (e a) (count-never g q e l)

retired-name : (p : Sa → Bool) (now delay : ℕ) (q : ℕ) (y : List ℕ) (a : Sa) → named q y (retired_if p now delay a) ≡ named q y a
unfolding retired_if retired named
retired-name p now delay q y a = bool_cases (p a) (λ g. rw g) (λ g. rw g)

or-false-right : (a b : Bool) → (a || b) ≡ false → b ≡ false
or-false-right true b e = absurd (false≢true (sym e))
or-false-right false b e = e

module _ (now : ℕ) (f : Frame) where
  still : new_rekey f ≡ true → (a : Sa) → replaced f a ≡ false → live_rekey a ≡ false
  unfolding replaced live_rekey
  still n a e = let g : eqb a.protocol rekey_protocol ≡ false = rw n at e in rw g

  -- where the frame announces a Rekey SA, none that stood before is live
  pub none-live : new_rekey f ≡ true → (a : Sa) → live_rekey (old_sa now f a) ≡ false
  unfolding retired_if
  none-live n a =
      bool_cases (retires f a) (λ g. rw g (retired-rekey _ _ a))
      (λ g. rw g (still n a (or-false-right (named_in_delete f a) (replaced f a) g)))

-- one that was not live is not live afterwards, whatever the frame does
pub not-revived : (now : ℕ) (f : Frame) (a : Sa) → live_rekey a ≡ false → live_rekey (old_sa now f a) ≡ false
unfolding retired_if
not-revived now f a e = bool_cases (retires f a) (λ g. rw g (retired-rekey _ _ a)) (λ g. rw g e)

pub swept-sas : (limits : Limits) (s : State) (now : ℕ) → table_formed limits s.table ≡ true →
    sas_of (swept limits now s.table) ≡ not_due_sas now s
unfolding swept
swept-sas limits s now e =
    ap sas_of (changed-in limits s.table (not_due now) (formed-count limits s.table e)) ∙ sas-of-table limits (not_due_sas now s)

module _ (limits : Limits) (s : State) (now : ℕ) (f : Frame) where
  pub old-length : length (old_sas s now f) ≡ length (not_due_sas now s)
  unfolding old_sas
  old-length = length-map (not_due_sas now s) (old_sa now f)

  pub old-names : (p : ℕ) (y : List ℕ) → any (named p y) (old_sas s now f) ≡ any (named p y) (not_due_sas now s)
  unfolding old_sas
  old-names p y =
      any-map (old_sa now f) (named p y) (retired-name (retires f) _ _ p y) (not_due_sas now s)

  pub old-live : new_rekey f ≡ true → count live_rekey (old_sas s now f) ≡ 0
  unfolding old_sas
  old-live n = count-never (old_sa now f) live_rekey (none-live now f n) (not_due_sas now s)

  module _ (e : table_formed limits s.table ≡ true) where
    old-table : changed limits (map (old_sa now f)) (swept limits now s.table) ≡ table_of limits (old_sas s now f)
    unfolding old_sas
    old-table =
        let g = map (old_sa now f) in
        changed-in limits (swept limits now s.table) g
        (formed-count limits (swept limits now s.table) (swept-formed limits now s.table e))
        ∙ ap (λ (l : List Sa). table_of limits (g l)) (swept-sas limits s now e)

    pub old-fit : Fit limits (old_sas s now f)
    unfolding old_sas
    old-fit =
        fit-retired limits (retires f) _ _ (not_due_sas now s)
        (fit-keep limits (stays now) (sas_of s.table) (formed-fit limits s.table e))

    pub old-blank : TableBlank limits s.table → TableBlank limits (table_of limits (old_sas s now f))
    old-blank b =
        subst (TableBlank limits) old-table
        (retired-where-blank limits (retires f) _ _ (swept limits now s.table) (swept-blank limits now s.table b))
