-- Tables that are made of a list of SAs, as the list changes.
use native.Mathlib.Omega.{arith}
use Prim.Native.Nat.{ℕ, ◌+◌, ◌-◌, ◌≤◌, ◌<◌}
use mathlib.Core.Path.{◌≡◌, refl, ap, ap₂, sym, ◌∙◌}
use mathlib.Core.Bool.{Bool, true, false, ◌||◌}
use mathlib.Core.List.{List, [], ◌∷◌, ◌++◌, map}
use borrow.Author.Tests.{lt-ltb}
use lib.ListN.{length, take, drop, get_or, replicate, length-map, length-drop}
use lib.Seq.{length-take-le, take-append_seam, drop-append_seam, drop-append-add}
use Rattle.rules_outcome.proofs.RunsTable.{length-all}
use Rattle.lists.specs.Lists.{insert}
use Rattle.state_keys.specs.Limits.{Limits}
use Rattle.lists.proofs.Parts.{part-cons, part_end, drop-replicate}
use Rattle.lists.proofs.Rising.{length-insert}
use Rattle.state_sa.specs.Entry.{sa_before, retired, retired_by, with_condition, blank_sa}
use Rattle.state_sa.specs.declared.entry.Sa.{Sa}
use Rattle.state_sa.specs.declared.entry.Condition.{Condition}
use Rattle.state_sa.specs.declared.entry.Condition.TheVariants.{Live, Retiring}
use Rattle.state_table.specs.Table.{table_of, retired_if}
use Rattle.state_table.specs.inner.Changes.{entered}
use Rattle.state_table.specs.declared.Table.{Table}
use Rattle.state_table.proofs.Kept.{sas-of-table}
use Rattle.rules_outcome.specs.After.{insert_all}
use Rattle.apply.specs.inner.Tables.{named_in}

-- ---- new SAs
module _ (limits : Limits) where
  entered-made : (a : Sa) (l : List Sa) → length l < limits.sas →
      entered limits a (table_of limits l) ≡ table_of limits (insert sa_before a l)
  unfolding entered table_of
  entered-made a l h = rw (lt-ltb (length l) limits.sas h, sas-of-table limits l) refl

  -- one that was put in its place among the first of an array
  pub enter-made : (sas : List Sa) (count : ℕ) (a : Sa) (l out : List Sa) → record { sas = sas; count = count } ≡ table_of limits l →
      length l < limits.sas → out ≡ insert sa_before a (take count sas) ++ drop (count + 1) sas →
      record { sas = out; count = count + 1 } ≡ entered limits a (table_of limits l)
  unfolding table_of
  enter-made sas count a l out e h q =
      let b = replicate (limits.sas - length l) blank_sa in
      let s : sas ≡ l ++ b = ap (λ (t : Table). t.sas) e in
      let c : count ≡ length l = ap (λ (t : Table). t.count) e in
      let n = length-insert sa_before a l in
      let t : take count sas ≡ l = (λ i. take (c i) (s i)) ∙ take-append_seam l b in
      let z : limits.sas - length l - 1 ≡ limits.sas - length (insert sa_before a l) = omega arith in
      let d : drop (count + 1) sas ≡ replicate (limits.sas - length (insert sa_before a l)) blank_sa =
      (λ i. drop (c i + 1) (s i)) ∙ drop-append-add l b 1 ∙ drop-replicate 1 (limits.sas - length l) blank_sa
      ∙ ap (λ (m : ℕ). replicate m blank_sa) z in
      let k : count + 1 ≡ length (insert sa_before a l) = omega arith in
      (λ i. record { sas = (q ∙ ap₂ (λ (x y : List Sa). insert sa_before a x ++ y) t d) i; count = k i }) ∙ sym (entered-made a l h)

  -- the last of n new SAs have entered, those from a place on
  module _ (new : List Sa) (n : ℕ) (h : n ≤ length new) (l : List Sa) (room : length l + n ≤ limits.sas) where
    abbrev pub with_last : ℕ → Table
    with_last i = table_of limits (insert_all (drop i (take n new)) l)

    pub none-entered : with_last n ≡ table_of limits l
    unfolding insert_all
    none-entered = ap (λ (m : List Sa). table_of limits (insert_all m l)) (part_end new n h n (omega arith))

    pub some-entered : (i : ℕ) → i < n → length (insert_all (drop (i + 1) (take n new)) l) < limits.sas
    some-entered i g =
        let m = drop (i + 1) (take n new) in
        let e : length m ≡ n - (i + 1) = length-drop (i + 1) (take n new) ∙ ap (λ (k : ℕ). k - (i + 1)) (length-take-le n new h) in
        omega (arith, e, length-all m l)

    pub one-entered : (i : ℕ) (d : Sa) → i < n → entered limits (get_or new i d) (with_last (i + 1)) ≡ with_last i
    unfolding insert_all
    one-entered i d g =
        let m = drop (i + 1) (take n new) in
        let e : length m ≡ n - (i + 1) = length-drop (i + 1) (take n new) ∙ ap (λ (k : ℕ). k - (i + 1)) (length-take-le n new h) in
        entered-made (get_or new i d) (insert_all m l) (omega (arith, e, length-all m l))
        ∙ ap (λ (k : List Sa). table_of limits (insert_all k l)) (sym (part-cons new n h i d g))

-- ---- SAs that retire
module _ (now delay : ℕ) where
  again : (c : Condition) → retired_by now delay (retired_by now delay c) ≡ retired_by now delay c
  again Live = refl
  again (Retiring s d) = refl

  retired-again : (s : Sa) → retired now delay (retired now delay s) ≡ retired now delay s
  unfolding retired
  retired-again s = ap (λ (c : Condition). with_condition c s) (again s.condition)

  -- what was picked already, or is picked now, by protocol and SPI, which retiring leaves as they are
  module _ (p q : Sa → Bool) (kept : (s : Sa) → q (retired now delay s) ≡ q s) where
    picked-by : (s : Sa) (b c : Bool) → p s ≡ b → q s ≡ c →
        retired_if q now delay (retired_if p now delay s) ≡ retired_if (λ (a : Sa). p a || q a) now delay s
    unfolding retired_if
    picked-by s true true e g = rw (e, kept s, g) (retired-again s)
    picked-by s true false e g = rw (e, kept s, g) refl
    picked-by s false true e g = rw (e, g) refl
    picked-by s false false e g = rw (e, g) refl

    pub picked-once : (s : Sa) → retired_if q now delay (retired_if p now delay s) ≡ retired_if (λ (a : Sa). p a || q a) now delay s
    picked-once s = picked-by s (p s) (q s) refl refl

    pub picked-too : (l : List Sa) →
        map (retired_if q now delay) (map (retired_if p now delay) l) ≡ map (retired_if (λ (a : Sa). p a || q a) now delay) l
    picked-too [] = refl
    picked-too (s ∷ l) = ap₂ (λ (a : Sa) (m : List Sa). a ∷ m) (picked-once s) (picked-too l)

-- ---- the first SAs of a table, changed in their places
pub turned-table : (limits : Limits) (t : Table) (g : Sa → Sa) (l : List Sa) → length l ≤ limits.sas → t ≡ table_of limits l →
    record { sas = map g (take t.count t.sas) ++ drop t.count t.sas; count = t.count } ≡ table_of limits (map g l)
unfolding table_of
turned-table limits t g l h e =
    let b = replicate (limits.sas - length l) blank_sa in
    let n : length (map g l) ≡ length l = length-map l g in
    let c : t.count ≡ length l = ap (λ (x : Table). x.count) e in
    let s : t.sas ≡ l ++ b = ap (λ (x : Table). x.sas) e in
    let first : take t.count t.sas ≡ l = (λ i. take (c i) (s i)) ∙ take-append_seam l b in
    let rest : drop t.count t.sas ≡ replicate (limits.sas - length (map g l)) blank_sa =
    (λ i. drop (c i) (s i)) ∙ drop-append_seam l b ∙ ap (λ (m : ℕ). replicate (limits.sas - m) blank_sa) (sym n) in
    λ i. record { sas = map g (first i) ++ rest i; count = (c ∙ sym n) i }

pub within-table : (limits : Limits) (t : Table) (l : List Sa) → length l ≤ limits.sas → t ≡ table_of limits l → limits.sas < t.count → ⊥
unfolding table_of
within-table limits t l h e g = let c : t.count ≡ length l = ap (λ (x : Table). x.count) e in omega arith

-- ---- what the SPIs of D name
pub named-kept : (now delay : ℕ) (spis : List (List ℕ)) (s : Sa) → named_in spis (retired now delay s) ≡ named_in spis s
unfolding retired
named-kept now delay spis s = refl
