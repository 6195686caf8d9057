-- SAs that enter a table keep it as it must be, and blank in its unused places.
use native.Mathlib.Omega.{arith}
use Prim.Native.Nat.{ℕ, ◌+◌, ◌≤◌, ◌<◌}
use mathlib.Core.Path.{◌≡◌, refl, ap, ◌∙◌, subst}
use mathlib.Core.Bool.{Bool, true, false, ◌||◌}
use mathlib.Core.List.{List, [], ◌∷◌, Memᴰ}
use borrow.Author.Tests.{eq-eqb, lt-ltb}
use lib.Dec.{eqb}
use lib.ListN.{length}
use Rattle.rules_refusals.proofs.OneOf.{or-joined}
use Rattle.octets.specs.Compare.{same}
use Rattle.octets.proofs.Order.{eq-same}
use Rattle.state_keys.specs.Limits.{Limits}
use Rattle.lists.specs.Lists.{any, count, insert}
use Rattle.lists.proofs.Cases.{bool_cases, and-whole}
use Rattle.lists.proofs.Rising.{length-insert, count-insert}
use Rattle.wire_policies.specs.Policy.{GroupSaPolicy}
use Rattle.state_sa.specs.Entry.{sa_spi, sa_before, named, live_rekey}
use Rattle.state_sa.specs.declared.entry.Sa.{Sa}
use Rattle.state_table.specs.Table.{table_of}
use Rattle.state_table.specs.inner.Changes.{entered}
use Rattle.state_table.specs.Blank.{TableBlank}
use Rattle.state_table.proofs.Kept.{Fit, fit-entered, sas-of-table}
use Rattle.state_table.proofs.Blanks.{entered-blank}
use Rattle.rules_refusals.specs.Fitness.{is_rekey}
use Rattle.rules_refusals.specs.Number6.{policy_named}
use Rattle.rules_outcome.specs.After.{sa_from, insert_all}
use Rattle.rules_outcome.proofs.RunsLists.{any-insert, count_none}
use Rattle.rules_outcome.proofs.RunsMade.{Made, none_made, and-made, made-protocol, made-spi, made-formed, made-blank}
use Rattle.rules_outcome.proofs.RunsMade.{made-length, made-count, made-any}

-- ---- SAs put in their places one by one
pub length-all : (m l : List Sa) → length (insert_all m l) ≡ length m + length l
unfolding insert_all
length-all [] l = omega arith
length-all (a ∷ m) l = let h = length-all m l in let k = length-insert sa_before a (insert_all m l) in omega arith

pub any-all : (q : Sa → Bool) (m l : List Sa) → any q (insert_all m l) ≡ (any q m || any q l)
unfolding insert_all any
any-all q [] l = refl
any-all q (a ∷ m) l =
    any-insert sa_before q a (insert_all m l) ∙ ap (λ (b : Bool). q a || b) (any-all q m l) ∙ or-joined (q a) (any q m) (any q l)

pub count-all : (q : Sa → Bool) (m l : List Sa) → count q (insert_all m l) ≡ count q m + count q l
unfolding insert_all count
count-all q [] l = omega arith
count-all q (a ∷ m) l =
    let h = count-all q m l in
    count-insert sa_before q a (insert_all m l)
    ∙ bool_cases (q a) (λ g. rw g (omega arith)) (λ g. rw g h)

count-first : (q : Sa → Bool) (a : Sa) (m l : List Sa) → count q (a ∷ l) + count q m ≡ count q (a ∷ m) + count q l
unfolding count
count-first q a m l = bool_cases (q a) (λ g. rw g (omega arith)) (λ g. rw g (omega arith))

count-rest : {A : Type 0} (q : A → Bool) (a : A) (l : List A) → count q l ≤ count q (a ∷ l)
unfolding count
count-rest q a l = bool_cases (q a) (λ g. rw g (omega arith)) (λ g. rw g (omega arith))

-- ---- no two policies of a list have one protocol and SPI
pub data Apart : List GroupSaPolicy → Type 0 where
  no-policy : Apart []
  another : {a : GroupSaPolicy} {l : List GroupSaPolicy} → any (policy_named a.protocol a.spi) l ≡ false → Apart l → Apart (a ∷ l)

own_name : (a : GroupSaPolicy) → policy_named a.protocol a.spi a ≡ true
own_name a =
    and-whole (eqb a.protocol a.protocol) (same a.spi a.spi) (eq-eqb a.protocol a.protocol refl)
    (eq-same a.spi a.spi refl)

pub counted-apart : (l : List GroupSaPolicy) →
    ((a : GroupSaPolicy) → Memᴰ a l → count (policy_named a.protocol a.spi) l ≤ 1) → Apart l
unfolding count
counted-apart [] f = no-policy
counted-apart (a ∷ l) f =
    let p = policy_named a.protocol a.spi in
    let h : count p l + 1 ≤ 1 = rw (own_name a) at (f a (Memᴰ.head refl)) in
    another (count_none p l (omega arith))
    (counted-apart l
    (λ b m.
    let k = f b (Memᴰ.tail m) in
    let r = count-rest (policy_named b.protocol b.spi) a l in
    omega arith))

-- ---- the new SAs enter
module _ (limits : Limits) (old : List Sa) where
  pub new-fit : Fit limits old → {now : ℕ} {l : List GroupSaPolicy} {m : List Sa} → Made now l m →
      length l + length old ≤ limits.sas → Apart l →
      ((a : GroupSaPolicy) → Memᴰ a l → any (named a.protocol a.spi) old ≡ false) →
      count is_rekey l + count live_rekey old ≤ 1 → Fit limits (insert_all m old)
  unfolding insert_all
  new-fit k none_made r d n o = k
  new-fit k {now} (and-made {l} {m} a x y t z e) r (another u d) n o =
      let fewer = count-rest is_rekey a l in
      let h = new-fit k e (omega arith) d (λ b i. n b (Memᴰ.tail i)) (omega arith) in
      let s = sa_from now a x in
      let w = insert_all m old in
      let c1 = made-length e in
      let c2 = length-all m old in
      let c3 = made-count (and-made a x y t z e) in
      let c4 = count-all live_rekey m old in
      let c5 = count-first live_rekey s m w in
      let name : any (named s.protocol (sa_spi s)) w ≡ false =
      (λ i. any (named (made-protocol now a x y i) (made-spi now a x y i)) w) ∙ any-all (named a.protocol a.spi) m old
      ∙ rw (made-any a.protocol a.spi e, u) (n a (Memᴰ.head refl)) in
      fit-entered limits s w h (omega arith) (made-formed now a x z y t) name (omega arith)

  entered-is : (a : Sa) (l : List Sa) → length l < limits.sas → entered limits a (table_of limits l) ≡ table_of limits (insert sa_before a l)
  unfolding entered table_of
  entered-is a l h =
      rw (lt-ltb (length l) limits.sas h) (ap (λ (x : List Sa). table_of limits (insert sa_before a x)) (sas-of-table limits l))

  pub new-blank : TableBlank limits (table_of limits old) → {now : ℕ} {l : List GroupSaPolicy} {m : List Sa} → Made now l m →
      length l + length old ≤ limits.sas → TableBlank limits (table_of limits (insert_all m old))
  unfolding insert_all
  new-blank b none_made r = b
  new-blank b {now} (and-made {l} {m} a x y t z e) r =
      let s = sa_from now a x in
      let w = insert_all m old in
      let c1 = made-length e in
      let c2 = length-all m old in
      subst (TableBlank limits) (entered-is s w (omega arith))
      (entered-blank limits s (table_of limits w) (made-blank now a x z y) (new-blank b e (omega arith)))
