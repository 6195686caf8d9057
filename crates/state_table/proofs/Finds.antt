-- What is found in a table: the one SA with a protocol and SPI, and the one live Rekey SA.
use native.Mathlib.Omega.{arith}
use Prim.Native.Nat.{ℕ, ◌+◌, ◌≤◌}
use mathlib.Core.Path.{◌≡◌, refl, ap, sym, ◌∙◌}
use mathlib.Core.Bool.{Bool, true, false, false≢true}
use mathlib.Core.Logic.{⊎_elim}
use mathlib.Core.List.Memᴰ
use mathlib.Core.List.{List, [], ◌∷◌, Memᴰ}
use Rattle.state_keys.specs.Limits.{Limits}
use Rattle.lists.specs.Lists.{any, count, rising}
use Rattle.lists.proofs.Cases.{bool_cases}
use Rattle.lists.proofs.Rising.{first-before, rising-rest, rising-unique}
use Rattle.state_sa.specs.Entry.{sa_spi, sa_before, named, live_rekey}
use Rattle.state_sa.specs.declared.entry.Sa.{Sa}
use Rattle.state_sa.proofs.Order.{before-trans, before-irrefl, same-not-before, named-is}
use Rattle.state_table.specs.declared.Table.{Table}
use Rattle.std.specs.Prelude.{Some}
use Rattle.std.proofs.lemmas.Option.{none-some, same_Some}
use Rattle.state_table.specs.Table.{sas_of, table_formed, none, the_one, found_sa, found_rekey}
use Rattle.state_table.proofs.Laws.{found_in}
use Rattle.state_table.proofs.Kept.{formed-count, formed-fit}

-- the SAs of two well-formed tables with the same members are the same list
pub table-unique : (limits : Limits) (t u : Table) → table_formed limits t ≡ true → table_formed limits u ≡ true →
    ((s : Sa) → Memᴰ s (sas_of t) → Memᴰ s (sas_of u)) →
    ((s : Sa) → Memᴰ s (sas_of u) → Memᴰ s (sas_of t)) → sas_of t ≡ sas_of u
table-unique limits t u e f g h =
    rising-unique sa_before before-trans before-irrefl (sas_of t) (sas_of u) (formed-fit limits t e).rises (formed-fit limits u f).rises g h

module _ (p : Sa → Bool) where
  count-some : (s : Sa) (l : List Sa) → Memᴰ s l → p s ≡ true → 1 ≤ count p l
  unfolding count
  count-some s [] m e = absurd (Memᴰ.not-nil m)
  count-some s (a ∷ l) m e =
      bool_cases (p a) (λ g. rw g (omega arith))
      (λ g.
      rw g
      (⊎_elim (λ q. absurd (false≢true (sym g ∙ ap p (sym q) ∙ e))) (λ q. count-some s l q e) (Memᴰ.cases_cons m)))

  -- where at most one of the list passes, a member that does is the one found
  pub one_found : (s : Sa) (l : List Sa) → count p l ≤ 1 → Memᴰ s l → p s ≡ true → the_one p l ≡ Some s
  unfolding count the_one
  one_found s [] c m e = absurd (Memᴰ.not-nil m)
  one_found s (a ∷ l) c m e =
      bool_cases (p a)
      (λ g.
      let k : count p l + 1 ≤ 1 = rw g at c in
      rw g
      (⊎_elim (λ q. ap Some (sym q))
      (λ q. let h = count-some s l q e in absurd (omega arith)) (Memᴰ.cases_cons m)))
      (λ g.
      let k : count p l ≤ 1 = rw g at c in
      rw g
      (⊎_elim (λ q. absurd (false≢true (sym g ∙ ap p (sym q) ∙ e))) (λ q. one_found s l k q e) (Memᴰ.cases_cons m)))

  -- what is found is a member that passes
  pub found-passes : (s : Sa) (l : List Sa) → the_one p l ≡ Some s → Memᴰ s l × (p s ≡ true)
  unfolding the_one
  found-passes s [] e = absurd (none-some s e)
  found-passes s (a ∷ l) e =
      bool_cases (p a)
      (λ g.
      let q : a ≡ s = same_Some a s (rw g at e) in
      (Memᴰ.head (sym q), ap p (sym q) ∙ g))
      (λ g. let r = found-passes s l (rw g at e) in (Memᴰ.tail r.0, r.1))

  -- none is found exactly where none passes
  pub none_found : (l : List Sa) → any p l ≡ false → the_one p l ≡ none
  unfolding the_one any
  none_found [] e = refl
  none_found (a ∷ l) e = bool_cases (p a) (λ g. absurd (false≢true (sym e ∙ rw g))) (λ g. rw g (none_found l (rw g at e)))

  count-zero : (l : List Sa) → ((b : Sa) → Memᴰ b l → p b ≡ false) → count p l ≡ 0
  unfolding count
  count-zero [] f = refl
  count-zero (a ∷ l) f = rw (f a (Memᴰ.head refl)) (count-zero l (λ b m. f b (Memᴰ.tail m)))

-- a table that rises has at most one SA with a protocol and SPI
pub named-once : (q : ℕ) (x : List ℕ) (l : List Sa) → rising sa_before l ≡ true → count (named q x) l ≤ 1
unfolding count
named-once q x [] r = omega arith
named-once q x (a ∷ l) r =
    bool_cases (named q x a)
    (λ g.
    let n = named-is q x a g in
    let z = count-zero (named q x) l (λ b m. other a b n (first-before sa_before before-trans before-irrefl a b l r m)) in
    rw (g, z) (omega arith))
    (λ g. rw g (named-once q x l (rising-rest sa_before before-trans before-irrefl a l r)))
  where
    other : (a b : Sa) → (a.protocol ≡ q) × (sa_spi a ≡ x) → sa_before a b ≡ true → named q x b ≡ false
    other a b n h =
        bool_cases (named q x b)
        (λ g.
        let m = named-is q x b g in
        absurd (false≢true (sym (same-not-before a b (n.0 ∙ sym m.0, n.1 ∙ sym m.1)) ∙ h)))
        (λ g. g)

-- ---- in a table that is as it must be
module _ (limits : Limits) (t : Table) (e : table_formed limits t ≡ true) where
  -- the SA with a protocol and SPI is found exactly where it stands in the table
  pub sa-found : (q : ℕ) (x : List ℕ) (s : Sa) → Memᴰ s (sas_of t) → named q x s ≡ true →
      found_sa limits q x t ≡ Some s
  unfolding found_sa
  sa-found q x s m n =
      found_in limits (named q x) t (formed-count limits t e)
      ∙ one_found (named q x) s (sas_of t) (named-once q x (sas_of t) (formed-fit limits t e).rises) m n

  pub found-sa : (q : ℕ) (x : List ℕ) (s : Sa) → found_sa limits q x t ≡ Some s →
      Memᴰ s (sas_of t) × (named q x s ≡ true)
  unfolding found_sa
  found-sa q x s f = found-passes (named q x) s (sas_of t) (sym (found_in limits (named q x) t (formed-count limits t e)) ∙ f)

  -- so is the live Rekey SA
  pub rekey-found : (s : Sa) → Memᴰ s (sas_of t) → live_rekey s ≡ true → found_rekey limits t ≡ Some s
  unfolding found_rekey
  rekey-found s m n =
      found_in limits live_rekey t (formed-count limits t e) ∙ one_found live_rekey s (sas_of t) (formed-fit limits t e).one m n
