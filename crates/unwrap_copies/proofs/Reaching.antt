-- The tries of the walk are those of the definitions: a copy under the key that its KWK ID names.
use Prim.Native.Nat.{ℕ}
use mathlib.Core.Path.{◌≡◌, refl, ap, sym, ◌∙◌, subst}
use mathlib.Core.Logic.{⊎_elim}
use mathlib.Core.List.Memᴰ
use mathlib.Core.List.{List, [], ◌∷◌, Memᴰ}
use borrow.Author.Tests.{eq-eqb, ne_eqb, eqb-true, eqb-false}
use lib.Dec.{eqb}
use lib.ListN.{length, take}
use Rattle.rfc5649.specs.Opens.{Opens}
use Rattle.wire_attributes.specs.Tree.{SaKey, WrapKey}
use Rattle.rules_chains.specs.Chain.{Root, CopyOpens}
use Rattle.rules_chains.specs.Refusals.{Announced, CopiesConflict, wrong_size, two-values}
use Rattle.rules_chains.proofs.Members.{in-member, member-in}
use Rattle.state_keys.specs.Kinds.{value_of}
use Rattle.state_keys.specs.declared.kinds.WrappingKey.{WrappingKey}
use Rattle.lists.proofs.Cases.{bool_cases}
use Rattle.state.specs.declared.held.HeldKey.{HeldKey}
use Rattle.unwrap_lending.specs.inner.Named.{octets_named}
use Rattle.unwrap_copies.specs.declared.answer.CopyFound.{CopyFound}
use Rattle.unwrap_copies.specs.declared.answer.CopyFound.TheVariants.{Nothing, Key, Conflict}
use Rattle.unwrap_copies.specs.declared.answer.CopyOpened.{CopyOpened}
use Rattle.unwrap_copies.specs.inner.Known.{Known, key-zero, named as known-named, Agrees}
use Rattle.unwrap_copies.specs.inner.Answer.{CopyAnswersBy, CopyAnswers}
use Rattle.unwrap_copies.specs.inner.Tries.{Try, SomeOpens, TriesConflict, CopyTellsBy, CopyTells}
use Rattle.unwrap_copies.specs.inner.Tries as tries
use Rattle.unwrap_copies.specs.inner.Named.{try_of, try_for, tries_of_all}

-- ---- the tries of some copies are those of each
module _ (v : List ℕ) (new old : List HeldKey) where
  pub tries_of : (copies : List SaKey) (t : Try) → Memᴰ t (tries_of_all v new old copies) →
      (c : SaKey) × Memᴰ c copies × Memᴰ t (try_for v new old c)
  unfolding tries_of_all
  tries_of [] t m = absurd (Memᴰ.not-nil m)
  tries_of (c ∷ l) t m =
      ⊎_elim (λ d. (c, Memᴰ.head refl, d)) (λ d. let r = tries_of l t d in (r.0, Memᴰ.tail r.1, r.2))
      (Memᴰ.append_cases (try_for v new old c) m)

  module _ (c : SaKey) (t : Try) where
    of-tries-at : (copies : List SaKey) → Memᴰ c copies → Memᴰ t (try_for v new old c) → Memᴰ t (tries_of_all v new old copies)
    unfolding tries_of_all
    of-tries-at _ (Memᴰ.head {x} {xs} e) m =
        Memᴰ.append_left (tries_of_all v new old xs) (subst (λ (a : SaKey). Memᴰ t (try_for v new old a)) e m)
    of-tries-at _ (Memᴰ.tail {x} {xs} d) m = Memᴰ.append_right (try_for v new old x) (of-tries-at xs d m)

  pub of-tries : (copies : List SaKey) (c : SaKey) (t : Try) → Memᴰ c copies → Memᴰ t (try_for v new old c) →
      Memᴰ t (tries_of_all v new old copies)
  of-tries copies c t d m = of-tries-at c t copies d m

-- ---- the try of a copy is that under the key that it names
module _ (zero : WrappingKey) (new old : List HeldKey) where
  abbrev v : List ℕ
  v = value_of zero

  pub known-try : (j : ℕ) (w : List ℕ) (c : SaKey) → Known zero new old j w → c.kwk_id ≡ j → Memᴰ (try_of w c) (try_for v new old c)
  known-try _ _ c key-zero q = rw (eq-eqb c.kwk_id 0 q) (Memᴰ.head refl)
  known-try _ _ c (known-named id z f) q =
      let e : octets_named c.kwk_id new old ≡ octets_named id new old = ap (λ (j : ℕ). octets_named j new old) q in
      rw (ne_eqb c.kwk_id 0 (λ y. z (sym q ∙ y)), e, ne_eqb (length (octets_named id new old)) 0 f) (Memᴰ.head refl)

  pub try-known : (c : SaKey) (t : Try) → Memᴰ t (try_for v new old c) →
      (w : List ℕ) × Known zero new old c.kwk_id w × (try_of w c ≡ t)
  try-known c t m =
      bool_cases (eqb c.kwk_id 0)
      (λ g.
      let q = Memᴰ.eq_of_singleton (rw g at m) in
      (v, subst (λ (j : ℕ). Known zero new old j v) (sym (eqb-true c.kwk_id 0 g)) key-zero, sym q))
      (λ g.
      let u = rw g at m in
      let x = octets_named c.kwk_id new old in
      bool_cases (eqb (length x) 0) (λ f. absurd (Memᴰ.not-nil (rw f at u)))
      (λ f.
      let q = Memᴰ.eq_of_singleton (rw f at u) in
      (x, known-named c.kwk_id (eqb-false c.kwk_id 0 g) (eqb-false (length x) 0 f), sym q)))

  module _ (copies : List SaKey) where
    abbrev pub all_tries : List Try
    all_tries = tries_of_all v new old copies

    module _ (roots : List Root) (entries : List WrapKey) (size : ℕ) (g : Agrees roots entries size zero new old) where
      to : (x : List ℕ) → SomeOpens all_tries x → CopyOpens roots entries size copies x
      to x s =
          let d = tries_of v new old copies s.one (in-member s.one all_tries s.stands) in
          let c = d.0 in
          let k = try-known c s.one d.2 in
          record {
            copy = c;
            stands = member-in c copies d.1;
            value = k.0;
            named = g.ends c.kwk_id k.0 k.1;
            opens = subst (λ (t : Try). Opens t.key t.wrapped x) (sym k.2) s.opens;
          }

      from : (x : List ℕ) → CopyOpens roots entries size copies x → SomeOpens all_tries x
      from x o =
          let c = o.copy in
          let k = g.known c.kwk_id o.value o.named in
          let m = known-try c.kwk_id o.value c k refl in
          let t = of-tries v new old copies c (try_of o.value c) (in-member c copies o.stands) m in
          record { one = try_of o.value c; stands = member-in (try_of o.value c) all_tries t; opens = o.opens }

      module _ (need : ℕ) where
        abbrev a : Announced
        a = record { copies = copies; need = need }

        eight : TriesConflict all_tries need → CopiesConflict roots entries size a
        eight (tries.wrong_size x s f) = wrong_size x (to x s) f
        eight (tries.two-values x y s t f) = two-values x y (to x s) (to y t) f

        fit : (octets : List ℕ) (count : ℕ) → tries.TriesKey all_tries need octets count → CopiesConflict roots entries size a → ⊥
        fit o c t (wrong_size x p f) = f (ap length (t.every x (from x p)) ∙ t.size)
        fit o c t (two-values x y p q f) = f (t.every x (from x p) ∙ sym (t.every y (from y q)))

        by : (f : CopyFound) (octets : List ℕ) (count : ℕ) → CopyTellsBy all_tries need f octets count →
            CopyAnswersBy roots entries size a f octets count
        by Conflict o c t = eight t
        by Nothing o c t = λ x p. t x (from x p)
        by Key o c t =
            record {
              key = record { opens = to (take c o) t.opens; every = λ y p. t.every y (from y p) };
              need = t.need-is;
              length-is = t.size;
              blanks = t.blanks;
              fit = fit o c t;
            }

        -- what is told of the tries is the answer
        pub answers : (r : CopyOpened) → CopyTells all_tries need r → CopyAnswers roots entries size a r
        answers r t = by r.found r.octets r.count t
