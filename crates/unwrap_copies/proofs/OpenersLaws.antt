-- The openers of a list of copies, noted one copy after the other.
use native.Mathlib.Omega.{arith}
use Prim.Native.Nat.{ℕ, ◌≤◌}
use mathlib.Core.Path.{◌≡◌, refl, ap, sym, ◌∙◌, subst}
use mathlib.Core.Bool.{Bool, true, false, false≢true}
use mathlib.Core.Logic.{⊎_elim}
use mathlib.Core.List.Memᴰ
use mathlib.Core.List.{List, [], ◌∷◌, ◌++◌, append-nil, append_assoc, Memᴰ}
use lib.ListN.{length, take, length-append}
use Rattle.rfc5649.specs.Opens.{Opens}
use Rattle.state_keys.specs.Limits.{limits}
use Rattle.state_keys.specs.Kinds.{value_of}
use Rattle.state_keys.specs.declared.kinds.WrappingKey.{WrappingKey}
use Rattle.lists.proofs.Cases.{lt-cases}
use Rattle.wire_attributes.specs.Tree.{SaKey, WrapKey}
use Rattle.state.specs.declared.held.HeldKey.{HeldKey}
use Rattle.rules_chains.specs.Chain.{Root}
use Rattle.rules_chains.proofs.Members.{in-member, member-in}
use Rattle.unwrap_copies.specs.declared.answer.CopyFound.{CopyFound}
use Rattle.unwrap_copies.specs.declared.answer.CopyFound.TheVariants.{Nothing, Key, Conflict}
use Rattle.unwrap_copies.specs.declared.answer.CopyOpened.{CopyOpened}
use Rattle.unwrap_copies.specs.declared.answer.Openers.{Openers}
use Rattle.unwrap_copies.specs.inner.Known.{Agrees}
use Rattle.unwrap_copies.specs.inner.Named.{try_of, try_for, tries_of_all}
use Rattle.unwrap_copies.specs.inner.Openers.{openers_of, Noted, OpenersAre}
use Rattle.unwrap_copies.specs.inner.Tries.{Try, SomeOpens, TriesConflict, wrong_size, two-values, TriesKey, CopyTells}
use Rattle.unwrap_copies.proofs.Joining.{told, conflict-wider}
use Rattle.unwrap_copies.proofs.Reaching.{of-tries, known-try, try-known}

-- ---- what was found is one of three
is_key : CopyFound → Bool
is_key Nothing = false
is_key Key = true
is_key Conflict = false

no_key : (f g : CopyFound) → f ≡ g → is_key g ≡ false → f ≡ Key → ⊥
unfolding is_key
no_key f g e n k = false≢true (sym n ∙ ap is_key (sym e ∙ k))

-- one value is no conflict
pub no-conflict : (l : List Try) (need : ℕ) (octets : List ℕ) (count : ℕ) → TriesKey l need octets count → TriesConflict l need → ⊥
no-conflict l need o c t (wrong_size x s f) = f (ap length (t.every x s) ∙ t.size)
no-conflict l need o c t (two-values x y s u f) = f (t.every x s ∙ sym (t.every y u))

module _ (need : ℕ) (v : List ℕ) (new old : List HeldKey) where
  -- the copies `all` are those passed and those left; `o` lists the openers of those passed, if no two copies conflict and the list takes
  -- all copies
  pub record Listed (all left : List SaKey) (o : Openers) : Type 0 where
    pub passed : List SaKey
    pub joins : passed ++ left ≡ all
    pub few : o.count ≤ length passed
    pub each : (i : ℕ) → Memᴰ i (openers_of o) → (c : SaKey) × Memᴰ c passed × (x : List ℕ) × SomeOpens (try_for v new old c) x
        × (c.kwk_id ≡ i)
    pub every : (TriesConflict (tries_of_all v new old all) need → ⊥) → length all ≤ limits.sa_keys → (c : SaKey) → Memᴰ c passed →
        (x : List ℕ) → SomeOpens (try_for v new old c) x → Memᴰ c.kwk_id (openers_of o)

  pub listed-none : (all : List SaKey) (o : Openers) → o.count ≡ 0 → Listed all all o
  listed-none all o e = record {
    passed = [];
    joins = refl;
    few = omega (arith, e);
    each = λ i m. absurd (Memᴰ.not-nil (subst (λ (n : ℕ). Memᴰ i (take n o.ids)) e m));
    every = λ n h c m. absurd (Memᴰ.not-nil m);
  }

  module _ (all rest : List SaKey) (c : SaKey) (o r : Openers) (w : Listed all (c ∷ rest) o) (one : CopyOpened)
      (t : CopyTells (try_for v new old c) need one) (n : Noted one.found c.kwk_id o r) where
    abbrev passed : List SaKey
    passed = w.passed ++ (c ∷ [])

    joins : passed ++ rest ≡ all
    joins = append_assoc w.passed (c ∷ []) rest ∙ w.joins

    few : r.count ≤ length passed
    few = omega (arith, n.few, w.few, length-append w.passed (c ∷ []))

    -- it stands among all
    stands : Memᴰ c all
    stands = subst (Memᴰ c) w.joins (Memᴰ.append_right w.passed (Memᴰ.head refl))

    abbrev NoConflict : Type 0
    NoConflict = TriesConflict (tries_of_all v new old all) need → ⊥

    earlier : (i : ℕ) → Memᴰ i (openers_of o)
        → (d : SaKey) × Memᴰ d passed × (x : List ℕ) × SomeOpens (try_for v new old d) x × (d.kwk_id ≡ i)
    earlier i m = let e = w.each i m in (e.0, Memᴰ.append_left (c ∷ []) e.1, e.2, e.3, e.4)

    -- the list stays: no try of the copy opens, or all tries conflict
    module _ (kept : r ≡ o) (none : NoConflict → (x : List ℕ) → SomeOpens (try_for v new old c) x → ⊥) where
      stays : Listed all rest r
      stays = record {
        passed = passed;
        joins = joins;
        few = few;
        each = λ i m. earlier i (subst (λ (y : Openers). Memᴰ i (openers_of y)) kept m);
        every = λ q h d m x s.
            subst (λ (y : Openers). Memᴰ d.kwk_id (openers_of y)) (sym kept)
            (⊎_elim (λ p. w.every q h d p x s)
            (λ p. absurd (none q x (subst (λ (y : SaKey). SomeOpens (try_for v new old y) x) (Memᴰ.eq_of_singleton p) s)))
            (Memᴰ.append_cases w.passed m));
      }

    -- the copy opens
    module _ (x : List ℕ) (opens : SomeOpens (try_for v new old c) x) where
      longer : openers_of r ≡ openers_of o ++ (c.kwk_id ∷ []) → Listed all rest r
      longer e = record {
        passed = passed;
        joins = joins;
        few = few;
        each = λ i m.
            ⊎_elim (λ p. earlier i p)
            (λ p. (c, Memᴰ.append_right w.passed (Memᴰ.head refl), x, opens, sym (Memᴰ.eq_of_singleton p)))
            (Memᴰ.append_cases (openers_of o) (subst (Memᴰ i) e m));
        every = λ q h d m y s.
            subst (Memᴰ d.kwk_id) (sym e)
            (⊎_elim (λ p. Memᴰ.append_left (c.kwk_id ∷ []) (w.every q h d p y s))
            (λ p. Memᴰ.append_right (openers_of o) (Memᴰ.head (ap (λ (z : SaKey). z.kwk_id) (Memᴰ.eq_of_singleton p))))
            (Memᴰ.append_cases w.passed m));
      }

      over : limits.sa_keys ≤ o.count → r ≡ o → Listed all rest r
      over h kept = record {
        passed = passed;
        joins = joins;
        few = few;
        each = λ i m. earlier i (subst (λ (y : Openers). Memᴰ i (openers_of y)) kept m);
        every = λ q k d m y s.
            absurd (omega (arith, h, k, w.few, length-append w.passed (c ∷ rest), ap length w.joins));
      }

    by : (f : CopyFound) → one.found ≡ f → Listed all rest r
    unfolding is_key
    by Nothing e = stays (n.kept (no_key one.found Nothing e refl)) (λ q. told (try_for v new old c) need one Nothing e t)
    by Conflict e =
        stays (n.kept (no_key one.found Conflict e refl))
        (λ q x s. q (conflict-wider (try_for v new old c) (tries_of_all v new old all) need
        (λ y u. record {
          one = u.one;
          stands =
              member-in u.one (tries_of_all v new old all)
              (of-tries v new old all c u.one stands (in-member u.one (try_for v new old c) u.stands));
          opens = u.opens;
        })
        (told (try_for v new old c) need one Conflict e t)))
    by Key e =
        let k = told (try_for v new old c) need one Key e t in
        lt-cases o.count limits.sa_keys (λ h. longer _ k.opens (n.listed e h)) (λ h. over _ k.opens h (n.full e h))

    pub listed_next : Listed all rest r
    listed_next = by one.found refl

-- ---- all copies are passed
module _ (need : ℕ) (zero : WrappingKey) (new old : List HeldKey) (copies : List SaKey) (o : Openers) (left : List SaKey)
    (w : Listed need (value_of zero) new old copies left o) (none : left ≡ []) where
  all-passed : w.passed ≡ copies
  all-passed = sym (append-nil w.passed) ∙ ap (λ (l : List SaKey). w.passed ++ l) (sym none) ∙ w.joins

  module _ (roots : List Root) (entries : List WrapKey) (size : ℕ) (g : Agrees roots entries size zero new old)
      (fit : TriesConflict (tries_of_all (value_of zero) new old copies) need → ⊥) (room : length copies ≤ limits.sa_keys) where
    pub openers-are : OpenersAre roots entries size copies (openers_of o)
    openers-are = record {
      each = λ i m.
          let e = w.each i (in-member i (openers_of o) m) in
          let c = e.0 in
          let s = e.3 in
          let k = try-known zero new old c s.one (in-member s.one (try_for (value_of zero) new old c) s.stands) in (
            c,
            member-in c copies (subst (Memᴰ c) all-passed e.1),
            record {
              value = k.0;
              named = g.ends c.kwk_id k.0 k.1;
              octets = e.2;
              opens = subst (λ (t : Try). Opens t.key t.wrapped e.2) (sym k.2) s.opens;
            },
            e.4,
          );
      all = λ c m p.
          let k = g.known c.kwk_id p.value p.named in
          let t = known-try zero new old c.kwk_id p.value c k refl in
          member-in c.kwk_id (openers_of o)
          (w.every fit room c (subst (Memᴰ c) (sym all-passed) (in-member c copies m)) p.octets
          (record {
            one = try_of p.value c;
            stands = member-in (try_of p.value c) (try_for (value_of zero) new old c) t;
            opens = p.opens;
          }));
    }
