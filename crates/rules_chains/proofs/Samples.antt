-- Document 01's three samples of chains, on the definitions. Nothing is assumed to open: an entry is any octets of the lent key's size,
-- wrapped by RFC 5649 under a key of that size. This file and the laws beside it pin the definitions of the crate:
-- each of its must-fail edits is refused in one of them.
use native.Mathlib.Omega.{arith}
use Prim.Native.Nat.{ℕ}
use mathlib.Core.Path.{◌≡◌, refl, ap, sym, ◌∙◌, subst}
use mathlib.Core.Logic.{⊎_elim}
use mathlib.Core.List.Memᴰ
use mathlib.Core.List.{List, [], ◌∷◌, Memᴰ}
use lib.Dec.{T}
use lib.ListN.{length}
use Rattle.octets.specs.Octets.{Octets}
use Rattle.fips197.specs.Key.{Key, is_key}
use Rattle.fips197.proofs.Expansion.{sizes}
use Rattle.rfc5649.specs.Wrap.{wrap_of}
use Rattle.rfc5649.specs.Opens.{Opens}
use Rattle.rfc5649.proofs.Determined.{opens_one}
use Rattle.wire_attributes.specs.Tree.{WrapKey}
use Rattle.rules_chains.specs.Chain.{In, Root, Chain, root, step, Reached}
use Rattle.rules_chains.specs.Refusals.{EntriesConflict, wrong_size, two-values}
use Rattle.rules_chains.proofs.Determined.{last_entry}
use Rattle.rules_chains.proofs.Members.{in-member, member-in}

-- exactly these keys are reached, each with its one value, and number 8 does not hold of the entries
pub record Reaches (roots : List Root) (entries : List WrapKey) (size : ℕ) (keys : List Root) : Type 0 where
  pub each : (r : Root) → In r keys → Reached roots entries size r.id r.value
  pub only : (k : ℕ) (x : List ℕ) → Reached roots entries size k x → In (record { id = k; value = x }) keys
  pub fit : EntriesConflict roots entries size → ⊥

abbrev key : ℕ → List ℕ → Root
key k v = record { id = k; value = v }

-- a member of a list of two
by-member : {A : Type 0} (x a b : A) (P : A → Type 0) → P a → P b → Memᴰ x (a ∷ b ∷ []) → P x
by-member x a b P p q m =
    ⊎_elim (λ e. subst P (sym e) p) (λ d. subst P (sym (Memᴰ.eq_of_singleton d)) q) (Memᴰ.cases_cons m)

-- what holds of the roots, and of what an entry leads to where it holds of the key that the entry names, holds of what a chain ends on
module _ (roots : List Root) (entries : List WrapKey) (size : ℕ) (K : ℕ → List ℕ → Type 0)
    (at-root : (r : Root) → Memᴰ r roots → K r.id r.value)
    (at_entry_lem : (e : WrapKey) → Memᴰ e entries → (v x : List ℕ) → K e.kwk_id v → Opens v e.wrapped x → K e.key_id x) where
  chain-in : (passed : List WrapKey) (k : ℕ) (v : List ℕ) → Chain roots entries size passed k v → K k v
  chain-in _ _ _ (root r i) = at-root r (in-member r roots i)
  chain-in _ _ x (step {passed = p} {k = k} {v = v} e c t l) =
      at_entry_lem e (in-member e entries l.entry) v x (subst (λ (j : ℕ). K j v) (sym l.names) (chain-in p k v c)) l.opens

module _ (zero : List ℕ) (is : Key zero) where
  -- octets of the lent key's size
  pub record Fit (x : List ℕ) : Type 0 where
    pub octets : Octets x
    pub size : length x ≡ length zero

  abbrev pub lent : List Root
  lent = key 0 zero ∷ []

  -- the key k of value x, wrapped under the key j of value v
  abbrev pub under : ℕ → ℕ → List ℕ → List ℕ → WrapKey
  under k j v x = record { key_id = k; kwk_id = j; wrapped = wrap_of v x }

  fit-key : (x : List ℕ) → Fit x → Key x
  fit-key x f = record { size = subst (λ (n : ℕ). T (is_key n)) (sym f.size) is.size; small = f.octets }

  pub opens : (v x : List ℕ) → Fit x → Opens v (wrap_of v x) x
  opens v x f =
      let s = sizes (length zero) is.size in
      record {
        least = omega (arith, s.words, s.least, f.size);
        most = omega (arith, s.words, s.most, f.size);
        octets = f.octets;
        wraps = refl;
      }

  opens-only : (v x y : List ℕ) → Key v → Fit x → Opens v (wrap_of v x) y → y ≡ x
  opens-only v x y k f o = opens_one v (wrap_of v x) y x k o (opens v x f)

  -- an entry of the frame under the lent key is reached
  from-lent : (entries : List WrapKey) (k : ℕ) (x : List ℕ) → Fit x → Memᴰ (under k 0 zero x) entries →
      Chain lent entries (length zero) (under k 0 zero x ∷ []) k x
  from-lent entries k x f m =
      step (under k 0 zero x) (root (key 0 zero) (member-in (key 0 zero) lent (Memᴰ.head refl))) tt
      (record { entry = member-in (under k 0 zero x) entries m; names = refl; opens = opens zero x f })

  -- and one under a key that the lent key wraps
  from_next : (entries : List WrapKey) (k j : ℕ) (v x : List ℕ) → Fit v → Fit x → Memᴰ (under j 0 zero v) entries →
      Memᴰ (under k j v x) entries → Reached lent entries (length zero) k x
  from_next entries k j v x f g m n =
      record {
        last = under k j v x;
        before = under j 0 zero v ∷ [];
        chain = step (under k j v x) (from-lent entries j v f m) f.size
            (record { entry = member-in (under k j v x) entries n; names = refl; opens = opens v x g });
      }

  -- "entries (5 under 9), (9 under 0), both opening: held 5, 9"
  module _ (five nine : List ℕ) (f : Fit five) (g : Fit nine) where
    abbrev upward : List WrapKey
    upward = under 5 9 nine five ∷ under 9 0 zero nine ∷ []

    abbrev keys : List Root
    keys = key 5 five ∷ key 9 nine ∷ []

    -- the one value of each Key ID
    record Valued (k : ℕ) (x : List ℕ) : Type 0 where
      at_zero : k ≡ 0 → x ≡ zero
      at_five : k ≡ 5 → x ≡ five
      at-nine : k ≡ 9 → x ≡ nine

    valued-root : (r : Root) → Memᴰ r lent → Valued r.id r.value
    valued-root r m =
        subst (λ (a : Root). Valued a.id a.value) (sym (Memᴰ.eq_of_singleton m))
        (record { at_zero = λ e. refl; at_five = λ e. absurd (omega arith); at-nine = λ e. absurd (omega arith) })

    valued-five : (v x : List ℕ) → Valued 9 v → Opens v (wrap_of nine five) x → Valued 5 x
    valued-five v x k o =
        let q = subst (λ (a : List ℕ). Opens a (wrap_of nine five) x) (k.at-nine refl) o in
        record {
          at_zero = λ e. absurd (omega arith);
          at_five = λ e. opens-only nine five x (fit-key nine g) f q;
          at-nine = λ e. absurd (omega arith);
        }

    valued-nine : (v x : List ℕ) → Valued 0 v → Opens v (wrap_of zero nine) x → Valued 9 x
    valued-nine v x k o =
        let q = subst (λ (a : List ℕ). Opens a (wrap_of zero nine) x) (k.at_zero refl) o in
        record {
          at_zero = λ e. absurd (omega arith);
          at_five = λ e. absurd (omega arith);
          at-nine = λ e. opens-only zero nine x is g q;
        }

    valued-entry : (e : WrapKey) → Memᴰ e upward → (v x : List ℕ) → Valued e.kwk_id v → Opens v e.wrapped x → Valued e.key_id x
    valued-entry e m =
        by-member e (under 5 9 nine five) (under 9 0 zero nine)
        (λ a. (v x : List ℕ) → Valued a.kwk_id v → Opens v a.wrapped x → Valued a.key_id x) valued-five valued-nine m

    only-five-nine : (k : ℕ) (x : List ℕ) → Reached lent upward (length zero) k x → Memᴰ (key k x) keys
    only-five-nine k x r =
        let l = last_entry lent upward (length zero) k x r in
        let v = chain-in lent upward (length zero) Valued valued-root valued-entry (r.last ∷ r.before) k x r.chain in
        by-member r.last (under 5 9 nine five) (under 9 0 zero nine) (λ a. a.key_id ≡ k → Memᴰ (key k x) keys)
        (λ e. Memᴰ.head (λ i. record { id = sym e i; value = v.at_five (sym e) i }))
        (λ e. Memᴰ.tail (Memᴰ.head (λ i. record { id = sym e i; value = v.at-nine (sym e) i })))
        (in-member r.last upward l.0) l.1

    reaches-nine : Reached lent upward (length zero) 9 nine
    reaches-nine =
        record { last = under 9 0 zero nine; before = []; chain = from-lent upward 9 nine g (Memᴰ.tail (Memᴰ.head refl)) }

    reaches-five : Reached lent upward (length zero) 5 five
    reaches-five = from_next upward 5 9 nine five g f (Memᴰ.tail (Memᴰ.head refl)) (Memᴰ.head refl)

    each-five-nine : (r : Root) → Memᴰ r keys → Reached lent upward (length zero) r.id r.value
    each-five-nine r m =
        by-member r (key 5 five) (key 9 nine) (λ a. Reached lent upward (length zero) a.id a.value) reaches-five reaches-nine m

    sized : (r : Root) → Memᴰ r keys → length r.value ≡ length zero
    sized r m = by-member r (key 5 five) (key 9 nine) (λ a. length a.value ≡ length zero) f.size g.size m

    valued : (k : ℕ) (x : List ℕ) → Reached lent upward (length zero) k x → Valued k x
    valued k x r = chain-in lent upward (length zero) Valued valued-root valued-entry (r.last ∷ r.before) k x r.chain

    one_value : (k : ℕ) (x y : List ℕ) → Reached lent upward (length zero) k x → Reached lent upward (length zero) k y → x ≡ y
    one_value k x y p q =
        by-member (key k x) (key 5 five) (key 9 nine) (λ a. a.id ≡ k → x ≡ y)
        (λ e. (valued k x p).at_five (sym e) ∙ sym ((valued k y q).at_five (sym e)))
        (λ e. (valued k x p).at-nine (sym e) ∙ sym ((valued k y q).at-nine (sym e)))
        (only-five-nine k x p) refl

    no-conflict : EntriesConflict lent upward (length zero) → ⊥
    no-conflict (wrong_size k x r h) = h (sized (key k x) (only-five-nine k x r))
    no-conflict (two-values k x y p q h) = h (one_value k x y p q)

    pub chain-upward : Reaches lent upward (length zero) keys
    chain-upward =
        record {
          each = λ r i. each-five-nine r (in-member r keys i);
          only = λ k x r. member-in (key k x) keys (only-five-nine k x r);
          fit = no-conflict;
        }

  -- "(5 under 9), (9 under 5): held list empty", whatever is wrapped
  module _ (w y : List ℕ) where
    abbrev circle : List WrapKey
    circle = record { key_id = 5; kwk_id = 9; wrapped = w } ∷ record { key_id = 9; kwk_id = 5; wrapped = y } ∷ []

    -- no chain has a second key
    never : (k : ℕ) (x : List ℕ) → Reached lent circle (length zero) k x → ⊥
    never k x r =
        let l = last_entry lent circle (length zero) k x r in
        let z : k ≡ 0 =
        chain-in lent circle (length zero) (λ j v. j ≡ 0) (λ a m. ap (λ (b : Root). b.id) (Memᴰ.eq_of_singleton m))
        (λ e m.
        by-member e (record { key_id = 5; kwk_id = 9; wrapped = w }) (record { key_id = 9; kwk_id = 5; wrapped = y })
        (λ a. (v x : List ℕ) → a.kwk_id ≡ 0 → Opens v a.wrapped x → a.key_id ≡ 0) (λ v x h o. absurd (omega arith))
        (λ v x h o. absurd (omega arith)) m)
        (r.last ∷ r.before) k x r.chain in
        by-member r.last (record { key_id = 5; kwk_id = 9; wrapped = w }) (record { key_id = 9; kwk_id = 5; wrapped = y })
        (λ a. a.key_id ≡ k → ⊥) (λ e. omega arith) (λ e. omega arith) (in-member r.last circle l.0) l.1

    no-conflict-here : EntriesConflict lent circle (length zero) → ⊥
    no-conflict-here (wrong_size k x r h) = never k x r
    no-conflict-here (two-values k x v p q h) = never k x p

    pub chain-circle : Reaches lent circle (length zero) []
    chain-circle =
        record {
          each = λ r i. absurd (Memᴰ.not-nil (in-member r [] i));
          only = λ k x r. absurd (never k x r);
          fit = no-conflict-here;
        }

  -- "(5 under 0) and (5 under 9), (9 under 0), two values for 5: 8"
  module _ (five other nine : List ℕ) (f : Fit five) (h : Fit other) (g : Fit nine) (differ : five ≡ other → ⊥) where
    abbrev branches : List WrapKey
    branches = under 5 0 zero five ∷ under 5 9 nine other ∷ under 9 0 zero nine ∷ []

    pub chain-branches : EntriesConflict lent branches (length zero)
    chain-branches =
        two-values 5 five other
        (record { last = under 5 0 zero five; before = []; chain = from-lent branches 5 five f (Memᴰ.head refl) })
        (from_next branches 5 9 nine other g h (Memᴰ.tail (Memᴰ.tail (Memᴰ.head refl)))
        (Memᴰ.tail (Memᴰ.head refl)))
        differ
