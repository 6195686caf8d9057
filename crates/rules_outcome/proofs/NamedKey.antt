-- The key that a KWK ID names, and what a copy of an announced SA's key opens to, are as the definitions of the outcome have them.
use native.Mathlib.Omega.{arith}
use Prim.Native.Nat.{ℕ}
use mathlib.Core.Path.{◌≡◌, refl, ap, sym, ◌∙◌, subst}
use mathlib.Core.Bool.{Bool, true, false, cond, not, false≢true}
use mathlib.Core.Logic.{inl, inr, ⊎_elim}
use mathlib.Core.List.{List, [], ◌∷◌, ◌++◌, map, append-nil}
use borrow.Author.Tests.{eqb-true, eqb-false, not-true}
use lib.Dec.{eqb}
use lib.ListN.{length}
use Rattle.state_keys.specs.Limits.{Limits}
use Rattle.lists.proofs.Cases.{bool_cases}
use Rattle.wire_attributes.specs.Tree.{WrapKey}
use Rattle.wire_policies.specs.Policy.{GroupSaPolicy}
use Rattle.wire_frames.specs.Frame.{Frame}
use Rattle.wire_frames.specs.declared.exchanges.Exchange.{Exchange}
use Rattle.state.specs.declared.State.{State}
use Rattle.state.specs.declared.held.HeldKey.{HeldKey}
use Rattle.state.specs.Held.{keys_of}
use Rattle.rules_refusals.specs.Contents.{row_of, wrap_keys_of, fresh_keys_of}
use Rattle.rules_chains.specs.Chain.{In, Root, root, Reached, ChainEnds}
use Rattle.rules_chains.proofs.Determined.{ends_by, last_entry}
use Rattle.rules_chains.proofs.Members.{in-member, member-in}
use Rattle.rules_outcome.specs.Roots.{own_key_of, key_zero_value, held_root, carried, those_not_carried, roots_of, entries_of, wrapping_size}
use Rattle.rules_outcome.specs.NamedKey.{Registration, Inband, lent_root, Given, Carries, fresh_roots, FreshGiven, OpensUnder, OpensTo}
use Rattle.rules_outcome.specs.NamedKey.{Named, lent_key, lent-in-band, own_key, last-of-chain, held-key, fresh-key}
use Rattle.rules_outcome.proofs.Rows.{names-held, registration-row, rekeys, inband-row, lent-roots, lent-size, own-roots, own-size}
use Rattle.rules_outcome.proofs.Members.{in_head, in_tail, in-cases, not-in-none, in-keep, keep-in, in_map, map-in}
use Rattle.rules_outcome.proofs.RunsLists.{none_passes, some-passes}
use Rattle.rules_outcome.proofs.Bags.{copy-own, own-copy}

-- a list that is taken on a condition
in-cond : {A : Type 0} (a : A) (b : Bool) (l : List A) → In a (cond b l []) → (b ≡ true) × In a l
in-cond a true l m = (refl, m)
in-cond a false l m = absurd (not-in-none a m)

cond-in : {A : Type 0} (a : A) (b : Bool) (l : List A) → b ≡ true → In a l → In a (cond b l [])
cond-in a true l e m = m
cond-in a false l e m = absurd (false≢true e)

module _ (limits : Limits) (s : State) (now : ℕ) (lent : List ℕ) (f : Frame) where
  abbrev Names : ℕ → List ℕ → Type 0
  Names k v = Named limits s now lent f k v

  abbrev roots : List Root
  roots = roots_of limits s now lent f

  abbrev size : ℕ
  size = wrapping_size limits s now lent f

  abbrev held : List Root
  held = map held_root (those_not_carried (fresh_keys_of f) (keys_of s.held))

  abbrev zero-root : Root
  zero-root = record { id = 0; value = key_zero_value limits s now lent f }

  zero-lent : Registration f → key_zero_value limits s now lent f ≡ lent
  unfolding key_zero_value
  zero-lent g = rw (registration-row f g)

  zero-in-band : Inband f → key_zero_value limits s now lent f ≡ lent
  unfolding key_zero_value
  zero-in-band g = rw (inband-row f g)

  pub zero-own : f.header.exchange ≡ 41 → key_zero_value limits s now lent f ≡ own_key_of limits s now
  unfolding key_zero_value
  zero-own x = rw (rekeys f.header.exchange x)

  zero_in : In zero-root roots
  unfolding roots_of
  zero_in = in_head zero-root zero-root (cond (row_of f).names_held_keys held []) refl

  -- a Key ID is carried or not
  carried-says : (h : HeldKey) → carried (fresh_keys_of f) h ≡ true → Carries f h.id
  carried-says h e =
      let r = some-passes (λ (w : WrapKey). eqb w.key_id h.id) (fresh_keys_of f) e in
      record {
        entry = r.one;
        stands = member-in r.one (fresh_keys_of f) r.stands;
        is = eqb-true r.one.key_id h.id r.passes;
      }

  pub not_carried : (h : HeldKey) → (Carries f h.id → ⊥) → carried (fresh_keys_of f) h ≡ false
  not_carried h none = bool_cases (carried (fresh_keys_of f) h) (λ e. absurd (none (carried-says h e))) (λ e. e)

  pub carries-not : (h : HeldKey) → carried (fresh_keys_of f) h ≡ false → Carries f h.id → ⊥
  carries-not h e c =
      let p = none_passes (λ (w : WrapKey). eqb w.key_id h.id) (fresh_keys_of f) e c.entry
      (in-member c.entry (fresh_keys_of f) c.stands) in
      eqb-false c.entry.key_id h.id p c.is

  held_in : (row_of f).names_held_keys ≡ true → (h : HeldKey) → In h (keys_of s.held) → (Carries f h.id → ⊥) → In (held_root h) roots
  unfolding roots_of
  held_in e h m none =
      in_tail (held_root h) zero-root (cond (row_of f).names_held_keys held [])
      (cond-in (held_root h) (row_of f).names_held_keys held e
      (map-in held_root (held_root h) (those_not_carried (fresh_keys_of f) (keys_of s.held)) h
      (keep-in h (λ (k : HeldKey). not (carried (fresh_keys_of f) k)) (keys_of s.held) m (ap not (not_carried h none))) refl))

  at-root : (r : Root) → In r roots → (k : ℕ) (v : List ℕ) → k ≡ r.id → v ≡ r.value → ChainEnds roots (entries_of f) size k v
  at-root r m k v e d =
      subst (λ (n : ℕ). ChainEnds roots (entries_of f) size n v) (sym e)
      (subst (λ (x : List ℕ). ChainEnds roots (entries_of f) size r.id x) (sym d) (record { passed = []; chain = root r m }))

  -- ---- what numbers 2 and 4 and the layout let pass: registrations without fresh keys, in-band rekeys without entries, and rekeys over
  -- the Rekey SA without WRAP_KEYs
  pub data Passes : Type 0 where
    registers : Registration f → fresh_keys_of f ≡ [] → Passes
    in-band : Inband f → wrap_keys_of f ≡ [] → fresh_keys_of f ≡ [] → Passes
    over-sa : f.header.exchange ≡ 41 → wrap_keys_of f ≡ [] → Passes

  -- what holds of roots, entries and size, in the words of the exchange
  module _ (P : List Root → List WrapKey → ℕ → Type 0) where
    pub to-lent-roots : Registration f → fresh_keys_of f ≡ [] → P roots (entries_of f) size → P (lent_root lent) (wrap_keys_of f) (length lent)
    to-lent-roots g none x =
        let row = registration-row f g in
        subst (λ (l : List WrapKey). P (lent_root lent) l (length lent))
        (ap (λ (l : List WrapKey). wrap_keys_of f ++ l) none ∙ append-nil (wrap_keys_of f))
        (subst (λ (n : ℕ). P (lent_root lent) (entries_of f) n) (lent-size limits s now f row lent)
        (subst (λ (l : List Root). P l (entries_of f) size) (lent-roots limits s now f row lent) x))

    pub of-lent-roots : Registration f → fresh_keys_of f ≡ [] → P (lent_root lent) (wrap_keys_of f) (length lent) → P roots (entries_of f) size
    of-lent-roots g none x =
        let row = registration-row f g in
        subst (λ (l : List Root). P l (entries_of f) size) (sym (lent-roots limits s now f row lent))
        (subst (λ (n : ℕ). P (lent_root lent) (entries_of f) n) (sym (lent-size limits s now f row lent))
        (subst (λ (l : List WrapKey). P (lent_root lent) l (length lent))
        (sym (ap (λ (l : List WrapKey). wrap_keys_of f ++ l) none ∙ append-nil (wrap_keys_of f))) x))

    pub to-fresh-roots : f.header.exchange ≡ 41 → wrap_keys_of f ≡ [] → P roots (entries_of f) size →
        P (fresh_roots limits s now lent f) (fresh_keys_of f) (length (own_key_of limits s now))
    to-fresh-roots x none p =
        let row = rekeys f.header.exchange x in
        subst (λ (l : List WrapKey). P (fresh_roots limits s now lent f) l (length (own_key_of limits s now)))
        (ap (λ (l : List WrapKey). l ++ fresh_keys_of f) none)
        (subst (λ (n : ℕ). P (fresh_roots limits s now lent f) (entries_of f) n) (own-size limits s now f row lent)
        (subst (λ (l : List Root). P l (entries_of f) size) (own-roots limits s now f row lent) p))

    pub of-fresh-roots : f.header.exchange ≡ 41 → wrap_keys_of f ≡ [] →
        P (fresh_roots limits s now lent f) (fresh_keys_of f) (length (own_key_of limits s now)) → P roots (entries_of f) size
    of-fresh-roots x none p =
        let row = rekeys f.header.exchange x in
        subst (λ (l : List Root). P l (entries_of f) size) (sym (own-roots limits s now f row lent))
        (subst (λ (n : ℕ). P (fresh_roots limits s now lent f) (entries_of f) n) (sym (own-size limits s now f row lent))
        (subst (λ (l : List WrapKey). P (fresh_roots limits s now lent f) l (length (own_key_of limits s now)))
        (sym (ap (λ (l : List WrapKey). l ++ fresh_keys_of f) none)) p))

  -- in a registration chains start with the lent key alone
  pub from-lent : Registration f → fresh_keys_of f ≡ [] → (k : ℕ) (v : List ℕ) → Given lent f k v → Reached roots (entries_of f) size k v
  from-lent g none k v r = of-lent-roots (λ l e n. Reached l e n k v) g none r

  pub to-lent : Registration f → fresh_keys_of f ≡ [] → (k : ℕ) (v : List ℕ) → Reached roots (entries_of f) size k v → Given lent f k v
  to-lent g none k v r = to-lent-roots (λ l e n. Reached l e n k v) g none r

  pub from-fresh : f.header.exchange ≡ 41 → wrap_keys_of f ≡ [] → (k : ℕ) (v : List ℕ) → FreshGiven limits s now lent f k v →
      Reached roots (entries_of f) size k v
  from-fresh x none k v r = of-fresh-roots (λ l e n. Reached l e n k v) x none r

  pub to-fresh : f.header.exchange ≡ 41 → wrap_keys_of f ≡ [] → (k : ℕ) (v : List ℕ) → Reached roots (entries_of f) size k v →
      FreshGiven limits s now lent f k v
  to-fresh x none k v r = to-fresh-roots (λ l e n. Reached l e n k v) x none r

  -- an exchange is one of the three kinds
  pub not-rekey : Registration f → f.header.exchange ≡ 41 → ⊥
  not-rekey (inl a) x = let z : ◌≡◌ {A = ℕ} 39 41 = sym a ∙ x in omega arith
  not-rekey (inr a) x = let z : ◌≡◌ {A = ℕ} 40 41 = sym a ∙ x in omega arith

  pub not-in-band : Registration f → Inband f → ⊥
  not-in-band (inl a) x = let z : ◌≡◌ {A = ℕ} 39 42 = sym a ∙ x in omega arith
  not-in-band (inr a) x = let z : ◌≡◌ {A = ℕ} 40 42 = sym a ∙ x in omega arith

  module _ (fit : Passes) where
    ends_of : (k : ℕ) (v : List ℕ) → Reached roots (entries_of f) size k v → ChainEnds roots (entries_of f) size k v
    ends_of k v r = record { passed = r.last ∷ r.before; chain = r.chain }

    pub given-reached : Passes → Registration f → (k : ℕ) (v : List ℕ) → Given lent f k v → Reached roots (entries_of f) size k v
    given-reached (registers g none) q k v r = from-lent g none k v r
    given-reached (in-band x none bare) q k v r = absurd (not-in-band q x)
    given-reached (over-sa x none) q k v r = absurd (not-rekey q x)

    pub fresh-reached : Passes → f.header.exchange ≡ 41 → (k : ℕ) (v : List ℕ) → FreshGiven limits s now lent f k v →
        Reached roots (entries_of f) size k v
    fresh-reached (registers g none) q k v r = absurd (not-rekey g q)
    fresh-reached (in-band x none bare) q k v r = let z : ◌≡◌ {A = ℕ} 42 41 = sym x ∙ q in absurd (omega arith)
    fresh-reached (over-sa x none) q k v r = from-fresh x none k v r

    named-ends : (k : ℕ) (v : List ℕ) → Names k v → ChainEnds roots (entries_of f) size k v
    named-ends k v (lent_key g e d) = at-root zero-root zero_in k v e (d ∙ sym (zero-lent g))
    named-ends k v (lent-in-band x e d) = at-root zero-root zero_in k v e (d ∙ sym (zero-in-band x))
    named-ends k v (own_key x e d) = at-root zero-root zero_in k v e (d ∙ sym (zero-own x))
    named-ends k v (last-of-chain g c) = ends_of k v (given-reached fit g k v c)
    named-ends k v (held-key e h m none q d) =
        at-root (held_root h) (held_in (ap (λ (x : Exchange). x.names_held_keys) (rekeys f.header.exchange e)) h m none) k v (sym q)
        (sym d)
    named-ends k v (fresh-key x c) = ends_of k v (fresh-reached fit x k v c)

    pub under_to : (a : GroupSaPolicy) (x : List ℕ) → OpensUnder limits s now lent f a x → OpensTo limits s now lent f a x
    under_to a x o =
        record {
          copy = o.copy;
          stands = own-copy f a o.copy o.own;
          value = o.value;
          named = named-ends o.copy.kwk_id o.value o.named;
          opens = o.opens;
        }

    -- the roots by their meaning
    zero-named : Passes → (k : ℕ) (v : List ℕ) → k ≡ 0 → v ≡ key_zero_value limits s now lent f → Names k v
    zero-named (registers g none) k v e d = lent_key g e (d ∙ zero-lent g)
    zero-named (in-band x none bare) k v e d = lent-in-band x e (d ∙ zero-in-band x)
    zero-named (over-sa x none) k v e d = own_key x e (d ∙ zero-own x)

    root-named : (r : Root) → In r roots → Names r.id r.value
    unfolding roots_of
    root-named r m =
        ⊎_elim (λ e. zero-named fit r.id r.value (ap (λ (x : Root). x.id) e) (ap (λ (x : Root). x.value) e))
        (λ i.
        let c = in-cond r (row_of f).names_held_keys held i in
        let h = in_map held_root r (those_not_carried (fresh_keys_of f) (keys_of s.held)) c.1 in
        let k = in-keep h.item (λ (a : HeldKey). not (carried (fresh_keys_of f) a)) (keys_of s.held) h.stands in
        let is = sym h.is in
        held-key (names-held f.header.exchange c.0) h.item k.0
        (carries-not h.item (not-true (carried (fresh_keys_of f) h.item) k.1))
        (ap (λ (x : Root). x.id) is) (ap (λ (x : Root). x.value) is))
        (in-cases r zero-root (cond (row_of f).names_held_keys held []) m)

    no-entries : wrap_keys_of f ≡ [] → fresh_keys_of f ≡ [] → entries_of f ≡ []
    no-entries e g = ap (λ (l : List WrapKey). l ++ fresh_keys_of f) e ∙ g

    reached-named : Passes → (k : ℕ) (v : List ℕ) → Reached roots (entries_of f) size k v → Names k v
    reached-named (registers g none) k v r = last-of-chain g (to-lent g none k v r)
    reached-named (in-band x none bare) k v r =
        absurd (not-in-none r.last (subst (In r.last) (no-entries none bare) (last_entry roots (entries_of f) size k v r).0))
    reached-named (over-sa x none) k v r = fresh-key x (to-fresh x none k v r)

    ends_named : (k : ℕ) (v : List ℕ) → ChainEnds roots (entries_of f) size k v → Names k v
    ends_named k v n =
        ⊎_elim
        (λ a. subst (λ (i : ℕ). Names i v) a.id-is (subst (Names a.key.id) a.value-is (root-named a.key a.stands)))
        (λ r. reached-named fit k v r) (ends_by roots (entries_of f) size n.passed k v n.chain)

    pub to-under : (a : GroupSaPolicy) (x : List ℕ) → OpensTo limits s now lent f a x → OpensUnder limits s now lent f a x
    to-under a x o =
        record {
          copy = o.copy;
          own = copy-own f a o.copy o.stands;
          value = o.value;
          named = ends_named o.copy.kwk_id o.value o.named;
          opens = o.opens;
        }
