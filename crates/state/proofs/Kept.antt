-- A state that is as it must be stays so, and one that is blank in its unused places stays blank.
use native.Mathlib.Omega.{arith}
use Prim.Native.Nat.{ℕ, ◌-◌, ◌≤◌, ◌<◌}
use mathlib.Core.Path.{◌≡◌, refl, ap, sym, ◌∙◌, subst}
use mathlib.Core.Bool.{Bool, true, false, not, ◌||◌, false≢true}
use mathlib.Core.Logic.{⊎_elim}
use mathlib.Core.List.Memᴰ
use mathlib.Core.List.{List, [], ◌∷◌, Memᴰ}
use borrow.Author.Tests.{le-leb, lt-ltb, le-ltb, ltb-true, eq-eqb, ne_eqb, eqb-false, not-true}
use lib.Dec.{eqb}
use lib.ListN.{length, replicate}
use lib.Seq.{take-append_seam}
use Rattle.std.specs.Prelude.{Some}
use Rattle.state_keys.specs.Limits.{Limits}
use Rattle.lists.specs.Lists.{all, any, rising, insert}
use Rattle.lists.proofs.Cases.{bool_cases, lt-cases, and_parts, and-whole}
use Rattle.lists.proofs.Rising.{length-insert, all_insert, rising-insert, first-before, rising-rest}
use Rattle.state_table.specs.Table.{table_formed, swept}
use Rattle.state_table.proofs.Kept.{new-formed, swept-formed}
use Rattle.state_table.proofs.Blanks.{new-blank, swept-blank}
use Rattle.state.specs.declared.held.HeldKey.{HeldKey}
use Rattle.state.specs.declared.held.Held.{Held}
use Rattle.state.specs.declared.State.{State}
use Rattle.state.specs.Held.{blank_key, keys_of, held_of, key_formed, ids_of, has, distinct, held_formed, without_key, key_with}
use Rattle.state.specs.inner.Entering.{id_before, entered_key}
use Rattle.state.specs.State.{new_state, left_state, state_formed, with_table, swept_state}
use Rattle.state.specs.Blank.{AllKeysBlank, no_key, StateBlank}
use Rattle.state.proofs.Laws.{swept-yes, swept-no}

-- ---- the held list
-- the keys of a list that was made of some are these
pub keys-of-held : (limits : Limits) (l : List HeldKey) → keys_of (held_of limits l) ≡ l
unfolding held_of
keys-of-held limits l = take-append_seam l (replicate (limits.held_keys - length l) blank_key)

pub id-trans : (a b c : HeldKey) → id_before a b ≡ true → id_before b c ≡ true → id_before a c ≡ true
id-trans a b c e f =
    let p = ltb-true a.id b.id e in let q = ltb-true b.id c.id f in lt-ltb a.id c.id (omega arith)

pub id-irrefl : (a : HeldKey) → id_before a a ≡ false
id-irrefl a = le-ltb a.id a.id (omega arith)

-- a key whose Key ID is new stands before or after each of the list
pub apart : (a : HeldKey) (l : List HeldKey) → any (λ (k : HeldKey). eqb k.id a.id) l ≡ false →
    all (λ (k : HeldKey). id_before a k || id_before k a) l ≡ true
unfolding any all
apart a [] e = refl
apart a (k ∷ l) e =
    bool_cases (eqb k.id a.id) (λ g. absurd (false≢true (sym e ∙ rw g)))
    (λ g.
    let r = apart a l (rw g at e) in
    lt-cases a.id k.id (λ h. rw (lt-ltb a.id k.id h) r)
    (λ h.
    lt-cases k.id a.id (λ i. rw (le-ltb a.id k.id h, lt-ltb k.id a.id i) r)
    (λ i. absurd (eqb-false k.id a.id g (omega arith)))))

-- ---- distinct Key IDs
pub distinct-parts : (a : ℕ) (l : List ℕ) → distinct (a ∷ l) ≡ true → (has a l ≡ false) × (distinct l ≡ true)
unfolding distinct
distinct-parts a l e = let p = and_parts (not (has a l)) (distinct l) e in (not-true (has a l) p.0, p.1)

-- a Key ID that no key of a list has, and one that none of its Key IDs is
none_has : (i : ℕ) (l : List HeldKey) → ((k : HeldKey) → Memᴰ k l → k.id ≡ i → ⊥) → has i (ids_of l) ≡ false
unfolding any
none_has i [] f = refl
none_has i (k ∷ l) f = rw (ne_eqb k.id i (f k (Memᴰ.head refl))) (none_has i l (λ a m. f a (Memᴰ.tail m)))

pub not-among : (i : ℕ) (k : HeldKey) (l : List HeldKey) → has i (ids_of l) ≡ false → Memᴰ k l → k.id ≡ i → ⊥
unfolding any
not-among i k [] e m q = Memᴰ.not-nil m
not-among i k (a ∷ l) e m q =
    bool_cases (eqb a.id i) (λ g. absurd (false≢true (sym e ∙ rw g)))
    (λ g.
    ⊎_elim (λ z. eqb-false a.id i g (ap (λ (x : HeldKey). x.id) (sym z) ∙ q)) (λ z. not-among i k l (rw g at e) z q)
    (Memᴰ.cases_cons m))

-- Key IDs that rise are distinct
pub rising-distinct : (l : List HeldKey) → rising id_before l ≡ true → distinct (ids_of l) ≡ true
unfolding distinct
rising-distinct [] r = refl
rising-distinct (k ∷ l) r =
    let later : (a : HeldKey) → Memᴰ a l → a.id ≡ k.id → ⊥ =
    λ a m e. let h = ltb-true k.id a.id (first-before id_before id-trans id-irrefl k a l r m) in omega arith in
    rw (none_has k.id l later) (rising-distinct l (rising-rest id_before id-trans id-irrefl k l r))

-- the lookup asks for no more than distinct Key IDs: a key of the list is the one that is found
pub distinct-found : (k : HeldKey) (l : List HeldKey) → distinct (ids_of l) ≡ true → Memᴰ k l →
    key_with k.id l ≡ Some k.key
unfolding key_with
distinct-found k [] d m = absurd (Memᴰ.not-nil m)
distinct-found k (a ∷ l) d m =
    let p = distinct-parts a.id (ids_of l) d in
    ⊎_elim
    (λ e.
    let q : a.id ≡ k.id = ap (λ (x : HeldKey). x.id) (sym e) in
    rw (eq-eqb a.id k.id q) (ap (λ (x : HeldKey). Some x.key) (sym e)))
    (λ z. rw (ne_eqb a.id k.id (λ e. not-among a.id k l p.0 z (sym e))) (distinct-found k l p.1 z))
    (Memᴰ.cases_cons m)

module _ (limits : Limits) where
  pub held-formed : (l : List HeldKey) → length l ≤ limits.held_keys → all key_formed l ≡ true → distinct (ids_of l) ≡ true →
      held_formed limits (held_of limits l) ≡ true
  unfolding held_formed held_of
  held-formed l h e f =
      rw (take-append_seam l (replicate (limits.held_keys - length l) blank_key), le-leb (length l) limits.held_keys h, e) f

  pub no-key-formed : held_formed limits (held_of limits []) ≡ true
  unfolding all distinct
  no-key-formed = held-formed [] (omega arith) refl refl

  pub entered-key-formed : (a : HeldKey) (h : Held) → h.count < limits.held_keys → length (keys_of h) < limits.held_keys →
      key_formed a ≡ true → all key_formed (keys_of h) ≡ true → rising id_before (keys_of h) ≡ true →
      any (λ (k : HeldKey). eqb k.id a.id) (keys_of h) ≡ false → held_formed limits (entered_key limits a h) ≡ true
  unfolding entered_key
  entered-key-formed a h c n k e r d =
      let m = length-insert id_before a (keys_of h) in
      rw (lt-ltb h.count limits.held_keys c)
      (held-formed (insert id_before a (keys_of h)) (omega arith) (all_insert id_before key_formed a (keys_of h) k e)
      (rising-distinct (insert id_before a (keys_of h)) (rising-insert id_before id-trans a (keys_of h) (apart a (keys_of h) d) r)))

pub no-key-found : (id : ℕ) (l : List HeldKey) → any (λ (j : HeldKey). eqb j.id id) l ≡ false → key_with id l ≡ without_key
unfolding any key_with
no-key-found id [] e = refl
no-key-found id (a ∷ l) e =
    bool_cases (eqb a.id id) (λ g. absurd (false≢true (sym e ∙ rw g))) (λ g. rw g (no-key-found id l (rw g at e)))

-- ---- the state
module _ (limits : Limits) where
  pub new-state-formed : (profile : Bool) → state_formed limits (new_state limits profile) ≡ true
  unfolding state_formed new_state
  new-state-formed profile = rw (new-formed limits) (no-key-formed limits)

  kept : (now : ℕ) (s : State) → state_formed limits s ≡ true → state_formed limits (with_table (swept limits now s.table) s) ≡ true
  unfolding state_formed
  kept now s e =
      let p = and_parts (table_formed limits s.table) (held_formed limits s.held) e in
      and-whole (table_formed limits (swept limits now s.table)) (held_formed limits s.held)
      (swept-formed limits now s.table p.0) p.1

  pub swept-state-formed : (now : ℕ) (s : State) → state_formed limits s ≡ true → state_formed limits (swept_state limits now s) ≡ true
  swept-state-formed now s e =
      subst (λ (x : State). state_formed limits x ≡ true) (swept-yes limits s now (swept limits now s.table) e refl) (kept now s e)

  -- "Leaving keeps the profile" (document 02, T-11)
  pub left-profile-kept : (s : State) → (left_state limits s).profile ≡ s.profile
  unfolding new_state
  left-profile-kept s = refl

  pub swept-profile-kept : (now : ℕ) (s : State) → (swept_state limits now s).profile ≡ s.profile
  unfolding swept_state
  swept-profile-kept now s = bool_cases (state_formed limits s) (λ e. rw e refl) (λ e. rw e refl)

  pub new-state-blank : (profile : Bool) → StateBlank limits (new_state limits profile)
  unfolding new_state
  new-state-blank profile =
      record {
        table = new-blank limits;
        held = ap (held_of limits) (sym (keys-of-held limits []));
        values = subst AllKeysBlank (sym (keys-of-held limits [])) no_key;
      }

  pub swept-state-blank : (now : ℕ) (s : State) → StateBlank limits s → StateBlank limits (swept_state limits now s)
  swept-state-blank now s b =
      bool_cases (state_formed limits s)
      (λ e.
      subst (StateBlank limits) (swept-yes limits s now (swept limits now s.table) e refl)
      (record { table = swept-blank limits now s.table b.table; held = b.held; values = b.values }))
      (λ e. subst (StateBlank limits) (swept-no limits s now e) b)
