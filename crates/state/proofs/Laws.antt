-- What the code of a state finds is what the definitions say.
use native.Mathlib.Numerals.{add-one}
use Prim.Native.Nat.{ℕ, suc, ◌+◌, ◌-◌, ◌≤◌, ◌<◌, ◌^◌}
use mathlib.Core.Path.{◌≡◌, refl, ap, sym, ◌∙◌}
use mathlib.Core.Bool.{Bool, true, false, ◌||◌}
use mathlib.Core.List.{List, [], ◌∷◌, ◌++◌}
use borrow.Author.Tests.{le-leb, lt-leb, lt-ltb, le-ltb, eq-eqb, ne_eqb}
use lib.ListN.{length, take, drop, get_or, set, replicate, drop_of_length-le}
use lib.Seq.{drop-cons, take-suc, take-suc-set}
use Rattle.std.specs.Prelude.{Option, Some}
use Rattle.std.specs.List.{list_any}
use Rattle.state_sa.specs.declared.entry.Sa.{Sa}
use Rattle.state_keys.specs.Limits.{Limits}
use Rattle.lists.specs.Lists.{all, any, insert}
use Rattle.state_keys.specs.Algorithms.{is_wrapping_size}
use Rattle.state_table.specs.declared.Table.{Table}
use Rattle.state_table.specs.Table.{table_formed, swept, none, found_sa}
use Rattle.state.specs.declared.least.Least.TheVariants.{Id, NoneAnyMore}
use Rattle.state.specs.declared.held.HeldKey.{HeldKey}
use Rattle.state.specs.declared.held.Held.{Held}
use Rattle.state.specs.declared.State.{State}
use Rattle.state.specs.Least.{after_id}
use Rattle.state.specs.Held.{blank_key, keys_of, held_of, key_formed, ids_of, has, distinct, held_formed, without_key, key_with, held_key}
use Rattle.state.specs.inner.Entering.{id_before, entered_key}
use Rattle.state.specs.State.{state_formed, with_table, swept_state, asked_sa}

-- ---- the least Message ID
pub after_more : (id : ℕ) → id < 2 ^ 32 - 1 → Id (id + 1) ≡ after_id id
unfolding after_id
after_more id h = rw (lt-ltb id (2 ^ 32 - 1) h)

pub after_last : (id : ℕ) → 2 ^ 32 - 1 ≤ id → NoneAnyMore ≡ after_id id
unfolding after_id
after_last id h = rw (le-ltb id (2 ^ 32 - 1) h)

-- ---- the search of a held key: at place j of a list stands the key that is found, or the search goes on, or it ends
module _ (id : ℕ) (l : List HeldKey) (j : ℕ) where
  pub key_here : (d : HeldKey) → j < length l → (get_or l j d).id ≡ id → key_with id (drop j l) ≡ Some (get_or l j d).key
  unfolding key_with
  key_here d h e = rw (drop-cons l j d, eq-eqb (get_or l j d).id id e)

  pub key-next : (d : HeldKey) → j < length l → ((get_or l j d).id ≡ id → ⊥) → key_with id (drop j l) ≡ key_with id (drop (j + 1) l)
  unfolding key_with
  key-next d h e = rw (drop-cons l j d, ne_eqb (get_or l j d).id id e, add-one)

  pub key-end : length l ≤ j → key_with id (drop j l) ≡ without_key
  unfolding key_with
  key-end h = rw (drop_of_length-le l h)

-- ---- Key IDs: whether those of a list from place j on are distinct
module _ (s : List ℕ) (j : ℕ) where
  pub distinct-yes : j < length s → false ≡ has (get_or s j 0) (drop (j + 1) s) → distinct (drop j s) ≡ distinct (drop (j + 1) s)
  unfolding distinct
  distinct-yes h e =
      let f : false ≡ has (get_or s j 0) (drop (suc j) s) = rw add-one at e in
      rw (drop-cons s j 0, ← f, add-one)

  pub distinct-no : j < length s → true ≡ has (get_or s j 0) (drop (j + 1) s) → distinct (drop j s) ≡ false
  unfolding distinct
  distinct-no h e =
      let f : true ≡ has (get_or s j 0) (drop (suc j) s) = rw add-one at e in
      rw (drop-cons s j 0, ← f)

  pub distinct-end : length s ≤ j → distinct (drop j s) ≡ true
  unfolding distinct
  distinct-end h = rw (drop_of_length-le s h)

-- whether each key of a list passes, from place j on
module _ (p : HeldKey → Bool) (l : List HeldKey) (j : ℕ) (d : HeldKey) where
  pub each-yes : j < length l → true ≡ p (get_or l j d) → all p (drop j l) ≡ all p (drop (j + 1) l)
  unfolding all
  each-yes h e = rw (drop-cons l j d, ← e, add-one)

  pub each-no : j < length l → false ≡ p (get_or l j d) → all p (drop j l) ≡ false
  unfolding all
  each-no h e = rw (drop-cons l j d, ← e)

pub each-end : (p : HeldKey → Bool) (l : List HeldKey) (j : ℕ) → length l ≤ j → all p (drop j l) ≡ true
unfolding all
each-end p l j h = rw (drop_of_length-le l h)

-- the library's word for the test of a list says the same
pub any-list : {A : Type 0} (p : A → Bool) (l : List A) → list_any p l ≡ any p l
unfolding any
any-list p [] = refl
any-list p (a ∷ l) = ap (λ (b : Bool). p a || b) (any-list p l)

-- the Key IDs of one key more are copied
ids-end : (l : List HeldKey) (k : HeldKey) → ids_of (l ++ (k ∷ [])) ≡ ids_of l ++ (k.id ∷ [])
ids-end [] k = refl
ids-end (a ∷ l) k = ap (λ (m : List ℕ). a.id ∷ m) (ids-end l k)

pub ids_more : (l : List HeldKey) (ids : List ℕ) (i : ℕ) (d : HeldKey) → i < length l → i < length ids → take i ids ≡ ids_of (take i l) →
    take (i + 1) (set ids i (get_or l i d).id) ≡ ids_of (take (i + 1) l)
ids_more l ids i d h g e =
    let k = get_or l i d in
    ap (λ (n : ℕ). take n (set ids i k.id)) (add-one i) ∙ take-suc-set ids i k.id g ∙ ap (λ (m : List ℕ). m ++ (k.id ∷ [])) e
    ∙ sym (ids-end (take i l) k) ∙ ap ids_of (sym (take-suc l i d h)) ∙ ap (λ (n : ℕ). ids_of (take n l)) (sym (add-one i))

module _ (limits : Limits) (h : Held) where
  pub key_in : (id : ℕ) → h.count ≤ limits.held_keys → held_key limits id h ≡ key_with id (keys_of h)
  unfolding held_key
  key_in id g = rw (le-leb h.count limits.held_keys g)

  pub key-out : (id : ℕ) → limits.held_keys < h.count → held_key limits id h ≡ without_key
  unfolding held_key
  key-out id g = rw (lt-leb h.count limits.held_keys g)

  -- ---- the test of a whole held list
  pub held-over : limits.held_keys < h.count → false ≡ held_formed limits h
  unfolding held_formed
  held-over g = rw (lt-leb h.count limits.held_keys g)

  pub held-each : h.count ≤ limits.held_keys → all key_formed (keys_of h) ≡ false → false ≡ held_formed limits h
  unfolding held_formed
  held-each g e = rw (le-leb h.count limits.held_keys g, e)

  pub held-distinct : (r : Bool) (ids : List ℕ) → h.count ≤ limits.held_keys → all key_formed (keys_of h) ≡ true →
      take h.count ids ≡ ids_of (keys_of h) → r ≡ distinct (take h.count ids) → r ≡ held_formed limits h
  unfolding held_formed
  held-distinct r ids g e m f = rw (le-leb h.count limits.held_keys g, e) (f ∙ ap distinct m)

pub key-is : (k : HeldKey) (r : Bool) → (k.id ≡ 0 → ⊥) → r ≡ is_wrapping_size k.key.count → r ≡ key_formed k
unfolding key_formed
key-is k r f e = rw (ne_eqb k.id 0 f) e

pub key-zero : (k : HeldKey) → k.id ≡ 0 → false ≡ key_formed k
unfolding key_formed
key-zero k e = rw (eq-eqb k.id 0 e)

-- ---- one key more
module _ (limits : Limits) (a : HeldKey) (h : Held) where
  pub entered-in : (out : List HeldKey) (k : ℕ) → h.count < limits.held_keys →
      out ≡ insert id_before a (keys_of h) ++ replicate (limits.held_keys - length (insert id_before a (keys_of h))) blank_key →
      k ≡ length (insert id_before a (keys_of h)) → record { keys = out; count = k } ≡ entered_key limits a h
  unfolding entered_key held_of
  entered-in out k g p q = rw (lt-ltb h.count limits.held_keys g) (λ i. record { keys = p i; count = q i })

  pub entered-out : limits.held_keys ≤ h.count → h ≡ entered_key limits a h
  unfolding entered_key
  entered-out g = rw (le-ltb h.count limits.held_keys g)

-- ---- the state
module _ (limits : Limits) (s : State) where
  pub formed-parts : (r : Bool) → table_formed limits s.table ≡ true → r ≡ held_formed limits s.held → r ≡ state_formed limits s
  unfolding state_formed
  formed-parts r e f = rw e f

  pub formed-not : table_formed limits s.table ≡ false → false ≡ state_formed limits s
  unfolding state_formed
  formed-not e = rw e

  pub swept-yes : (now : ℕ) (t : Table) → state_formed limits s ≡ true → t ≡ swept limits now
      s.table → with_table t s ≡ swept_state limits now s
  unfolding swept_state
  swept-yes now t e f = rw e (ap (λ (x : Table). with_table x s) f)

  pub swept-no : (now : ℕ) → state_formed limits s ≡ false → s ≡ swept_state limits now s
  unfolding swept_state
  swept-no now e = rw e

  pub asked-yes : (p : ℕ) (x : List ℕ) (r : Option Sa) → state_formed limits s ≡ true → r ≡ found_sa limits p x
      s.table → r ≡ asked_sa limits p x s
  unfolding asked_sa
  asked-yes p x r e f = rw e f

  pub asked-no : (p : ℕ) (x : List ℕ) (r : Option Sa) → state_formed limits s ≡ false → r ≡ none → r ≡ asked_sa limits p x s
  unfolding asked_sa
  asked-no p x r e f = rw e f
