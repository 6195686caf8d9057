-- The keys of the cells that are done, entered one after the other.
use native.Mathlib.Omega.{arith}
use Prim.Native.Nat.{ℕ, ◌+◌, ◌≤◌, ◌<◌}
use mathlib.Core.Path.{◌≡◌, refl, ap, sym, ◌∙◌}
use mathlib.Core.Bool.{true}
use mathlib.Core.Logic.{inl, inr, ⊎_elim}
use mathlib.Core.List.Memᴰ
use mathlib.Core.List.{List, [], Memᴰ}
use borrow.Author.Count.{below_more}
use borrow.Author.Tests.{lt-ltb}
use lib.ListN.{length, get_or}
use Rattle.state_keys.specs.Limits.{limits}
use Rattle.lists.specs.Lists.{rising, insert}
use Rattle.lists.proofs.Rising.{length-insert, rising-insert}
use Rattle.lists.proofs.Members.{inserted-member, member-inserted}
use Rattle.std.specs.Prelude.{is_some}
use Rattle.state.specs.Held.{keys_of, held_of, key_with, held_key}
use Rattle.state.specs.inner.Entering.{id_before, entered_key}
use Rattle.state.specs.declared.held.HeldKey.{HeldKey}
use Rattle.state.specs.declared.held.Held.{Held}
use Rattle.state.proofs.Laws.{key_in}
use Rattle.state.proofs.Kept.{keys-of-held, id-trans, apart}
use Rattle.unwrap_search.specs.declared.open.Status.TheVariants.{Done}
use Rattle.unwrap_search.specs.declared.open.Entry.{Entry}
use Rattle.unwrap_search.specs.declared.open.Cell.{Cell}
use Rattle.unwrap_search.specs.inner.Entries.{no_entry}
use Rattle.unwrap_search.specs.inner.Search.{cell_at}
use Rattle.unwrap_tree.specs.inner.Joins.{Joins, not-reached, stands, enters}
use Rattle.unwrap_tree.proofs.Membership.{Has, has_key, has-no-key}

abbrev pub entry_at : List Entry → ℕ → Entry
entry_at places i = get_or places i no_entry

-- a key that stands in the list is that of a cell which is done
pub record DoneAt (places : List Entry) (cells : List Cell) (n : ℕ) (k : HeldKey) : Type 0 where
  pub place : ℕ
  pub inside : place < n
  pub done : (cell_at cells place).status ≡ Done
  pub id-is : (entry_at places place).id ≡ k.id
  pub key-is : (cell_at cells place).key ≡ k.key

-- the cells below n are entered
pub record Entered (places : List Entry) (cells : List Cell) (n : ℕ) (held : Held) : Type 0 where
  pub keys : List HeldKey
  pub is : held ≡ held_of limits keys
  pub few : length keys ≤ n
  pub rises : rising id_before keys ≡ true
  pub from : (k : HeldKey) → Memᴰ k keys → DoneAt places cells n k
  pub each : (i : ℕ) → i < n → (cell_at cells i).status ≡ Done → Has (entry_at places i).id keys

-- ---- the code's list and its keys
module _ (keys : List HeldKey) (held : Held) (is : held ≡ held_of limits keys) where
  count-is : held.count ≡ length keys
  unfolding held_of
  count-is = ap (λ (h : Held). h.count) is

  keys-are : keys_of held ≡ keys
  keys-are = ap keys_of is ∙ keys-of-held limits keys

  found-is : (id : ℕ) → length keys ≤ limits.held_keys → held_key limits id held ≡ key_with id keys
  found-is id h = key_in limits held id (omega (arith, count-is)) ∙ ap (key_with id) keys-are

  entered-is : (a : HeldKey) → length keys < limits.held_keys → entered_key limits a held ≡ held_of limits (insert id_before a keys)
  unfolding entered_key
  entered-is a h =
      rw (lt-ltb held.count limits.held_keys (omega (arith, count-is)))
      (ap (λ (l : List HeldKey). held_of limits (insert id_before a l)) keys-are)

module _ (places : List Entry) (cells : List Cell) where
  pub entered-none : (held : Held) → held ≡ held_of limits [] → Entered places cells 0 held
  unfolding rising
  entered-none held e = record {
    keys = [];
    is = e;
    few = omega arith;
    rises = refl;
    from = λ k m. absurd (Memᴰ.not-nil m);
    each = λ i h. absurd (omega arith);
  }

  module _ (n : ℕ) (held : Held) (x : Entered places cells n held) (h : n < limits.wrap_keys) where
    later : (k : HeldKey) → DoneAt places cells n k → DoneAt places cells (n + 1) k
    later k d = record { place = d.place; inside = omega (arith, d.inside); done = d.done; id-is = d.id-is; key-is = d.key-is }

    -- the list stays: the cell is not done, or its Key ID stands there
    stays : (r : Held) → r ≡ held → ((cell_at cells n).status ≡ Done → Has (entry_at places n).id x.keys) → Entered places cells (n + 1) r
    stays r e f = record {
      keys = x.keys;
      is = e ∙ x.is;
      few = omega (arith, x.few);
      rises = x.rises;
      from = λ k m. later k (x.from k m);
      each = below_more (λ i. (cell_at cells i).status ≡ Done → Has (entry_at places i).id x.keys) n x.each f;
    }

    pub entered-next : (r : Held) → Joins (entry_at places n) (cell_at cells n) held r → Entered places cells (n + 1) r
    entered-next r (not-reached f e) = stays r e (λ d. absurd (f d))
    entered-next r (stands f e) =
        stays r e
        (λ d.
        has_key (entry_at places n).id x.keys
        (ap is_some (sym (found-is x.keys held x.is (entry_at places n).id (omega (arith, x.few)))) ∙ f))
    entered-next r (enters d f e) =
        let a : HeldKey = record { id = (entry_at places n).id; key = (cell_at cells n).key } in
        let g = has-no-key a.id x.keys
        (ap is_some (sym (found-is x.keys held x.is a.id (omega (arith, x.few)))) ∙ f) in
        record {
          keys = insert id_before a x.keys;
          is = e ∙ entered-is x.keys held x.is a (omega (arith, x.few));
          few = omega (arith, x.few, length-insert id_before a x.keys);
          rises = rising-insert id_before id-trans a x.keys (apart a x.keys g) x.rises;
          from = λ k m.
              ⊎_elim
              (λ q.
              record {
                place = n;
                inside = omega arith;
                done = d;
                id-is = ap (λ (b : HeldKey). b.id) (sym q);
                key-is = ap (λ (b : HeldKey). b.key) (sym q);
              })
              (λ q. later k (x.from k q)) (inserted-member id_before a k x.keys m);
          each = below_more (λ i. (cell_at cells i).status ≡ Done → Has (entry_at places i).id (insert id_before a x.keys)) n
              (λ i g w.
              let o = x.each i g w in
              record { key = o.key; member = member-inserted id_before a o.key x.keys (inr o.member); id-is = o.id-is })
              (λ w. record { key = a; member = member-inserted id_before a a x.keys (inl refl); id-is = refl });
        }
