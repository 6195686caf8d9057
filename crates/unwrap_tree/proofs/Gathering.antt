-- The entries of a bag, gathered one after the other.
use native.Mathlib.Omega.{arith}
use Prim.Native.Nat.{ℕ, ◌+◌, ◌-◌, ◌≤◌, ◌<◌}
use mathlib.Core.Path.{◌≡◌, refl, ap, sym, ◌∙◌, subst}
use mathlib.Core.List.{List, [], ◌∷◌, ◌++◌, map, append-nil}
use borrow.Author.Count.{below_more}
use lib.ListN.{length, take, drop, get_or, set, length-append, get_or-append}
use lib.Seq.{take-take, drop-drop, get_or-set_same, get_or-set_other, get_or_at, append_snoc}
use Rattle.octets.specs.Walk.{be32, part}
use Rattle.octets.proofs.Numerals.{drop-take}
use Rattle.octets.proofs.Walks.{part_length}
use Rattle.state_keys.specs.Limits.{limits}
use Rattle.wire_attributes.specs.Tree.{WrapKey, wrap_key_of}
use Rattle.wire_attributes.specs.Place.{key_value_sized}
use Rattle.wire_attributes.specs.declared.tables.Place.{Place}
use Rattle.wire_attributes.specs.declared.tables.Meaning.{Meaning}
use Rattle.wire_readers.specs.inner.Values.{value_size, ValueFoundAt}
use Rattle.unwrap_search.specs.declared.open.Entry.{Entry}
use Rattle.unwrap_search.specs.inner.Entries.{IsEntry, Lists, no_entry, no_wrap_key}
use Rattle.unwrap_tree.specs.inner.Entries.{bag_keys}
use Rattle.unwrap_tree.proofs.Sizes.{wrapped-least}

-- ---- parts of parts
pub part-in-part : (k : List ℕ) (a e b d : ℕ) → b ≤ d → d ≤ e - a → part (part k a e) b d ≡ part k (a + b) (a + d)
part-in-part k a e b d h g =
    let n : a + d - (a + b) ≡ d - b = omega arith in
    ap (take (d - b)) (drop-take b (e - a) (drop a k)) ∙ take-take (d - b) (e - a - b) (drop b (drop a k)) (omega arith)
    ∙ ap (take (d - b)) (drop-drop b a k) ∙ ap (λ (m : ℕ). take m (drop (a + b) k)) (sym n)

-- ---- one entry, whose value ends at e: its wrapped octets come after its two IDs
entry-octets : (k : List ℕ) (a e : ℕ) → part k (a + 8) e ≡ drop 8 (part k a e)
entry-octets k a e =
    let n : e - (a + 8) ≡ e - a - 8 = omega arith in
    ap (λ (m : ℕ). take m (drop (a + 8) k)) n ∙ ap (take (e - a - 8)) (sym (drop-drop 8 a k)) ∙ sym (drop-take 8 (e - a) (drop a k))

pub entry-is : (v : List ℕ) (e i j : ℕ) → 8 ≤ length v → length v ≤ e → i ≡ be32 v 0 → j ≡ be32 v 4 → (k : List ℕ) → e ≤ length k
    → v ≡ part k (e - length v) e → IsEntry k (record { id = i; kwk = j; start = e - (length v - 8); end = e }) (wrap_key_of v)
entry-is v e i j h g p q k l w =
    let n : e - (length v - 8) ≡ e - length v + 8 = omega (arith, h, g) in
    record {
      id = p;
      kwk = q;
      starts = omega arith;
      ends = l;
      octets =
          ap (λ (a : ℕ). part k a e) n ∙ entry-octets k (e - length v) e ∙ ap (drop 8) (sym w);
    }

-- ---- the list: some are gathered, the rest follows
pub record Gathered (k : List ℕ) (places : List Entry) (n : ℕ) (rest all : List WrapKey) : Type 0 where
  pub done : List WrapKey
  pub lists : Lists k places n done
  pub joined : done ++ rest ≡ all

module _ (k : List ℕ) where
  pub gathered_none : (places : List Entry) (all : List WrapKey) → Gathered k places 0 all all
  gathered_none places all =
      record { done = []; lists = record { count = refl; within = omega arith; at = λ i h. absurd (omega arith) }; joined = refl }

  one_more : (places : List Entry) (n : ℕ) (l : List WrapKey) (e : Entry) (w : WrapKey) → Lists k places n l → n < limits.wrap_keys →
      n < length places → IsEntry k e w → Lists k (set places n e) (n + 1) (l ++ (w ∷ []))
  one_more places n l e w lists h g is =
      record {
        count = omega (arith, lists.count, length-append l (w ∷ []));
        within = omega arith;
        at = below_more (λ j. IsEntry k (get_or (set places n e) j no_entry) (get_or (l ++ (w ∷ [])) j no_wrap_key)) n
            (λ j i.
            subst (λ (x : Entry). IsEntry k x (get_or (l ++ (w ∷ [])) j no_wrap_key))
            (sym (get_or-set_other places n j e no_entry (λ q. omega (arith, i, q))))
            (subst (IsEntry k (get_or places j no_entry)) (sym (get_or-append l (w ∷ []) no_wrap_key j (omega (arith, lists.count, i))))
            (lists.at j i)))
            (subst (λ (x : Entry). IsEntry k x (get_or (l ++ (w ∷ [])) n no_wrap_key)) (sym (get_or-set_same places n e no_entry g))
            (subst (IsEntry k e) (sym (get_or_at l w [] no_wrap_key n lists.count)) is));
      }

  pub gathered_next : (places : List Entry) (n : ℕ) (rest all : List WrapKey) (e : Entry) (w : WrapKey) →
      Gathered k places n (w ∷ rest) all → n < limits.wrap_keys → n < length places → IsEntry k e w →
      Gathered k (set places n e) (n + 1) rest all
  gathered_next places n rest all e w x h g is =
      record {
        done = x.done ++ (w ∷ []);
        lists = one_more places n x.done e w x.lists h g is;
        joined = append_snoc x.done w rest ∙ x.joined;
      }

  pub gathered-all : (places : List Entry) (n : ℕ) (rest all : List WrapKey) → Gathered k places n rest all → rest ≡ [] →
      Lists k places n all
  gathered-all places n rest all x e =
      subst (Lists k places n) (sym (append-nil x.done) ∙ ap (λ (r : List WrapKey). x.done ++ r) (sym e) ∙ x.joined) x.lists

-- ---- the entries of one bag, whose attributes stand from a to e: the next one from a place on stands from b to d
module _ (m : Meaning) (p : Place) (wrapped : (n : ℕ) → value_size m n ≡ key_value_sized n) (k : List ℕ) (a e : ℕ) (h : a ≤ e)
    (g : e ≤ length k) (at b d : ℕ) (f : ValueFoundAt m p (part k a e) at b d) where
  inside : d ≤ e - a
  inside = omega (arith, part_length k a e h g, f.inside)

  pub taken-inside : (8 ≤ d - b) × (a + d ≤ length k)
  taken-inside =
      let n = wrapped-least (d - b) (sym (wrapped (d - b)) ∙ f.size) in
      (omega (arith, n), omega (arith, inside, h, g))

  module _ (v : List ℕ) (q : v ≡ part (part k a e) b d) where
    taken-length : length v ≡ d - b
    taken-length = ap length q ∙ part_length (part k a e) b d f.order f.inside

    pub taken-sized : (8 ≤ length v) × (length v ≤ a + d)
    taken-sized = (omega (arith, taken-length, taken-inside.0), omega (arith, taken-length))

    pub taken-part : v ≡ part k (a + d - length v) (a + d)
    taken-part =
        let n : a + b ≡ a + d - length v = omega (arith, taken-length, f.order) in
        q ∙ part-in-part k a e b d f.order inside ∙ ap (λ (i : ℕ). part k i (a + d)) n

    pub taken-first : bag_keys m p (drop at (part k a e)) ≡ wrap_key_of v ∷ bag_keys m p (drop d (part k a e))
    taken-first = ap (map wrap_key_of) f.first ∙ ap (λ (x : List ℕ). wrap_key_of x ∷ bag_keys m p (drop d (part k a e))) (sym q)
