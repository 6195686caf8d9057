-- The held list of a path: the loop that fills it, and that its keys are those of the path.
use native.Mathlib.Omega.{arith}
use Prim.Native.Nat.{ℕ, suc, ◌+◌, ◌≤◌, ◌<◌}
use mathlib.Core.Path.{◌≡◌, refl, ap, ap₂, sym, ◌∙◌, subst}
use mathlib.Core.Bool.{false, false≢true}
use mathlib.Core.List.{List, [], ◌∷◌, ◌++◌, map, Memᴰ}
use lib.ListN.{length, take, drop, set, drop_of_length-le}
use lib.Seq.{drop-cons, length-take-le, get_or-take}
use Rattle.octets.specs.Numbers.{oct}
use Rattle.wire_attributes.specs.Tree.{WrapKey, SaKey}
use Rattle.rules_chains.specs.Chain.{Root, Reached}
use Rattle.rules_chains.specs.Refusals.{Value}
use Rattle.rules_chains.specs.Path.{key_ids, Keys, no_key, one_more}
use Rattle.rules_chains.proofs.Determined.{one_value}
use Rattle.state_keys.specs.Limits.{limits}
use Rattle.state_keys.specs.Kinds.{value_of}
use Rattle.lists.proofs.Fill.{Filled, filled_none, filled_more, written-more, filled-all, filled-count}
use Rattle.state.specs.Held.{keys_of, held_of, held_key, blank_key}
use Rattle.state.specs.declared.held.HeldKey.{HeldKey}
use Rattle.state.specs.declared.held.Held.{Held}
use Rattle.unwrap_search.specs.declared.open.Cell.{Cell}
use Rattle.unwrap_search.specs.declared.open.Status.TheVariants.{Done}
use Rattle.unwrap_search.specs.inner.Search.{key_at, cell_at}
use Rattle.unwrap_paths.specs.declared.links.Links.{Links}
use Rattle.unwrap_paths.specs.inner.Links.{entries_at, LeadsTo}
use Rattle.unwrap_paths.specs.inner.Kept.{SearchKept}
use Rattle.rules_outcome.specs.Holding.{held_from, path_before, held_by_path, HoldsPath}
use Rattle.unwrap_paths.specs.declared.held.PathHeld.{PathHeld}
use Rattle.unwrap_paths.specs.inner.Holding.{held_at, GoesBefore, PathTells}
use Rattle.state_keys.specs.Kinds.{key_or_blank}

-- ---- the loop: the first i places of the list hold the keys at the first i places of the path
module _ (K : ℕ → HeldKey) (places : List ℕ) (count : ℕ) where
  pub record HeldSoFar (keys : List HeldKey) (i : ℕ) : Type 0 where
    pub filled : Filled limits.held_keys blank_key keys i
    pub are : take i keys ++ map K (drop i (take count places)) ≡ map K (take count places)

  pub keep-none : (h : Held) → h ≡ held_of limits [] → HeldSoFar h.keys 0
  unfolding held_of
  keep-none h e =
      record {
        filled = subst (λ (x : Held). Filled limits.held_keys blank_key x.keys 0) (sym e)
            (filled_none limits.held_keys blank_key blank_key refl);
        are = refl;
      }

  pub keep-next : (keys : List HeldKey) (i : ℕ) (k : HeldKey) → i < count → count ≤ length places → count ≤ limits.held_keys →
      k ≡ K (oct places i) → HeldSoFar keys i → HeldSoFar (set keys i k) (i + 1)
  keep-next keys i k h p q e b =
      let g : i < length (take count places) = let z = length-take-le count places p in omega arith in
      let r : i < limits.held_keys = omega arith in
      let d : drop i (take count places) ≡ oct places i ∷ drop (i + 1) (take count places) =
      drop-cons (take count places) i 0 g
      ∙ ap₂ (λ (a : ℕ) (m : ℕ). a ∷ drop m (take count places)) (get_or-take count places i 0 h) (let z : suc i ≡ i + 1 = omega arith in z) in
      record {
        filled = filled_more limits.held_keys blank_key keys i b.filled r k;
        are = written-more limits.held_keys blank_key keys i b.filled r k (map K (drop (i + 1) (take count places)))
            ∙ ap (λ (a : HeldKey). take i keys ++ (a ∷ map K (drop (i + 1) (take count places)))) e
            ∙ ap (λ (m : List ℕ). take i keys ++ map K m) (sym d) ∙ b.are;
      }

  pub keep-end : (keys : List HeldKey) (i : ℕ) → i ≡ count → count ≤ length places → count ≤ limits.held_keys → HeldSoFar keys i →
      record { keys = keys; count = count } ≡ held_of limits (map K (take count places))
  unfolding held_of
  keep-end keys i e p q b =
      let z = length-take-le count places p in
      let y : length (take count places) ≤ i = omega arith in
      let none : drop i (take count places) ≡ [] = drop_of_length-le (take count places) y in
      let all : take i keys ++ [] ≡ map K (take count places) = ap (λ (m : List ℕ). take i keys ++ map K m) (sym none) ∙ b.are in
      let w : i ≤ limits.held_keys = omega arith in
      let a = filled-all limits.held_keys blank_key keys (map K (take count places)) i b.filled w all in
      let c = filled-count limits.held_keys blank_key keys (map K (take count places)) i b.filled w all in
      λ t. record { keys = a t; count = (sym e ∙ c) t }

-- ---- its keys
module _ (roots : List Root) (l : List WrapKey) (size : ℕ) (links : Links) (reached : Held)
    (kept : SearchKept roots l size links reached) where
  abbrev cells : List Cell
  cells = kept.cells

  abbrev root_at : ℕ → Root
  root_at i = record { id = (key_at l i).key_id; value = value_of (cell_at cells i).key }

  -- what holds of the entry at a place of the path
  record At (i : ℕ) : Type 0 where
    inside : i < length l
    done : (cell_at cells i).status ≡ Done

  value-at : (i : ℕ) → At i → Value roots l size (key_at l i).key_id (value_of (cell_at cells i).key)
  value-at i a =
      let g = kept.searched.gives i a.inside a.done in
      let r : Reached roots l size (key_at l i).key_id (value_of (cell_at cells i).key) =
      record { last = key_at l i; before = g.passed; chain = g.chain } in
      record {
        reached = r;
        every = λ y q. one_value roots l size kept.agree (key_at l i).key_id y (value_of (cell_at cells i).key) q r;
      }

  keys-at : (p : List ℕ) → ((i : ℕ) → Memᴰ i p → At i) → Keys roots l size (key_ids (entries_at l p)) (map root_at p)
  keys-at [] f = no_key
  keys-at (i ∷ p) f = one_more (value-at i (f i (Memᴰ.head refl))) (keys-at p (λ j m. f j (Memᴰ.tail m)))

  held-at : (i : ℕ) → At i → held_at links.ids reached i ≡ held_from (root_at i)
  held-at i a =
      let h : i < links.count = omega (arith, kept.lists.count, a.inside) in
      let e = kept.linked.linked.id-is i h ∙ (kept.lists.at i h).id in
      let k = ap (λ (j : ℕ). key_or_blank (held_key limits j reached)) e
      ∙ ap key_or_blank (kept.gives (key_at l i).key_id (value_of (cell_at cells i).key) (value-at i a)) in
      λ t. record { id = e t; key = k t }

  all_held : (p : List ℕ) → ((i : ℕ) → Memᴰ i p → At i) → map (held_at links.ids reached) p ≡ map held_from (map root_at p)
  all_held [] f = refl
  all_held (i ∷ p) f =
      ap₂ (λ (a : HeldKey) (m : List HeldKey). a ∷ m) (held-at i (f i (Memᴰ.head refl)))
      (all_held p (λ j m. f j (Memᴰ.tail m)))

  module _ (copies : List SaKey) (p : List ℕ) (end : ℕ) (leads : LeadsTo roots l size cells copies p end) where
    each : (i : ℕ) → Memᴰ i p → At i
    each i m = record { inside = leads.inside i m; done = leads.done i m }

    holds : (old h : Held) → h ≡ held_by_path limits (map held_from (map root_at p)) end old → HoldsPath roots l size limits copies old h
    holds old h e =
        record {
          ids = key_ids (entries_at l p);
          end = end;
          path = leads.path;
          keys = map root_at p;
          are = keys-at p each;
          is = e;
        }

    -- a path with no key leaves the list as it was
    pub tells_none : (old : Held) → old.count ≤ limits.held_keys → p ≡ [] →
        PathTells roots l size copies old (record { over = false; held = old })
    tells_none old few e =
        record {
          kept = λ z. holds old old (ap (λ (q : List ℕ). held_by_path limits (map held_from (map root_at q)) end old) (sym e));
          few = λ z. few;
          beyond = λ z. absurd (false≢true z);
        }

    by-path : (q : List ℕ) (old : Held) → 0 < length q →
        held_by_path limits (map held_from (map root_at q)) end old ≡ held_of limits (path_before (map held_from (map root_at q)) end (keys_of old))
    by-path [] old h = absurd (omega arith)
    by-path (i ∷ q) old h = refl

    -- a path with keys goes before those that stay
    pub tells-some : (old : Held) (r : PathHeld) → 0 < length p →
        GoesBefore (map (held_at links.ids reached) p) end (keys_of old) r → PathTells roots l size copies old r
    unfolding held_of
    tells-some old r some b =
        let e = all_held p each in
        let made = held_of limits (path_before (map held_from (map root_at p)) end (keys_of old)) in
        let same = ap (λ (m : List HeldKey). path_before m end (keys_of old)) e in
        record {
          kept = λ z. holds old r.held (b.kept z ∙ ap (held_of limits) same ∙ sym (by-path p old some));
          few = b.few;
          beyond = λ z.
              let f : limits.held_keys < made.count = subst (λ (m : List HeldKey). limits.held_keys < length m) same (b.beyond z) in
              record { list = made; leaves = holds old made (sym (by-path p old some)); over = f };
        }
