-- Number 8 of the entries, from the cells that a search ends with.
use native.Mathlib.Omega.{arith}
use Prim.Native.Nat.{ℕ, ◌≤◌, ◌<◌}
use mathlib.Core.Path.{◌≡◌, ap, sym, ◌∙◌, subst}
use mathlib.Core.Bool.{Bool, true, false}
use mathlib.Core.Logic.{⊎_elim}
use mathlib.Core.List.{List}
use lib.ListN.{length, take}
use lib.Seq.{length-take-le, get_or-take}
use Rattle.wire_attributes.specs.Tree.{WrapKey}
use Rattle.state_keys.specs.Kinds.{wrapping_of, value_of}
use Rattle.rules_chains.specs.Chain.{Root, Reached}
use Rattle.rules_chains.specs.Refusals.{EntriesConflict, wrong_size, two-values}
use Rattle.rules_chains.proofs.Determined.{lists-equal}
use Rattle.unwrap_search.specs.declared.open.Status.TheVariants.{Wrong, Done}
use Rattle.unwrap_search.specs.declared.open.Entry.{Entry}
use Rattle.unwrap_search.specs.declared.open.Cell.{Cell}
use Rattle.unwrap_search.specs.inner.Entries.{Lists}
use Rattle.unwrap_search.specs.inner.Opened.{no_cell}
use Rattle.unwrap_search.specs.inner.Search.{key_at, cell_at, Searched, FoundIn, OneEach, Nonzero}
use Rattle.unwrap_conflicts.specs.inner.Values.{Decides, AnyClash, AnyWrong}

-- ---- the first n cells, as a slice
module _ (cells : List Cell) (n : ℕ) (h : n ≤ length cells) where
  at-first : (i : ℕ) → i < n → cell_at (take n cells) i ≡ cell_at cells i
  at-first i g = get_or-take n cells i no_cell g

  pub wrong-first : AnyWrong (take n cells) (length (take n cells)) → AnyWrong cells n
  wrong-first w =
      let m = length-take-le n cells h in
      let g : w.place < n = let z = w.inside in omega arith in
      record { place = w.place; inside = g; holds = ap (λ (c : Cell). c.status) (sym (at-first w.place g)) ∙ w.holds }

  pub wrong-back : AnyWrong cells n → AnyWrong (take n cells) (length (take n cells))
  wrong-back w =
      let m = length-take-le n cells h in
      record {
        place = w.place;
        inside = let z = w.inside in omega arith;
        holds = ap (λ (c : Cell). c.status) (at-first w.place w.inside) ∙ w.holds;
      }

module _ (frame : List ℕ) (places : List Entry) (n : ℕ) (cells : List Cell) (roots : List Root) (l : List WrapKey) (size : ℕ)
    (lists : Lists frame places n l) (s : Searched roots l size cells) where
  in-l : (i : ℕ) → i < n → i < length l
  in-l i h = let z = lists.count in omega arith

  in-n : (i : ℕ) → i < length l → i < n
  in-n i h = let z = lists.count in omega arith

  pub conflict-wrong : AnyWrong cells n → EntriesConflict roots l size
  conflict-wrong w =
      let m = s.misfits w.place (in-l w.place w.inside) w.holds in
      wrong_size (key_at l w.place).key_id m.x (record { last = key_at l w.place; before = m.passed; chain = m.chain }) m.misfit

  reached-at : (i : ℕ) → i < n → (cell_at cells i).status ≡ Done → Reached roots l size (key_at l i).key_id (value_of (cell_at cells i).key)
  reached-at i h d = let g = s.gives i (in-l i h) d in record { last = key_at l i; before = g.passed; chain = g.chain }

  -- equal octets are equal keys
  same_key : (i j : ℕ) → i < n → j < n → (cell_at cells i).status ≡ Done → (cell_at cells j).status ≡ Done →
      value_of (cell_at cells i).key ≡ value_of (cell_at cells j).key → (cell_at cells i).key ≡ (cell_at cells j).key
  same_key i j h g d e q = (s.gives i (in-l i h) d).is ∙ ap wrapping_of q ∙ sym (s.gives j (in-l j g) e).is

  pub conflict-clash : AnyClash places cells n → EntriesConflict roots l size
  conflict-clash c =
      let i = c.place in
      let j = c.holds.place in
      let k = c.holds.holds in
      let id : (key_at l j).key_id ≡ (key_at l i).key_id =
      sym (lists.at j c.holds.inside).id ∙ sym k.id ∙ (lists.at i c.inside).id in
      two-values (key_at l i).key_id (value_of (cell_at cells i).key) (value_of (cell_at cells j).key) (reached-at i c.inside k.one)
      (subst (λ (a : ℕ). Reached roots l size a (value_of (cell_at cells j).key)) id (reached-at j c.holds.inside k.two))
      (λ q. k.differ (same_key i j c.inside c.holds.inside k.one k.two q))

  module _ (no-wrong : AnyWrong cells n → ⊥) (no-clash : AnyClash places cells n → ⊥) where
    fits : (i : ℕ) → i < length l → (cell_at cells i).status ≡ Wrong → ⊥
    fits i h w = no-wrong (record { place = i; inside = in-n i h; holds = w })

    differs : (k : ℕ) (x y : List ℕ) → FoundIn roots l size cells k x → FoundIn roots l size cells k y → (x ≡ y → ⊥) → ⊥
    differs k x y p q ne =
        no-clash
        (record {
          place = p.place;
          inside = in-n p.place p.inside;
          holds = record {
            place = q.place;
            inside = in-n q.place q.inside;
            holds = record {
              id = (lists.at p.place (in-n p.place p.inside)).id ∙ p.id-is ∙ sym q.id-is
                  ∙ sym (lists.at q.place (in-n q.place q.inside)).id;
              one = p.done;
              two = q.done;
              differ = λ e. ne (sym p.value-is ∙ ap value_of e ∙ q.value-is);
            };
          };
        })

    pub one_each : OneEach roots l size cells
    one_each k x y p q = ⊎_elim (λ e. e) (λ ne. absurd (differs k x y p q ne)) (lists-equal x y)

    pub found : Nonzero l → (k : ℕ) (x : List ℕ) → Reached roots l size k x → FoundIn roots l size cells k x
    found nonzero k x r = s.complete nonzero fits one_each k x r

    pub conflict-none : Nonzero l → EntriesConflict roots l size → ⊥
    conflict-none nonzero (wrong_size k x r ne) =
        let f = found nonzero k x r in ne (sym (ap length f.value-is) ∙ (s.gives f.place f.inside f.done).fits)
    conflict-none nonzero (two-values k x y p q ne) = ne (one_each k x y (found nonzero k x p) (found nonzero k y q))

  -- the two tests together
  pub conflict-tells : (b : Bool) → (AnyWrong cells n → ⊥) → Decides b (AnyClash places cells n) → Nonzero l →
      Decides b (EntriesConflict roots l size)
  conflict-tells true no-wrong t nonzero = conflict-clash t
  conflict-tells false no-wrong t nonzero = conflict-none no-wrong t nonzero
