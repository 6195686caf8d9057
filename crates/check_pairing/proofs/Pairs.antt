-- The pass over the heads of a body that looks for a name of which not exactly one of another body has it.
use Prim.Native.Nat.{ℕ, ◌+◌, ◌<◌, ◌≤◌}
use mathlib.Core.Path.{◌≡◌, ap, sym, ◌∙◌}
use mathlib.Core.List.{List, ◌++◌}
use mathlib.Core.Bool.{Bool, true, false, ◌||◌}
use lib.ListN.{length, drop}
use Rattle.octets.specs.Walk.{part}
use Rattle.lists.specs.Lists.{any}
use Rattle.rules_refusals.proofs.FlatMap.{any_append}
use Rattle.wire_readers.specs.declared.policy.Parts.{Parts}
use Rattle.check_pairing.specs.inner.Names.{Name, name_of, name_at, Names, is_unpaired}
use Rattle.check_pairing.proofs.Walking.{Along, HeadAt, along-end, along-first, along-next}

module _ (s t : List ℕ) where
  -- none was found so far
  abbrev pub NotYet : List Name → List Name → Type 0
  NotYet l m = (k : List Name) → Names t k → any (is_unpaired k) l ≡ any (is_unpaired k) m

  module _ (at : ℕ) (a : Along s at NotYet) where
    pub pairs_end : length s ≤ at → (l k : List Name) → Names s l → Names t k → false ≡ any (is_unpaired k) l
    unfolding any
    pairs_end h l k n m = sym (along-end s at NotYet a h l n k m)

    module _ (h : at < length s) (r : Parts) (q : HeadAt s at r) where
      module _ (b : Bool)
          (f : (k : List Name) → Names t k → b ≡ any (is_unpaired k) (name_of r.first (part s (at + 4) (at + r.body)))) where
        first_rest : (k m : List Name) → Names t k → any (is_unpaired k) (name_at (drop at s) ++ m) ≡ (b || any (is_unpaired k) m)
        first_rest k m n =
            any_append (is_unpaired k) (name_at (drop at s)) m
            ∙ ap (λ (x : Bool). x || any (is_unpaired k) m) (sym (f k n ∙ ap (any (is_unpaired k)) q.name))

        pub pairs-yes : b ≡ true → (l k : List Name) → Names s l → Names t k → true ≡ any (is_unpaired k) l
        pairs-yes e l k n m =
            let g = along-first s at NotYet a h r q l n in
            sym (g.1 k m ∙ first_rest k g.0 m ∙ ap (λ (x : Bool). x || any (is_unpaired k) g.0) e)

        pub pairs-no : b ≡ false → Along s (at + r.end) NotYet
        pairs-no e =
            along-next s at NotYet a h r q NotYet
            (λ l m g k n. g k n ∙ first_rest k m n ∙ ap (λ (x : Bool). x || any (is_unpaired k) m) e)
