-- The pass over the heads of a body that counts some of the names.
use Prim.Native.Nat.{ℕ, ◌+◌, ◌<◌, ◌≤◌}
use mathlib.Core.Path.{◌≡◌, ap, sym, ◌∙◌}
use mathlib.Core.List.{List, ◌++◌}
use mathlib.Core.Bool.{Bool, true, false, cond}
use native.Mathlib.Omega.{arith}
use lib.ListN.{length, drop}
use Rattle.octets.specs.Walk.{part}
use Rattle.lists.specs.Lists.{any, count}
use Rattle.wire_readers.specs.declared.policy.Parts.{Parts}
use Rattle.check_pairing.specs.inner.Names.{Name, name_of, name_at, Names}
use Rattle.check_pairing.proofs.OneName.{name-counted}
use Rattle.check_pairing.proofs.Walking.{Along, HeadAt, along-end, along-next}

module _ (q : Name → Bool) (s : List ℕ) where
  abbrev pub SoFar : ℕ → List Name → List Name → Type 0
  SoFar n l m = n + count q m ≡ count q l

  -- where it stands at a place: n were counted
  pub record Counting (n at : ℕ) : Type 0 where
    pub few : n ≤ at
    pub along : Along s at (SoFar n)

  module _ (n at : ℕ) (c : Counting n at) where
    pub counting-end : length s ≤ at → (l : List Name) → Names s l → n ≡ count q l
    unfolding count
    counting-end h l e = let z : n + 0 ≡ count q l = along-end s at (SoFar n) c.along h l e in omega arith

    module _ (h : at < length s) (r : Parts) (a : HeadAt s at r) where
      module _ (b : Bool) (e : b ≡ any q (name_of r.first (part s (at + 4) (at + r.body)))) where
        one_more : (x : Bool) (m : List Name) → b ≡ x → count q (name_at (drop at s) ++ m) ≡ cond x (count q m + 1) (count q m)
        one_more x m f =
            ap (λ (y : List Name). count q (y ++ m)) (sym a.name) ∙ name-counted q m r.first (part s (at + 4) (at + r.body))
            ∙ ap (λ (y : Bool). cond y (count q m + 1) (count q m)) (sym e ∙ f)

        pub counting-yes : b ≡ true → Counting (n + 1) (at + r.end)
        counting-yes f = record {
          few = omega (arith, c.few, a.some, a.order);
          along = along-next s at (SoFar n) c.along h r a (SoFar (n + 1)) (λ l m g. let z = one_more true m f in omega arith);
        }

        pub counting-no : b ≡ false → Counting n (at + r.end)
        counting-no f = record {
          few = omega (arith, c.few);
          along = along-next s at (SoFar n) c.along h r a (SoFar n) (λ l m g. let z = one_more false m f in omega arith);
        }
