-- "One protocol and SPI twice" never applies alone: where a name of one list is there twice, and exactly one of the other list has each
-- name of it, that one finds more than one.
use Prim.Native.Nat.{◌<◌}
use mathlib.Core.Path.{◌≡◌, ap, sym, ◌∙◌}
use mathlib.Core.List.{List}
use mathlib.Core.Bool.{Bool, true, false, not, not-not}
use native.Mathlib.Omega.{arith}
use borrow.Author.Tests.{eqb-true, ne_eqb, ltb-true}
use lib.Dec.{ltb, eqb}
use Rattle.octets.specs.Compare.{same}
use Rattle.octets.proofs.Order.{same-eq}
use Rattle.lists.specs.Lists.{any, count}
use Rattle.lists.proofs.Cases.{and_parts}
use Rattle.rules_refusals.proofs.FlatMap.{any-count}
use Rattle.check_pairing.specs.inner.Names.{Name, is_named, is_unpaired}
use Rattle.check_pairing.proofs.ListLaws.{any-weaker, any-pick}

abbrev has_name : Name → Name → Bool
has_name n = is_named n.protocol n.spi

abbrev pub is_twice : List Name → Name → Bool
is_twice l n = ltb 1 (count (has_name n) l)

module _ (l m : List Name) where
  -- one that has the name of another is found as often as it
  as-often : (a b : Name) → has_name a b ≡ true → count (has_name b) l ≡ count (has_name a) l
  as-often a b e =
      let p = and_parts (eqb b.protocol a.protocol) (same b.spi a.spi) e in
      (λ i. count (is_named (eqb-true b.protocol a.protocol p.0 i) (same-eq b.spi a.spi p.1 i)) l)

  found-twice : (a : Name) → is_twice l a ≡ true → (b : Name) → has_name a b ≡ true → is_unpaired l b ≡ true
  found-twice a t b e =
      let h : 1 < count (has_name a) l = ltb-true 1 (count (has_name a) l) t in
      let o = as-often a b e in
      ap not (ne_eqb (count (has_name b) l) 1 (λ z. omega arith))

  its-pair : (a : Name) → is_unpaired m a ≡ false → any (has_name a) m ≡ true
  its-pair a e =
      let f : eqb (count (has_name a) m) 1 ≡ true = sym (not-not (eqb (count (has_name a) m) 1)) ∙ ap not e in
      any-count (has_name a) m ∙ ap (ltb 0) (eqb-true (count (has_name a) m) 1 f)

  pub twice-unpaired : any (is_twice l) l ≡ true → any (is_unpaired m) l ≡ false → any (is_unpaired l) m ≡ true
  twice-unpaired =
      any-pick (is_twice l) (is_unpaired m)
      (λ a t u. any-weaker (has_name a) (is_unpaired l) (found-twice a t) m (its-pair a u)) l
