-- Going through the copies of an SA: the next one, its size and its try.
use native.Mathlib.Omega.{arith}
use Prim.Native.Nat.{ℕ, ◌-◌, ◌≤◌}
use mathlib.Core.Path.{◌≡◌, ap, sym, ◌∙◌}
use mathlib.Core.List.{List, [], ◌∷◌, ◌++◌, map}
use borrow.Author.Tests.{leb-true}
use lib.Dec.{leb}
use lib.ListN.{length, drop}
use Rattle.lists.proofs.Cases.{and_parts}
use Rattle.octets.specs.Walk.{part}
use Rattle.octets.proofs.Walks.{part_length}
use Rattle.wire_attributes.specs.Tree.{sa_key_of}
use Rattle.wire_attributes.specs.declared.tables.Place.{Place}
use Rattle.wire_attributes.specs.declared.tables.Meaning.TheVariants as meaning
use Rattle.wire_readers.specs.inner.Values.{values_in, ValueFoundAt}
use Rattle.state.specs.declared.held.HeldKey.{HeldKey}
use Rattle.unwrap_copies.specs.inner.Answer.{copies_in}
use Rattle.unwrap_copies.specs.inner.Named.{try_for, tries_of_all}

module _ (p : Place) (s : List ℕ) (at a e : ℕ) (f : ValueFoundAt meaning.SaKey p s at a e) (x : List ℕ) (is : x ≡ part s a e) where
  pub ids-inside : 8 ≤ length x
  ids-inside =
      let n = ap length is ∙ part_length s a e f.order f.inside in
      let h = leb-true 24 (e - a) (and_parts (leb 24 (e - a)) _ f.size).0 in
      omega arith

  pub next-copies : copies_in p (drop at s) ≡ sa_key_of x ∷ copies_in p (drop e s)
  next-copies =
      ap (map sa_key_of) f.first ∙ ap (λ (y : List ℕ). sa_key_of y ∷ copies_in p (drop e s)) (sym is)

  pub next-tries : (v : List ℕ) (new old : List HeldKey) → tries_of_all v new old (copies_in p (drop at s)) ≡
      try_for v new old (sa_key_of x) ++ tries_of_all v new old (copies_in p (drop e s))
  unfolding tries_of_all
  next-tries v new old =
      ap (λ (l : List (List ℕ)). tries_of_all v new old (map sa_key_of l)) f.first
      ∙ ap (λ (y : List ℕ). try_for v new old (sa_key_of y) ++ tries_of_all v new old (copies_in p (drop e s))) (sym is)

pub no-tries : (p : Place) (s : List ℕ) (at : ℕ) (v : List ℕ) (new old : List HeldKey) → values_in meaning.SaKey p (drop at s) ≡ [] →
    tries_of_all v new old (copies_in p (drop at s)) ≡ []
unfolding tries_of_all
no-tries p s at v new old e = ap (λ (l : List (List ℕ)). tries_of_all v new old (map sa_key_of l)) e
