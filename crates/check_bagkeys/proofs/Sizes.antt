-- A wrapped key of attributes whose layout is whole has its two IDs and 16 octets at least.
use Prim.Native.Nat.{ℕ, ◌≤◌}
use mathlib.Core.Path.{◌≡◌, refl, ap, sym, ◌∙◌, subst}
use mathlib.Core.List.{List, ◌∷◌}
use mathlib.Core.Bool.{Bool, true, not, false≢true, ◌&&◌}
use native.Mathlib.Omega.{arith}
use borrow.Author.Tests.{leb-true, eqb-true}
use lib.ListN.{length}
use lib.Dec.{leb, eqb}
use Rattle.octets.specs.Walk.{no-more, then}
use Rattle.lists.proofs.Cases.{bool_cases, and_parts}
use Rattle.wire_attributes.specs.Attribute.{Attribute}
use Rattle.wire_attributes.specs.Place.{meaning_of, key_value_sized, format_fits}
use Rattle.wire_attributes.specs.Tree.{code_of, means, values_of}
use Rattle.wire_attributes.specs.Layout.{attributes}
use Rattle.wire_attributes.specs.Grammar.{Attributes}
use Rattle.wire_attributes.specs.declared.tables.Place.{Place}
use Rattle.wire_attributes.specs.declared.tables.Meaning.{Meaning}
use Rattle.wire_attributes.specs.declared.tables.Meaning.TheVariants as meaning
use Rattle.wire_attributes.proofs.GrammarLaws.{read-are}
use Rattle.wire_readers.specs.inner.Values.{is_whole, attributes_in, values_in}
use Rattle.wire_readers.proofs.ValuesLaws.{whole_is}
use Rattle.check_bagkeys.specs.inner.Facts.{carries_key}

by_code : (x : Meaning) → carries_key x ≡ leb 5 (code_of x)
by_code meaning.Skipped = refl
by_code meaning.KeyLength = refl
by_code meaning.InitialMessageId = refl
by_code meaning.DeactivationDelay = refl
by_code meaning.KeyLifetime = refl
by_code meaning.SaKey = refl
by_code meaning.WrapKey = refl
by_code meaning.FreshKey = refl

wrapped-sized : (short : Bool) (n : ℕ) → (not short && key_value_sized n) ≡ true → 24 ≤ n
wrapped-sized short n e = leb-true 24 n (and_parts _ _ (and_parts (not short) (key_value_sized n) e).1).0

key-sized : (x : Meaning) (short : Bool) (n : ℕ) → carries_key x ≡ true → format_fits x short n ≡ true → 24 ≤ n
key-sized meaning.Skipped short n k e = absurd (false≢true k)
key-sized meaning.KeyLength short n k e = absurd (false≢true k)
key-sized meaning.InitialMessageId short n k e = absurd (false≢true k)
key-sized meaning.DeactivationDelay short n k e = absurd (false≢true k)
key-sized meaning.KeyLifetime short n k e = absurd (false≢true k)
key-sized meaning.SaKey short n k e = wrapped-sized short n e
key-sized meaning.WrapKey short n k e = wrapped-sized short n e
key-sized meaning.FreshKey short n k e = wrapped-sized short n e

module _ (m : Meaning) (k : carries_key m ≡ true) (p : Place) where
  is_key : (x : Meaning) → eqb (code_of x) (code_of m) ≡ true → carries_key x ≡ true
  is_key x e = by_code x ∙ ap (leb 5) (eqb-true (code_of x) (code_of m) e) ∙ sym (by_code m) ∙ k

  sized-in : {s : List ℕ} {l : List Attribute} → Attributes p s l → (v : List ℕ) (r : List (List ℕ)) → values_of m p l ≡ v ∷ r →
      24 ≤ length v
  unfolding values_of
  sized-in no-more v r e = let z : ◌≡◌ {A = ℕ} 0 1 = cc in absurd (omega arith)
  sized-in (then o s {a = a} {l = l} i t) v r e =
      bool_cases (means m p a)
      (λ g.
      let f : a.value ∷ values_of m p l ≡ v ∷ r = rw g at e in
      let q : a.value ≡ v = cc in
      subst (λ (x : List ℕ). 24 ≤ length x) q
      (key-sized (meaning_of p a.kind) a.short (length a.value) (is_key (meaning_of p a.kind) g) i.formed))
      (λ g. sized-in t v r (rw g at e))

  pub first-sized : (s : List ℕ) → is_whole (attributes p 0 s) ≡ true → (v : List ℕ) (r : List (List ℕ)) → values_in m p s ≡ v ∷ r →
      24 ≤ length v
  first-sized s e v r q = let w = whole_is (attributes p 0 s) e in sized-in (read-are p 0 s (attributes_in p s) w.0 w.1) v r q
