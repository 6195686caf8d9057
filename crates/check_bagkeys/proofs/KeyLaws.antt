-- The walk over the wrapped keys of a bag.
use Prim.Native.Nat.{ℕ, ◌+◌, ◌-◌, ◌<◌, ◌≤◌}
use mathlib.Core.Path.{◌≡◌, refl, ap, sym, ◌∙◌}
use mathlib.Core.List.{List, [], ◌∷◌, map}
use mathlib.Core.Bool.{Bool, true, false, not, ◌||◌, or-false}
use native.Mathlib.Omega.{arith}
use lib.ListN.{length, drop, length-map}
use lib.Dec.{eqb}
use Rattle.octets.specs.Walk.{part}
use Rattle.lists.specs.Lists.{any}
use Rattle.wire_attributes.specs.Tree.{SaKey, WrapKey, sa_key_of, wrap_key_of}
use Rattle.wire_attributes.specs.Layout.{attributes}
use Rattle.wire_attributes.specs.declared.tables.Place.{Place}
use Rattle.wire_attributes.specs.declared.tables.Meaning.{Meaning}
use Rattle.wire_readers.specs.inner.Values.{is_whole, values_in, ValueFoundAt}
use Rattle.rules_refusals.specs.Number6.{has_key_id, has_kwk_id, under_itself}
use Rattle.rules_refusals.proofs.OneOf.{or-joined}
use Rattle.check_bagkeys.specs.inner.Facts.{carries_key, no_id, no_kwk, one_id, key_facts_of, with_key, of_sa_keys, of_wrap_keys}
use Rattle.check_bagkeys.specs.declared.wrapped.KeyFacts.{KeyFacts}
use Rattle.check_bagkeys.proofs.Sizes.{first-sized}

pub any-of-map : {A B : Type 0} (f : A → B) (p : B → Bool) (l : List A) → any p (map f l) ≡ any (λ (a : A). p (f a)) l
unfolding any
any-of-map f p [] = refl
any-of-map f p (a ∷ l) = ap (λ (b : Bool). p (f a) || b) (any-of-map f p l)

-- ---- what was gone through, and the keys left
abbrev has_id : List ℕ → Bool
has_id v = not (no_id v)

abbrev has_kwk : List ℕ → Bool
has_kwk v = not (no_kwk v)

abbrev pub plus_keys : KeyFacts → List (List ℕ) → KeyFacts
plus_keys f l = record {
  keys = f.keys + length l;
  named = f.named || any has_id l;
  unnamed = f.unnamed || any no_id l;
  with_kwk_id = f.with_kwk_id || any has_kwk l;
  itself = f.itself || any one_id l;
}

abbrev pub no_keys : KeyFacts
no_keys = record { keys = 0; named = false; unnamed = false; with_kwk_id = false; itself = false }

from-none : (l : List (List ℕ)) → plus_keys no_keys l ≡ key_facts_of l
from-none l = let e : 0 + length l ≡ length l = omega arith in
    λ i. record { keys = e i; named = any has_id l; unnamed = any no_id l; with_kwk_id = any has_kwk l; itself = any one_id l }

none_left : (f : KeyFacts) → plus_keys f [] ≡ f
unfolding any
none_left f = let e : f.keys + 0 ≡ f.keys = omega arith in
    λ i. record {
      keys = e i;
      named = or-false f.named i;
      unnamed = or-false f.unnamed i;
      with_kwk_id = or-false f.with_kwk_id i;
      itself = or-false f.itself i;
    }

one_more : (f : KeyFacts) (v : List ℕ) (l : List (List ℕ)) → plus_keys f (v ∷ l) ≡ plus_keys (with_key f v) l
unfolding any
one_more f v l = let e : f.keys + length (v ∷ l) ≡ f.keys + 1 + length l = omega arith in
    λ i. record {
      keys = e i;
      named = or-joined f.named (has_id v) (any has_id l) i;
      unnamed = or-joined f.unnamed (no_id v) (any no_id l) i;
      with_kwk_id = or-joined f.with_kwk_id (has_kwk v) (any has_kwk l) i;
      itself = or-joined f.itself (one_id v) (any one_id l) i;
    }

-- ---- the walk: where it stands at a place
module _ (m : Meaning) (p : Place) (s : List ℕ) where
  pub record KeyWalk (f : KeyFacts) (at : ℕ) : Type 0 where
    pub few : f.keys ≤ at
    pub inside : at ≤ length s
    pub rest : is_whole (attributes p 0 (drop at s)) ≡ true
    pub so_far : plus_keys f (values_in m p (drop at s)) ≡ key_facts_of (values_in m p s)

  pub keys-start : is_whole (attributes p 0 s) ≡ true → KeyWalk no_keys 0
  keys-start e = record { few = omega arith; inside = omega arith; rest = e; so_far = from-none (values_in m p s) }

  module _ (f : KeyFacts) (at : ℕ) (w : KeyWalk f at) where
    pub keys-end : values_in m p (drop at s) ≡ [] → (f ≡ key_facts_of (values_in m p s)) × (f.keys ≤ length s)
    keys-end e = (
      sym (none_left f) ∙ ap (plus_keys f) (sym e) ∙ w.so_far,
      omega (arith, w.few, w.inside),
    )

    module _ (a e : ℕ) (o : ValueFoundAt m p s at a e) where
      pub key-sized : carries_key m ≡ true → 8 ≤ length (part s a e)
      key-sized k = let z = first-sized m k p (drop at s) w.rest _ _ o.first in omega arith

      pub keys-less : length s - e < length s - at
      keys-less = omega (arith, o.start, o.order, o.inside)

      pub keys-room : f.keys + 1 ≤ length s
      keys-room = omega (arith, w.few, o.start, o.order, o.inside)

      pub keys-next : (g : KeyFacts) → g ≡ with_key f (part s a e) → KeyWalk g e
      keys-next g q = record {
        few = omega (arith, ap (λ (x : KeyFacts). x.keys) q, w.few, o.start, o.order);
        inside = o.inside;
        rest = o.rest;
        so_far =
            ap (λ (x : KeyFacts). plus_keys x (values_in m p (drop e s))) q ∙ sym (one_more f (part s a e) (values_in m p (drop e s)))
            ∙ ap (plus_keys f) (sym o.first) ∙ w.so_far;
      }

-- ---- the keys that the values are
pub sa-keys-are : (l : List (List ℕ)) → key_facts_of l ≡ of_sa_keys (map sa_key_of l)
sa-keys-are l = λ i. record {
  keys = sym (length-map l sa_key_of) i;
  named = sym (any-of-map sa_key_of has_key_id l) i;
  unnamed = sym (any-of-map sa_key_of (λ (k : SaKey). eqb k.key_id 0) l) i;
  with_kwk_id = sym (any-of-map sa_key_of has_kwk_id l) i;
  itself = sym (any-of-map sa_key_of (λ (k : SaKey). eqb k.key_id k.kwk_id) l) i;
}

pub wrap-keys-are : (l : List (List ℕ)) → key_facts_of l ≡ of_wrap_keys (map wrap_key_of l)
wrap-keys-are l = λ i. record {
  keys = sym (length-map l wrap_key_of) i;
  named = sym (any-of-map wrap_key_of (λ (k : WrapKey). not (eqb k.key_id 0)) l) i;
  unnamed = sym (any-of-map wrap_key_of (λ (k : WrapKey). eqb k.key_id 0) l) i;
  with_kwk_id = sym (any-of-map wrap_key_of (λ (k : WrapKey). not (eqb k.kwk_id 0)) l) i;
  itself = sym (any-of-map wrap_key_of under_itself l) i;
}
