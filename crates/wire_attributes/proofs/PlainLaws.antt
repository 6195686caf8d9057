-- The attributes of a Group Key Bag where fresh keys are read and where they are not (document 02, T-11): what is formed where they are
-- read is formed where they are not, SA_KEYs are the same, and where they are not read there is none.
use Prim.Native.Nat.{ℕ}
use mathlib.Core.Path.{◌≡◌, refl, ap}
use mathlib.Core.List.{List, [], ◌∷◌, map}
use mathlib.Core.Bool.{Bool, true, false, cond}
use lib.ListN.{length}
use lib.Dec.{eqb}
use Rattle.octets.specs.Walk.{no-more, then}
use Rattle.wire_attributes.specs.Attribute.{Attribute}
use Rattle.wire_attributes.specs.Place.{format_fits, in_bag}
use Rattle.wire_attributes.specs.Layout.{formed_in}
use Rattle.wire_attributes.specs.Tree.{sa_key_of, wrap_key_of, code_of, means, values_of, sa_keys, fresh_keys}
use Rattle.wire_attributes.specs.Grammar.{Attributes}
use Rattle.wire_attributes.specs.declared.tables.Place.TheVariants as place
use Rattle.wire_attributes.specs.declared.tables.Meaning.TheVariants as meaning

-- ---- one attribute
formed-by : (u v short : Bool) (n : ℕ) → format_fits (cond u meaning.SaKey (cond v meaning.FreshKey meaning.Skipped)) short n ≡ true
    → format_fits (cond u meaning.SaKey meaning.Skipped) short n ≡ true
formed-by true v short n e = e
formed-by false v short n e = refl

pub formed-plain : (fresh : Bool) (p : ℕ) (a : Attribute) → formed_in (in_bag fresh p) a ≡ true → formed_in (in_bag false p) a ≡ true
formed-plain fresh p a = go (eqb p 6) fresh
  where
    go : (t f : Bool) → formed_in (cond t (cond f place.FreshRekeyBag place.RekeyBag) place.DataBag) a ≡ true
        → formed_in (cond t place.RekeyBag place.DataBag) a ≡ true
    go true true e = formed-by (eqb a.kind 1) (eqb a.kind 16385) a.short (length a.value) e
    go true false e = e
    go false f e = e

sa-by : (u v : Bool) → eqb (code_of (cond u meaning.SaKey (cond v meaning.FreshKey meaning.Skipped))) 5
    ≡ eqb (code_of (cond u meaning.SaKey meaning.Skipped)) 5
sa-by true v = refl
sa-by false true = refl
sa-by false false = refl

sa-plain : (fresh : Bool) (p : ℕ) (a : Attribute) → means meaning.SaKey (in_bag fresh p) a ≡ means meaning.SaKey (in_bag false p) a
sa-plain fresh p a = go (eqb p 6) fresh
  where
    go : (t f : Bool) → means meaning.SaKey (cond t (cond f place.FreshRekeyBag place.RekeyBag) place.DataBag) a
        ≡ means meaning.SaKey (cond t place.RekeyBag place.DataBag) a
    go true true = sa-by (eqb a.kind 1) (eqb a.kind 16385)
    go true false = refl
    go false f = refl

none-by : (u : Bool) → eqb (code_of (cond u meaning.SaKey meaning.Skipped)) 7 ≡ false
none-by true = refl
none-by false = refl

none-plain : (p : ℕ) (a : Attribute) → means meaning.FreshKey (in_bag false p) a ≡ false
none-plain p a = go (eqb p 6)
  where
    go : (t : Bool) → means meaning.FreshKey (cond t place.RekeyBag place.DataBag) a ≡ false
    go true = none-by (eqb a.kind 1)
    go false = none-by (eqb a.kind 1)

-- ---- the attributes of a bag
pub attributes-plain : (fresh : Bool) (p : ℕ) {s : List ℕ} {l : List Attribute} → Attributes (in_bag fresh p) s l
    → Attributes (in_bag false p) s l
attributes-plain fresh p no-more = no-more
attributes-plain fresh p (then o s {a = a} i r) =
    then o s (record { format = i.format; formed = formed-plain fresh p a i.formed }) (attributes-plain fresh p r)

sa-values : (fresh : Bool) (p : ℕ) (l : List Attribute) → values_of meaning.SaKey (in_bag fresh p) l
    ≡ values_of meaning.SaKey (in_bag false p) l
unfolding values_of
sa-values fresh p [] = refl
sa-values fresh p (a ∷ l) = λ j. cond (sa-plain fresh p a j) (a.value ∷ sa-values fresh p l j) (sa-values fresh p l j)

pub sa-keys-plain : (fresh : Bool) (p : ℕ) (l : List Attribute) → sa_keys (in_bag fresh p) l ≡ sa_keys (in_bag false p) l
sa-keys-plain fresh p l = ap (map sa_key_of) (sa-values fresh p l)

no-values : (p : ℕ) (l : List Attribute) → values_of meaning.FreshKey (in_bag false p) l ≡ []
unfolding values_of
no-values p [] = refl
no-values p (a ∷ l) = λ j. cond (none-plain p a j) (a.value ∷ no-values p l j) (no-values p l j)

pub no-fresh-keys : (p : ℕ) (l : List Attribute) → fresh_keys (in_bag false p) l ≡ []
no-fresh-keys p l = ap (map wrap_key_of) (no-values p l)
