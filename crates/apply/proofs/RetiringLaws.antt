-- SAs that the SPIs of a Delete payload retire.
use native.Mathlib.Omega.{arith}
use native.Mathlib.Numerals.{add-one}
use Prim.Native.Nat.{ℕ, ◌+◌, ◌≤◌, ◌<◌}
use mathlib.Core.Path.{◌≡◌, refl, ap, sym, ◌∙◌}
use mathlib.Core.Bool.{Bool, true, false, cond, ◌&&◌, ◌||◌}
use mathlib.Core.List.{List, [], ◌++◌, map}
use borrow.Author.Tests.{eq-eqb, ne_eqb, le-leb, lt-leb}
use lib.Dec.{eqb}
use lib.ListN.{length, take, drop, get_or, drop_of_length-le}
use lib.Seq.{drop-cons}
use Rattle.octets.specs.Compare.{same}
use Rattle.lists.specs.Lists.{any}
use Rattle.state_keys.specs.Limits.{limits}
use Rattle.lists.proofs.Cases.{lt-cases}
use Rattle.state_sa.specs.Entry.{esp_protocol, sa_spi, named, retired}
use Rattle.state_sa.specs.declared.entry.Sa.{Sa}
use Rattle.state_table.specs.Table.{table_of, retired_if}
use Rattle.state_table.specs.declared.Table.{Table}
use Rattle.wire_frames.specs.Delete.{delete_of, delete_fits}
use Rattle.rules_outcome.specs.After.{is_zero}
use Rattle.apply.specs.inner.Tables.{named_in, retired_there}
use Rattle.apply.proofs.TableLaws.{picked-once, named-kept, turned-table, within-table}
use Rattle.apply.proofs.Turns.{Turned, turned-twice, turned_none}

-- ---- the search of an SPI that names an SA
module _ (s : Sa) (l : List (List ℕ)) where
  abbrev names : List ℕ → Bool
  names x = is_zero x || same (sa_spi s) x

  pub other-named : (s.protocol ≡ esp_protocol → ⊥) → false ≡ named_in l s
  other-named e = rw (ne_eqb s.protocol esp_protocol e)

  module _ (e : s.protocol ≡ esp_protocol) (i : ℕ) where
    -- none of the first i does
    abbrev NonePassed : Type 0
    NonePassed = any names l ≡ any names (drop i l)

    all_named : named_in l s ≡ any names l
    all_named = ap (λ (b : Bool). b && any names l) (eq-eqb s.protocol esp_protocol e)

    here : i < length l → any names (drop i l) ≡ (names (get_or l i []) || any names (drop (i + 1) l))
    unfolding any
    here g = ap (any names) (drop-cons l i [] g) ∙ ap (λ (n : ℕ). names (get_or l i []) || any names (drop n l)) (sym (add-one i))

    by-spi : (x : List ℕ) → x ≡ get_or l i [] → (b : Bool) → is_zero x ≡ false → b ≡ named esp_protocol x s → b ≡ names (get_or l i [])
    unfolding named
    by-spi x q b z n =
        n ∙ ap (λ (c : Bool). c && same (sa_spi s) x) (eq-eqb s.protocol esp_protocol e) ∙ ap (λ (c : Bool). c || same (sa_spi s) x) (sym z)
        ∙ ap names q

    found : i < length l → NonePassed → true ≡ names (get_or l i []) → true ≡ named_in l s
    found g w n = sym (all_named ∙ w ∙ here g ∙ ap (λ (b : Bool). b || any names (drop (i + 1) l)) (sym n))

    zero-named : (x : List ℕ) → x ≡ get_or l i [] → i < length l → NonePassed → is_zero x ≡ true → true ≡ named_in l s
    zero-named x q g w z = found g w (ap (λ (c : Bool). c || same (sa_spi s) x) (sym z) ∙ ap names q)

    spi-named : (x : List ℕ) → x ≡ get_or l i [] → i < length l → NonePassed → is_zero x ≡ false → true ≡ named esp_protocol x s →
        true ≡ named_in l s
    spi-named x q g w z n = found g w (by-spi x q true z n)

    spi-passed : (x : List ℕ) → x ≡ get_or l i [] → i < length l → NonePassed → is_zero x ≡ false → false ≡ named esp_protocol x s →
        any names l ≡ any names (drop (i + 1) l)
    spi-passed x q g w z n = w ∙ here g ∙ ap (λ (b : Bool). b || any names (drop (i + 1) l)) (sym (by-spi x q false z n))

    none_named : length l ≤ i → NonePassed → false ≡ named_in l s
    unfolding any
    none_named g w = sym (all_named ∙ w ∙ ap (any names) (drop_of_length-le l {i = i} g))

-- where the search stands: `s` is an ESP SA, and none of the first `i` of the `n` SPIs in the body `o` of a Delete payload names it
pub record Unnamed (s : Sa) (o : List ℕ) (n i : ℕ) : Type 0 where
  pub fits : delete_fits o ≡ true
  pub counted : n ≡ length (delete_of o).spis
  pub esp : s.protocol ≡ esp_protocol
  pub passed : any (names s (delete_of o).spis) (delete_of o).spis ≡ any (names s (delete_of o).spis) (drop i (delete_of o).spis)

pub unnamed-start : (s : Sa) (o : List ℕ) (n : ℕ) → s.protocol ≡ esp_protocol → delete_fits o ≡ true → n ≡ length (delete_of o).spis
    → Unnamed s o n 0
unnamed-start s o n e f c = record { fits = f; counted = c; esp = e; passed = refl }

module _ (s : Sa) (o : List ℕ) (n i : ℕ) (w : Unnamed s o n i) where
  pub unnamed-inside : i < n → i < length (delete_of o).spis
  unnamed-inside h = omega (arith, w.counted)

  pub unnamed-end : n ≤ i → false ≡ named_in (delete_of o).spis s
  unnamed-end h = none_named s (delete_of o).spis w.esp i (omega (arith, w.counted)) w.passed

  -- the SPI at i is x
  module _ (h : i < n) (x : List ℕ) (q : x ≡ get_or (delete_of o).spis i []) where
    pub unnamed-zero : is_zero x ≡ true → true ≡ named_in (delete_of o).spis s
    unnamed-zero z = zero-named s (delete_of o).spis w.esp i x q (unnamed-inside h) w.passed z

    pub unnamed-spi : is_zero x ≡ false → true ≡ named esp_protocol x s → true ≡ named_in (delete_of o).spis s
    unnamed-spi z t = spi-named s (delete_of o).spis w.esp i x q (unnamed-inside h) w.passed z t

    pub unnamed-next : is_zero x ≡ false → false ≡ named esp_protocol x s → Unnamed s o n (i + 1)
    unnamed-next z t =
        record {
          fits = w.fits;
          counted = w.counted;
          esp = w.esp;
          passed = spi-passed s (delete_of o).spis w.esp i x q (unnamed-inside h) w.passed z t;
        }

-- ---- SAs of a table that retire in their places
module _ (now delay : ℕ) where
  nobody : (s : Sa) → retired_if (named_in []) now delay s ≡ s
  unfolding retired_if any
  nobody s = by (eqb s.protocol esp_protocol)
    where
      by : (e : Bool) → cond (e && false) (retired now delay s) s ≡ s
      by true = refl
      by false = refl

  module _ (p : Sa → Bool) (t : Table) where
    pub there_out : limits.sas < t.count → t ≡ retired_there p now delay t
    unfolding retired_there
    there_out h = rw (lt-leb t.count limits.sas h)

    pub there-made : (s : List Sa) → t.count ≤ limits.sas → Turned (retired_if p now delay) t.sas s t.count →
        record { sas = s; count = t.count } ≡ retired_there p now delay t
    unfolding retired_there
    there-made s h e = rw (le-leb t.count limits.sas h) (ap (λ (x : List Sa). record { sas = x; count = t.count }) e)

    pub there-table : (l : List Sa) → length l ≤ limits.sas → t ≡ table_of limits l →
        retired_there p now delay t ≡ table_of limits (map (retired_if p now delay) l)
    there-table l h e =
        lt-cases limits.sas t.count (λ g. absurd (within-table limits t l h e g))
        (λ g. sym (there-made _ g refl) ∙ turned-table limits t (retired_if p now delay) l h e)

  pub there-none : (t : Table) → t ≡ retired_there (named_in []) now delay t
  there-none t =
      lt-cases limits.sas t.count (λ g. there_out (named_in []) t g)
      (λ g. there-made (named_in []) t t.sas g (sym (turned_none (retired_if (named_in []) now delay) nobody t.count t.sas)))

  pub there-more : (l m : List (List ℕ)) (t : Table) →
      retired_there (named_in m) now delay (retired_there (named_in l) now delay t) ≡ retired_there (λ a. named_in l a || named_in m a) now delay t
  there-more l m t =
      lt-cases limits.sas t.count
      (λ g. ap (retired_there (named_in m) now delay) (sym (there_out (named_in l) t g)) ∙ sym (there_out (named_in m) t g)
      ∙ there_out (λ a. named_in l a || named_in m a) t g)
      (λ g.
      let f = retired_if (named_in l) now delay in
      let s = map f (take t.count t.sas) ++ drop t.count t.sas in
      let first : record { sas = s; count = t.count } ≡ retired_there (named_in l) now delay t = there-made (named_in l) t s g refl in
      ap (retired_there (named_in m) now delay) (sym first)
      ∙ sym (there-made (named_in m) (record { sas = s; count = t.count }) _ g refl)
      ∙ there-made (λ a. named_in l a || named_in m a) t _ g
      (turned-twice f (retired_if (named_in m) now delay) t.count t.sas
      ∙ ap (λ (h : Sa → Sa). map h (take t.count t.sas) ++ drop t.count t.sas)
      (λ i a. picked-once now delay (named_in l) (named_in m) (named-kept now delay m) a i)))
