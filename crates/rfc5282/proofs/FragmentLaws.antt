-- The fragment's layout: its test holds exactly of what the relation says.
use mathlib.Core.Path.{◌≡◌, sym, ap, ap₂, ◌∙◌}
use mathlib.Core.Bool.{Bool, true, false, ◌&&◌}
use mathlib.Core.List.{List, ◌++◌}
use Prim.Native.Nat.{ℕ, ◌+◌, ◌<◌, ◌≤◌}
use native.Mathlib.Omega.{arith}
use borrow.Author.Tests.{leb-true, le-leb, lt-leb}
use lib.Dec.{leb}
use lib.ListN.{length, drop, length-append, length-drop, take-append-drop}
use lib.Seq.{drop_at, drop-drop}
use Rattle.lists.proofs.Cases.{and_parts}
use Rattle.octets.specs.Numbers.{number, octets_of}
use Rattle.octets.specs.Octets.{Octets}
use Rattle.octets.specs.Walk.{be16}
use Rattle.octets.proofs.Numerals.{number_append}
use Rattle.octets.proofs.Octets.{drop-octets}
use Rattle.octets.proofs.RoundTrip.{length-octets, number-octets, number_lt, octets-number}
use Rattle.rfc5282.specs.Outer.{alone, IsAlone}
use Rattle.rfc5282.specs.OuterFragment.{number_in, total_in, outer_fragment, IsFragment}
use Rattle.rfc5282.proofs.OuterLaws.{Alone, alone-is, is-alone}
use Rattle.rfc5282.proofs.LayoutLaws.{alone-relates, alone-long, alone-body, relates-alone}

pub record Fragment (s : List ℕ) : Type 0 where
  pub frame : Alone 53 s
  pub body : 36 ≤ length s
  pub counted : 1 ≤ number_in s
  pub in-total : number_in s ≤ total_in s

abbrev within : List ℕ → Bool
within s = leb 1 (number_in s) && leb (number_in s) (total_in s)

pub fragment-is : (s : List ℕ) → outer_fragment s ≡ true → Fragment s
unfolding outer_fragment
fragment-is s e =
    let a = and_parts (alone 53 s) (leb 36 (length s) && within s) e in
    let b = and_parts (leb 36 (length s)) (within s) a.1 in
    let c = and_parts (leb 1 (number_in s)) (leb (number_in s) (total_in s)) b.1 in
    record {
      frame = alone-is 53 s a.0;
      body = leb-true 36 (length s) b.0;
      counted = leb-true 1 (number_in s) c.0;
      in-total = leb-true (number_in s) (total_in s) c.1;
    }

module _ (s : List ℕ) where
  -- by the tests in turn
  pub not-alone : alone 53 s ≡ false → false ≡ outer_fragment s
  unfolding outer_fragment
  not-alone e = sym (ap (λ (t : Bool). t && (leb 36 (length s) && within s)) e)

  module _ (a : alone 53 s ≡ true) where
    pub no-numbers : length s < 36 → false ≡ outer_fragment s
    unfolding outer_fragment
    no-numbers l = sym (ap₂ (λ (t q : Bool). t && (q && within s)) a (lt-leb 36 (length s) l))

    module _ (l : 36 ≤ length s) where
      past : outer_fragment s ≡ within s
      unfolding outer_fragment
      past = ap₂ (λ (t q : Bool). t && (q && within s)) a (le-leb 36 (length s) l)

      pub number-0 : number_in s < 1 → false ≡ outer_fragment s
      number-0 h = sym (past ∙ ap (λ (t : Bool). t && leb (number_in s) (total_in s)) (lt-leb 1 (number_in s) h))

      pub last-number : 1 ≤ number_in s → leb (number_in s) (total_in s) ≡ outer_fragment s
      last-number h = sym (past ∙ ap (λ (t : Bool). t && leb (number_in s) (total_in s)) (le-leb 1 (number_in s) h))

pub is-fragment : (s : List ℕ) → Fragment s → outer_fragment s ≡ true
is-fragment s f =
    sym (last-number s (is-alone 53 s f.frame) f.body f.counted) ∙ le-leb (number_in s) (total_in s) f.in-total

-- ---- EXACTLY
pub fragment-relates : (s : List ℕ) → Octets s → outer_fragment s ≡ true → IsFragment s
unfolding outer_fragment
fragment-relates s o e =
    record {
      frame = frame;
      number = number_in s;
      total = total_in s;
      body = drop 36 s;
      is = alone-body 53 s frame ∙ two 32 (omega (arith, f.body)) ∙ ap (λ (w : List ℕ). octets_of 2 (number_in s) ++ w) (two 34 f.body);
      least = f.counted;
      in-total = f.in-total;
      total-most = let q : total_in s < 65536 = number_lt 2 (drop 34 s) (drop-octets 34 s o) in omega (arith, q);
    }
  where
    f : Fragment s
    f = fragment-is s e

    frame : IsAlone 53 s
    frame = alone-relates 53 s o (and_parts (alone 53 s) (leb 36 (length s) && within s) e).0

    two : (i : ℕ) → i + 2 ≤ length s → drop i s ≡ octets_of 2 (be16 s i) ++ drop (i + 2) s
    two i l =
        sym (take-append-drop 2 (drop i s))
        ∙ ap₂ (λ (a b : List ℕ). a ++ b)
        (sym (octets-number 2 (drop i s) (drop-octets i s o) (omega (arith, length-drop i s, l)))) (drop-drop 2 i s)

module _ (s : List ℕ) (r : IsFragment s) where
  abbrev tail : List ℕ
  tail = octets_of 2 r.total ++ r.body

  behind : drop 32 s ≡ octets_of 2 r.number ++ tail
  behind = sym (alone-body 53 s r.frame) ∙ r.is

  behind-number : drop 34 s ≡ tail
  behind-number =
      sym (drop-drop 2 32 s) ∙ ap (drop 2) behind ∙ drop_at (octets_of 2 r.number) tail 2 (length-octets 2 r.number)

  -- the readers give back the two numbers
  pub number_is : number_in s ≡ r.number
  number_is =
      ap (number 2) behind ∙ number_append 2 0 (octets_of 2 r.number) tail (omega (arith, length-octets 2 r.number))
      ∙ number-octets 2 r.number (let q : r.number < 65536 = omega (arith, r.in-total, r.total-most) in q)

  pub total-is : total_in s ≡ r.total
  total-is =
      ap (number 2) behind-number
      ∙ number_append 2 0 (octets_of 2 r.total) r.body (omega (arith, length-octets 2 r.total))
      ∙ number-octets 2 r.total (let q : r.total < 65536 = omega (arith, r.total-most) in q)

  long : 36 ≤ length s
  long =
      omega (
        arith,
        alone-long 53 s r.frame,
        ap length r.is,
        length-append (octets_of 2 r.number) tail,
        length-append (octets_of 2 r.total) r.body,
        length-octets 2 r.number,
        length-octets 2 r.total,
      )

  pub relates-fragment : outer_fragment s ≡ true
  relates-fragment =
      sym (last-number s (relates-alone 53 s r.frame) long (omega (arith, number_is, r.least)))
      ∙ le-leb (number_in s) (total_in s) (omega (arith, number_is, total-is, r.in-total))
