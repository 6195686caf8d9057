-- The outer layout's test holds exactly of what the relation says, and of every frame that is sealed.
use mathlib.Core.Path.{◌≡◌, sym, ap, ap₂, ◌∙◌}
use mathlib.Core.Bool.{true}
use mathlib.Core.List.{List, [], ◌∷◌, ◌++◌, append_assoc}
use Prim.Native.Nat.{ℕ, suc, ◌+◌, ◌/◌, ◌<◌, ◌≤◌}
use native.Mathlib.Omega.{arith}
use lib.ListN.{length, take, drop, length-append, length-drop, take-append-drop, get_or-append}
use lib.Seq.{drop_at, drop-drop, length-take-le, get_or-take}
use Rattle.octets.specs.Numbers.{oct, number, octets_of}
use Rattle.octets.specs.Octets.{Octets}
use Rattle.octets.specs.Walk.{be16, be32}
use Rattle.octets.specs.Generate.{gen}
use Rattle.octets.proofs.Numerals.{number_append, number-take}
use Rattle.octets.proofs.Octets.{drop-octets}
use Rattle.octets.proofs.RoundTrip.{length-octets, number-octets, octets-number}
use Rattle.sp800_38d.specs.Encryption.{sealed}
use Rattle.sp800_38d.proofs.SealLaws.{length-sealed}
use Rattle.rfc5282.specs.SealedFrame.{Choice, FitChoice, header_with, with_padding, body_size, additional_of}
use Rattle.rfc5282.specs.SealedFrame.{sealed_behind, sealed_frame}
use Rattle.rfc5282.specs.Outer.{alone, outer, IsAlone, IsOuter}
use Rattle.rfc5282.proofs.CellLaws.{cells, header-cells}
use Rattle.rfc5282.proofs.OuterLaws.{Alone, alone-is, is-alone}
use Rattle.rfc5282.proofs.OpenLaws.{length-header}

pub alone-relates : (type : ℕ) (s : List ℕ) → Octets s → alone type s ≡ true → IsAlone type s
alone-relates type s o e =
    record {
      header = take 28 s;
      next = oct s 28;
      reserved = oct s 29;
      body = drop 32 s;
      size = length-take-le 28 s (omega (arith, f.least));
      first = get_or-take 28 s 16 0 (omega arith) ∙ f.next;
      version = ap (λ (x : ℕ). x / 16) (get_or-take 28 s 17 0 (omega arith)) ∙ f.version;
      counts = number-take 4 24 28 s (omega arith) ∙ f.counts;
      most = f.most;
      is = sym (take-append-drop 32 s) ∙ ap (λ (w : List ℕ). w ++ drop 32 s) (cells s 0 32 f.least)
          ∙ ap₂ (λ (w c : List ℕ). w ++ (oct s 28 ∷ oct s 29 ∷ c ++ drop 32 s)) (sym (cells s 0 28 (omega (arith, f.least)))) size-cells;
    }
  where
    f : Alone type s
    f = alone-is type s e

    size-cells : gen (oct s) 30 2 ≡ octets_of 2 (4 + length (drop 32 s))
    size-cells =
        sym (cells s 30 2 f.least) ∙ sym (octets-number 2 (drop 30 s) (drop-octets 30 s o) (omega (arith, length-drop 30 s, f.least)))
        ∙ ap (octets_of 2) (let q : be16 s 30 ≡ 4 + length (drop 32 s) = omega (arith, length-drop 32 s, f.fills, f.least) in q)

module _ (type : ℕ) (s : List ℕ) (r : IsAlone type s) where
  abbrev h : List ℕ
  h = r.header

  abbrev n : ℕ
  n = 4 + length r.body

  abbrev t : List ℕ
  t = r.next ∷ r.reserved ∷ octets_of 2 n ++ r.body

  two : length (octets_of 2 n ++ r.body) ≡ 2 + length r.body
  two = length-append (octets_of 2 n) r.body ∙ ap (λ (k : ℕ). k + length r.body) (length-octets 2 n)

  pub alone-long : length s ≡ 32 + length r.body
  alone-long = ap length r.is ∙ length-append h t ∙ ap₂ (λ (a b : ℕ). a + suc (suc b)) r.size two ∙ omega arith

  behind : drop 30 s ≡ octets_of 2 n ++ r.body
  behind =
      ap (drop 30) (r.is ∙ sym (append_assoc h (r.next ∷ r.reserved ∷ []) (octets_of 2 n ++ r.body)))
      ∙ drop_at (h ++ (r.next ∷ r.reserved ∷ [])) (octets_of 2 n ++ r.body) 30
      (length-append h (r.next ∷ r.reserved ∷ []) ∙ ap (λ (k : ℕ). k + 2) r.size)

  pub alone-body : r.body ≡ drop 32 s
  alone-body = sym (sym (drop-drop 2 30 s) ∙ ap (drop 2) behind ∙ drop_at (octets_of 2 n) r.body 2 (length-octets 2 n))

  count : be16 s 30 ≡ n
  count =
      ap (number 2) behind ∙ number_append 2 0 (octets_of 2 n) r.body (omega (arith, length-octets 2 n))
      ∙ number-octets 2 n (let q : n < 65536 = omega (arith, alone-long, r.most) in q)

  pub relates-alone : alone type s ≡ true
  relates-alone =
      is-alone type s
      (record {
        least = omega (arith, alone-long);
        most = r.most;
        counts = ap (λ (w : List ℕ). be32 w 24) r.is ∙ number_append 4 24 h t (omega (arith, r.size)) ∙ r.counts;
        next = ap (λ (w : List ℕ). oct w 16) r.is ∙ get_or-append h t 0 16 (omega (arith, r.size)) ∙ r.first;
        version = ap (λ (w : List ℕ). oct w 17 / 16) r.is
            ∙ ap (λ (x : ℕ). x / 16) (get_or-append h t 0 17 (omega (arith, r.size))) ∙ r.version;
        fills = ap (λ (n : ℕ). 28 + n) count ∙ omega (arith, alone-long);
      })

pub outer-relates : (s : List ℕ) → Octets s → outer s ≡ true → IsOuter s
unfolding outer
outer-relates s o e = alone-relates 46 s o e

pub relates-outer : (s : List ℕ) → IsOuter s → outer s ≡ true
unfolding outer
relates-outer s r = relates-alone 46 s r

-- what is sealed is such a frame
module _ (key salt o : List ℕ) (c : Choice) (fit : FitChoice c) (header : 28 ≤ length o) (v : oct o 17 / 16 ≡ 2)
    (most : length (sealed_frame key salt o c) ≤ 16384) where
  abbrev size : ℕ
  size = body_size (drop 28 o) c

  abbrev head : List ℕ
  head = header_with 46 (32 + size) o

  abbrev rest : List ℕ
  rest = c.iv ++ sealed key (salt ++ c.iv) (additional_of o c) (with_padding (drop 28 o) c)

  length_rest : length rest ≡ size
  unfolding body_size
  length_rest =
      length-append c.iv (sealed key (salt ++ c.iv) (additional_of o c) (with_padding (drop 28 o) c))
      ∙ ap₂ (λ (m n : ℕ). m + n) fit.iv-size (length-sealed key (salt ++ c.iv) (additional_of o c) (with_padding (drop 28 o) c))
      ∙ omega arith

  frame_is : sealed_frame key salt o c ≡ head ++ (oct o 16 ∷ c.reserved ∷ octets_of 2 (4 + length rest) ++ rest)
  unfolding sealed_frame sealed_behind additional_of
  frame_is =
      append_assoc head (oct o 16 ∷ c.reserved ∷ octets_of 2 (4 + size)) rest
      ∙ ap (λ (n : ℕ). head ++ (oct o 16 ∷ c.reserved ∷ octets_of 2 (4 + n) ++ rest)) (sym length_rest)

  length-frame : length (sealed_frame key salt o c) ≡ 32 + size
  length-frame =
      ap length frame_is ∙ length-append head (oct o 16 ∷ c.reserved ∷ octets_of 2 (4 + length rest) ++ rest)
      ∙ ap₂ (λ (m n : ℕ). m + suc (suc n)) (length-header o header 46 (32 + size))
      (length-append (octets_of 2 (4 + length rest)) rest ∙ ap₂ (λ (m n : ℕ). m + n) (length-octets 2 (4 + length rest)) length_rest)
      ∙ omega arith

  pub sealed-outer : outer (sealed_frame key salt o c) ≡ true
  unfolding octets_of
  sealed-outer =
      relates-outer (sealed_frame key salt o c)
      (record {
        header = head;
        next = oct o 16;
        reserved = c.reserved;
        body = rest;
        size = length-header o header 46 (32 + size);
        first = ap (λ (w : List ℕ). oct w 16) (header-cells o header 46 (32 + size));
        version = ap (λ (w : List ℕ). oct w 17 / 16) (header-cells o header 46 (32 + size)) ∙ v;
        counts = ap (λ (w : List ℕ). number 4 (drop 24 w)) (header-cells o header 46 (32 + size))
            ∙ number-octets 4 (32 + size) (let q : 32 + size < 4294967296 = omega (arith, length-frame, most) in q)
            ∙ sym length-frame;
        most = most;
        is = frame_is;
      })
