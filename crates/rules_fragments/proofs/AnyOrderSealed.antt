-- What is sealed as a fragment is a fragment, whatever octets the seal has: no bound on them is asked for.
use native.Mathlib.Omega.{arith}
use Prim.Native.Nat.{ℕ, ◌+◌, ◌/◌, ◌<◌, ◌≤◌}
use mathlib.Core.Path.{◌≡◌, refl, ap, sym, ◌∙◌}
use mathlib.Core.List.{List, ◌∷◌, ◌++◌, append_assoc}
use lib.ListN.{length, take, drop, length-append, length-drop, take-append-drop}
use lib.Seq.{take_at, get_or-take}
use Rattle.octets.specs.Numbers.{oct, number, octets_of}
use Rattle.octets.proofs.Numerals.{number-take}
use Rattle.octets.proofs.RoundTrip.{length-octets}
use Rattle.rfc5282.specs.Keys.{aes_key_of, salt_of}
use Rattle.rfc5282.specs.SealedFrame.{header_with, body_size}
use Rattle.rfc5282.specs.SealedFragment.{fragment_additional, OpensFragment}
use Rattle.rfc5282.specs.OuterFragment.{IsFragment}
use Rattle.rfc5282.proofs.OpenLaws.{length-header}
use Rattle.rfc5282.proofs.BodyLaws.{add_is, behind-long}
use Rattle.rfc5282.proofs.FragmentLaws.{Fragment, fragment-is}
use Rattle.rfc5282.proofs.PieceLaws.{additional, fragment-behind, fragment-outer}

module _ (part s x : List ℕ) (h : OpensFragment (aes_key_of part) (salt_of part) s x) (least : 1 ≤ h.number) (in-total : h.number ≤ h.total)
    (version : oct h.header 17 / 16 ≡ 2) where
  abbrev size : ℕ
  size = body_size x h.choice

  abbrev own_header : List ℕ
  own_header = header_with 53 (36 + size) h.header

  abbrev own_body : List ℕ
  own_body = octets_of 2 h.number ++ (octets_of 2 h.total ++ drop 36 s)

  fragment : Fragment s
  fragment = fragment-is s (fragment-outer part s x h least in-total version)

  header-long : length own_header ≡ 28
  header-long = let e = h.header-size in length-header h.header (omega arith) 53 (36 + size)

  body-long : 4 + length own_body ≡ 8 + size
  body-long =
      omega (
        arith,
        length-append (octets_of 2 h.number) (octets_of 2 h.total ++ drop 36 s),
        length-append (octets_of 2 h.total) (drop 36 s),
        length-octets 2 h.number,
        length-octets 2 h.total,
        length-drop 36 s,
        behind-long 36 part s (additional part s x h) x h.choice (fragment-behind part s x h),
      )

  -- by its parts
  parts : own_header ++ (h.next ∷ h.choice.reserved ∷ octets_of 2 (4 + length own_body) ++ own_body) ≡ s
  unfolding fragment_additional
  parts =
      let a = octets_of 2 h.number in
      let b = octets_of 2 h.total in
      let k = octets_of 2 (8 + size) in
      let whole = ap (λ (w : List ℕ). w ++ drop 36 s)
      (add_is 36 part s (additional part s x h) x h.choice (fragment-behind part s x h)) ∙ take-append-drop 36 s in
      let inner = ap (λ (w : List ℕ). k ++ w) (sym (append_assoc a b (drop 36 s))) ∙ sym (append_assoc k (a ++ b) (drop 36 s)) in
      ap (λ (n : ℕ). own_header ++ (h.next ∷ h.choice.reserved ∷ octets_of 2 n ++ own_body)) body-long
      ∙ ap (λ (w : List ℕ). own_header ++ (h.next ∷ h.choice.reserved ∷ w)) inner
      ∙ sym (append_assoc own_header (h.next ∷ h.choice.reserved ∷ k ++ (a ++ b)) (drop 36 s)) ∙ whole

  header_is : own_header ≡ take 28 s
  header_is =
      sym (take_at own_header (h.next ∷ h.choice.reserved ∷ octets_of 2 (4 + length own_body) ++ own_body) 28 header-long)
      ∙ ap (take 28) parts

  header_at : (i : ℕ) → i < 28 → oct own_header i ≡ oct s i
  header_at i g = ap (λ (w : List ℕ). oct w i) header_is ∙ get_or-take 28 s i 0 g

  pub sealed-is-fragment : IsFragment s
  sealed-is-fragment =
      record {
        frame =
            record {
              header = own_header;
              next = h.next;
              reserved = h.choice.reserved;
              body = own_body;
              is = sym parts;
              size = header-long;
              most = h.most;
              counts = ap (λ (w : List ℕ). number 4 (drop 24 w)) header_is ∙ number-take 4 24 28 s (omega arith) ∙ fragment.frame.counts;
              version = ap (λ (n : ℕ). n / 16) (header_at 17 (omega arith)) ∙ fragment.frame.version;
              first = header_at 16 (omega arith) ∙ fragment.frame.next;
            };
        number = h.number;
        total = h.total;
        body = drop 36 s;
        is = refl;
        least = least;
        in-total = in-total;
        total-most = h.total-most;
      }
