-- A FRAGMENT OPENS EXACTLY to the piece that was sealed in it: what is found by the steps seals to the fragment, what seals to it is found,
-- and its fields are those received.
use mathlib.Core.Path.{◌≡◌, sym, ap, ◌∙◌}
use mathlib.Core.Bool.{true}
use mathlib.Core.List.{List, ◌∷◌, ◌++◌}
use Prim.Native.Nat.{ℕ, ◌+◌, ◌*◌, ◌-◌, ◌/◌, ◌<◌, ◌≤◌}
use native.Mathlib.Omega.{arith}
use lib.ListN.{length, take, drop, length-append, length-drop}
use lib.Seq.{length-take-le}
use Rattle.octets.specs.Numbers.{oct, number, octets_of}
use Rattle.octets.specs.Octets.{Octets}
use Rattle.octets.specs.Walk.{be16, be32}
use Rattle.octets.specs.Generate.{gen}
use Rattle.octets.proofs.Numerals.{be32-is, number_append, number-take}
use Rattle.octets.proofs.Octets.{take-octets, drop-octets}
use Rattle.octets.proofs.RoundTrip.{number_lt, number-octets, octets-number}
use Rattle.rfc5282.specs.Keys.{aes_key_of, salt_of}
use Rattle.rfc5282.specs.SealedFrame.{Choice, header_with, body_size, sealed_behind}
use Rattle.rfc5282.specs.SealedFragment.{fragment_additional, sealed_fragment, OpensFragment}
use Rattle.rfc5282.specs.OuterFragment.{number_in, total_in, next_in, outer_fragment}
use Rattle.rfc5282.specs.inner.Opened.{opened_payloads, BodyHolds}
use Rattle.rfc5282.proofs.CellLaws.{cells, head_cells, header-cells}
use Rattle.rfc5282.proofs.BodyLaws.{BehindAt, holds-long, held_choice, held-body, held-seals, held_small, held-fit}
use Rattle.rfc5282.proofs.BodyLaws.{add_is, behind-holds, behind-long, behind-text, behind-one}
use Rattle.rfc5282.proofs.OpenLaws.{length-header, frame-length, payload-length}
use Rattle.rfc5282.proofs.FragmentLaws.{Fragment, is-fragment}

-- two octets as a number, as received
two-octets : (s : List ℕ) → Octets s → (i : ℕ) → i + 2 ≤ length s → octets_of 2 (be16 s i) ≡ gen (oct s) i 2
two-octets s o i l =
    octets-number 2 (drop i s) (drop-octets i s o) (omega (arith, length-drop i s, l)) ∙ cells s i 2 l

-- ---- what is found seals to the fragment
module _ (part s : List ℕ) (o : Octets s) (f : Fragment s) (p : ℕ) (h : BodyHolds 36 part s p) where
  abbrev text : List ℕ
  text = opened_payloads 36 part s p

  abbrev choice : Choice
  choice = held_choice 36 part s p h o

  least : 36 ≤ length s
  least = f.body

  length-cells : octets_of 4 (36 + body_size text choice) ≡ gen (oct s) 24 4
  length-cells =
      ap (octets_of 4) (ap (λ (n : ℕ). 36 + n) (held-body 36 part s p h o) ∙
      (let q : 36 + (length s - 36) ≡ length s = omega (arith, least) in q))
      ∙ frame-length 53 s o f.frame

  body-cells : octets_of 2 (8 + body_size text choice) ≡ gen (oct s) 30 2
  body-cells =
      ap (octets_of 2) (ap (λ (n : ℕ). 8 + n) (held-body 36 part s p h o) ∙
      (let q : 8 + (length s - 36) ≡ length s - 28 = omega (arith, least) in q))
      ∙ payload-length 53 s o f.frame

  additional-is : fragment_additional (take 28 s) (oct s 28) (be16 s 32) (be16 s 34) text choice ≡ take 36 s
  unfolding fragment_additional header_with octets_of
  additional-is =
      let kind = sym f.frame.next in
      ap (λ (w : List ℕ). (take 16 w ++ ((53 ∷ take 7 (drop 17 w)) ++ octets_of 4 (36 + body_size text choice)))
      ++ (oct s 28 ∷ oct s 29 ∷ octets_of 2 (8 + body_size text choice) ++ (octets_of 2 (be16 s 32) ++ octets_of 2 (be16 s 34))))
      (cells s 0 28 (omega (arith, least)))
      ∙ (λ i. (gen (oct s) 0 16 ++ ((kind i ∷ gen (oct s) 17 7) ++ length-cells i))
      ++ (oct s 28 ∷ oct s 29 ∷ body-cells i ++ (two-octets s o 32 (omega (arith, least)) i ++ two-octets s o 34 least i)))
      ∙ sym (cells s 0 36 least)

  seals : sealed_fragment (aes_key_of part) (salt_of part) (take 28 s) (oct s 28) (be16 s 32) (be16 s 34) text choice ≡ s
  unfolding sealed_fragment
  seals =
      ap (λ (a : List ℕ). sealed_behind (aes_key_of part) (salt_of part) a text choice) additional-is
      ∙ held-seals 36 part s p h o

  pub opens-fragment : OpensFragment (aes_key_of part) (salt_of part) s (opened_payloads 36 part s p)
  opens-fragment =
      let a = number_lt 2 (drop 32 s) (drop-octets 32 s o) in
      let b = number_lt 2 (drop 34 s) (drop-octets 34 s o) in
      record {
        choice = choice;
        fit = held-fit 36 part s p h o;
        header = take 28 s;
        header-size = length-take-le 28 s (omega (arith, least));
        header-small = take-octets 28 s o;
        next = oct s 28;
        next_small = o 28;
        number = be16 s 32;
        number-most = let q : be16 s 32 < 65536 = a in omega (arith, q);
        total = be16 s 34;
        total-most = let q : be16 s 34 < 65536 = b in omega (arith, q);
        piece-small = held_small 36 part s p h o;
        most = f.frame.most;
        seals = seals;
      }

-- ---- what seals to the fragment is found
module _ (part s x : List ℕ) (h : OpensFragment (aes_key_of part) (salt_of part) s x) where
  abbrev ch : Choice
  ch = h.choice

  abbrev pub additional : List ℕ
  additional = fragment_additional h.header h.next h.number h.total x h.choice

  abbrev fields : List ℕ
  fields = h.next ∷ ch.reserved ∷ octets_of 2 (8 + body_size x ch) ++ (octets_of 2 h.number ++ octets_of 2 h.total)

  header-least : 28 ≤ length h.header
  header-least = omega (arith, h.header-size)

  length-add : length additional ≡ 36
  unfolding fragment_additional octets_of
  length-add =
      length-append (header_with 53 (36 + body_size x ch) h.header) fields
      ∙ ap (λ (n : ℕ). n + 8) (length-header h.header header-least 53 (36 + body_size x ch))

  pub fragment-behind : BehindAt 36 part s additional x h.choice
  unfolding sealed_fragment
  fragment-behind =
      record {
        add-size = length-add;
        small = h.piece-small;
        fit = h.fit;
        seals = h.seals;
      }

  -- the octets of the whole
  pub fragment-long : 61 + length x ≤ length s
  fragment-long =
      omega (arith, holds-long 36 part s (length x) (behind-holds 36 part s additional x ch fragment-behind))

  -- the piece by the steps
  pub piece_is : opened_payloads 36 part s (length x) ≡ x
  piece_is = behind-text 36 part s additional x ch fragment-behind

  -- the additional data, octet by octet
  as-received : head_cells h.header 53 (36 + body_size x ch) ++ fields ≡ gen (oct s) 0 36
  unfolding fragment_additional
  as-received =
      ap (λ (w : List ℕ). w ++ fields) (sym (header-cells h.header header-least 53 (36 + body_size x ch)))
      ∙ add_is 36 part s additional x ch fragment-behind
      ∙ cells s 0 36 (omega (arith, fragment-long))

  spis : gen (oct h.header) 0 16 ≡ gen (oct s) 0 16
  unfolding octets_of
  spis = ap (take 16) as-received

  middle : gen (oct h.header) 17 7 ≡ gen (oct s) 17 7
  unfolding octets_of
  middle = ap (λ (w : List ℕ). take 7 (drop 17 w)) as-received

  -- THE FIELDS OF A FRAGMENT are those it was sealed with
  pub fragment-next : next_in s ≡ h.next
  unfolding octets_of
  fragment-next = sym (ap (λ (w : List ℕ). oct w 28) as-received)

  in-front : (n i : ℕ) → i + n ≤ 36
      → number n (drop i s) ≡ number n (drop i (head_cells h.header 53 (36 + body_size x ch) ++ fields))
  in-front n i l =
      sym (number-take n i 36 s l)
      ∙ ap (λ (w : List ℕ). number n (drop i w)) (cells s 0 36 (omega (arith, fragment-long)) ∙ sym as-received)

  pub fragment-number : number_in s ≡ h.number
  unfolding octets_of
  fragment-number =
      in-front 2 32 (omega arith)
      ∙ number_append 2 0 (octets_of 2 h.number) (octets_of 2 h.total) (omega arith)
      ∙ number-octets 2 h.number (let q : h.number < 65536 = omega (arith, h.number-most) in q)

  pub fragment-total : total_in s ≡ h.total
  unfolding octets_of
  fragment-total =
      in-front 2 34 (omega arith) ∙ number-octets 2 h.total (let q : h.total < 65536 = omega (arith, h.total-most) in q)

  pub fragment-type : oct s 16 ≡ 53
  unfolding octets_of
  fragment-type = sym (ap (λ (w : List ℕ). oct w 16) as-received)

  pub fragment-spis : take 16 s ≡ take 16 h.header
  fragment-spis =
      cells s 0 16 (omega (arith, fragment-long)) ∙ sym spis ∙ sym (cells h.header 0 16 (omega (arith, h.header-size)))

  pub fragment-version : oct s 17 ≡ oct h.header 17
  fragment-version = sym (ap (λ (w : List ℕ). oct w 0) middle)

  pub fragment-exchange : oct s 18 ≡ oct h.header 18
  fragment-exchange = sym (ap (λ (w : List ℕ). oct w 1) middle)

  pub fragment-flags : oct s 19 ≡ oct h.header 19
  fragment-flags = sym (ap (λ (w : List ℕ). oct w 2) middle)

  pub fragment-message : be32 s 20 ≡ be32 h.header 20
  fragment-message =
      be32-is s 20 ∙ ap (λ (w : List ℕ). ((oct w 3 * 256 + oct w 4) * 256 + oct w 5) * 256 + oct w 6) (sym middle)
      ∙ sym (be32-is h.header 20)

  -- WHAT IS SEALED AS A FRAGMENT of a number from 1 to a total, under major version 2, passes the outer test
  module _ (least : 1 ≤ h.number) (in-total : h.number ≤ h.total) (version : oct h.header 17 / 16 ≡ 2) where
    size : length s ≡ 36 + body_size x ch
    size = behind-long 36 part s additional x ch fragment-behind

    counted : be32 s 24 ≡ length s
    unfolding octets_of
    counted =
        in-front 4 24 (omega arith)
        ∙ number_append 4 0 (octets_of 4 (36 + body_size x ch)) fields (omega arith)
        ∙ number-octets 4 (36 + body_size x ch) (let q : 36 + body_size x ch < 4294967296 = omega (arith, size, h.most) in q)
        ∙ sym size

    fills : be16 s 30 ≡ 8 + body_size x ch
    unfolding octets_of
    fills =
        in-front 2 30 (omega arith)
        ∙ number_append 2 0 (octets_of 2 (8 + body_size x ch)) (octets_of 2 h.number ++ octets_of 2 h.total) (omega arith)
        ∙ number-octets 2 (8 + body_size x ch) (let q : 8 + body_size x ch < 65536 = omega (arith, size, h.most) in q)

    pub fragment-outer : outer_fragment s ≡ true
    fragment-outer =
        is-fragment s
        (record {
          frame = record {
            least = omega (arith, size);
            most = h.most;
            counts = counted;
            next = fragment-type;
            version = ap (λ (n : ℕ). n / 16) fragment-version ∙ version;
            fills = omega (arith, fills, size);
          };
          body = omega (arith, size);
          counted = omega (arith, fragment-number, least);
          in-total = omega (arith, fragment-number, fragment-total, in-total);
        })

-- A FRAGMENT OPENS TO ONE PIECE AT MOST
pub piece-one : (part s x y : List ℕ) → OpensFragment (aes_key_of part) (salt_of part) s x
    → OpensFragment (aes_key_of part) (salt_of part) s y → x ≡ y
piece-one part s x y h k =
    behind-one 36 part s (additional part s x h) (additional part s y k) x y h.choice k.choice (fragment-behind part s x h)
    (fragment-behind part s y k)
