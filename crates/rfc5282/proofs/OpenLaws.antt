-- OPENING EXACTLY INVERTS SEALING: what is found by the steps seals to the frame, and what seals to the frame is found.
use mathlib.Core.Path.{◌≡◌, sym, ap, ap₂, ◌∙◌}
use mathlib.Core.List.{List, ◌∷◌, ◌++◌}
use Prim.Native.Nat.{ℕ, suc, ◌+◌, ◌-◌, ◌<◌, ◌≤◌}
use native.Mathlib.Omega.{arith}
use lib.ListN.{length, take, drop, length-append, length-drop}
use Rattle.octets.specs.Numbers.{oct, number, octets_of}
use Rattle.octets.specs.Octets.{Octets}
use Rattle.octets.specs.Walk.{be16}
use Rattle.octets.specs.Generate.{gen}
use Rattle.octets.proofs.Numerals.{number_append}
use Rattle.octets.proofs.Octets.{join-octets, one-octet, take-octets, drop-octets}
use Rattle.octets.proofs.RoundTrip.{length-octets, octets-octets, number-octets, octets-number}
use Rattle.rfc5282.specs.Keys.{aes_key_of, salt_of}
use Rattle.rfc5282.specs.SealedFrame.{Choice, header_with, body_size, additional_of, sealed_frame, sealed_behind, OpensFrame}
use Rattle.rfc5282.specs.inner.Opened.{opened_of, opened_payloads, BodyHolds}
use Rattle.rfc5282.proofs.CellLaws.{cells, head_cells, header-cells}
use Rattle.rfc5282.proofs.OuterLaws.{Alone, Outer}
use Rattle.rfc5282.proofs.BodyLaws.{BehindAt, holds-long, held_choice, length-held, held-body, held-seals, held_small, held-fit}

pub length-header : (s : List ℕ) → 28 ≤ length s → (next size : ℕ) → length (header_with next size s) ≡ 28
unfolding octets_of
length-header s h next size = ap length (header-cells s h next size)

pub header-octets : (s : List ℕ) → Octets s → (next size : ℕ) → next < 256 → Octets (header_with next size s)
unfolding header_with
header-octets s o next size h =
    join-octets (take 16 s) ((next ∷ take 7 (drop 17 s)) ++ octets_of 4 size) (take-octets 16 s o)
    (join-octets (next ∷ take 7 (drop 17 s)) (octets_of 4 size)
    (one-octet next (take 7 (drop 17 s)) h (take-octets 7 (drop 17 s) (drop-octets 17 s o)))
    (octets-octets 4 size))

-- the length fields of the two headers, as received
module _ (type : ℕ) (s : List ℕ) (o : Octets s) (f : Alone type s) where
  pub frame-length : octets_of 4 (length s) ≡ gen (oct s) 24 4
  frame-length =
      ap (octets_of 4) (sym f.counts)
      ∙ octets-number 4 (drop 24 s) (drop-octets 24 s o) (omega (arith, length-drop 24 s, f.least))
      ∙ cells s 24 4 (omega (arith, f.least))

  pub payload-length : octets_of 2 (length s - 28) ≡ gen (oct s) 30 2
  payload-length =
      ap (octets_of 2) (let q : length s - 28 ≡ be16 s 30 = omega (arith, f.fills, f.least) in q)
      ∙ octets-number 2 (drop 30 s) (drop-octets 30 s o) (omega (arith, length-drop 30 s, f.least))
      ∙ cells s 30 2 f.least

-- ---- what is found seals to the frame
module _ (part s : List ℕ) (o : Octets s) (f : Outer s) (p : ℕ) (h : BodyHolds 32 part s p) where
  abbrev opened : List ℕ
  opened = opened_of part s p

  abbrev text : List ℕ
  text = opened_payloads 32 part s p

  abbrev choice : Choice
  choice = held_choice 32 part s p h o

  least : 28 ≤ length s
  least = omega (arith, f.least)

  opened-is : opened ≡ head_cells s (oct s 28) (28 + p) ++ text
  unfolding opened_of
  opened-is = ap (λ (h : List ℕ). h ++ text) (header-cells s least (oct s 28) (28 + p))

  payloads : drop 28 opened ≡ text
  unfolding octets_of
  payloads = ap (drop 28) opened-is

  pub length-opened : length (opened_of part s p) ≡ 28 + p
  unfolding octets_of
  length-opened =
      ap length opened-is ∙ length-append (head_cells s (oct s 28) (28 + p)) text
      ∙ ap (λ (n : ℕ). 28 + n) (length-held 32 part s p h o)

  body_is : body_size (drop 28 opened) choice ≡ length s - 32
  body_is = ap (λ (w : List ℕ). body_size w choice) payloads ∙ held-body 32 part s p h o

  length-cells : octets_of 4 (32 + body_size (drop 28 opened) choice) ≡ gen (oct s) 24 4
  length-cells =
      ap (octets_of 4) (ap (λ (n : ℕ). 32 + n) body_is ∙ (let q : 32 + (length s - 32) ≡ length s = omega (arith, f.least) in q))
      ∙ frame-length 46 s o f

  body-cells : octets_of 2 (4 + body_size (drop 28 opened) choice) ≡ gen (oct s) 30 2
  body-cells =
      ap (octets_of 2) (ap (λ (n : ℕ). 4 + n) body_is ∙ (let q : 4 + (length s - 32) ≡ length s - 28 = omega (arith, f.least) in q))
      ∙ payload-length 46 s o f

  -- the additional data are those received
  additional-is : additional_of opened choice ≡ take 32 s
  unfolding additional_of header_with octets_of
  additional-is =
      let kind = sym f.next in
      ap (λ (w : List ℕ). (take 16 w ++ ((46 ∷ take 7 (drop 17 w)) ++ octets_of 4 (32 + body_size (drop 28 opened) choice)))
      ++ (oct w 16 ∷ oct s 29 ∷ octets_of 2 (4 + body_size (drop 28 opened) choice))) opened-is
      ∙ (λ i. (gen (oct s) 0 16 ++ ((kind i ∷ gen (oct s) 17 7) ++ length-cells i)) ++ (oct s 28 ∷ oct s 29 ∷ body-cells i))
      ∙ sym (cells s 0 32 f.least)

  seals : sealed_frame (aes_key_of part) (salt_of part) opened choice ≡ s
  unfolding sealed_frame
  seals =
      ap₂ (λ (a y : List ℕ). sealed_behind (aes_key_of part) (salt_of part) a y choice) additional-is payloads
      ∙ held-seals 32 part s p h o

  opened-octets : Octets opened
  unfolding opened_of
  opened-octets =
      join-octets (header_with (oct s 28) (28 + p) s) text (header-octets s o (oct s 28) (28 + p) (o 28)) (held_small 32 part s p h o)

  counted : number 4 (drop 24 opened) ≡ length opened
  unfolding octets_of
  counted =
      ap (λ (w : List ℕ). number 4 (drop 24 w)) opened-is
      ∙ number_append 4 0 (octets_of 4 (28 + p)) text (omega (arith, length-octets 4 (28 + p)))
      ∙ number-octets 4 (28 + p) (let q : 28 + p < 4294967296 = omega (arith, holds-long 32 part s p h, f.most) in q)
      ∙ sym length-opened

  pub opens : OpensFrame (aes_key_of part) (salt_of part) s (opened_of part s p)
  opens =
      record {
        choice = choice;
        fit = held-fit 32 part s p h o;
        is-frame = record { small = opened-octets; header = omega (arith, length-opened); counted = counted };
        most = f.most;
        seals = seals;
      }

-- ---- what seals to the frame is found
module _ (part s o : List ℕ) (h : OpensFrame (aes_key_of part) (salt_of part) s o) where
  abbrev ch : Choice
  ch = h.choice

  length-add : length (additional_of o ch) ≡ 32
  unfolding additional_of
  length-add =
      length-append (header_with 46 (32 + body_size (drop 28 o) ch) o)
      (oct o 16 ∷ ch.reserved ∷ octets_of 2 (4 + body_size (drop 28 o) ch))
      ∙ ap₂ (λ (m n : ℕ). m + suc (suc n)) (length-header o h.is-frame.header 46 (32 + body_size (drop 28 o) ch))
      (length-octets 2 (4 + body_size (drop 28 o) ch))

  pub frame-behind : BehindAt 32 part s (additional_of o h.choice) (drop 28 o) h.choice
  unfolding sealed_frame
  frame-behind =
      record {
        add-size = length-add;
        small = drop-octets 28 o h.is-frame.small;
        fit = h.fit;
        seals = h.seals;
      }
