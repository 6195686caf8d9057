-- A frame opens to one opened frame at most, which has the header of the sealed one but for next payload and length.
use mathlib.Core.Path.{◌≡◌, sym, ap, ap₂, ◌∙◌}
use mathlib.Core.List.{List, ◌∷◌, ◌++◌}
use Prim.Native.Nat.{ℕ, ◌+◌, ◌*◌, ◌≤◌}
use native.Mathlib.Omega.{arith}
use lib.ListN.{length, take, drop, length-drop, take-append-drop}
use Rattle.octets.specs.Numbers.{oct, octets_of}
use Rattle.octets.specs.Walk.{be32}
use Rattle.octets.specs.Generate.{gen}
use Rattle.octets.proofs.Numerals.{be32-is}
use Rattle.octets.proofs.Octets.{drop-octets}
use Rattle.octets.proofs.RoundTrip.{octets-number}
use Rattle.rfc5282.specs.Keys.{aes_key_of, salt_of}
use Rattle.rfc5282.specs.SealedFrame.{Choice, body_size, additional_of, OpensFrame}
use Rattle.rfc5282.proofs.CellLaws.{cells, head_cells, header-cells}
use Rattle.rfc5282.proofs.BodyLaws.{add_is, holds-long, behind-holds, behind-one}
use Rattle.rfc5282.proofs.OpenLaws.{frame-behind}

module _ (part s o : List ℕ) (h : OpensFrame (aes_key_of part) (salt_of part) s o) where
  abbrev ch : Choice
  ch = h.choice

  least : 57 ≤ length s
  least =
      let b = behind-holds 32 part s (additional_of o ch) (drop 28 o) ch (frame-behind part s o h) in
      omega (arith, holds-long 32 part s (length (drop 28 o)) b)

  -- the additional data, octet by octet
  abbrev received : List ℕ
  received = head_cells o 46 (32 + body_size (drop 28 o) ch) ++ (oct o 16 ∷ ch.reserved ∷ octets_of 2 (4 + body_size (drop 28 o) ch))

  as-received : received ≡ gen (oct s) 0 32
  unfolding additional_of
  as-received =
      ap (λ (w : List ℕ). w ++ (oct o 16 ∷ ch.reserved ∷ octets_of 2 (4 + body_size (drop 28 o) ch)))
      (sym (header-cells o h.is-frame.header 46 (32 + body_size (drop 28 o) ch)))
      ∙ add_is 32 part s (additional_of o ch) (drop 28 o) ch (frame-behind part s o h)
      ∙ cells s 0 32 (omega (arith, least))

  spis : gen (oct o) 0 16 ≡ gen (oct s) 0 16
  unfolding octets_of
  spis = ap (take 16) as-received

  middle : gen (oct o) 17 7 ≡ gen (oct s) 17 7
  unfolding octets_of
  middle = ap (λ (w : List ℕ). take 7 (drop 17 w)) as-received

  next : oct o 16 ≡ oct s 28
  unfolding octets_of
  next = ap (λ (w : List ℕ). oct w 28) as-received

  counted : gen (oct o) 24 4 ≡ octets_of 4 (length o)
  counted =
      sym (cells o 24 4 h.is-frame.header) ∙ sym
      (octets-number 4 (drop 24 o) (drop-octets 24 o h.is-frame.small) (omega (arith, length-drop 24 o, h.is-frame.header)))
      ∙ ap (octets_of 4) h.is-frame.counted

  -- what it is, by the sealed frame, its length and its payloads
  pub opened-by : o ≡ head_cells s (oct s 28) (length o) ++ drop 28 o
  opened-by =
      sym (take-append-drop 28 o)
      ∙ ap (λ (w : List ℕ). w ++ drop 28 o) (cells o 0 28 h.is-frame.header
      ∙ (λ i. spis i ++ ((next i ∷ middle i) ++ counted i)))

  -- the two SPIs, the exchange and the Message ID are the sealed frame's
  pub same-spis : take 16 o ≡ take 16 s
  same-spis = cells o 0 16 (omega (arith, h.is-frame.header)) ∙ spis ∙ sym (cells s 0 16 (omega (arith, least)))

  pub same-exchange : oct o 18 ≡ oct s 18
  same-exchange = ap (λ (w : List ℕ). oct w 1) middle

  pub same-message : be32 o 20 ≡ be32 s 20
  same-message =
      be32-is o 20 ∙ ap (λ (w : List ℕ). ((oct w 3 * 256 + oct w 4) * 256 + oct w 5) * 256 + oct w 6) middle ∙ sym (be32-is s 20)

module _ (part s o p : List ℕ) (h : OpensFrame (aes_key_of part) (salt_of part) s o) (k : OpensFrame (aes_key_of part) (salt_of part) s p) where
  same-payloads : drop 28 o ≡ drop 28 p
  same-payloads =
      behind-one 32 part s (additional_of o h.choice) (additional_of p k.choice) (drop 28 o) (drop 28 p) h.choice k.choice
      (frame-behind part s o h) (frame-behind part s p k)

  same_length : length o ≡ length p
  same_length =
      omega (arith, ap length same-payloads, length-drop 28 o, length-drop 28 p, h.is-frame.header, k.is-frame.header)

  pub opens_one : o ≡ p
  opens_one =
      opened-by part s o h
      ∙ ap₂ (λ (n : ℕ) (t : List ℕ). head_cells s (oct s 28) n ++ t) same_length same-payloads
      ∙ sym (opened-by part s p k)
