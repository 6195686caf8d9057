-- Octets copied and set: the nonce, the opened frame's header, and the opened frame behind it.
use mathlib.Core.Path.{◌≡◌, sym, ap, ap₂, ◌∙◌, subst}
use mathlib.Core.List.{List, [], ◌++◌, append_assoc, append-nil}
use Prim.Native.Nat.{ℕ, ◌+◌, ◌-◌, ◌≤◌}
use native.Mathlib.Omega.{arith}
use borrow.Rule.Slice.PartMut.{mid_of, put_mid}
use lib.ListN.{length, take, drop, set, replicate, length-append, length-drop}
use lib.Seq.{take_at, take-length, length-take-le, drop-append-add, drop-drop}
use Rattle.octets.specs.Numbers.{oct, octets_of}
use Rattle.octets.specs.Generate.{gen}
use Rattle.lists.proofs.Slices.{copied-end}
use Rattle.octets.proofs.Walks.{tail, to_end}
use Rattle.sp800_38d.specs.Decryption.{plaintext}
use Rattle.gcm.specs.Opening.{put_at_start}
use Rattle.rfc5282.specs.Keys.{aes_key_of, salt_of, iv_in, nonce_for}
use Rattle.rfc5282.specs.SealedFrame.{header_with}
use Rattle.rfc5282.specs.inner.Opened.{opened_payloads, opened_of}
use Rattle.rfc5282.proofs.CellLaws.{cells, header-cells}
use Rattle.rfc5282.proofs.OpenLaws.{length-header}

-- the length of the part `&s[a..e]`
pub part-size : (s : List ℕ) (a e : ℕ) → e ≤ length s → length (take (e - a) (drop a s)) ≡ e - a
part-size s a e h = length-take-le (e - a) (drop a s) (omega (arith, length-drop a s))

-- x copied to the start of r
abbrev Copied : List ℕ → List ℕ → List ℕ → Type 0
Copied x r after = after ≡ take (length x) x ++ drop (length x) r

copied_is : (x r : List ℕ) {after : List ℕ} → Copied x r after → after ≡ x ++ drop (length x) r
copied_is x r e = e ∙ ap (λ (t : List ℕ). t ++ drop (length x) r) (take-length x)

-- x copied behind `front`, where r begins with it
module _ (front x r room : List ℕ) (k : ℕ) (size : length front ≡ k) (er : r ≡ front ++ drop k room) {y : List ℕ}
    (ey : Copied x (mid_of k (length r - k) r) y) where
  pub copied_behind : put_mid k (length r - k) r y ≡ put_at_start (front ++ x) room
  copied_behind =
      copied-end r x k ey
      ∙ ap₂ (λ (a b : List ℕ). a ++ (x ++ b)) (ap (take k) er ∙ take_at front (drop k room) k size)
      (ap₂ drop (ap (λ (n : ℕ). n + length x) (sym size)) er ∙ drop-append-add front (drop k room) (length x)
      ∙ drop-drop (length x) k room
      ∙ ap (λ (n : ℕ). drop n room) (sym (length-append front x ∙ ap (λ (n : ℕ). n + length x) size)))
      ∙ sym (append_assoc front x (drop (length (front ++ x)) room))

-- ---- the nonce
module _ (at : ℕ) (part s : List ℕ) (lp : 4 ≤ length part) (ls : at + 8 ≤ length s) {r : List ℕ}
    (er : Copied (tail part (length part - 4)) (replicate 12 0) r) where
  salt-size : length (salt_of part) ≡ 4
  salt-size = length-drop (length part - 4) part ∙ omega (arith, lp)

  salted : r ≡ salt_of part ++ drop 4 (replicate 12 0)
  salted =
      let e = to_end part (length part - 4) in
      copied_is (tail part (length part - 4)) (replicate 12 0) er
      ∙ ap₂ (λ (t : List ℕ) (n : ℕ). t ++ drop n (replicate 12 0)) e (ap length e ∙ salt-size)

  iv-size : length (iv_in at s) ≡ 8
  iv-size = length-take-le 8 (drop at s) (omega (arith, length-drop at s, ls))

  -- of an array of 12, the part from 4 on has 8
  abbrev Made : ℕ → List ℕ → Type 0
  Made n y = Copied (iv_in at s) (mid_of 4 n r) y → put_mid 4 n r y ≡ nonce_for at part s

  made : (y : List ℕ) → Made (length r - 4) y
  made y ey =
      copied_behind (salt_of part) (iv_in at s) r (replicate 12 0) 4 salt-size salted ey
      ∙ ap (λ (n : ℕ). (salt_of part ++ iv_in at s) ++ drop n (replicate 12 0))
      (length-append (salt_of part) (iv_in at s) ∙ ap₂ (λ (m n : ℕ). m + n) salt-size iv-size)
      ∙ append-nil (salt_of part ++ iv_in at s)

  rest : length r - 4 ≡ 8
  rest = let e = ap length salted ∙ length-append (salt_of part) (replicate 8 0) in omega (arith, e, salt-size)

  pub nonce-made : {y : List ℕ} → Copied (take (at + 8 - at) (drop at s)) (mid_of 4 8 r) y → put_mid 4 8 r y ≡ nonce_for at part s
  nonce-made {y} ey =
      subst (λ (n : ℕ). Made n y) rest (made y)
      (subst (λ (n : ℕ). Copied (take n (drop at s)) (mid_of 4 8 r) y) (let q : at + 8 - at ≡ 8 = omega arith in q) ey)

-- ---- the header
pub header_made : (s : List ℕ) → 28 ≤ length s → (size : ℕ) {h z : List ℕ} → Copied (take 28 s) (replicate 28 0) h → z ≡ octets_of 4 size
    → put_mid 24 4 (set h 16 (oct s 28)) z ≡ header_with (oct s 28) size s
unfolding octets_of
header_made s l size {h} {z} eh ez =
    ap₂ (λ (p q : List ℕ). put_mid 24 4 (set p 16 (oct s 28)) q) whole ez
    ∙ sym (header-cells s l (oct s 28) size)
  where
    whole : h ≡ gen (oct s) 0 28
    whole =
        copied_is (take 28 s) (replicate 28 0) eh
        ∙ ap (λ (n : ℕ). take 28 s ++ drop n (replicate 28 0)) (length-take-le 28 s l)
        ∙ ap (λ (p : List ℕ). p ++ []) (cells s 0 28 l)

-- ---- the header, and the payloads behind it
module _ (part s room : List ℕ) (p : ℕ) (l : 28 ≤ length s) {h r y nonce : List ℕ} (eh : h ≡ header_with (oct s 28) (28 + p) s)
    (er : Copied h room r) (en : nonce ≡ nonce_for 32 part s)
    (ey : y ≡ put_at_start (plaintext (aes_key_of part) nonce (take (40 + p - 40) (drop 40 s))) (mid_of 28 (length r - 28) r)) where
  abbrev text : List ℕ
  text = opened_payloads 32 part s p

  abbrev head : List ℕ
  head = header_with (oct s 28) (28 + p) s

  size : length head ≡ 28
  size = length-header s l (oct s 28) (28 + p)

  behind : Copied text (mid_of 28 (length r - 28) r) y
  behind =
      ey
      ∙ ap₂ (λ (v : List ℕ) (n : ℕ). put_at_start (plaintext (aes_key_of part) v (take n (drop 40 s))) (mid_of 28 (length r - 28) r)) en
      (let q : 40 + p - 40 ≡ p = omega arith in q)
      ∙ ap (λ (t : List ℕ). t ++ drop (length text) (mid_of 28 (length r - 28) r)) (sym (take-length text))

  pub opened-put : put_mid 28 (length r - 28) r y ≡ put_at_start (opened_of part s p) room
  unfolding opened_of
  opened-put =
      copied_behind head text r room 28 size
      (copied_is h room er ∙ ap₂ (λ (t : List ℕ) (n : ℕ). t ++ drop n room) eh (ap length eh ∙ size)) behind
