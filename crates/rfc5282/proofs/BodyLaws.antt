-- THE BODY OF A SEALED PAYLOAD, wherever it begins: what was sealed behind additional data is found in it, and what is found seals to it.
use mathlib.Core.Path.{◌≡◌, sym, ap, ap₂, ◌∙◌, subst}
use mathlib.Core.List.{List, [], ◌∷◌, ◌++◌, append_assoc}
use Prim.Native.Nat.{ℕ, suc, ◌+◌, ◌-◌, ◌≤◌}
use native.Mathlib.Omega.{arith}
use lib.ListN.{length, take, drop, length-append, length-drop, take-append-drop}
use lib.Seq.{take_at, drop_at, take_all, take-suc, take-add, take-take, take-append_seam, length-take-le, get_or_at, drop-drop}
use Rattle.octets.specs.Numbers.{oct}
use Rattle.octets.specs.Octets.{Octets}
use Rattle.octets.proofs.Octets.{join-octets, one-octet, no-octets, take-octets, drop-octets}
use Rattle.sp800_38d.specs.Increment.{inc32}
use Rattle.sp800_38d.specs.Encryption.{pre_counter_block, ciphertext, sealed}
use Rattle.sp800_38d.specs.Decryption.{plaintext}
use Rattle.sp800_38d.proofs.GctrLaws.{gctr-take}
use Rattle.sp800_38d.proofs.SealLaws.{length-sealed, length-text, text_of, text-twice, unseals-one}
use Rattle.rfc5282.specs.Keys.{aes_key_of, salt_of, iv_in, nonce_for}
use Rattle.rfc5282.specs.SealedFrame.{Choice, FitChoice, with_padding, body_size, sealed_behind}
use Rattle.rfc5282.specs.Number10.{PlainIn}
use Rattle.rfc5282.specs.inner.Opened.{opened_payloads, BodyHolds}

-- `x` sealed behind `at` octets of additional data
pub record BehindAt (at : ℕ) (part s add x : List ℕ) (c : Choice) : Type 0 where
  pub add-size : length add ≡ at
  pub small : Octets x
  pub fit : FitChoice c
  pub seals : sealed_behind (aes_key_of part) (salt_of part) add x c ≡ s

-- a first part of the plain octets does not depend on what follows
plain-take : (key nonce c : List ℕ) (n : ℕ) → n ≤ length c → plaintext key nonce (take n c) ≡ take n (plaintext key nonce c)
unfolding ciphertext
plain-take key nonce c n h = gctr-take key (inc32 (pre_counter_block nonce)) c n h

-- ---- plain octets
module _ (at : ℕ) (part s x : List ℕ) (u : PlainIn at part s x) where
  abbrev key : List ℕ
  key = aes_key_of part

  abbrev nonce : List ℕ
  nonce = nonce_for at part s

  pub plain-long : length s - (at + 8) ≡ length x + 16
  plain-long = sym (length-drop (at + 8) s) ∙ sym (ap length u.seals) ∙ length-sealed key nonce (take at s) x

  -- the first of them are the first sealed octets deciphered
  pub plain-text : (p : ℕ) → p ≤ length x → opened_payloads at part s p ≡ take p x
  plain-text p l =
      ap (λ (w : List ℕ). plaintext key nonce (take p w)) (sym u.seals)
      ∙ ap (plaintext key nonce) (sym (take-take p (length x) (sealed key nonce (take at s) x) l)
      ∙ ap (take p) (text_of key nonce (take at s) x))
      ∙ plain-take key nonce (ciphertext key nonce x) p (omega (arith, length-text key nonce x, l))
      ∙ ap (take p) (text-twice key nonce x)

-- ---- what is held
module _ (at : ℕ) (part s : List ℕ) (p : ℕ) (h : BodyHolds at part s p) where
  -- octets of the whole
  pub holds-long : length s ≡ at + 8 + (p + h.padding + 1) + 16
  holds-long = omega (arith, plain-long at part s h.plain h.is_plain, h.size)

  pub holds_text : opened_payloads at part s p ≡ take p h.plain
  holds_text = plain-text at part s h.plain h.is_plain p (omega (arith, h.size))

  -- it is one count of octets alone
  pub holds-one : (q : ℕ) → BodyHolds at part s q → p ≡ q
  holds-one q k = omega (arith, sizes, h.size, k.size, pads)
    where
      same : h.plain ≡ k.plain
      same =
          unseals-one (aes_key_of part) (nonce_for at part s) (take at s) (drop (at + 8) s) h.plain k.plain h.is_plain k.is_plain

      sizes : length h.plain ≡ length k.plain
      sizes = ap length same

      pads : h.padding ≡ k.padding
      pads =
          sym h.last
          ∙ ap₂ oct same (let q : p + h.padding ≡ q + k.padding = omega (arith, sizes, h.size, k.size) in q)
          ∙ k.last

  -- and seals to the frame
  module _ (o : Octets s) where
    abbrev pad : ℕ
    pad = h.padding

    abbrev pub held_choice : Choice
    held_choice = record { reserved = oct s 29; iv = iv_in at s; padding = take h.padding (drop p h.plain) }

    abbrev payloads : List ℕ
    payloads = opened_payloads at part s p

    pub length-held : length (opened_payloads at part s p) ≡ p
    length-held = ap length holds_text ∙ length-take-le p h.plain (omega (arith, h.size))

    length-padding : length (take pad (drop p h.plain)) ≡ pad
    length-padding = length-take-le pad (drop p h.plain) (omega (arith, h.size, length-drop p h.plain))

    plain-is : with_padding payloads held_choice ≡ h.plain
    unfolding with_padding
    plain-is =
        ap₂ (λ (a : List ℕ) (n : ℕ). a ++ (take pad (drop p h.plain) ++ (n ∷ []))) holds_text (length-padding ∙ sym h.last)
        ∙ sym (append_assoc (take p h.plain) (take pad (drop p h.plain)) (oct h.plain (p + pad) ∷ []))
        ∙ ap (λ (a : List ℕ). a ++ (oct h.plain (p + pad) ∷ [])) (sym (take-add p pad h.plain))
        ∙ sym (take-suc h.plain (p + pad) 0 (omega (arith, h.size)))
        ∙ take_all (suc (p + pad)) h.plain (omega (arith, h.size))

    pub held-body : body_size (opened_payloads at part s p) held_choice ≡ length s - at
    unfolding body_size
    held-body = ap (λ (l : List ℕ). 8 + length l + 16) plain-is ∙ omega (arith, h.size, holds-long)

    pub held-seals : sealed_behind (aes_key_of part) (salt_of part) (take at s) (opened_payloads at part s p) held_choice ≡ s
    unfolding sealed_behind
    held-seals =
        ap (λ (y : List ℕ). take at s ++ (iv_in at s ++ sealed (aes_key_of part) (nonce_for at part s) (take at s) y)) plain-is
        ∙ ap (λ (r : List ℕ). take at s ++ (iv_in at s ++ r)) (h.is_plain.seals ∙ sym (drop-drop 8 at s))
        ∙ ap (λ (r : List ℕ). take at s ++ r) (take-append-drop 8 (drop at s))
        ∙ take-append-drop at s

    pub held_small : Octets (opened_payloads at part s p)
    held_small = subst Octets (sym holds_text) (take-octets p h.plain h.is_plain.small)

    pub held-fit : FitChoice held_choice
    held-fit =
        record {
          reserved-small = o 29;
          iv-size = length-take-le 8 (drop at s) (omega (arith, length-drop at s, holds-long));
          iv-small = take-octets 8 (drop at s) (drop-octets at s o);
          padding-most = omega (arith, length-padding, pad-most);
          padding-small = take-octets pad (drop p h.plain) (drop-octets p h.plain h.is_plain.small);
        }
      where
        pad-most : pad ≤ 255
        pad-most = let k = h.is_plain.small (p + pad) in omega (arith, k, h.last)

-- ---- what was sealed is held
module _ (at : ℕ) (part s add x : List ℕ) (c : Choice) (h : BehindAt at part s add x c) where
  abbrev plain : List ℕ
  plain = with_padding x c

  abbrev body : List ℕ
  body = sealed (aes_key_of part) (salt_of part ++ c.iv) add plain

  frame_is : s ≡ add ++ (c.iv ++ body)
  unfolding sealed_behind
  frame_is = sym h.seals

  pub add_is : add ≡ take at s
  add_is = sym (ap (take at) frame_is ∙ take_at add (c.iv ++ body) at h.add-size)

  rest-is : drop at s ≡ c.iv ++ body
  rest-is = ap (drop at) frame_is ∙ drop_at add (c.iv ++ body) at h.add-size

  iv-is : c.iv ≡ take 8 (drop at s)
  iv-is = sym (ap (take 8) rest-is ∙ take_at c.iv body 8 h.fit.iv-size)

  body-found : body ≡ drop (at + 8) s
  body-found = sym (sym (drop-drop 8 at s) ∙ ap (drop 8) rest-is ∙ drop_at c.iv body 8 h.fit.iv-size)

  plain-small : Octets plain
  unfolding with_padding
  plain-small =
      join-octets x (c.padding ++ (length c.padding ∷ [])) h.small
      (join-octets c.padding (length c.padding ∷ []) h.fit.padding-small
      (one-octet (length c.padding) [] (omega (arith, h.fit.padding-most)) no-octets))

  length-plain : length plain ≡ length x + length c.padding + 1
  unfolding with_padding
  length-plain =
      length-append x (c.padding ++ (length c.padding ∷ []))
      ∙ ap (λ (n : ℕ). length x + n) (length-append c.padding (length c.padding ∷ []))
      ∙ omega arith

  last_found : oct plain (length x + length c.padding) ≡ length c.padding
  unfolding with_padding
  last_found =
      ap (λ (l : List ℕ). oct l (length x + length c.padding)) (sym (append_assoc x c.padding (length c.padding ∷ [])))
      ∙ get_or_at (x ++ c.padding) (length c.padding) [] 0 (length x + length c.padding) (length-append x c.padding)

  plain-found : PlainIn at part s plain
  plain-found =
      record {
        small = plain-small;
        seals = ap₂ (λ (v a : List ℕ). sealed (aes_key_of part) (salt_of part ++ v) a plain) (sym iv-is) (sym add_is) ∙ body-found;
      }

  pub behind-holds : BodyHolds at part s (length x)
  behind-holds =
      record { plain = plain; is_plain = plain-found; padding = length c.padding; size = length-plain; last = last_found }

  pub behind-long : length s ≡ at + body_size x c
  unfolding body_size
  behind-long = omega (arith, plain-long at part s plain plain-found)

  -- what was sealed is what the steps find
  pub behind-text : opened_payloads at part s (length x) ≡ x
  unfolding with_padding behind-holds
  behind-text = holds_text at part s (length x) behind-holds ∙ take-append_seam x (c.padding ++ (length c.padding ∷ []))

-- a body opens to one list of octets at most
pub behind-one : (at : ℕ) (part s a b x y : List ℕ) (c d : Choice) → BehindAt at part s a x c → BehindAt at part s b y d → x ≡ y
behind-one at part s a b x y c d h k =
    sym (behind-text at part s a x c h)
    ∙ ap (opened_payloads at part s)
    (holds-one at part s (length x) (behind-holds at part s a x c h) (length y) (behind-holds at part s b y d k))
    ∙ behind-text at part s b y d k
