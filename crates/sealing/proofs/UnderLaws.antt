-- What the tag's test and the pad length tell the code that opens.
use mathlib.Core.Path.{◌≡◌, sym, ap, ap₂, ◌∙◌, subst}
use mathlib.Core.Bool.{Bool, true, false}
use mathlib.Core.List.{List, []}
use Prim.Native.Nat.{ℕ, ◌+◌, ◌-◌, ◌<◌, ◌≤◌}
use native.Mathlib.Omega.{arith}
use lib.Dec.{T}
use lib.ListN.{length, take, drop, length-drop}
use lib.Seq.{take_all, length-take-le}
use Rattle.octets.specs.Numbers.{oct}
use Rattle.octets.specs.Octets.{Octets}
use Rattle.fips197.specs.Key.{is_key}
use Rattle.state_keys.specs.Algorithms.{is_encryption_size}
use Rattle.state_keys.proofs.Sizes.{encryption-size, among-is}
use Rattle.sp800_38d.specs.Decryption.{plaintext}
use Rattle.gcm.specs.Opening.{put_at_start}
use Rattle.gcm.specs.inner.Judged.{UnsealJudged}
use Rattle.sp800_38d.proofs.UnsealLaws.{deciphered_of}
use Rattle.rfc5282.specs.Keys.{aes_key_of, nonce_for}
use Rattle.rfc5282.specs.Number10.{PlainIn, UnopenedAt, short-body, bad-tag}
use Rattle.rfc5282.specs.inner.Opened.{opened_of, BodyHolds}
use Rattle.rfc5282.proofs.PartLaws.{sizes-fit}
use Rattle.rfc5282.proofs.OuterLaws.{Outer}
use Rattle.rfc5282.proofs.OpenLaws.{opens, length-opened}
use Rattle.rfc5282.proofs.Number10Laws.{over-padded, held-at}
use Rattle.std.specs.Prelude.{Option, None, Some}
use Rattle.std.specs.Option.{SomeIff}
use Rattle.sealing.specs.inner.Judging.{BodyJudged, BodyBounds}
use Rattle.sealing.specs.Unsealing.{FrameWritten}
use Rattle.sealing.proofs.CopyLaws.{part-size}

pub from_start : (s : List ℕ) (n : ℕ) → take (n - 0) (drop 0 s) ≡ take n s
from_start s n = ap (λ (k : ℕ). take k s) (let q : n - 0 ≡ n = omega arith in q)

-- the octets of an encryption part, at the front of its array
pub part_at : (n : ℕ) (o : List ℕ) → n ≤ length o → length (take (n - 0) (drop 0 o)) ≡ n
part_at n o h = ap length (from_start o n) ∙ length-take-le n o h

pub part-fits : (n : ℕ) (o : List ℕ) → is_encryption_size n ≡ true → n ≤ length o
    → (4 ≤ length (take (n - 0) (drop 0 o))) × T (is_key (length (take (n - 0) (drop 0 o)) - 4))
part-fits n o e h =
    subst (λ (m : ℕ). (4 ≤ m) × T (is_key (m - 4))) (sym (part_at n o h))
    (sizes-fit n (among-is 20 28 36 n (sym (encryption-size n) ∙ e)))

pub key-size : (part : List ℕ) → 4 ≤ length part → T (is_key (length part - 4))
    → T (is_key (length (take (length part - 4 - 0) (drop 0 part))))
key-size part l t =
    subst (λ (n : ℕ). T (is_key n))
    (sym (part-size part 0 (length part - 4) (omega arith) ∙ (let q : length part - 4 - 0 ≡ length part - 4 = omega arith in q))) t

-- ---- judging a body: the code's numbers of octets are those of the definitions
abbrev least_at : ℕ → ℕ
least_at at = at + 8 + 1 + 16

least-is : (at : ℕ) → least_at at ≡ at + 25
least-is at = omega arith

pub too_short : (at : ℕ) (part s : List ℕ) → at ≤ length s → length s < at + 8 + 1 + 16 → (room : List ℕ) → UnopenedAt at part s room
too_short at part s h l room = short-body (omega (arith, h, l))

module _ (at : ℕ) (part s nonce : List ℕ) (least : at + 8 + 1 + 16 ≤ length s) (en : nonce ≡ nonce_for at part s) (b : Bool)
    (j : UnsealJudged (aes_key_of part) nonce (take (at - 0) (drop 0 s)) (take (length s - (at + 8)) (drop (at + 8) s)) b) where
  at-frame : UnsealJudged (aes_key_of part) (nonce_for at part s) (take at s) (drop (at + 8) s) b
  at-frame =
      subst (λ (r : List ℕ). UnsealJudged (aes_key_of part) (nonce_for at part s) (take at s) r b)
      (take_all (length s - (at + 8)) (drop (at + 8) s) (omega (arith, length-drop (at + 8) s)))
      (subst (λ (a : List ℕ). UnsealJudged (aes_key_of part) (nonce_for at part s) a (take (length s - (at + 8)) (drop (at + 8) s)) b)
      (from_start s at)
      (subst (λ (v : List ℕ). UnsealJudged (aes_key_of part) v (take (at - 0) (drop 0 s)) (take (length s - (at + 8)) (drop (at + 8) s)) b)
      en j))

  -- a bad tag
  pub not-tagged : b ≡ false → (room : List ℕ) → UnopenedAt at part s room
  not-tagged e room = bad-tag (subst (UnsealJudged (aes_key_of part) (nonce_for at part s) (take at s) (drop (at + 8) s)) e at-frame)

  -- a tag that fits, and the pad length that the code finds
  module _ (e : b ≡ true) (pad : ℕ)
      (ep : pad ≡ oct (plaintext (aes_key_of part) nonce (take (length s - 16 - (at + 8)) (drop (at + 8) s))) (length s - least_at at)) where
    abbrev found : List ℕ
    found = deciphered_of (aes_key_of part) (nonce_for at part s) (drop (at + 8) s)

    is_plain : PlainIn at part s found
    is_plain = subst (UnsealJudged (aes_key_of part) (nonce_for at part s) (take at s) (drop (at + 8) s)) e at-frame

    enough : at + 25 ≤ length s
    enough = omega (arith, least)

    before : length s - least_at at ≡ length s - (at + 25)
    before = omega arith

    pad-is : oct found (length s - (at + 25)) ≡ pad
    pad-is =
        sym (ep
        ∙ ap₂ (λ (v : List ℕ) (n : ℕ). oct (plaintext (aes_key_of part) v (take n (drop (at + 8) s))) (length s - least_at at)) en
        (let q : length s - 16 - (at + 8) ≡ length (drop (at + 8) s) - 16 = omega (arith, length-drop (at + 8) s) in q)
        ∙ ap (oct found) before)

    over-long : length s - (at + 8 + 1 + 16) < pad → (room : List ℕ) → UnopenedAt at part s room
    over-long l room =
        over-padded at part s room found is_plain enough (omega (arith, l, pad-is))

    held : pad ≤ length s - (at + 8 + 1 + 16) → BodyHolds at part s (length s - (at + 8 + 1 + 16) - pad)
    held l =
        subst (BodyHolds at part s)
        (let q : length s - (at + 25) - oct found (length s - (at + 25)) ≡ length s - least_at at - pad = omega (arith, pad-is) in q)
        (held-at at part s [] found is_plain enough (omega (arith, pad-is, l)))

    -- what is left of the octets once those of the padding are taken off
    pub unpadded : (r : Option ℕ) → SomeIff r (pad ≤ length s - (at + 8 + 1 + 16)) (length s - (at + 8 + 1 + 16) - pad) → BodyJudged at part s r
    unpadded None f = over-long (omega arith)
    unpadded (Some p) f = subst (BodyHolds at part s) (sym f.1) (held f.0)

-- what is left lies within the body
pub unpadded-bounds : (at pad : ℕ) (s : List ℕ) → at + 8 + 1 + 16 ≤ length s → (r : Option ℕ)
    → SomeIff r (pad ≤ length s - (at + 8 + 1 + 16)) (length s - (at + 8 + 1 + 16) - pad) → BodyBounds at s r
unpadded-bounds at pad s least None f = tt
unpadded-bounds at pad s least (Some p) f = omega arith

-- ---- a frame written
pub some_written : (part s room : List ℕ) → Octets s → Outer s → (p : ℕ) → BodyHolds 32 part s p → 16384 ≤ length room → {after : List ℕ}
    → after ≡ put_at_start (opened_of part s p) room → FrameWritten part s room (28 + p) after
some_written part s room o f p h holds er =
    record {
      opened = opened_of part s p;
      opening = record { opens = opens part s o f p h; holds = holds };
      count = length-opened part s o f p h;
      room-is = er;
    }
