-- Octets copied one behind the other into lent room.
use mathlib.Core.Path.{◌≡◌, sym, ap, ap₂, subst, ◌∙◌}
use mathlib.Core.List.{List, ◌++◌, append_assoc}
use Prim.Native.Nat.{ℕ, ◌+◌, ◌-◌, ◌≤◌}
use native.Mathlib.Omega.{arith}
use borrow.Rule.Slice.PartMut.{mid_of, put_mid}
use lib.ListN.{length, take, drop, length-append, length-drop}
use lib.Seq.{take_at, take-length, length-take-le, drop-append-add, drop-drop}
use Rattle.ikev2_numbers.specs.Codes.{header_octets}
use Rattle.lists.proofs.Slices.{copied-end}
use Rattle.fragments.specs.inner.Joining.{joined_octets}

-- x copied to the start of r
abbrev Copied : List ℕ → List ℕ → List ℕ → Type 0
Copied x r after = after ≡ take (length x) x ++ drop (length x) r

copied-front : (x r : List ℕ) (k : ℕ) → length x ≡ k → {after : List ℕ} → Copied x r after → after ≡ x ++ drop k r
copied-front x r k s e = e ∙ ap₂ (λ (t : List ℕ) (n : ℕ). t ++ drop n r) (take-length x) s

-- the part `&o[0..n]`
from_start : (o room : List ℕ) (n : ℕ) {r : List ℕ} → Copied (take (n - 0) o) room r → Copied (take n o) room r
from_start o room n {r} = let z : n - 0 ≡ n = omega arith in subst (λ (m : ℕ). Copied (take m o) room r) z

-- x copied behind `front`, where r begins with it
module _ (front x r room : List ℕ) (k : ℕ) (size : length front ≡ k) (er : r ≡ front ++ drop k room) {y : List ℕ}
    (ey : Copied x (mid_of k (length r - k) r) y) where
  pub copied_behind : put_mid k (length r - k) r y ≡ (front ++ x) ++ drop (k + length x) room
  copied_behind =
      copied-end r x k ey
      ∙ ap₂ (λ (a b : List ℕ). a ++ (x ++ b)) (ap (take k) er ∙ take_at front (drop k room) k size)
      (ap₂ drop (ap (λ (n : ℕ). n + length x) (sym size)) er ∙ drop-append-add front (drop k room) (length x)
      ∙ drop-drop (length x) k room)
      ∙ sym (append_assoc front x (drop (k + length x) room))

-- ---- the octets before, a piece, the octets behind
module _ (o piece room : List ℕ) (size before : ℕ) (le : before ≤ size) (ls : size ≤ length o) where
  abbrev first : List ℕ
  first = take before o

  abbrev last : List ℕ
  last = take (size - before) (drop before o)

  first-size : length first ≡ before
  first-size = length-take-le before o (omega arith)

  last-size : length last ≡ size - before
  last-size = length-take-le (size - before) (drop before o) (omega (arith, length-drop before o))

  module _ {r y : List ℕ} (er : Copied (take (before - 0) o) room r) (ey : Copied piece (mid_of before (length r - before) r) y) where
    abbrev behind : List ℕ
    behind = put_mid before (length r - before) r y

    behind-is : behind ≡ (first ++ piece) ++ drop (before + length piece) room
    behind-is = copied_behind first piece r room before first-size
        (copied-front first room before first-size (from_start o room before er)) ey

    both-size : length (first ++ piece) ≡ before + length piece
    both-size = length-append first piece ∙ ap (λ (n : ℕ). n + length piece) first-size

    pub joined_is : {z : List ℕ} → Copied last (mid_of (before + length piece) (length behind - (before + length piece)) behind) z →
        put_mid (before + length piece) (length behind - (before + length piece)) behind z ≡ joined_octets o size before piece room
    joined_is ez =
        let n : before + length piece + length last ≡ size + length piece = omega (arith, last-size) in
        copied_behind (first ++ piece) last behind room (before + length piece) both-size behind-is ez
        ∙ ap (λ (m : ℕ). ((first ++ piece) ++ last) ++ drop m room) n
        ∙ append_assoc (first ++ piece) last (drop (size + length piece) room)
        ∙ append_assoc first piece (last ++ drop (size + length piece) room)

-- ---- a header, and octets behind it
module _ (h o room : List ℕ) (size : ℕ) (lh : length h ≡ header_octets) (le : header_octets ≤ size) (lo : size - header_octets ≤ length o)
    {r : List ℕ} (er : Copied h room r) where
  abbrev body : List ℕ
  body = take (size - header_octets) o

  pub framed_is : {y : List ℕ} → Copied (take (size - header_octets - 0) o) (mid_of header_octets (length r - header_octets) r) y →
      put_mid header_octets (length r - header_octets) r y ≡ h ++ (body ++ drop size room)
  framed_is ey =
      let s = length-take-le (size - header_octets) o lo in
      let n : header_octets + length body ≡ size = omega arith in
      copied_behind h body r room header_octets lh (copied-front h room header_octets lh er)
      (from_start o (mid_of header_octets (length r - header_octets) r) (size - header_octets) ey)
      ∙ ap (λ (m : ℕ). (h ++ body) ++ drop m room) n ∙ append_assoc h body (drop size room)
