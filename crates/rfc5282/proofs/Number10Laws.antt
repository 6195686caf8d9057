-- NUMBER 10 EXACTLY: one of its clauses holds exactly where no opened frame, or no piece, seals to the octets, or the room is too small.
use mathlib.Core.Path.{◌≡◌, refl, sym, subst, ◌∙◌}
use mathlib.Core.Bool.{true}
use mathlib.Core.Logic.{◌⊎◌, inl, inr, ⊎_elim, ◌↔◌}
use mathlib.Core.List.{List}
use Prim.Native.Nat.{ℕ, ◌+◌, ◌-◌, ◌<◌, ◌≤◌}
use native.Mathlib.Omega.{arith}
use lib.Dec.{T}
use lib.ListN.{length, take, drop, length-append, length-drop}
use lib.Seq.{length-take-le}
use Rattle.lists.proofs.Cases.{lt-cases}
use Rattle.octets.specs.Numbers.{oct}
use Rattle.octets.specs.Octets.{Octets}
use Rattle.octets.proofs.Octets.{join-octets, take-octets, drop-octets}
use Rattle.fips197.specs.Key.{is_key, Key}
use Rattle.ikev2_numbers.specs.Codes.{most_octets}
use Rattle.sp800_38d.proofs.SealLaws.{unseals-one}
use Rattle.sp800_38d.proofs.UnsealLaws.{deciphered_of, unseals-or-none}
use Rattle.rfc5282.specs.Sizes.{salt_octets}
use Rattle.rfc5282.specs.Keys.{aes_key_of, salt_of, FitPart, iv_in, nonce_for}
use Rattle.rfc5282.specs.SealedFrame.{Choice, FitChoice, OpenedFrame, additional_of, sealed_frame}
use Rattle.rfc5282.specs.Outer.{outer}
use Rattle.rfc5282.specs.OuterFragment.{outer_fragment}
use Rattle.rfc5282.specs.Number10.{PlainIn, UnopenedAt, short-body, bad-tag, long-padding, small-room}
use Rattle.rfc5282.specs.Number10.{Unopened, UnopenedFragment, OpensInto, OpensFragmentInto}
use Rattle.rfc5282.specs.inner.Opened.{opened_payloads, opened_of, BodyHolds}
use Rattle.rfc5282.proofs.OuterLaws.{Outer, outer-is}
use Rattle.rfc5282.proofs.BodyLaws.{plain-long, holds-long, behind-holds}
use Rattle.rfc5282.proofs.OpenLaws.{opens, frame-behind}
use Rattle.rfc5282.proofs.FragmentLaws.{Fragment, fragment-is}
use Rattle.rfc5282.proofs.PieceLaws.{additional, opens-fragment, fragment-behind}

module _ (part : List ℕ) (fit : FitPart part) where
  pub part-key : Key (aes_key_of part)
  part-key =
      record {
        size = subst (λ (n : ℕ). T (is_key n)) (sym (length-take-le (length part - 4) part (omega arith))) fit.key-size;
        small = take-octets (length part - 4) part fit.small;
      }

  pub salt-size : length (salt_of part) ≡ salt_octets
  salt-size = length-drop (length part - 4) part ∙ omega (arith, fit.least)

  module _ (at : ℕ) (s : List ℕ) (o : Octets s) (least : at + 8 ≤ length s) where
    pub nonce-size : length (nonce_for at part s) ≡ 12
    nonce-size =
        length-append (salt_of part) (iv_in at s)
        ∙ omega (
          arith,
          salt-size,
          length-take-le 8 (drop at s)
              (let q : 8 ≤ length (drop at s) = omega (arith, length-drop at s, least) in q),
        )

    pub nonce-small : Octets (nonce_for at part s)
    nonce-small =
        join-octets (salt_of part) (iv_in at s) (drop-octets (length part - 4) part fit.small)
        (take-octets 8 (drop at s) (drop-octets at s o))

-- ---- a body at any place
module _ (at : ℕ) (part s room : List ℕ) where
  -- a clause of number 10 holds: the body holds nothing
  pub unopened-empty : UnopenedAt at part s room → most_octets ≤ length room → (p : ℕ) → BodyHolds at part s p → ⊥
  unopened-empty (short-body l) holds p h = omega (arith, l, holds-long at part s p h)
  unopened-empty (bad-tag n) holds p h = n h.plain h.is_plain
  unopened-empty (long-padding y u l) holds p h =
      let q = unseals-one (aes_key_of part) (nonce_for at part s) (take at s) (drop (at + 8) s) h.plain y h.is_plain u in
      let e : length h.plain - 1 ≡ p + h.padding = omega (arith, h.size) in
      let m : oct h.plain (length h.plain - 1) ≤ length h.plain - 1 =
      subst (λ (i : ℕ). oct h.plain i ≤ i) (sym e) (omega (arith, h.last)) in
      let k : oct y (length y - 1) ≤ length y - 1 = subst (λ (z : List ℕ). oct z (length z - 1) ≤ length z - 1) q m in
      omega (arith, k, l)
  unopened-empty (small-room l) holds p h = omega (arith, l, holds)

  -- plain octets, and where their last stands
  module _ (x : List ℕ) (u : PlainIn at part s x) (least : at + 25 ≤ length s) where
    last-at : length x - 1 ≡ length s - (at + 25)
    last-at = omega (arith, plain-long at part s x u, least)

    pub over-padded : length s - (at + 25) < oct x (length s - (at + 25)) → UnopenedAt at part s room
    over-padded l =
        let q = subst (λ (n : ℕ). n < oct x n) (sym last-at) l in
        long-padding x u (omega (arith, q))

    pub held-at : oct x (length s - (at + 25)) ≤ length s - (at + 25)
        → BodyHolds at part s (length s - (at + 25) - oct x (length s - (at + 25)))
    held-at l =
        record {
          plain = x;
          is_plain = u;
          padding = pad;
          size = omega (arith, plain-long at part s x u, least, l);
          last = subst (λ (i : ℕ). oct x i ≡ pad) (let q : length s - (at + 25) ≡ length s - (at + 25) - pad + pad = omega (arith, l) in q)
              refl;
        }
      where
        pad : ℕ
        pad = oct x (length s - (at + 25))

  -- or it holds something
  module _ (fit : FitPart part) (o : Octets s) where
    abbrev Decided : Type 0
    Decided = UnopenedAt at part s room ⊎ ((p : ℕ) × BodyHolds at part s p)

    abbrev found : List ℕ
    found = deciphered_of (aes_key_of part) (nonce_for at part s) (drop (at + 8) s)

    module _ (least : at + 25 ≤ length s) where
      by-tag : PlainIn at part s found ⊎ ((x : List ℕ) → PlainIn at part s x → ⊥) → Decided
      by-tag (inl u) =
          lt-cases (length s - (at + 25)) (oct found (length s - (at + 25))) (λ l. inl (over-padded found u least l))
          (λ l. inr (length s - (at + 25) - oct found (length s - (at + 25)), held-at found u least l))
      by-tag (inr n) = inl (bad-tag n)

      tested : Decided
      tested =
          let l : at + 8 ≤ length s = omega (arith, least) in
          by-tag (unseals-or-none (aes_key_of part) (nonce_for at part s) (take at s) (drop (at + 8) s)
          (omega (arith, length-drop (at + 8) s, least)) (part-key part fit) (nonce-size part fit at s o l)
          (nonce-small part fit at s o l) (drop-octets (at + 8) s o))

    pub unopened-or-holds : at ≤ length s → UnopenedAt at part s room ⊎ ((p : ℕ) × BodyHolds at part s p)
    unopened-or-holds least =
        lt-cases (length s) (at + 25) (λ l. inl (short-body (omega (arith, l, least)))) (λ l. tested l)

-- ---- the frame
module _ (part s room : List ℕ) where
  -- a clause of number 10 holds: nothing opens into this room
  pub unopened-none : Unopened part s room → (x : List ℕ) → OpensInto part s room x → ⊥
  unopened-none u x h =
      unopened-empty 32 part s room u h.holds (length (drop 28 x))
      (behind-holds 32 part s (additional_of x h.opens.choice) (drop 28 x) h.opens.choice (frame-behind part s x h.opens))

  -- or the frame opens
  pub unopened-or-opens : (fit : FitPart part) (o : Octets s) (f : Outer s)
      → Unopened part s room ⊎ ((x : List ℕ) × OpensInto part s room x)
  unopened-or-opens fit o f =
      lt-cases (length room) 16384 (λ l. inl (small-room l))
      (λ l. ⊎_elim inl
      (λ h. inr (opened_of part s h.0, record { opens = opens part s o f h.0 h.1; holds = l }))
      (unopened-or-holds 32 part s room fit o f.least))

  -- NUMBER 10 EXACTLY
  pub unopened-exactly : FitPart part → Octets s → outer s ≡ true → Unopened part s room ↔ ((x : List ℕ) → OpensInto part s room x → ⊥)
  unopened-exactly fit o e = (
    unopened-none,
    λ n. ⊎_elim (λ u. u) (λ h. absurd (n h.0 h.1)) (unopened-or-opens fit o (outer-is s e)),
  )

-- what was sealed for a member, into a room that is large enough, is never number 10
pub sealed-not-unopened : (part opened room : List ℕ) (c : Choice) → FitChoice c → OpenedFrame opened
    → length (sealed_frame (aes_key_of part) (salt_of part) opened c) ≤ most_octets → most_octets ≤ length room
    → Unopened part (sealed_frame (aes_key_of part) (salt_of part) opened c) room → ⊥
sealed-not-unopened part opened room c fit is most holds t =
    unopened-none part (sealed_frame (aes_key_of part) (salt_of part) opened c) room t opened
    (record { opens = record { choice = c; fit = fit; is-frame = is; most = most; seals = refl }; holds = holds })

-- ---- the fragment
module _ (part s room : List ℕ) where
  pub unopened-fragment-none : UnopenedFragment part s room → (x : List ℕ) → OpensFragmentInto part s room x → ⊥
  unopened-fragment-none u x h =
      unopened-empty 36 part s room u h.holds (length x)
      (behind-holds 36 part s (additional part s x h.opens) x h.opens.choice (fragment-behind part s x h.opens))

  pub unopened-fragment-or-opens : FitPart part → Octets s → Fragment s
      → UnopenedFragment part s room ⊎ ((x : List ℕ) × OpensFragmentInto part s room x)
  unopened-fragment-or-opens fit o f =
      lt-cases (length room) 16384 (λ l. inl (small-room l))
      (λ l. ⊎_elim inl
      (λ h. inr (opened_payloads 36 part s h.0, record { opens = opens-fragment part s o f h.0 h.1; holds = l }))
      (unopened-or-holds 36 part s room fit o f.body))

  pub unopened-fragment-exactly : FitPart part → Octets s → outer_fragment s ≡ true
      → UnopenedFragment part s room ↔ ((x : List ℕ) → OpensFragmentInto part s room x → ⊥)
  unopened-fragment-exactly fit o e = (
    unopened-fragment-none,
    λ n. ⊎_elim (λ u. u) (λ h. absurd (n h.0 h.1)) (unopened-fragment-or-opens fit o (fragment-is s e)),
  )
