-- One payload of the chain, and the others, where a loop over them stands.
use Prim.Native.Nat.{ℕ, ◌+◌, ◌-◌, ◌≤◌}
use mathlib.Core.Path.{◌≡◌, refl, ap, ◌∙◌, subst}
use mathlib.Core.List.{List, [], ◌∷◌}
use mathlib.Core.Bool.{Bool, true}
use native.Mathlib.Omega.{arith}
use lib.ListN.{length, drop, length-drop}
use lib.Seq.{drop-drop}
use Rattle.octets.specs.Numbers.{oct}
use Rattle.octets.specs.Walk.{be16, part}
use Rattle.octets.proofs.Walks.{tail, to_end, chain-stop}
use Rattle.wire_frames.specs.Frame.{Payload, payload, none_next, payloads, nothing_left}
use Rattle.wire_frames.specs.Grammar.{IsContent}
use Rattle.wire_frames.proofs.PayloadLaws.{takes}
use Rattle.wire_readers.specs.inner.Values.{is_whole, items_of}
use Rattle.wire_readers.specs.inner.Payloads.{payloads_in, PayloadIs}
use Rattle.wire_readers.specs.declared.payload.PayloadParts.{PayloadParts}
use Rattle.wire_readers.proofs.PayloadsLaws.{payload-is}

module _ (fresh : Bool) where
  pub none_left : (s : List ℕ) (k : ℕ) → k ≡ 0 → payloads_in fresh k s ≡ []
  none_left s k e =
      ap (λ (n : ℕ). payloads_in fresh n s) e ∙ ap items_of (chain-stop none_next (payload fresh) (takes fresh) 0 0 s refl)

  pub record Step (k : ℕ) (s : List ℕ) (at : ℕ) (r : PayloadParts) : Type 0 where
    pub next-is : r.next ≡ oct (drop at s) 0
    pub end_is : r.end ≡ be16 (drop at s) 2
    pub some : 4 ≤ r.end
    pub inside : at + r.end ≤ length s
    pub one : Payload
    pub kind : one.kind ≡ k
    pub critical : one.critical ≡ r.critical
    pub is : IsContent fresh k (part s (at + 4) (at + r.end)) one.content
    pub item : payloads_in fresh k (drop at s) ≡ one ∷ payloads_in fresh r.next (drop (at + r.end) s)
    pub rest : is_whole (nothing_left (payloads fresh r.next 0 (drop (at + r.end) s))) ≡ true

  -- what a loop asks before it reads the next one
  pub reads-next : (k : ℕ) (s : List ℕ) (at : ℕ) → is_whole (nothing_left (payloads fresh k 0 (drop at s))) ≡ true
      → is_whole (nothing_left (payloads fresh k 0 (tail s at))) ≡ true
  reads-next k s at e = ap (λ (l : List ℕ). is_whole (nothing_left (payloads fresh k 0 l))) (to_end s at) ∙ e

  step-at : (k : ℕ) (s : List ℕ) (at : ℕ) (r : PayloadParts) → at ≤ length s → PayloadIs fresh k (drop at s) r → Step k s at r
  step-at k s at r h d =
      let j : drop r.end (drop at s) ≡ drop (at + r.end) s = drop-drop r.end at s in
      let n : r.end - 4 ≡ at + r.end - (at + 4) = omega arith in
      let p : part (drop at s) 4 r.end ≡ part s (at + 4) (at + r.end) = rw (drop-drop 4 at s, n) in
      record {
        next-is = d.next;
        end_is = d.end;
        some = d.some;
        inside = omega (arith, d.some, d.inside, length-drop at s);
        one = record { kind = k; critical = r.critical; content = d.content };
        kind = refl;
        critical = refl;
        is = subst (λ (l : List ℕ). IsContent fresh k l d.content) p d.is;
        item = d.item ∙ ap (λ (l : List ℕ). record { kind = k; critical = r.critical; content = d.content }
            ∷ payloads_in fresh r.next l) j;
        rest = subst (λ (l : List ℕ). is_whole (nothing_left (payloads fresh r.next 0 l)) ≡ true) j d.rest;
      }

  pub step : (k : ℕ) (s : List ℕ) (at : ℕ) (r : PayloadParts) → at ≤ length s → PayloadIs fresh k (tail s at) r → Step k s at r
  step k s at r h f = step-at k s at r h (subst (λ (l : List ℕ). PayloadIs fresh k l r) (to_end s at) f)

  -- the same, where no loop has read it
  pub a-step : (k : ℕ) (s : List ℕ) (at : ℕ) → at ≤ length s → (k ≡ 0 → ⊥) → is_whole (nothing_left (payloads fresh k 0 (drop at s))) ≡ true
      → (r : PayloadParts) × Step k s at r
  a-step k s at h z e = (_, step-at k s at _ h (payload-is fresh k (drop at s) z e _ _ _ refl refl refl))
