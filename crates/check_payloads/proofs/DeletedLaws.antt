-- Going through the Delete payloads of a frame.
use Prim.Native.Nat.{ℕ, ◌+◌}
use mathlib.Core.Path.{◌≡◌, refl, ap, sym, ◌∙◌, subst}
use mathlib.Core.List.{List, [], ◌∷◌, ◌++◌, map, flat_map}
use mathlib.Core.Bool.{Bool, true, false, ◌||◌, or-false}
use native.Mathlib.Omega.{arith}
use lib.ListN.{length, drop, length-append}
use Rattle.octets.specs.Walk.{part, whole}
use Rattle.lists.specs.Lists.{any}
use Rattle.wire_frames.specs.Delete.{Delete, delete_of, delete_fits}
use Rattle.wire_frames.specs.Frame.{Content, gsa, kd, delete, unread, Payload, Frame, frame}
use Rattle.wire_frames.specs.Grammar.{IsContent, is-gsa, is-kd, is-delete, is-unread}
use Rattle.wire_frames.proofs.DeleteGrammar.{delete-from}
use Rattle.wire_frames.specs.Plain.{plain_content, plain_payload, plain_frame}
use Rattle.wire_frames.proofs.FrameGrammar.{read-frame}
use Rattle.wire_frames.proofs.PlainLaws.{on-to-off}
use Rattle.wire_readers.specs.inner.Payloads.{payloads_in}
use Rattle.wire_readers.specs.declared.payload.PayloadParts.{PayloadParts}
use Rattle.rules_refusals.specs.Contents.{deletes_of_content, deletes_of}
use Rattle.check_payloads.specs.inner.Facts.{payloads_of}
use Rattle.check_payloads.specs.inner.Deletion.{of_other, of_none, spis_in, deletes_among, deletes_by, with_one}
use Rattle.check_payloads.specs.declared.deletion.Deletes.{Deletes}
use Rattle.check_payloads.proofs.FrameLaws.{are-payloads}
use Rattle.check_payloads.proofs.StepLaws.{Step, none_left}

-- what was found and what the Delete payloads left hold make up all
pub record Sums (d : Deletes) (l all : List Delete) : Type 0 where
  pub other : (d.other || any of_other l) ≡ any of_other all
  pub none : (d.none || any of_none l) ≡ any of_none all
  pub spis : d.spis + length (spis_in l) ≡ length (spis_in all)

pub sums-start : (all : List Delete) → Sums (record { other = false; none = false; spis = 0 }) all all
sums-start all = record { other = refl; none = refl; spis = omega arith }

moved : (a b c : Bool) → ((a || b) || c) ≡ (b || (a || c))
moved true true c = refl
moved true false c = refl
moved false true c = refl
moved false false c = refl

sums_next : (d : Deletes) (x : Delete) (l all : List Delete) → Sums d (x ∷ l) all → Sums (with_one d x) l all
unfolding any flat_map
sums_next d x l all s = record {
  other = moved (of_other x) d.other (any of_other l) ∙ s.other;
  none = moved (of_none x) d.none (any of_none l) ∙ s.none;
  spis = omega (arith, s.spis, length-append x.spis (spis_in l));
}

pub sums-all : (d : Deletes) (all : List Delete) → Sums d [] all → d ≡ deletes_by all
unfolding any flat_map
sums-all d all s =
    let n : d.spis ≡ length (spis_in all) = omega (arith, s.spis) in
    λ i. record {
      other = (sym (or-false d.other) ∙ s.other) i;
      none = (sym (or-false d.none) ∙ s.none) i;
      spis = n i;
    }

-- THE DELETE PAYLOADS FROM A PAYLOAD ON
in-delete : {fresh : Bool} {k : ℕ} {o : List ℕ} (c : Content) → IsContent fresh k o c → k ≡ 42 →
    (delete_fits o ≡ true) × (deletes_of_content c ≡ delete_of o ∷ [])
in-delete (gsa l) (is-gsa e f) q = absurd (omega (arith, e, q))
in-delete (kd l) (is-kd e f) q = absurd (omega (arith, e, q))
in-delete {o = o} (delete d) (is-delete e f) q = let g = delete-from o d f in (g.0, ap (λ (x : Delete). x ∷ []) (sym g.1))
in-delete unread (is-unread a b c) q = absurd (c q)

not-delete : {fresh : Bool} {k : ℕ} {o : List ℕ} (c : Content) → IsContent fresh k o c → (k ≡ 42 → ⊥) → deletes_of_content c ≡ []
not-delete (gsa l) (is-gsa e f) q = refl
not-delete (kd l) (is-kd e f) q = refl
not-delete (delete d) (is-delete e f) q = absurd (q e)
not-delete unread (is-unread a b c) q = refl

module _ (k : ℕ) (s : List ℕ) (at : ℕ) (r : PayloadParts) (g : Step false k s at r) where
  next-list : deletes_among (payloads_in false k (drop at s))
      ≡ deletes_of_content g.one.content ++ deletes_among (payloads_in false r.next (drop (at + r.end) s))
  unfolding flat_map
  next-list = ap deletes_among g.item

  pub fits-here : k ≡ 42 → delete_fits (part s (at + 4) (at + r.end)) ≡ true
  fits-here e = (in-delete g.one.content g.is e).0

  pub delete-here : k ≡ 42
      → deletes_among (payloads_in false k (drop at s))
      ≡ delete_of (part s (at + 4) (at + r.end)) ∷ deletes_among (payloads_in false r.next (drop (at + r.end) s))
  delete-here h =
      next-list ∙ ap (λ (x : List Delete). x ++ deletes_among (payloads_in false r.next (drop (at + r.end) s)))
      (in-delete g.one.content g.is h).1

  pub delete-later : (k ≡ 42 → ⊥) → deletes_among (payloads_in false k (drop at s))
      ≡ deletes_among (payloads_in false r.next (drop (at + r.end) s))
  delete-later h =
      next-list ∙ ap (λ (x : List Delete). x ++ deletes_among (payloads_in false r.next (drop (at + r.end) s)))
      (not-delete g.one.content g.is h)

  pub sums-here : (d e : Deletes) (all : List Delete) → k ≡ 42 → e ≡ with_one d (delete_of (part s (at + 4) (at + r.end)))
      → Sums d (deletes_among (payloads_in false k (drop at s))) all
      → Sums e (deletes_among (payloads_in false r.next (drop (at + r.end) s))) all
  sums-here d e all h q u =
      let o = part s (at + 4) (at + r.end) in
      let left = deletes_among (payloads_in false r.next (drop (at + r.end) s)) in
      subst (λ (x : Deletes). Sums x left all) (sym q)
      (sums_next d (delete_of o) left all (subst (λ (x : List Delete). Sums d x all) (delete-here h) u))

  pub sums-later : (d : Deletes) (all : List Delete) → (k ≡ 42 → ⊥) → Sums d (deletes_among (payloads_in false k (drop at s))) all
      → Sums d (deletes_among (payloads_in false r.next (drop (at + r.end) s))) all
  sums-later d all h u = subst (λ (x : List Delete). Sums d x all) (delete-later h) u

pub delete-none : (s : List ℕ) (k : ℕ) → k ≡ 0 → deletes_among (payloads_in false k s) ≡ []
unfolding flat_map
delete-none s k e = ap deletes_among (none_left false s k e)

pub sums-last : (s : List ℕ) (k : ℕ) (d : Deletes) (all : List Delete) → k ≡ 0 → Sums d (deletes_among (payloads_in false k s)) all
    → Sums d [] all
sums-last s k d all e u = subst (λ (l : List Delete). Sums d l all) (delete-none s k e) u

-- THE FRAME'S: a payload has the same Delete payloads without its fresh keys
deletes-plain : (l : List Payload) → deletes_among (map plain_payload l) ≡ deletes_among l
unfolding flat_map
deletes-plain [] = refl
deletes-plain (p ∷ l) = λ i. one p.content i ++ deletes-plain l i
  where
    one : (c : Content) → deletes_of_content (plain_content c) ≡ deletes_of_content c
    one (gsa l) = refl
    one (kd l) = refl
    one (delete d) = refl
    one unread = refl

pub among-frame : (profile : Bool) (s : List ℕ) (f : Frame) → frame profile s ≡ whole f [] → deletes_among (payloads_of s) ≡ deletes_of f
among-frame profile s f q =
    ap deletes_among (sym (are-payloads false s (plain_frame f) (on-to-off profile s f (read-frame profile s f [] q))))
    ∙ deletes-plain f.payloads
