-- Going through payloads whose layout is whole: the first one, and the others.
use Prim.Native.Nat.{ℕ, ◌+◌}
use mathlib.Core.Path.{◌≡◌, refl, ap, sym, ◌∙◌, subst}
use mathlib.Core.List.{List, [], ◌∷◌}
use mathlib.Core.Bool.{Bool, true}
use native.Mathlib.Omega.{arith}
use borrow.Author.Tests.{ne_eqb}
use lib.Dec.{leb}
use lib.ListN.{drop}
use Rattle.octets.specs.Numbers.{oct}
use Rattle.octets.specs.Walk.{be16, part, Reading, whole, broken, Linked}
use Rattle.octets.proofs.Numerals.{sized-is}
use Rattle.octets.proofs.Grammar.{FirstSpan, first-span}
use Rattle.wire_readers.specs.inner.Values.{is_whole, items_of}
use Rattle.wire_frames.specs.Header.{payload_fits}
use Rattle.wire_frames.specs.Frame.{Payload, payload_of, payload, none_next, payloads, nothing_left}
use Rattle.wire_frames.specs.Grammar.{IsContent, IsPayload}
use Rattle.wire_readers.specs.inner.Payloads.{payloads_in, PayloadIs}
use Rattle.wire_frames.proofs.PayloadLaws.{takes}
use Rattle.wire_frames.proofs.FrameGrammar.{body-to, Read, inverse, sound, complete}

exact-is : {A : Type 0} (x : Reading (List A)) → is_whole (nothing_left x) ≡ true → x ≡ whole (items_of x) []
exact-is (whole l []) e = refl
exact-is (whole l (y ∷ r)) e = let z : ◌≡◌ {A = ℕ} 0 1 = cc in absurd (omega arith)
exact-is (broken o) e = let z : ◌≡◌ {A = ℕ} 0 1 = cc in absurd (omega arith)

module _ (fresh : Bool) (k : ℕ) (s : List ℕ) (z : k ≡ 0 → ⊥) (e : is_whole (nothing_left (payloads fresh k 0 s)) ≡ true) where
  span : FirstSpan none_next (payload fresh) (takes fresh) (IsPayload fresh) (sound fresh) (complete fresh) k s (payloads_in fresh k s) []
  span = first-span none_next (payload fresh) (takes fresh) (IsPayload fresh) (sound fresh) (complete fresh) 0 k s (payloads_in fresh k s) []
      (ne_eqb k 0 z) (exact-is (payloads fresh k 0 s) e)

  head : Read fresh k 0 s span.first (drop span.size s)
  head = inverse fresh k 0 s span.first (drop span.size s) (span.is 0)

  pub fits-first : payload_fits s ≡ true
  fits-first = head.fits

  pub payload-is : (n c m : ℕ) → n ≡ oct s 0 → c ≡ oct s 1 → m ≡ be16 s 2 → PayloadIs fresh k s
      (record { next = n; critical = leb 128 c; end = m })
  payload-is n c m nq cq mq =
      let f = head in
      let g = span in
      let b = sized-is s 4 f.fits in
      let o : payloads_in fresh k s ≡ (payload_of k s f.held).item ∷ g.others =
      g.all ∙ ap (λ (x : Linked ℕ Payload). x.item ∷ g.others) (sym f.item) in
      let t : payloads fresh n 0 (drop m s) ≡ whole g.others [] =
      (λ i. payloads fresh (nq i) 0 (drop (mq i) s)) ∙ ap (payloads fresh (oct s 0) 0) (sym f.after)
      ∙ ap (λ (x : Linked ℕ Payload). payloads fresh x.next 0 (drop g.size s)) f.item ∙ g.after 0 in
      record {
        next = nq;
        critical = ap (leb 128) cq;
        end = mq;
        some = omega (arith, b.0, mq);
        inside = omega (arith, b.1, mq);
        content = f.held;
        is =
            subst (λ (u : ℕ). IsContent fresh k (part s 4 u) f.held) (sym mq)
            (body-to fresh k 0 (part s 4 (be16 s 2)) (0 + 4) f.held f.left f.inner);
        item =
            o ∙ (λ i. record { kind = k; critical = leb 128 (sym cq i); content = f.held } ∷ items_of (sym t i));
        rest = ap (λ (x : Reading (List Payload)). is_whole (nothing_left x)) t;
      }
