-- Payloads rearranged are payloads, in the same order, each with the same policies or the same bags in any order.
use native.Mathlib.Omega.{arith}
use Prim.Native.Nat.{ℕ, ◌+◌, ◌<◌}
use mathlib.Core.Path.{◌≡◌, refl, ap, sym, ◌∙◌, subst}
use mathlib.Core.Bool.{Bool}
use mathlib.Core.List.{List, [], ◌∷◌, ◌++◌}
use lib.ListN.{length, drop, length-append}
use lib.Dec.{leb}
use lib.Seq.{drop-append_seam}
use Rattle.octets.specs.Numbers.{oct}
use Rattle.octets.specs.Walk.{Spans, none, more}
use Rattle.octets.proofs.Local.{oct-append, be16-append}
use Rattle.wire_frames.specs.Frame.{Content, gsa, kd, delete, unread, Payload, none_next}
use Rattle.wire_frames.specs.Grammar.{IsContent, is-gsa, is-kd, is-delete, is-unread, IsPayload}
use Rattle.rules_refusals.specs.Reordered.{SameOrder, no_item, item, ContentReordered, PayloadReordered}
use Rattle.rules_refusals.specs.Reordered as reordered
use Rattle.rules_refusals.proofs.AnyOrder.{as_is}
use Rattle.rules_refusals.proofs.Contents.{bag-same}
use Rattle.rules_order.specs.Rearranged.{Moved, CountsItself, BagRearranged, BodyRearranged, in-gsa, in-kd, as-it-is}
use Rattle.rules_order.specs.Rearranged.{PayloadRearranged, PayloadsRearranged, no-more, one_more}
use Rattle.rules_order.proofs.Stretches.{cut-same}
use Rattle.rules_order.proofs.Cutting.{payload-counts, counts_some, counts-one}
use Rattle.rules_order.proofs.Bags.{moved_length, equal-length, bag-length, policies-moved, bags-moved}

-- ---- as many octets
body-length : (k : ℕ) (s t : List ℕ) → BodyRearranged k s t → length s ≡ length t
body-length k s t (in-gsa e m) = moved_length equal-length m
body-length k s t (in-kd e m) = moved_length bag-length m
body-length k s t (as-it-is e) = ap length e

payload-length : (k : ℕ) (o p : List ℕ) → PayloadRearranged k o p → length o ≡ length p
payload-length k o p r =
    ap length r.from ∙ length-append r.head r.body
    ∙ ap (λ (n : ℕ). length r.head + n) (body-length k r.body r.other r.rearranged)
    ∙ sym (length-append r.head r.other) ∙ ap length (sym r.to)

pub payloads-length : {k : ℕ} {s t : List ℕ} → PayloadsRearranged k s t → length s ≡ length t
payloads-length no-more = refl
payloads-length {k} (one_more o p {s = s} {t = t} r m) =
    omega (arith, length-append o s, length-append p t, payload-length k o p r, payloads-length m)

-- ---- the body
content-same : (c : Content) → ContentReordered c c
content-same (gsa l) = reordered.in-gsa (as_is (λ a. refl) l)
content-same (kd l) = reordered.in-kd (as_is bag-same l)
content-same (delete d) = reordered.in-delete refl
content-same unread = reordered.not-read

pub record ContentToo (fresh : Bool) (k : ℕ) (c : Content) (t : List ℕ) : Type 0 where
  pub content : Content
  pub is : IsContent fresh k t content
  pub order : ContentReordered c content

policies-in-order : (fresh : Bool) (k : ℕ) {s t : List ℕ} → Moved CountsItself ◌≡◌ s t → (c : Content) → k ≡ 51 →
    IsContent fresh k s c → ContentToo fresh k c t
policies-in-order fresh k m _ e (is-gsa {l = ps} _ i) =
    let x = policies-moved ps m i in
    record { content = gsa x.policies; is = is-gsa e x.are; order = reordered.in-gsa x.order }
policies-in-order fresh k m _ e (is-kd d i) = absurd (omega arith)
policies-in-order fresh k m _ e (is-delete d i) = absurd (omega arith)
policies-in-order fresh k m _ e (is-unread a b c) = absurd (a e)

bags-in-order : (fresh : Bool) (k : ℕ) {s t : List ℕ} → Moved CountsItself BagRearranged s t → (c : Content) → k ≡ 52 →
    IsContent fresh k s c → ContentToo fresh k c t
bags-in-order fresh k m _ e (is-gsa d i) = absurd (omega arith)
bags-in-order fresh k m _ e (is-kd {l = bs} _ i) =
    let x = bags-moved fresh bs m i in
    record { content = kd x.bags; is = is-kd e x.are; order = reordered.in-kd x.order }
bags-in-order fresh k m _ e (is-delete d i) = absurd (omega arith)
bags-in-order fresh k m _ e (is-unread a b c) = absurd (b e)

content-carried : (fresh : Bool) (k : ℕ) (s t : List ℕ) (c : Content) → BodyRearranged k s t → IsContent fresh k s c →
    ContentToo fresh k c t
content-carried fresh k s t c (in-gsa e m) i = policies-in-order fresh k m c e i
content-carried fresh k s t c (in-kd e m) i = bags-in-order fresh k m c e i
content-carried fresh k s t c (as-it-is e) i =
    record { content = c; is = subst (λ (x : List ℕ). IsContent fresh k x c) e i; order = content-same c }

-- ---- a payload
pub record PayloadToo (fresh : Bool) (k : ℕ) (x : Payload) (next : ℕ) (p : List ℕ) : Type 0 where
  pub payload : Payload
  pub is : IsPayload fresh k p payload next
  pub order : PayloadReordered x payload

headed : (fresh : Bool) (k : ℕ) (h s t : List ℕ) → length h ≡ 4 → BodyRearranged k s t → (x : Payload) (next : ℕ) →
    IsPayload fresh k (h ++ s) x next →
    PayloadToo fresh k x next (h ++ t)
headed fresh k h s t n r x next i =
    let behind : (u : List ℕ) → drop 4 (h ++ u) ≡ u =
    λ u. ap (λ (j : ℕ). drop j (h ++ u)) (sym n) ∙ drop-append_seam h u in
    let same : length (h ++ t) ≡ length (h ++ s) =
    omega (arith, length-append h s, length-append h t, body-length k s t r) in
    let same-oct : (j : ℕ) → j < 4 → oct (h ++ t) j ≡ oct (h ++ s) j =
    λ j l. oct-append h t j (omega arith) ∙ sym (oct-append h s j (omega arith)) in
    let c = content-carried fresh k s t x.content r (subst (λ (u : List ℕ). IsContent fresh k u x.content) (behind s) i.content) in
    record {
      payload = record { kind = x.kind; critical = x.critical; content = c.content };
      is =
          record {
            kind = i.kind;
            following = same-oct 0 (omega arith) ∙ i.following;
            critical = subst (λ (j : ℕ). leb 128 j ≡ x.critical) (sym (same-oct 1 (omega arith))) i.critical;
            size = be16-append h t 2 (omega arith) ∙ sym (be16-append h s 2 (omega arith)) ∙ i.size ∙ sym same;
            least = omega (arith, same, i.least);
            content = subst (λ (u : List ℕ). IsContent fresh k u c.content) (sym (behind t)) c.is;
          };
      order = record { kind = refl; critical = refl; content = c.order };
    }

payload-carried : (fresh : Bool) (k : ℕ) (o p : List ℕ) → PayloadRearranged k o p → (x : Payload) (next : ℕ) →
    IsPayload fresh k o x next → PayloadToo fresh k x next p
payload-carried fresh k o p r x next i =
    subst (PayloadToo fresh k x next) (sym r.to)
    (headed fresh k r.head r.body r.other r.size r.rearranged x next
    (subst (λ (q : List ℕ). IsPayload fresh k q x next) r.from i))

-- ---- payloads one after the other
pub record PayloadsToo (fresh : Bool) (k : ℕ) (l : List Payload) (t : List ℕ) : Type 0 where
  pub payloads : List Payload
  pub spans : Spans none_next (IsPayload fresh) k t payloads []
  pub order : SameOrder PayloadReordered l payloads

-- no octet is left, so nothing follows
ended : (fresh : Bool) (k : ℕ) (s : List ℕ) (l : List Payload) (rest : List ℕ) → Spans none_next (IsPayload fresh) k s l rest → s ≡ [] →
    rest ≡ [] →
    PayloadsToo fresh k l []
ended fresh k _ _ _ (none e) d f = record { payloads = []; spans = none e; order = no_item }
ended fresh k _ _ _ (more {st' = next} o s {a = x} e i r) d f =
    absurd (omega (arith, ap length d, length-append o s, counts_some o (payload-counts fresh k o x next i)))

pub payloads-carried : (fresh : Bool) {k : ℕ} {s t : List ℕ} → PayloadsRearranged k s t → (u : List ℕ) (l : List Payload) (rest : List ℕ) →
    Spans none_next (IsPayload fresh) k u l rest → u ≡ s → rest ≡ [] → PayloadsToo fresh k l t
payloads-carried fresh no-more u l rest d e f = ended fresh 0 u l rest d e f
payloads-carried fresh {k} (one_more o p {s = s} r m) _ _ _ (none z) e f =
    absurd (omega (arith, ap length (sym f ∙ e), length-append o s, counts_some o r.counts))
payloads-carried fresh {k} (one_more o p {s = s} {t = t} r m) _ _ _ (more {st' = next} q u {rest = rest} {a = x} {l = l} z i d) e f =
    let c = cut-same q o u s (counts-one q o u s (payload-counts fresh k q x next i) r.counts e) e in
    let j = payload-carried fresh k o p r x next (subst (λ (v : List ℕ). IsPayload fresh k v x next) c.0 i) in
    let n : next ≡ oct o 0 = sym i.following ∙ ap (λ (v : List ℕ). oct v 0) c.0 in
    let b = payloads-carried fresh m u l rest (subst (λ (y : ℕ). Spans none_next (IsPayload fresh) y u l rest) n d) c.1 f in
    record {
      payloads = j.payload ∷ b.payloads;
      spans = more p t z (subst (IsPayload fresh k p j.payload) n j.is) b.spans;
      order = item j.order b.order;
    }
