-- REARRANGED IS NOT TOO NARROW (document 02, T-14): whatever policies of a frame are put in another order within their GSA, the frame so
-- made is the first one rearranged; bags and what they hold in AnyExchangeOfBags. The stretches are those of the grammar, and
-- `any-order-exactly` (Permuted) says which orders there are.
use Prim.Native.Nat.{ℕ}
use mathlib.Core.Path.{◌≡◌, refl, sym, subst}
use mathlib.Core.Bool.{Bool}
use mathlib.Core.List.{List, [], ◌++◌, append_assoc}
use borrow.Author.Tests.{eqb-true}
use lib.ListN.{length, take, drop, take-append-drop}
use lib.Seq.{length-take-le}
use Rattle.octets.specs.Numbers.{oct}
use Rattle.octets.specs.Walk.{Spans, none, more}
use Rattle.wire_policies.specs.Policy.{Policy}
use Rattle.wire_policies.specs.Grammar.{IsPolicy}
use Rattle.wire_frames.specs.Frame.{Payload, none_next}
use Rattle.wire_frames.specs.Grammar.{joined, IsPayload}
use Rattle.rules_refusals.specs.Reordered.{AnyOrder}
use Rattle.rules_chains.specs.Chain.{In}
use Rattle.rules_order.specs.Rearranged.{CountsItself, BodyRearranged, in-gsa, as-it-is}
use Rattle.rules_order.specs.Rearranged.{PayloadRearranged, PayloadsRearranged, no-more, one_more, Rearranged}
use Rattle.rules_order.proofs.Cutting.{policy-counts, payload-counts}

-- ---- payloads that stay as they are
payload_same : (k : ℕ) (o : List ℕ) → CountsItself o → PayloadRearranged k o o
payload_same k o c =
    record {
      counts = c;
      head = take 4 o;
      size = length-take-le 4 o c.least;
      body = drop 4 o;
      other = drop 4 o;
      rearranged = as-it-is refl;
      from = sym (take-append-drop 4 o);
      to = sym (take-append-drop 4 o);
    }

payloads-same : (fresh : Bool) (k : ℕ) (s : List ℕ) (l : List Payload) (rest : List ℕ) → Spans none_next (IsPayload fresh) k s l rest →
    rest ≡ [] →
    PayloadsRearranged k s s
payloads-same fresh k _ _ rest (none e) d =
    subst (λ (x : List ℕ). PayloadsRearranged k x x) (sym d) (subst (λ (j : ℕ). PayloadsRearranged j [] []) (sym (eqb-true k 0 e)) no-more)
payloads-same fresh k _ _ _ (more {st' = j} o s {rest = rest} {a = x} {l = l} e i r) d =
    one_more o o (payload_same k o (payload-counts fresh k o x j i))
    (subst (λ (y : ℕ). PayloadsRearranged y s s) (sym i.following) (payloads-same fresh j s l rest r d))

-- payloads one after the other, the first of the kind `k`, up to one of the kind `j`
pub data Before : ℕ → List ℕ → ℕ → Type 0 where
  here : {k : ℕ} → Before k [] k
  past : {k : ℕ} (o : List ℕ) {s : List ℕ} {j : ℕ} → CountsItself o → Before (oct o 0) s j → Before k (o ++ s) j

behind-others : {k : ℕ} {s : List ℕ} {j : ℕ} → Before k s j → (o p t : List ℕ) → PayloadRearranged j o p →
    PayloadsRearranged (oct o 0) t t →
    PayloadsRearranged k (s ++ (o ++ t)) (s ++ (p ++ t))
behind-others here o p t r m = one_more o p r m
behind-others {k} (past q {s = s} c b) o p t r m =
    rw (append_assoc q s (o ++ t), append_assoc q s (p ++ t)) (one_more q q (payload_same k q c) (behind-others b o p t r m))

-- a frame with a payload of this head and body between others
abbrev pub frame_with : (header before head behind body : List ℕ) → List ℕ
frame_with header before head behind body = header ++ (before ++ ((head ++ body) ++ behind))

-- ---- a frame: its header, payloads, one payload of the kind `k` with `head` and a body, and the payloads behind it
module _ (fresh : Bool) (header before head behind : List ℕ) (k j : ℕ) (n : length header ≡ 28) (h : length head ≡ 4)
    (b : Before (oct header 16) before k) (l : List Payload) (r : Spans none_next (IsPayload fresh) j behind l []) where
  abbrev pub frame_of : List ℕ → List ℕ
  frame_of body = frame_with header before head behind body

  pub body-moved : (s t : List ℕ) → BodyRearranged k s t → (x : Payload) → IsPayload fresh k (head ++ s) x j →
      Rearranged (frame_of s) (frame_of t)
  body-moved s t m x i =
      record {
        header = header;
        size = n;
        payloads = before ++ ((head ++ s) ++ behind);
        moved = before ++ ((head ++ t) ++ behind);
        rearranged =
            behind-others b (head ++ s) (head ++ t) behind
            (record {
              counts = payload-counts fresh k (head ++ s) x j i;
              head = head;
              size = h;
              body = s;
              other = t;
              rearranged = m;
              from = refl;
              to = refl;
            })
            (subst (λ (y : ℕ). PayloadsRearranged y behind behind) (sym i.following) (payloads-same fresh j behind l [] r refl));
        from = refl;
        to = refl;
      }

  -- policies of a GSA, Group SA policies and the group-wide one, in any order
  pub policies-in-any-order : k ≡ 51 → (ps qs : List (List ℕ)) → ((o : List ℕ) → In o ps → (x : Policy) × IsPolicy o x) →
      AnyOrder ◌≡◌ ps qs → (x : Payload) → IsPayload fresh k (head ++ joined ps) x j →
      Rearranged (frame_of (joined ps)) (frame_of (joined qs))
  policies-in-any-order e ps qs each order =
      body-moved (joined ps) (joined qs)
      (in-gsa e
      (record {
        stretches = ps;
        others = qs;
        each = λ o i. policy-counts o (each o i).0 (each o i).1;
        order = order;
        from = refl;
        to = refl;
      }))
