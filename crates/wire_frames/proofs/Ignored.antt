-- WHAT IS IGNORED. Document 01: "Flags, minor version and RESERVED octets are ignored." A frame's octets may be any others in all that its
-- mask does not name: they are the same tree.
use Prim.Native.Nat.{ℕ}
use mathlib.Core.Path.{◌≡◌, refl, sym, ◌∙◌, subst}
use mathlib.Core.List.{List, []}
use mathlib.Core.Bool.{Bool}
use native.Mathlib.Omega.{arith}
use lib.ListN.{length, drop, length-drop}
use Rattle.octets.specs.Numbers.{oct}
use Rattle.octets.specs.Walk.{Spans}
use Rattle.octets.specs.Ignored.{Alike}
use Rattle.octets.proofs.Ignored.{length-all, length_none, same_length, alike-drop, alike-front, alike_all, same-top, be16-same, be32-same}
use Rattle.octets.proofs.Ignored.{chain-alike}
use Rattle.wire_policies.proofs.AlikeLaws.{policies-sized, policies-alike}
use Rattle.wire_bags.proofs.AlikeLaws.{bags-sized, bags-alike}
use Rattle.wire_frames.specs.Exchange.{reads_fresh}
use Rattle.wire_frames.specs.Frame.{Content, gsa, kd, delete, unread, Payload, none_next, Frame}
use Rattle.wire_frames.specs.Grammar.{IsDelete, IsContent, is-gsa, is-kd, is-delete, is-unread, IsPayload, IsFrame}
use Rattle.wire_frames.specs.Ignored.{content_mask, payload_mask, frame_mask}

module _ (fresh : Bool) where
  -- THE BODY OF A PAYLOAD
  content-sized : (k : ℕ) (s : List ℕ) (c : Content) (i : IsContent fresh k s c) → length (content_mask fresh k s c i) ≡ length s
  content-sized k s (gsa l) (is-gsa e p) = policies-sized p
  content-sized k s (kd l) (is-kd e b) = bags-sized fresh b
  content-sized k s (delete d) (is-delete e i) = length-all s
  content-sized k s unread (is-unread a b c) = length_none s

  content-alike : (k : ℕ) (s : List ℕ) (c : Content) (i : IsContent fresh k s c) (t : List ℕ) → Alike (content_mask fresh k s c i) s t
      → IsContent fresh k t c
  content-alike k s (gsa l) (is-gsa e p) t h = is-gsa e (policies-alike p t h)
  content-alike k s (kd l) (is-kd e b) t h = is-kd e (bags-alike fresh b t h)
  content-alike k s (delete d) (is-delete e i) t h = is-delete e (subst (λ (u : List ℕ). IsDelete u d) (alike_all s t h) i)
  content-alike k s unread (is-unread a b c) t h = is-unread a b c

  -- A PAYLOAD: the low seven bits of its octet 1 are reserved
  payload-sized : (o : List ℕ) (x : Payload) (k next : ℕ) (i : IsPayload fresh k o x next)
      → length (payload_mask fresh o x k next i) ≡ length o
  payload-sized o x k next i = omega (arith, content-sized k (drop 4 o) x.content i.content, length-drop 4 o, i.least)

  pub payload-alike : (o : List ℕ) (x : Payload) (k next : ℕ) (i : IsPayload fresh k o x next) (t : List ℕ)
      → Alike (payload_mask fresh o x k next i) o t → IsPayload fresh k t x next
  payload-alike o x k next i t h =
      let m = payload_mask fresh o x k next i in
      let n = same_length m o t h in
      record {
        kind = i.kind;
        following = sym (h.each 0) ∙ i.following;
        critical = sym (same-top _ _ (h.each 1)) ∙ i.critical;
        size = sym (be16-same o t 2 (h.each 2) (h.each 3)) ∙ i.size ∙ n;
        least = omega (arith, n, i.least);
        content = content-alike k (drop 4 o) x.content i.content (drop 4 t) (alike-drop m o t h 4);
      }

-- THE FRAME: octet 19 holds the flags, the low four bits of octet 17 the minor version
pub ignored-octets : (profile : Bool) (s t : List ℕ) (x : Frame) (i : IsFrame profile s x) → Alike (frame_mask profile s x i) s t
    → IsFrame profile t x
ignored-octets profile s t x i h =
    let fresh = reads_fresh profile x.header.exchange in
    let m = frame_mask profile s x i in
    let n = same_length m s t h in
    let c = chain-alike (payload_mask fresh) (payload-sized fresh) (payload-alike fresh) (λ k a b. refl) [] i.payloads (drop 28 t)
    (alike-drop m s t h 28) in
    let none : [] ≡ c.left = alike_all [] c.left c.alike in
    let first = h.each 16 in
    record {
      least = omega (arith, n, i.least);
      most = omega (arith, n, i.most);
      size = sym (be32-same s t 24 (h.each 24) (h.each 25) (h.each 26) (h.each 27)) ∙ i.size ∙ n;
      major = sym (h.each 17) ∙ i.major;
      spi = sym (alike-front m s t h 16 refl) ∙ i.spi;
      exchange = sym (h.each 18) ∙ i.exchange;
      message_id = sym (be32-same s t 20 (h.each 20) (h.each 21) (h.each 22) (h.each 23)) ∙ i.message_id;
      payloads =
          subst (λ (k : ℕ). Spans none_next (IsPayload fresh) k (drop 28 t) x.payloads []) first
          (subst (λ (r : List ℕ). Spans none_next (IsPayload fresh) (oct s 16) (drop 28 t) x.payloads r) (sym none) c.spans);
    }
