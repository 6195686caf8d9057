-- The reader of frames answers a tree exactly when the octets are that tree's, and octets are one tree's at most.
use Prim.Native.Nat.{ℕ, ◌+◌, ◌-◌, ◌/◌, ◌≤◌}
use mathlib.Core.Path.{◌≡◌, refl, ap, sym, ◌∙◌, subst}
use mathlib.Core.List.{List, [], ◌∷◌, ◌++◌}
use mathlib.Core.Bool.{Bool, true, false, cond, ◌&&◌}
use native.Mathlib.Omega.{arith}
use borrow.Author.Tests.{le-leb, leb-true, eq-eqb, ne_eqb, eqb-true, eqb-false}
use lib.Dec.{leb, eqb}
use lib.ListN.{length, drop, length-drop}
use lib.Seq.{take_all, drop-length}
use Rattle.lists.proofs.Cases.{and_parts}
use Rattle.octets.specs.Numbers.{oct}
use Rattle.octets.specs.Walk.{be16, be32, part, Reading, whole, broken, mapped, opened, closed}
use Rattle.octets.specs.Walk.{within, Linked, Spans}
use Rattle.octets.proofs.Numerals.{sized-is}
use Rattle.octets.proofs.Walks.{begun-some, opened-is}
use Rattle.octets.proofs.Local.{extended, oct-append, be16-append, size-append, mapped-extend, opened-extend, begun-extend, within-extend}
use Rattle.octets.proofs.Local.{Local, exact, split}
use Rattle.octets.proofs.Inverse.{inverse-mapped, inverse-opened, inverse-begun, inverse-within}
use Rattle.octets.proofs.Grammar.{Splits, reads, read}
use Rattle.wire_policies.specs.Policy.{policies}
use Rattle.wire_policies.proofs.PolicyGrammar.{policies-read, read-policies}
use Rattle.wire_bags.specs.Bag.{bags}
use Rattle.wire_bags.proofs.BagGrammar.{bags-read, read-bags}
use Rattle.wire_frames.specs.Header.{first_payload, header_fits, payload_fits}
use Rattle.wire_frames.specs.Exchange.{reads_fresh}
use Rattle.wire_frames.specs.Delete.{Delete, delete_of, delete_fits}
use Rattle.wire_frames.specs.Frame.{Content, gsa, kd, delete, unread, body, Payload, payload_of, payload, none_next, payloads}
use Rattle.wire_frames.specs.Frame.{nothing_left}
use Rattle.wire_frames.specs.Frame.{Frame, frame_of, frame_payloads, frame}
use Rattle.wire_frames.specs.Grammar.{IsContent, is-gsa, is-kd, is-delete, is-unread, IsPayload, IsFrame}
use Rattle.wire_frames.proofs.DeleteGrammar.{delete-to, delete-from}
use Rattle.octets.specs.Ignored.{Alike}
use Rattle.wire_frames.specs.Ignored.{frame_mask}
use Rattle.wire_frames.proofs.Ignored.{ignored-octets}
use Rattle.wire_frames.proofs.PayloadLaws.{takes}

module _ (fresh : Bool) where
  -- THE BODY OF A PAYLOAD
  module _ (k h : ℕ) (s : List ℕ) where
    pub body-to : (b : ℕ) (c : Content) (left : List ℕ) → body fresh k h b s ≡ whole c left → IsContent fresh k s c
    unfolding body
    body-to b c left = go (eqb k 51) (eqb k 52) (eqb k 42) refl refl refl
      where
        go : (x y z : Bool) → eqb k 51 ≡ x → eqb k 52 ≡ y → eqb k 42 ≡ z
            → cond x (mapped gsa (policies b s)) (cond y (mapped kd (bags fresh b s)) (cond z (opened h (delete_fits s) (whole (delete
            (delete_of s)) []))
            (whole unread []))) ≡ whole c left → IsContent fresh k s c
        go true y z ex ey ez q =
            let m = inverse-mapped gsa (policies b s) c left q in
            subst (IsContent fresh k s) m.gives (is-gsa (eqb-true k 51 ex) (read-policies b s m.item left m.is))
        go false true z ex ey ez q =
            let m = inverse-mapped kd (bags fresh b s) c left q in
            subst (IsContent fresh k s) m.gives (is-kd (eqb-true k 52 ey) (read-bags fresh b s m.item left m.is))
        go false false true ex ey ez q =
            let f = inverse-opened h (delete_fits s) (whole (delete (delete_of s)) []) c left q in
            let e = f.1 in
            let u : delete (delete_of s) ≡ c = cc in
            subst (IsContent fresh k s) u (is-delete (eqb-true k 42 ez) (delete-to s f.0))
        go false false false ex ey ez q =
            let u : unread ≡ c = cc in
            subst (IsContent fresh k s) u (is-unread (eqb-false k 51 ex) (eqb-false k 52 ey) (eqb-false k 42 ez))

    at-kind : (n : ℕ) (t : Bool) (m : ℕ) → k ≡ n → eqb n m ≡ t → eqb k m ≡ t
    at-kind n t m e q = ap (λ (y : ℕ). eqb y m) e ∙ q

    pub body-from : (c : Content) → IsContent fresh k s c → (b : ℕ) → body fresh k h b s ≡ whole c []
    unfolding body
    body-from (gsa l) (is-gsa e f) b = rw (at-kind 51 true 51 e refl) (ap (mapped gsa) (policies-read f b))
    body-from (kd l) (is-kd e f) b = rw (at-kind 52 false 51 e refl, at-kind 52 true 52 e refl) (ap (mapped kd) (bags-read fresh f b))
    body-from (delete d) (is-delete e f) b =
        let g = delete-from s d f in
        rw (at-kind 42 false 51 e refl, at-kind 42 false 52 e refl, at-kind 42 true 42 e refl, g.0) (ap (λ (x : Delete). whole
        (delete x) []) g.1)
    body-from unread (is-unread n₁ n₂ n₃) b = rw (ne_eqb k 51 n₁, ne_eqb k 52 n₂, ne_eqb k 42 n₃)

  -- A PAYLOAD IS READ FROM ITS OWN OCTETS
  abbrev size_at : List ℕ → ℕ
  size_at s = be16 s 2

  pub record Read (k b : ℕ) (s : List ℕ) (x : Linked ℕ Payload) (rest : List ℕ) : Type 0 where
    pub fits : payload_fits s ≡ true
    pub held : Content
    pub left : List ℕ
    pub inner : body fresh k b (b + 4) (part s 4 (be16 s 2)) ≡ whole held left
    pub item : payload_of k s held ≡ x
    pub after : rest ≡ drop (be16 s 2) s

  module _ (k : ℕ) where
    pub inverse : (b : ℕ) (s : List ℕ) (x : Linked ℕ Payload) (rest : List ℕ) → payload fresh k b s ≡ whole x rest → Read k b s x rest
    unfolding payload
    inverse b s x rest q =
        let w = within 4 (be16 s 2) (body fresh k b) b s in
        let f = inverse-opened b (payload_fits s) (mapped (payload_of k s) w) x rest
        (inverse-begun 0 s (opened b (payload_fits s) (mapped (payload_of k s) w)) x rest q) in
        let g = inverse-mapped (payload_of k s) w x rest f.1 in
        let m = inverse-within 4 (be16 s 2) (body fresh k b) b s g.item rest g.is in
        record { fits = f.0; held = g.item; left = m.left; inner = m.inner; item = g.gives; after = m.after }

    same_size : (o r : List ℕ) → 4 ≤ length o → size_at (o ++ r) ≡ size_at o
    same_size o r l = be16-append o r 2 (omega arith)

    counted : (b : ℕ) (s : List ℕ) (x : Linked ℕ Payload) (rest : List ℕ) → payload fresh k b s ≡ whole x rest
        → (4 ≤ size_at s) × (size_at s ≤ length s) × (rest ≡ drop (size_at s) s)
    counted b s x rest q = let f = inverse b s x rest q in let g = sized-is s 4 f.fits in (g.0, g.1, f.after)

    module _ (b : ℕ) (o r : List ℕ) (l : 4 ≤ length o) (n : size_at o ≤ length o) where
      same-held : payload_fits o ≡ true
          → mapped (payload_of k (o ++ r)) (within 4 (be16 (o ++ r) 2) (body fresh k b) b (o ++ r))
          ≡ extended r (mapped (payload_of k o) (within 4 (be16 o 2) (body fresh k b) b o))
      same-held e =
          let f = sized-is o 4 e in
          let zeroth : oct (o ++ r) 0 ≡ oct o 0 = oct-append o r 0 (omega arith) in
          let second : oct (o ++ r) 1 ≡ oct o 1 = oct-append o r 1 (omega arith) in
          (λ i. mapped
          (λ (c : Content). record { item = record { kind = k; critical = leb 128 (second i); content = c }; next = zeroth i })
          (within 4 (same_size o r l i) (body fresh k b) b (o ++ r)))
          ∙ ap (mapped (payload_of k o)) (within-extend o r 4 (be16 o 2) (body fresh k b) b f.0 n)
          ∙ mapped-extend o r (payload_of k o) (within 4 (be16 o 2) (body fresh k b) b o)

      extends : payload fresh k b (o ++ r) ≡ extended r (payload fresh k b o)
      unfolding payload
      extends =
          let x = mapped (payload_of k (o ++ r)) (within 4 (be16 (o ++ r) 2) (body fresh k b) b (o ++ r)) in
          let y = mapped (payload_of k o) (within 4 (be16 o 2) (body fresh k b) b o) in
          begun-extend o r 0 (opened b (payload_fits (o ++ r)) x) (opened b (payload_fits o) y) (omega arith)
          (opened-extend o r b (payload_fits (o ++ r)) (payload_fits o) x y (size-append o r 4 l n) same-held)

    pub local : Local (payload fresh k) 4 size_at
    local = record { same = same_size; counts = counted; extend = extends }

    to : (b : ℕ) (o : List ℕ) (x : Linked ℕ Payload) → payload fresh k b o ≡ whole x [] → IsPayload fresh k o x.item x.next
    to b o x q =
        let f = inverse b o x [] q in
        let g = sized-is o 4 f.fits in
        let n : be16 o 2 ≡ length o = omega (arith, g.0, g.1, ap length f.after, length-drop (be16 o 2) o) in
        let d : part o 4 (be16 o 2) ≡ drop 4 o = take_all (be16 o 2 - 4) (drop 4 o) (rw length-drop (omega arith)) in
        let c : f.held ≡ x.item.content = ap (λ (y : Linked ℕ Payload). y.item.content) f.item in
        record {
          kind = ap (λ (y : Linked ℕ Payload). y.item.kind) f.item;
          following = ap (λ (y : Linked ℕ Payload). y.next) f.item;
          critical = ap (λ (y : Linked ℕ Payload). y.item.critical) f.item;
          size = n;
          least = omega (arith, g.0);
          content =
              subst (IsContent fresh k (drop 4 o)) c
              (subst (λ (y : List ℕ). IsContent fresh k y f.held) d
              (body-to k b (part o 4 (be16 o 2)) (b + 4) f.held f.left f.inner));
        }

    from : (b : ℕ) (o : List ℕ) (x : Linked ℕ Payload) → IsPayload fresh k o x.item x.next → payload fresh k b o ≡ whole x []
    unfolding payload
    from b o x i =
        let l = i.least in
        let n = i.size in
        let f : payload_fits o ≡ true =
        ap (λ (t : Bool). t && leb (be16 o 2) (length o)) (le-leb 4 (be16 o 2) (omega arith)) ∙ le-leb (be16 o 2) (length o)
        (omega arith) in
        let d : drop 4 o ≡ part o 4 (be16 o 2) = sym (take_all (be16 o 2 - 4) (drop 4 o) (rw length-drop (omega arith))) in
        let w : within 4 (be16 o 2) (body fresh k b) b o ≡ whole x.item.content (drop (be16 o 2) o) =
        ap (closed (drop (be16 o 2) o))
        (body-from k b (part o 4 (be16 o 2)) x.item.content (subst (λ (y : List ℕ). IsContent fresh k y x.item.content) d
        i.content) (b + 4)) in
        let e : payload_of k o x.item.content ≡ x =
        λ j. record { item = record { kind = i.kind j; critical = i.critical j; content = x.item.content }; next = i.following j } in
        begun-some 0 o (opened b (payload_fits o) (mapped (payload_of k o) (within 4 (be16 o 2) (body fresh k b) b o))) (λ y. omega arith)
        ∙ ap (λ (t : Bool). opened b t (mapped (payload_of k o) (within 4 (be16 o 2) (body fresh k b) b o))) f
        ∙ ap (mapped (payload_of k o)) w ∙ (λ j. whole (e j) (drop (n j) o)) ∙ ap (whole x) (drop-length o)

  pub sound : (k : ℕ) (b : ℕ) (s : List ℕ) (x : Linked ℕ Payload) (rest : List ℕ) → none_next k s ≡ false
      → payload fresh k b s ≡ whole x rest → Splits (IsPayload fresh) k s x.item x.next rest
  sound k b s x rest e q =
      let f = split (payload fresh k) 4 size_at (local k) b s x rest q in
      record { octets = f.octets; joined = f.joined; is = to k b f.octets x f.alone }

  pub complete : (k : ℕ) (b : ℕ) (o rest : List ℕ) (x : Linked ℕ Payload) → none_next k (o ++ rest) ≡ false
      → IsPayload fresh k o x.item x.next → payload fresh k b (o ++ rest) ≡ whole x rest
  complete k b o rest x e i = exact (payload fresh k) 4 size_at (local k) b o rest x (from k b o x i)

-- THE FRAME
exact-rest : {A : Type 0} (x : Reading A) (a : A) (rest : List ℕ) → nothing_left x ≡ whole a rest → (x ≡ whole a []) × (rest ≡ [])
exact-rest (whole c []) a rest q = (let u : c ≡ a = cc in ap (λ y. whole y []) u, cc)
exact-rest (whole c (y ∷ r)) a rest q = let z : ◌≡◌ {A = ℕ} 0 1 = cc in absurd (omega arith)
exact-rest (broken o) a rest q = let z : ◌≡◌ {A = ℕ} 0 1 = cc in absurd (omega arith)

-- what is read to a tree are that tree's octets
pub read-frame : (profile : Bool) (s : List ℕ) (x : Frame) (rest : List ℕ) → frame profile s ≡ whole x rest → IsFrame profile s x
unfolding frame
read-frame profile s x rest q =
    let fresh = reads_fresh profile (oct s 18) in
    let f = inverse-opened 0 (header_fits s) (mapped (frame_of s) (frame_payloads profile s)) x rest q in
    let g = inverse-mapped (frame_of s) (frame_payloads profile s) x rest f.1 in
    let r = exact-rest (payloads fresh (first_payload s) 28 (drop 28 s)) g.item rest g.is in
    let h₃ = (eqb (be32 s 24) (length s) && eqb (oct s 17 / 16) 2) in
    let h₁ = and_parts (leb 28 (length s)) (leb (length s) 16384 && h₃) f.0 in
    let h₂ = and_parts (leb (length s) 16384) h₃ h₁.1 in
    let h = and_parts (eqb (be32 s 24) (length s)) (eqb (oct s 17 / 16) 2) h₂.1 in
    subst (IsFrame profile s) g.gives
    (record {
      least = leb-true 28 (length s) h₁.0;
      most = leb-true (length s) 16384 h₂.0;
      size = eqb-true (be32 s 24) (length s) h.0;
      major = eqb-true (oct s 17 / 16) 2 h.1;
      spi = refl;
      exchange = refl;
      message_id = refl;
      payloads = read none_next (payload fresh) (takes fresh) (IsPayload fresh) (sound fresh) (complete fresh) 28 r.0;
    })

-- octets that are a tree's are read to that tree
pub frame-read : (profile : Bool) (s : List ℕ) (x : Frame) → IsFrame profile s x → frame profile s ≡ whole x []
unfolding frame
frame-read profile s x i =
    let fresh = reads_fresh profile (oct s 18) in
    let fit : header_fits s ≡ true =
    ap (λ (t : Bool). t && (leb (length s) 16384 && (eqb (be32 s 24) (length s) && eqb (oct s 17 / 16) 2))) (le-leb 28
    (length s) i.least)
    ∙ ap (λ (t : Bool). t && (eqb (be32 s 24) (length s) && eqb (oct s 17 / 16) 2)) (le-leb (length s) 16384 i.most)
    ∙ ap (λ (t : Bool). t && eqb (oct s 17 / 16) 2) (eq-eqb (be32 s 24) (length s) i.size) ∙ eq-eqb (oct s 17 / 16) 2 i.major in
    let held = subst (λ (e : ℕ). Spans none_next (IsPayload (reads_fresh profile e)) (oct s 16) (drop 28 s) x.payloads [])
    (sym i.exchange) i.payloads in
    let p : payloads fresh (first_payload s) 28 (drop 28 s) ≡ whole x.payloads [] =
    reads none_next (payload fresh) (takes fresh) (IsPayload fresh) (sound fresh) (complete fresh) held 28 in
    opened-is 0 (header_fits s) (mapped (frame_of s) (frame_payloads profile s)) fit
    ∙ ap (λ (y : Reading (List Payload)). mapped (frame_of s) (nothing_left y)) p
    ∙ (λ j. whole (record {
      header = record { spi = i.spi j; exchange = i.exchange j; message_id = i.message_id j };
      payloads = x.payloads;
    }) [])

-- an accepted frame has one reading
pub one-tree : (profile : Bool) (s : List ℕ) (x y : Frame) → IsFrame profile s x → IsFrame profile s y → x ≡ y
one-tree profile s x y i j = let a = frame-read profile s x i in let b = frame-read profile s y j in cc

-- octets that differ in nothing that is read are read to the same tree
pub ignored-read : (profile : Bool) (s t : List ℕ) (x : Frame) (rest : List ℕ) (q : frame profile s ≡ whole x rest)
    → Alike (frame_mask profile s x (read-frame profile s x rest q)) s t → frame profile t ≡ whole x []
ignored-read profile s t x rest q h = frame-read profile t x (ignored-octets profile s t x (read-frame profile s x rest q) h)
