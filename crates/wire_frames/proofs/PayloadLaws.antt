-- What the readers' answers say of a payload, of the chain of payloads and of a frame.
use Rattle.wire_attributes.specs.declared.Broken.{Broken}
use Rattle.std.specs.Prelude.{Result, Ok}
use Prim.Native.Nat.{ℕ, ◌+◌, ◌<◌, ◌≤◌}
use mathlib.Core.Path.{◌≡◌, refl, ap, sym, ◌∙◌}
use mathlib.Core.List.{List, [], ◌∷◌}
use mathlib.Core.Bool.{Bool, true, false}
use native.Mathlib.Nat.{add-zero}
use native.Mathlib.Omega.{arith}
use borrow.Author.Tests.{eq-eqb, ne_eqb}
use lib.Dec.{eqb}
use lib.ListN.{length, drop, length-drop}
use lib.Seq.{get_or-drop}
use Rattle.octets.specs.Numbers.{oct}
use Rattle.octets.specs.Walk.{be16, part, Reading, whole, broken, mapped, closed, opened, within, Linked}
use Rattle.octets.proofs.Numerals.{sized-is}
use Rattle.octets.proofs.Walks.{tail, to_end, by-test, Takes, took, takes-mapped, takes-closed, begun-none, begun-some, takes-begun, stops}
use Rattle.octets.proofs.Walks.{opened-is, opened-not, takes-opened, outline, breaks}
use Rattle.octets.proofs.Walks.{chain-stops, chain-goes, chain-breaks}
use Rattle.wire_attributes.specs.Answers.{broken_at, layout_of, spot_of}
use Rattle.wire_attributes.proofs.Loops.{held_whole, held-broken, spot-mapped, layout-mapped, next-is, next-broken}
use Rattle.wire_policies.specs.Policy.{policies}
use Rattle.wire_bags.specs.Bag.{bags}
use Rattle.wire_frames.specs.Header.{first_payload, header_fits, payload_fits}
use Rattle.wire_frames.specs.Exchange.{reads_fresh}
use Rattle.wire_frames.specs.Delete.{delete_fits}
use Rattle.wire_frames.specs.Frame.{Content, gsa, kd, body, Payload, payload_of}
use Rattle.wire_frames.specs.Frame.{payload, none_next, payloads, nothing_left, Frame, frame_of, frame_payloads, frame, frame_layout}

module _ (fresh : Bool) where
  -- THE BODY of a payload of the kind k
  module _ (k h b : ℕ) (s : List ℕ) where
    pub gsa-body : k ≡ 51 → (y : Result (Unit {0}) Broken) → y ≡ layout_of (policies b s) → y ≡ layout_of (body fresh k h b s)
    unfolding body
    gsa-body e y q = q ∙ layout-mapped gsa (policies b s) ∙ rw (eq-eqb k 51 e)

    module _ (n₁ : k ≡ 51 → ⊥) where
      pub kd-body : k ≡ 52 → (y : Result (Unit {0}) Broken) → y ≡ layout_of (bags fresh b s) → y ≡ layout_of (body fresh k h b s)
      unfolding body
      kd-body e y q = q ∙ layout-mapped kd (bags fresh b s) ∙ rw (ne_eqb k 51 n₁, eq-eqb k 52 e)

      module _ (n₂ : k ≡ 52 → ⊥) where
        pub delete-good : k ≡ 42 → delete_fits s ≡ true → Ok tt ≡ layout_of (body fresh k h b s)
        unfolding body
        delete-good e f = rw (ne_eqb k 51 n₁, ne_eqb k 52 n₂, eq-eqb k 42 e, f)

        pub delete-bad : k ≡ 42 → delete_fits s ≡ false → broken_at h ≡ layout_of (body fresh k h b s)
        unfolding body
        delete-bad e f = rw (ne_eqb k 51 n₁, ne_eqb k 52 n₂, eq-eqb k 42 e, f)

  -- ONE PAYLOAD
  module _ (k b : ℕ) (s : List ℕ) where
    pub missing : length s ≡ 0 → broken_at 0 ≡ spot_of s (payload fresh k b s)
    unfolding payload
    missing e = sym (ap (spot_of s) (begun-none 0 s _ e))

    module _ (some : length s ≡ 0 → ⊥) where
      held : Reading (Linked ℕ Payload)
      held = mapped (payload_of k s) (within 4 (be16 s 2) (body fresh k b) b s)

      is : payload fresh k b s ≡ opened b (payload_fits s) held
      unfolding payload held
      is = begun-some 0 s _ some

      pub bad : payload_fits s ≡ false → broken_at b ≡ spot_of s (payload fresh k b s)
      bad e = sym (ap (spot_of s) (is ∙ opened-not b (payload_fits s) held e))

      module _ (n : ℕ) (fit : payload_fits s ≡ true) (g : n ≡ be16 s 2) where
        out : spot_of s (within 4 (be16 s 2) (body fresh k b) b s) ≡ spot_of s (payload fresh k b s)
        unfolding held
        out =
            spot-mapped (payload_of k s) s (within 4 (be16 s 2) (body fresh k b) b s)
            ∙ sym (ap (spot_of s) (is ∙ opened-is b (payload_fits s) held fit))

        inner : (y : Result (Unit {0}) Broken) → y ≡ layout_of (body fresh k b (b + 4) (part s 4 n))
            → y ≡ layout_of (body fresh k b (b + 4) (part s 4 (be16 s 2)))
        inner y q = q ∙ ap (λ (u : ℕ). layout_of (body fresh k b (b + 4) (part s 4 u))) g

        pub good : Ok tt ≡ layout_of (body fresh k b (b + 4) (part s 4 n)) → Ok n ≡ spot_of s (payload fresh k b s)
        good q = ap Ok g ∙ held_whole (body fresh k b) b s 4 (be16 s 2) (sized-is s 4 fit).1 (inner (Ok tt) q) ∙ out

        pub inner-broken : (o : ℕ) → broken_at o ≡ layout_of (body fresh k b (b + 4) (part s 4 n))
            → broken_at o ≡ spot_of s (payload fresh k b s)
        inner-broken o q = held-broken (body fresh k b) b s 4 (be16 s 2) o (inner (broken_at o) q) ∙ out

  pub takes : (k b : ℕ) (s : List ℕ) → Takes s (payload fresh k b s)
  unfolding payload
  takes k b s =
      let x = within 4 (be16 s 2) (body fresh k b) b s in
      takes-begun 0 s (opened b (payload_fits s) (mapped (payload_of k s) x))
      (takes-opened s b (payload_fits s) (mapped (payload_of k s) x)
      (λ e.
      let f = sized-is s 4 e in
      takes-mapped (payload_of k s) s x
      (takes-closed s (drop (be16 s 2) s) (body fresh k b (b + 4) (part s 4 (be16 s 2))) (took s (be16 s 2) (omega (arith, f.0)) f.1))))

  -- the kind of the next payload
  next_of : (k b : ℕ) (s : List ℕ) (x : Linked ℕ Payload) (rest : List ℕ) → payload fresh k b s ≡ whole x rest → x.next ≡ oct s 0
  unfolding payload
  next_of k b s x rest =
      by-test (λ (y : Reading (Linked ℕ Payload)). y ≡ whole x rest → x.next ≡ oct s 0) (eqb (length s) 0)
      (λ i q. let z : ◌≡◌ {A = ℕ} 0 1 = cc in absurd (omega arith))
      (λ i. by-test (λ (y : Reading (Linked ℕ Payload)). y ≡ whole x rest → x.next ≡ oct s 0) (payload_fits s)
      (λ j. go (body fresh k b (b + 4) (part s 4 (be16 s 2))))
      (λ j q. let z : ◌≡◌ {A = ℕ} 0 1 = cc in absurd (omega arith)))
    where
      go : (y : Reading Content) → mapped (payload_of k s) (closed (drop (be16 s 2) s) y) ≡ whole x rest → x.next ≡ oct s 0
      go (whole l r) q =
          let u : payload_of k s l ≡ x = cc in
          ap (λ (y : Linked ℕ Payload). y.next) (sym u)
      go (broken o) q = let z : ◌≡◌ {A = ℕ} 0 1 = cc in absurd (omega arith)

  -- THE CHAIN
  exact-whole : {A : Type 0} (x : Reading A) (r : List ℕ) → outline x ≡ stops r → length r ≡ 0 → Ok tt ≡ layout_of (nothing_left x)
  exact-whole (whole a []) r q e = refl
  exact-whole (whole a (y ∷ rest)) r q e = let u : y ∷ rest ≡ r = cc in absurd (omega (arith, ap length u))
  exact-whole (broken o) r q e = let z : ◌≡◌ {A = ℕ} 0 1 = cc in absurd (omega arith)

  exact-left : {A : Type 0} (x : Reading A) (r : List ℕ) → outline x ≡ stops r → (length r ≡ 0 → ⊥) →
      broken_at 0 ≡ layout_of (nothing_left x)
  exact-left (whole a []) r q e = let u : [] ≡ r = cc in absurd (e (ap length (sym u)))
  exact-left (whole a (y ∷ rest)) r q e = refl
  exact-left (broken o) r q e = let z : ◌≡◌ {A = ℕ} 0 1 = cc in absurd (omega arith)

  exact-breaks : {A : Type 0} (x : Reading A) (o : ℕ) → outline x ≡ breaks o → broken_at o ≡ layout_of (nothing_left x)
  exact-breaks (whole a []) o q = let z : ◌≡◌ {A = ℕ} 0 1 = cc in absurd (omega arith)
  exact-breaks (whole a (y ∷ rest)) o q = let z : ◌≡◌ {A = ℕ} 0 1 = cc in absurd (omega arith)
  exact-breaks (broken p) o q = cc

  module _ (first b : ℕ) (s : List ℕ) (k at : ℕ) (l : at ≤ length s)
      (old : outline (payloads fresh first b s) ≡ outline (payloads fresh k (b + at) (drop at s))) where
    pub inside : (e : ℕ) → Ok e ≡ spot_of (tail s at) (payload fresh k (b + at) (tail s at)) → (0 < e) × (at + e ≤ length s)
    inside e q = let n = next-is (payload fresh k) (takes k) b s at l e q in (n.some, n.inside)

    module _ (z : k ≡ 0 → ⊥) where
      pub goes : (e m : ℕ) → Ok e ≡ spot_of (tail s at) (payload fresh k (b + at) (tail s at)) → m ≡ oct s at
          → outline (payloads fresh first b s) ≡ outline (payloads fresh m (b + (at + e)) (drop (at + e) s))
      goes e m q f =
          let n = next-is (payload fresh k) (takes k) b s at l e q in
          let i = n.some in
          let g : n.item.next ≡ m = next_of k (b + at) (drop at s) n.item (drop (at + e) s) n.is ∙ at_first s at ∙ sym f in
          chain-goes none_next (payload fresh) takes b s (outline (payloads fresh first b s)) at k old (ne_eqb k 0 z) n.item (at + e)
          (omega arith) n.inside n.is ∙ ap (λ (y : ℕ). outline (payloads fresh y (b + (at + e)) (drop (at + e) s))) g
        where
          at_first : (s : List ℕ) (at : ℕ) → oct (drop at s) 0 ≡ oct s at
          at_first s at = simp (get_or-drop, add-zero)

      pub tears : (o : ℕ) → broken_at o ≡ spot_of (tail s at) (payload fresh k (b + at) (tail s at))
          → broken_at o ≡ layout_of (nothing_left (payloads fresh first b s))
      tears o q =
          exact-breaks (payloads fresh first b s) o
          (chain-breaks none_next (payload fresh) takes b s (outline (payloads fresh first b s)) at k old (ne_eqb k 0 z) o
          (next-broken (payload fresh k) (takes k) b s at l o q))

    module _ (z : k ≡ 0) where
      stopped : outline (payloads fresh first b s) ≡ stops (drop at s)
      stopped = chain-stops none_next (payload fresh) takes b s (outline (payloads fresh first b s)) at k old (eq-eqb k 0 z)

      pub ends : at ≡ length s → Ok tt ≡ layout_of (nothing_left (payloads fresh first b s))
      ends e = exact-whole (payloads fresh first b s) (drop at s) stopped (rw length-drop (omega arith))

      pub left_over : (at ≡ length s → ⊥) → broken_at 0 ≡ layout_of (nothing_left (payloads fresh first b s))
      left_over e = exact-left (payloads fresh first b s) (drop at s) stopped (rw length-drop (λ u. e (omega arith)))

-- THE FRAME
module _ (profile : Bool) (s : List ℕ) where
  abbrev read : Reading Frame
  read = mapped (frame_of s) (frame_payloads profile s)

  pub frame-broken : header_fits s ≡ false → broken_at 0 ≡ frame_layout profile s
  unfolding frame_layout frame
  frame-broken e = sym (ap layout_of (opened-not 0 (header_fits s) read e))

  pub frame_is : header_fits s ≡ true → (fresh : Bool) → fresh ≡ reads_fresh profile (oct s 18) → (p : ℕ) → p ≡ first_payload s
      → (y : Result (Unit {0}) Broken) → y ≡ layout_of (nothing_left (payloads fresh p 28 (tail s 28)))
      → y ≡ frame_layout profile s
  unfolding frame_layout frame
  frame_is e fresh fq p pq y q =
      q ∙ ap (λ (l : List ℕ). layout_of (nothing_left (payloads fresh p 28 l))) (to_end s 28)
      ∙ ap (λ (u : ℕ). layout_of (nothing_left (payloads fresh u 28 (drop 28 s)))) pq
      ∙ ap (λ (u : Bool). layout_of (nothing_left (payloads u (first_payload s) 28 (drop 28 s)))) fq
      ∙ layout-mapped (frame_of s) (frame_payloads profile s)
      ∙ sym (ap layout_of (opened-is 0 (header_fits s) read e))
