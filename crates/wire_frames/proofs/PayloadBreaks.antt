-- Where a payload breaks: the reader breaks at an offset exactly when the relation says so, and where that offset lies.
use Prim.Native.Nat.{ℕ, ◌+◌, ◌*◌}
use mathlib.Core.Path.{◌≡◌, refl, ap, sym, ◌∙◌}
use mathlib.Core.List.{List, []}
use mathlib.Core.Bool.{Bool, true, false, cond, ◌&&◌}
use mathlib.Core.Logic.{◌⊎◌, inl, inr}
use native.Mathlib.Omega.{arith}
use borrow.Author.Tests.{lt-leb, leb-false, eq-eqb, ne_eqb, eqb-true, eqb-false}
use lib.Dec.{leb, eqb}
use lib.ListN.{length, drop}
use Rattle.lists.proofs.Cases.{and_parts}
use Rattle.octets.specs.Numbers.{oct}
use Rattle.octets.specs.Walk.{be16, part, Reading, whole, broken, mapped, opened, begun, closed}
use Rattle.octets.specs.Walk.{within, Linked}
use Rattle.octets.specs.Breaks.{BreaksStructure}
use Rattle.octets.proofs.BreakLaws.{not-broken, mapped-broken, closed-broken, opened_both, not_left, not_right, one-not}
use Rattle.octets.proofs.BreakLaws.{unsized-fault, fault-unsized, structure-to, structure-from, due-to, due-from}
use Rattle.octets.proofs.BreakLaws.{Among, AmongOr, among-structure, among-due, among-part}
use Rattle.wire_policies.specs.Policy.{policies}
use Rattle.wire_policies.proofs.PolicyBreaks.{policies-to, policies-from, among-policies}
use Rattle.wire_bags.specs.Bag.{bags}
use Rattle.wire_bags.proofs.BagBreaks.{bags-to, bags-from, among-bags}
use Rattle.wire_frames.specs.Header.{payload_fits}
use Rattle.wire_frames.specs.Delete.{delete_of, delete_fits}
use Rattle.wire_frames.specs.Frame.{Content, gsa, kd, delete, unread, body, Payload, payload_of, payload, none_next}
use Rattle.wire_frames.specs.Breaks.{FaultOfDelete, cut, unfilled, other-size, FaultOfPayload, by_length, in-delete}
use Rattle.wire_frames.specs.Breaks.{BreaksContent, in-gsa, in-kd, BreaksPayload}

-- THE BODY OF D
module _ (s : List ℕ) where
  filled : Bool
  filled = eqb (4 + oct s 1 * be16 s 2) (length s)

  of_size : Bool
  of_size = cond (eqb (oct s 0) 3) (eqb (oct s 1) 4) true

  delete-unfit : FaultOfDelete s → delete_fits s ≡ false
  unfolding filled of_size
  delete-unfit (cut h) = not_left (leb 4 (length s)) (filled && of_size) (lt-leb 4 (length s) h)
  delete-unfit (unfilled n) =
      not_right (leb 4 (length s)) (filled && of_size)
      (not_left filled of_size (ne_eqb (4 + oct s 1 * be16 s 2) (length s) n))
  delete-unfit (other-size e n) =
      not_right (leb 4 (length s)) (filled && of_size)
      (not_right filled of_size
      (ap (λ (t : Bool). cond t (eqb (oct s 1) 4) true) (eq-eqb (oct s 0) 3 e) ∙ ne_eqb (oct s 1) 4 n))

  delete-fault : delete_fits s ≡ false → FaultOfDelete s
  unfolding filled of_size
  delete-fault q = go (one-not (leb 4 (length s)) (filled && of_size) q)
    where
      sizes : (t : Bool) → eqb (oct s 0) 3 ≡ t → cond t (eqb (oct s 1) 4) true ≡ false → FaultOfDelete s
      sizes true e f = other-size (eqb-true (oct s 0) 3 e) (eqb-false (oct s 1) 4 f)
      sizes false e f = let w : ◌≡◌ {A = ℕ} 0 1 = cc in absurd (omega arith)

      rest : (filled ≡ false) ⊎ (of_size ≡ false) → FaultOfDelete s
      rest (inl e) = unfilled (eqb-false (4 + oct s 1 * be16 s 2) (length s) e)
      rest (inr e) = sizes (eqb (oct s 0) 3) refl e

      go : (leb 4 (length s) ≡ false) ⊎ ((filled && of_size) ≡ false) → FaultOfDelete s
      go (inl e) = cut (leb-false 4 (length s) e)
      go (inr e) = rest (one-not filled of_size e)

-- A PAYLOAD
module _ (k : ℕ) (s : List ℕ) where
  -- the test of D's body, for D alone
  deletes : Bool
  deletes = cond (eqb k 42) (delete_fits (part s 4 (be16 s 2))) true

  payload-unfit : FaultOfPayload k s → (payload_fits s && deletes) ≡ false
  unfolding deletes
  payload-unfit (by_length f) = not_left (payload_fits s) deletes (fault-unsized 4 s f)
  payload-unfit (in-delete e f) =
      not_right (payload_fits s) deletes
      (ap (λ (t : Bool). cond t (delete_fits (part s 4 (be16 s 2))) true) (eq-eqb k 42 e) ∙ delete-unfit (part s 4 (be16 s 2)) f)

  deletes-not : deletes ≡ false → (k ≡ 42) × (delete_fits (part s 4 (be16 s 2)) ≡ false)
  unfolding deletes
  deletes-not = go (eqb k 42) refl
    where
      go : (t : Bool) → eqb k 42 ≡ t → cond t (delete_fits (part s 4 (be16 s 2))) true ≡ false
          → (k ≡ 42) × (delete_fits (part s 4 (be16 s 2)) ≡ false)
      go true e f = (eqb-true k 42 e, f)
      go false e f = let w : ◌≡◌ {A = ℕ} 0 1 = cc in absurd (omega arith)

  payload-fault : (payload_fits s && deletes) ≡ false → FaultOfPayload k s
  payload-fault q = go (one-not (payload_fits s) deletes q)
    where
      go : (payload_fits s ≡ false) ⊎ (deletes ≡ false) → FaultOfPayload k s
      go (inl e) = by_length (unsized-fault 4 s e)
      go (inr e) = let f = deletes-not e in in-delete f.0 (delete-fault (part s 4 (be16 s 2)) f.1)

module _ (fresh : Bool) where
  -- the body of a payload whose offset is h
  module _ (k h b : ℕ) (s : List ℕ) where
    -- a broken D counts for its payload
    body-delete : k ≡ 42 → delete_fits s ≡ false → body fresh k h b s ≡ broken h
    unfolding body
    body-delete e f =
        let kinds : (m : ℕ) (t : Bool) → eqb 42 m ≡ t → eqb k m ≡ t = λ m t q. ap (λ (y : ℕ). eqb y m) e ∙ q in
        rw (kinds 51 false refl, kinds 52 false refl, kinds 42 true refl, f)

    module _ (o : ℕ) where
      body-to : cond (eqb k 42) (delete_fits s) true ≡ true → body fresh k h b s ≡ broken o → BreaksContent fresh k b s o
      unfolding body
      body-to = go (eqb k 51) (eqb k 52) (eqb k 42) refl refl refl
        where
          go : (x y z : Bool) → eqb k 51 ≡ x → eqb k 52 ≡ y → eqb k 42 ≡ z → cond z (delete_fits s) true ≡ true
              → cond x (mapped gsa (policies b s)) (cond y (mapped kd (bags fresh b s)) (cond z (opened h (delete_fits s)
              (whole (delete (delete_of s)) [])) (whole unread []))) ≡ broken o → BreaksContent fresh k b s o
          go true y z ex ey ez d q = in-gsa (eqb-true k 51 ex) (policies-to b s o (mapped-broken gsa (policies b s) o q))
          go false true z ex ey ez d q = in-kd (eqb-true k 52 ey) (bags-to fresh b s o (mapped-broken kd (bags fresh b s) o q))
          go false false true ex ey ez d q =
              not-broken (sym (ap (λ (t : Bool). opened h t (whole (delete (delete_of s)) [])) d) ∙ q)
          go false false false ex ey ez d q = not-broken q

      body-from : BreaksContent fresh k b s o → body fresh k h b s ≡ broken o
      unfolding body
      body-from (in-gsa e i) = rw (ap (λ (y : ℕ). eqb y 51) e) (ap (mapped gsa) (policies-from b s o i))
      body-from (in-kd e i) =
          let f : eqb k 51 ≡ false = ap (λ (y : ℕ). eqb y 51) e in
          let g : eqb k 52 ≡ true = ap (λ (y : ℕ). eqb y 52) e in
          rw (f, g) (ap (mapped kd) (bags-from fresh b s o i))

      among-content : BreaksContent fresh k b s o → Among b s o
      among-content (in-gsa e i) = among-policies b s o i
      among-content (in-kd e i) = among-bags fresh b s o i

  -- what the payload at b is read to, with D's body among its own fields
  module _ (k b : ℕ) (s : List ℕ) where
    inner : Reading (Linked ℕ Payload)
    inner = mapped (payload_of k s) (within 4 (be16 s 2) (body fresh k b) b s)

    own-fields : payload fresh k b s ≡ begun 0 s (opened b (payload_fits s && deletes k s) inner)
    unfolding payload inner deletes
    own-fields =
        ap (begun 0 s)
        (opened_both b (payload_fits s) (deletes k s) inner
        (λ e. let f = deletes-not k s e in
        ap (λ (x : Reading Content). mapped (payload_of k s) (closed (drop (be16 s 2) s) x))
        (body-delete k b (b + 4) (part s 4 (be16 s 2)) f.0 f.1)))

    module _ (o : ℕ) where
      inner-to : (payload_fits s && deletes k s) ≡ true → inner ≡ broken o → BreaksContent fresh k (b + 4) (part s 4 (be16 s 2)) o
      unfolding inner deletes
      inner-to t q =
          body-to k b (b + 4) (part s 4 (be16 s 2)) o (and_parts (payload_fits s) (deletes k s) t).1
          (closed-broken (drop (be16 s 2) s) (body fresh k b (b + 4) (part s 4 (be16 s 2))) o
          (mapped-broken (payload_of k s) (within 4 (be16 s 2) (body fresh k b) b s) o q))

      inner-from : BreaksContent fresh k (b + 4) (part s 4 (be16 s 2)) o → inner ≡ broken o
      unfolding inner
      inner-from i =
          ap (λ (x : Reading Content). mapped (payload_of k s) (closed (drop (be16 s 2) s) x))
          (body-from k b (b + 4) (part s 4 (be16 s 2)) o i)

  abbrev Inside : ℕ → ℕ → List ℕ → ℕ → Type 0
  Inside k b s o = BreaksContent fresh k (b + 4) (part s 4 (be16 s 2)) o

  pub payload-to : (k b : ℕ) (s : List ℕ) (o : ℕ) → none_next k s ≡ false → payload fresh k b s ≡ broken o → BreaksPayload fresh k b s o
  payload-to k b s o n q =
      let t = (payload_fits s && deletes k s) in
      due-to 0 s (opened b t (inner k b s)) (BreaksStructure (FaultOfPayload k s) (Inside k b s o) b o) o
      (λ h e. structure-to (FaultOfPayload k s) (Inside k b s o) b t (inner k b s) o (payload-fault k s) (payload-unfit k s)
      (inner-to k b s o) e)
      (sym (own-fields k b s) ∙ q)

  pub payload-from : (k b : ℕ) (s : List ℕ) (o : ℕ) → none_next k s ≡ false → BreaksPayload fresh k b s o → payload fresh k b s ≡ broken o
  payload-from k b s o n i =
      let t = (payload_fits s && deletes k s) in
      own-fields k b s
      ∙ due-from 0 s (opened b t (inner k b s)) (BreaksStructure (FaultOfPayload k s) (Inside k b s o) b o) o
      (structure-from (FaultOfPayload k s) (Inside k b s o) b t (inner k b s) o (payload-fault k s) (payload-unfit k s)
      (inner-from k b s o)) i

  pub among-payload : (k b : ℕ) (s : List ℕ) (o : ℕ) → BreaksPayload fresh k b s o → AmongOr 0 b s o
  among-payload k b s o i =
      among-due 0 b s (BreaksStructure (FaultOfPayload k s) (Inside k b s o) b o) o
      (λ h j. among-structure (FaultOfPayload k s) (Inside k b s o) b s o h
      (λ n c. among-part b 4 (be16 s 2) s o (among-content k b (b + 4) (part s 4 (be16 s 2)) o c)) j) i
