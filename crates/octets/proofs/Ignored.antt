-- Laws of masks: octets that are alike under a mask are alike part by part, and equal where all is read. What holds of items holds of rows
-- and chains of them.
use Prim.Native.Nat.{ℕ, zero, suc, ◌+◌, ◌*◌, ◌/◌, ◌<◌, ◌≤◌}
use mathlib.Core.Path.{◌≡◌, refl, ap, sym, ◌∙◌, subst}
use mathlib.Core.List.{List, [], ◌∷◌, ◌++◌}
use mathlib.Core.Bool.{Bool, true, false}
use native.Mathlib.Omega.{arith}
use borrow.Author.Tests.{leb-true, leb-false}
use lib.Dec.{leb}
use lib.ListN.{length, take, drop, get_or, replicate, length-append, length-take, length-drop, take-append-drop}
use lib.ListN.{get_or-append, get_or-eq_default, get_or-replicate}
use lib.Seq.{length-take-le, get_or-take, get_or-drop, get_or-append-add, take-append_seam, drop-append_seam, ext_get_or}
use Rattle.octets.specs.Numbers.{oct}
use Rattle.octets.specs.Walk.{be16, be32, Spans, none, more, Row, no-more, then}
use Rattle.octets.specs.Ignored.{Mask, all, ignored, seen, Alike, all_of, none_of, row_mask, chain_mask}
use Rattle.octets.proofs.Numerals.{be16-is, be32-is}

pub length-all : (s : List ℕ) → length (all_of s) ≡ length s
length-all [] = refl
length-all (x ∷ s) = ap suc (length-all s)

pub length_none : (s : List ℕ) → length (none_of s) ≡ length s
length_none [] = refl
length_none (x ∷ s) = ap suc (length_none s)

all-at : (s : List ℕ) (i : ℕ) → i < length s → get_or (all_of s) i ignored ≡ all
all-at [] i k = absurd (omega arith)
all-at (x ∷ s) zero k = refl
all-at (x ∷ s) (suc i) k = all-at s i (omega arith)

module _ (m : List Mask) (s t : List ℕ) (h : Alike m s t) where
  pub same_length : length s ≡ length t
  same_length = h.size ∙ sym h.same

  pub alike-drop : (k : ℕ) → Alike (drop k m) (drop k s) (drop k t)
  alike-drop k = record {
    size = omega (arith, h.size, length-drop k s, length-drop k m);
    same = omega (arith, h.same, length-drop k t, length-drop k m);
    each = λ i.
        let g = get_or-drop k m i ignored in
        (λ j. seen (g j) (get_or-drop k s i 0 j)) ∙ h.each (k + i) ∙ (λ j. seen (sym g j) (sym (get_or-drop k t i 0) j));
  }

  seen_all : (i : ℕ) → get_or m i ignored ≡ all → oct s i ≡ oct t i
  seen_all i g = (λ j. seen (sym g j) (oct s i)) ∙ h.each i ∙ (λ j. seen (g j) (oct t i))

  pub alike-front : (k : ℕ) → take k m ≡ replicate k all → take k s ≡ take k t
  alike-front k e =
      ext_get_or 0 (take k s) (take k t) (omega (arith, same_length, length-take k s, length-take k t))
      (λ i l. let n : i < k = omega (arith, l, length-take k s) in
      get_or-take k s i 0 n
      ∙ seen_all i (sym (get_or-take k m i ignored n) ∙ ap (λ (x : List Mask). get_or x i ignored) e ∙ get_or-replicate k i all ignored n)
      ∙ sym (get_or-take k t i 0 n))

-- where all is read nothing differs
pub alike_all : (s t : List ℕ) → Alike (all_of s) s t → s ≡ t
alike_all s t h = ext_get_or 0 s t (same_length (all_of s) s t h) (λ i k. seen_all (all_of s) s t h i (all-at s i k))

-- the critical bit
pub same-top : (x y : ℕ) → x / 128 ≡ y / 128 → leb 128 x ≡ leb 128 y
same-top x y e = go (leb 128 x) (leb 128 y) refl refl
  where
    go : (a b : Bool) → leb 128 x ≡ a → leb 128 y ≡ b → a ≡ b
    go true true p q = refl
    go false false p q = refl
    go true false p q = absurd (omega (arith, e, leb-true 128 x p, leb-false 128 y q))
    go false true p q = absurd (omega (arith, e, leb-false 128 x p, leb-true 128 y q))

pub be16-same : (s t : List ℕ) (i : ℕ) → oct s i ≡ oct t i → oct s (i + 1) ≡ oct t (i + 1) → be16 s i ≡ be16 t i
be16-same s t i a b = be16-is s i ∙ (λ j. a j * 256 + b j) ∙ sym (be16-is t i)

pub be32-same : (s t : List ℕ) (i : ℕ) → oct s i ≡ oct t i → oct s (i + 1) ≡ oct t (i + 1) → oct s (i + 2) ≡ oct t (i + 2)
    → oct s (i + 3) ≡ oct t (i + 3) → be32 s i ≡ be32 t i
be32-same s t i a b c d = be32-is s i ∙ (λ j. ((a j * 256 + b j) * 256 + c j) * 256 + d j) ∙ sym (be32-is t i)

-- PARTS: a mask in two parts
module _ (m n : List Mask) (k : ℕ) (e : length m ≡ k) (s t : List ℕ) (h : Alike (m ++ n) s t) where
  long : (k ≤ length s) × (k ≤ length t)
  long = (omega (arith, e, h.size, length-append m n), omega (arith, e, h.same, length-append m n))

  pub alike-left : Alike m (take k s) (take k t)
  alike-left = record {
    size = length-take-le k s long.0 ∙ sym e;
    same = length-take-le k t long.1 ∙ sym e;
    each = λ i. go i (leb k i) refl;
  }
    where
      go : (i : ℕ) (b : Bool) → leb k i ≡ b → seen (get_or m i ignored) (oct (take k s) i) ≡ seen (get_or m i ignored) (oct (take k t) i)
      go i true q =
          let g : get_or m i ignored ≡ ignored = get_or-eq_default m ignored {n = i} (omega (arith, e, leb-true k i q)) in
          (λ j. seen (g j) (oct (take k s) i)) ∙ (λ j. seen (sym g j) (oct (take k t) i))
      go i false q =
          let l : i < k = leb-false k i q in
          let g : get_or (m ++ n) i ignored ≡ get_or m i ignored = get_or-append m n ignored i (omega (arith, e, l)) in
          (λ j. seen (sym g j) (get_or-take k s i 0 l j)) ∙ h.each i ∙ (λ j. seen (g j) (sym (get_or-take k t i 0 l) j))

  pub alike_right : Alike n (drop k s) (drop k t)
  alike_right = record {
    size = omega (arith, e, h.size, length-append m n, length-drop k s);
    same = omega (arith, e, h.same, length-append m n, length-drop k t);
    each = λ i.
        let g : get_or (m ++ n) (k + i) ignored ≡ get_or n i ignored =
        ap (λ (x : ℕ). get_or (m ++ n) (x + i) ignored) (sym e) ∙ get_or-append-add m n i ignored in
        (λ j. seen (sym g j) (get_or-drop k s i 0 j)) ∙ h.each (k + i) ∙ (λ j. seen (g j) (sym (get_or-drop k t i 0) j));
  }

-- octets in two parts
module _ (m n : List Mask) (o r t : List ℕ) (e : length m ≡ length o) (h : Alike (m ++ n) (o ++ r) t) where
  pub left-part : Alike m o (take (length o) t)
  left-part =
      subst (λ (x : List ℕ). Alike m x (take (length o) t)) (take-append_seam o r) (alike-left m n (length o) e (o ++ r) t h)

  pub right-part : Alike n r (drop (length o) t)
  right-part =
      subst (λ (x : List ℕ). Alike n x (drop (length o) t)) (drop-append_seam o r) (alike_right m n (length o) e (o ++ r) t h)

-- ITEMS TO THE END
module _ {A : Type 0} {Is : List ℕ → A → Type 0} (mask : (o : List ℕ) (a : A) → Is o a → List Mask)
    (sized : (o : List ℕ) (a : A) (i : Is o a) → length (mask o a i) ≡ length o)
    (same : (o : List ℕ) (a : A) (i : Is o a) (t : List ℕ) → Alike (mask o a i) o t → Is t a) where
  pub row_sized : {s : List ℕ} {l : List A} (r : Row Is s l) → length (row_mask mask r) ≡ length s
  unfolding row_mask
  row_sized no-more = refl
  row_sized (then o s {a = a} i r) =
      omega (arith, sized o a i, row_sized r, length-append (mask o a i) (row_mask mask r), length-append o s)

  pub row-alike : {s : List ℕ} {l : List A} (r : Row Is s l) (t : List ℕ) → Alike (row_mask mask r) s t → Row Is t l
  unfolding row_mask
  row-alike no-more [] h = no-more
  row-alike no-more (x ∷ t) h = absurd (omega (arith, h.same))
  row-alike (then o s {a = a} {l = l} i r) t h =
      let m = mask o a i in
      let n = row_mask mask r in
      let x : Is (take (length o) t) a = same o a i (take (length o) t) (left-part m n o s t (sized o a i) h) in
      let y : Row Is (drop (length o) t) l = row-alike r (drop (length o) t) (right-part m n o s t (sized o a i) h) in
      subst (λ (u : List ℕ). Row Is u (a ∷ l)) (take-append-drop (length o) t) (then (take (length o) t) (drop (length o) t) x y)

-- ITEMS IN A CHAIN whose stop does not depend on the octets
module _ {S A : Type 0} {stop : S → List ℕ → Bool} {Is : S → List ℕ → A → S → Type 0}
    (mask : (o : List ℕ) (a : A) (st st' : S) → Is st o a st' → List Mask)
    (sized : (o : List ℕ) (a : A) (st st' : S) (i : Is st o a st') → length (mask o a st st' i) ≡ length o)
    (same : (o : List ℕ) (a : A) (st st' : S) (i : Is st o a st') (t : List ℕ) → Alike (mask o a st st' i) o t → Is st t a st')
    (free : (st : S) (s t : List ℕ) → stop st s ≡ stop st t) (tail : List Mask) where
  pub chain-sized : {st : S} {s : List ℕ} {l : List A} {rest : List ℕ} (d : Spans stop Is st s l rest) → length tail ≡ length rest
      → length (chain_mask mask tail d) ≡ length s
  unfolding chain_mask
  chain-sized (none e) q = q
  chain-sized {st} (more {st' = st'} o s {a = a} e i r) q =
      omega (arith, sized o a st st' i, chain-sized r q, length-append (mask o a st st' i) (chain_mask mask tail r), length-append o s)

  pub record AlikeChain (st : S) (l : List A) (rest t : List ℕ) : Type 0 where
    pub left : List ℕ
    pub spans : Spans stop Is st t l left
    pub alike : Alike tail rest left

  pub chain-alike : {st : S} {s : List ℕ} {l : List A} {rest : List ℕ} (d : Spans stop Is st s l rest) (t : List ℕ)
      → Alike (chain_mask mask tail d) s t → AlikeChain st l rest t
  unfolding chain_mask
  chain-alike {st} {s} (none e) t h = record { left = t; spans = none (free st t s ∙ e); alike = h }
  chain-alike {st} (more {st' = st'} o s {a = a} {l = l} e i r) t h =
      let m = mask o a st st' i in
      let n = chain_mask mask tail r in
      let k = length o in
      let z = sized o a st st' i in
      let x : Is st (take k t) a st' = same o a st st' i (take k t) (left-part m n o s t z h) in
      let y = chain-alike r (drop k t) (right-part m n o s t z h) in
      let stops : stop st (take k t ++ drop k t) ≡ false = free st (take k t ++ drop k t) (o ++ s) ∙ e in
      record {
        left = y.left;
        spans =
            subst (λ (u : List ℕ). Spans stop Is st u (a ∷ l) y.left) (take-append-drop k t)
            (more (take k t) (drop k t) stops x y.spans);
        alike = y.alike;
      }
