-- The walks over the pieces: at a piece, and at their end.
use native.Mathlib.Omega.{arith}
use Prim.Native.Nat.{ℕ, suc, ◌+◌, ◌-◌, ◌≤◌, ◌<◌}
use mathlib.Core.Path.{◌≡◌, refl, ap, ap₂, sym, ◌∙◌}
use mathlib.Core.Bool.{Bool}
use mathlib.Core.List.{List, [], ◌∷◌, ◌++◌}
use borrow.Author.Tests.{lt-leb, le-leb, ltb-true, ltb-false}
use lib.Dec.{leb, ltb}
use lib.ListN.{length, take, drop, get_or, set, replicate}
use Rattle.std.specs.List.{take_while, prefix_len}
use borrow.Rule.Slice.PartMut.{put_mid}
use Rattle.std.proofs.lemmas.List.{drop_more, drop_all, append_assoc, set_at, take_at, drop_at, drop-replicate, length-append, length-drop, length-take-le}
use Rattle.std.proofs.lemmas.List.Folds.{length-prefix_len}
use Rattle.ikev2_numbers.specs.Codes.{header_octets, most_octets}
use Rattle.lists.specs.Lists.{insert}
use Rattle.lists.proofs.Cases.{bool_cases}
use Rattle.fragments.specs.declared.Piece.{Piece}
use Rattle.fragments.specs.Collection.{size_of_all, piece_before}
use Rattle.fragments.specs.inner.Counting.{FrameCounted, ahead_of}

-- ---- the pieces ahead of a number
module _ (number : ℕ) where
  abbrev within : Piece → Bool
  within p = leb p.number number

  ahead-prefix : (l : List Piece) → prefix_len within l ≡ ahead_of number l
  unfolding ahead_of
  ahead-prefix [] = refl
  ahead-prefix (p ∷ l) =
      bool_cases (ltb number p.number)
      (λ e. rw (lt-leb p.number number (ltb-true number p.number e), e))
      (λ e. let g : 1 + ahead_of number l ≡ suc (ahead_of number l) = omega arith in
      rw (le-leb p.number number (ltb-false number p.number e), e, ahead-prefix l) g)

  ahead-few : (l : List Piece) → ahead_of number l ≤ length l
  unfolding ahead_of
  ahead-few [] = omega arith
  ahead-few (p ∷ l) = let h = ahead-few l in bool_cases (ltb number p.number) (λ e. rw e (omega arith)) (λ e. rw e (omega arith))

  pub ahead-count : (l : List Piece) (r : ℕ) → r ≡ length (take_while within l) → (r ≡ ahead_of number l) × (r ≤ length l)
  ahead-count l r e =
      let a : r ≡ ahead_of number l = e ∙ length-prefix_len within l ∙ ahead-prefix l in
      let h = ahead-few l in
      (a, omega arith)

-- ---- the octets of the frame
module _ (l : List Piece) (j : ℕ) where
  size-next : (d : Piece) → j < length l → size_of_all (drop j l) ≡ (get_or l j d).size + size_of_all (drop (j + 1) l)
  unfolding size_of_all
  size-next d g = rw (drop_more l j d g)

  size-end : length l ≤ j → size_of_all (drop j l) ≡ 0
  unfolding size_of_all
  size-end g = rw (drop_all j l g)

  -- the frame has o octets up to piece j
  module _ (o : ℕ) (e : header_octets + size_of_all l ≡ o + size_of_all (drop j l)) where
    pub frame-more : (d : Piece) → j < length l → (get_or l j d).size ≤ most_octets - o →
        header_octets + size_of_all l ≡ (o + (get_or l j d).size) + size_of_all (drop (j + 1) l)
    frame-more d g f = let s = size-next d g in omega arith

    pub frame-over : (d : Piece) → j < length l → most_octets - o < (get_or l j d).size → FrameCounted l (most_octets + 1)
    frame-over d g f =
        let s = size-next d g in
        let m : most_octets < header_octets + size_of_all l = omega arith in
        record {
          most = sym (lt-leb (header_octets + size_of_all l) most_octets m);
          exact = λ z. let y : 16385 ≤ 16384 = z in absurd (omega arith);
        }

    pub frame-end : length l ≤ j → FrameCounted l o
    frame-end g =
        let s = size-end g in
        let m : o ≡ header_octets + size_of_all l = omega arith in
        record { most = rw m; exact = λ z. m }

-- ---- the piece in its place
insert-ahead : (a : Piece) (l : List Piece) →
    insert piece_before a l ≡ take (ahead_of a.number l) l ++ (a ∷ drop (ahead_of a.number l) l)
unfolding insert ahead_of
insert-ahead a [] = refl
insert-ahead a (p ∷ l) = bool_cases (ltb a.number p.number) (λ e. rw e) (λ e. rw (e, insert-ahead a l))

-- x, a and y stored at the start of a row of n blanks, where they are m together
stored : (x y : List Piece) (a b : Piece) (n m k : ℕ) → length x ≡ k → k + 1 + length y ≡ m → m ≤ n →
    put_mid (k + 1) (m - (k + 1)) (set (x ++ drop k (replicate n b)) k a) y ≡ (x ++ (a ∷ y)) ++ replicate (n - m) b
stored x y a b n m k ex ey few =
    let j = n - (k + 1) in
    let row : drop k (replicate n b) ≡ b ∷ replicate j b =
    drop-replicate k n b ∙ ap (λ (i : ℕ). replicate i b) (let e : n - k ≡ suc j = omega arith in e) in
    let whole : set (x ++ drop k (replicate n b)) k a ≡ (x ++ (a ∷ [])) ++ replicate j b =
    ap (λ (r : List Piece). set (x ++ r) k a) row ∙ set_at x b (replicate j b) a k ex ∙ sym (append_assoc x (a ∷ []) (replicate j b)) in
    let front : length (x ++ (a ∷ [])) ≡ k + 1 = omega (arith, length-append x (a ∷ [])) in
    let left : j - (m - (k + 1)) ≡ n - m = omega arith in
    let behind : drop (m - (k + 1)) (drop (k + 1) ((x ++ (a ∷ [])) ++ replicate j b)) ≡ replicate (n - m) b =
    ap (drop (m - (k + 1))) (drop_at (x ++ (a ∷ [])) (replicate j b) (k + 1) front)
    ∙ drop-replicate (m - (k + 1)) j b ∙ ap (λ (i : ℕ). replicate i b) left in
    ap (λ (s : List Piece). put_mid (k + 1) (m - (k + 1)) s y) whole
    ∙ ap₂ (λ (s t : List Piece). s ++ (y ++ t)) (take_at (x ++ (a ∷ [])) (replicate j b) (k + 1) front) behind
    ∙ sym (append_assoc (x ++ (a ∷ [])) y (replicate (n - m) b))
    ∙ ap (λ (s : List Piece). s ++ replicate (n - m) b) (append_assoc x (a ∷ []) y)

pub inserted : (a b : Piece) (l x y : List Piece) (n k : ℕ) → (k ≡ ahead_of a.number l) × (k ≤ length l) → length l < n →
    x ≡ take k l → y ≡ drop k l →
    put_mid (k + 1) (length l + 1 - (k + 1)) (set (x ++ drop k (replicate n b)) k a) y
    ≡ insert piece_before a l ++ replicate (n - length (insert piece_before a l)) b
inserted a b l x y n k e few ex ey =
    let one : insert piece_before a l ≡ x ++ (a ∷ y) =
    insert-ahead a l ∙ ap (λ (i : ℕ). take i l ++ (a ∷ drop i l)) (sym e.0) ∙ ap₂ (λ (s t : List Piece). s ++ (a ∷ t)) (sym ex) (sym ey) in
    let lx : length x ≡ k = ap length ex ∙ length-take-le k l e.1 in
    let ly : length y ≡ length l - k = ap length ey ∙ length-drop k l in
    let all : length (insert piece_before a l) ≡ length l + 1 = ap length one ∙ length-append x (a ∷ y) ∙ omega arith in
    stored x y a b n (length l + 1) k lx (omega arith) (omega arith)
    ∙ ap₂ (λ (s : List Piece) (i : ℕ). s ++ replicate (n - i) b) (sym one) (sym all)
