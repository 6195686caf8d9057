-- The pieces of one frame by their numbers, and those of them that have come: put one by one in their places, in any order.
use native.Mathlib.Omega.{arith}
use Prim.Native.Nat.{ℕ, suc, ◌+◌, ◌-◌, ◌<◌, ◌≤◌}
use mathlib.Core.Path.{◌≡◌, refl, ap}
use mathlib.Core.Bool.{Bool, true, false}
use mathlib.Core.List.{List, [], ◌∷◌, ◌++◌, flat_map}
use lib.Dec.{ltb, eqb}
use lib.ListN.{length, get_or, length-append}
use borrow.Author.Tests.{lt-ltb, le-ltb, eq-eqb, ne_eqb}
use Rattle.lists.specs.Lists.{any, keep, insert}
use Rattle.lists.proofs.Cases.{bool_cases, lt-cases}
use Rattle.lists.proofs.Rising.{length-keep}
use Rattle.fragments.specs.Collection.{KeptPiece, joined_pieces}
use Rattle.fragments.specs.Gathering.{is_kept, number_before}

-- pieces in their order, numbered from i on
unfoldable pub numbered_from : ℕ → List (List ℕ) → List KeptPiece
numbered_from i [] = []
numbered_from i (p ∷ l) = record { number = i; octets = p } ∷ numbered_from (suc i) l

-- whether a number is among those that came
abbrev pub came : List ℕ → ℕ → Bool
came l i = any (λ (j : ℕ). eqb i j) l

abbrev pub has_come : List ℕ → KeptPiece → Bool
has_come l k = came l k.number

pub length-numbered : (i : ℕ) (l : List (List ℕ)) → length (numbered_from i l) ≡ length l
unfolding numbered_from
length-numbered i [] = refl
length-numbered i (p ∷ l) = ap suc (length-numbered (suc i) l)

pub payloads-numbered : (i : ℕ) (l : List (List ℕ)) → joined_pieces (numbered_from i l) ≡ flat_map (λ (p : List ℕ). p) l
unfolding numbered_from flat_map
payloads-numbered i [] = refl
payloads-numbered i (p ∷ l) = ap (λ (r : List ℕ). p ++ r) (payloads-numbered (suc i) l)

-- ---- numbers above i
module _ (i : ℕ) where
  not-above : (q : KeptPiece → Bool) (j : ℕ) (l : List (List ℕ)) → i < j → is_kept i (keep q (numbered_from j l)) ≡ false
  unfolding numbered_from any keep
  not-above q j [] h = refl
  not-above q j (p ∷ l) h =
      let k : KeptPiece = record { number = j; octets = p } in
      let r = not-above q (suc j) l (omega arith) in
      let e : eqb j i ≡ false = ne_eqb j i (λ g. omega arith) in
      bool_cases (q k) (λ g. rw (g, e) r) (λ g. rw g r)

  put-ahead : (q : KeptPiece → Bool) (piece : List ℕ) (j : ℕ) (l : List (List ℕ)) → i < j →
      insert number_before (record { number = i; octets = piece }) (keep q (numbered_from j l)) ≡
      record { number = i; octets = piece } ∷ keep q (numbered_from j l)
  unfolding numbered_from insert keep
  put-ahead q piece j [] h = refl
  put-ahead q piece j (p ∷ l) h =
      let k : KeptPiece = record { number = j; octets = p } in
      let e : ltb i j ≡ true = lt-ltb i j h in
      bool_cases (q k) (λ g. rw (g, e)) (λ g. rw g (put-ahead q piece (suc j) l (omega arith)))

  same_above : (came-so : List ℕ) (j : ℕ) (l : List (List ℕ)) → i < j →
      keep (has_come (i ∷ came-so)) (numbered_from j l) ≡ keep (has_come came-so) (numbered_from j l)
  unfolding numbered_from any keep
  same_above c j [] h = refl
  same_above c j (p ∷ l) h =
      let e : eqb j i ≡ false = ne_eqb j i (λ g. omega arith) in
      rw (e, same_above c (suc j) l (omega arith))

-- ---- a number from j on
module _ (c : List ℕ) (i : ℕ) where
  -- it is kept exactly when it came
  pub kept-came : (j : ℕ) (l : List (List ℕ)) → j ≤ i → i < j + length l → is_kept i (keep (has_come c) (numbered_from j l)) ≡ came c i
  unfolding numbered_from any keep
  kept-came j [] h g = absurd (omega arith)
  kept-came j (p ∷ l) h g =
      lt-cases j i
      (λ f.
      let e : eqb j i ≡ false = ne_eqb j i (λ x. omega arith) in
      let r = kept-came (suc j) l f (omega arith) in
      bool_cases (came c j) (λ x. rw (x, e) r) (λ x. rw x r))
      (λ f.
      let e : j ≡ i = omega arith in
      let n = not-above i (has_come c) (suc i) l (omega arith) in
      bool_cases (came c i) (λ x. rw (e, x, eq-eqb i i refl)) (λ x. rw (e, x) n))

  -- one that had not come goes to its place
  pub put-came : (j : ℕ) (l : List (List ℕ)) → came c i ≡ false → j ≤ i → i < j + length l →
      insert number_before (record { number = i; octets = get_or l (i - j) [] }) (keep (has_come c) (numbered_from j l)) ≡
      keep (has_come (i ∷ c)) (numbered_from j l)
  unfolding numbered_from any keep insert
  put-came j [] n h g = absurd (omega arith)
  put-came j (p ∷ l) n h g =
      lt-cases j i
      (λ f.
      let m : i - j ≡ suc (i - suc j) = omega arith in
      let e : eqb j i ≡ false = ne_eqb j i (λ x. omega arith) in
      let r = put-came (suc j) l n f (omega arith) in
      bool_cases (came c j) (λ x. rw (m, x, e, le-ltb i j h, r)) (λ x. rw (m, x, e, r)))
      (λ f.
      let e : j ≡ i = omega arith in
      let m : i - i ≡ 0 = omega arith in
      rw (e, m, n, eq-eqb i i refl, put-ahead i (has_come c) p (suc i) l (omega arith), same_above i c (suc i) l (omega arith)))

-- ---- all of them
module _ (c : List ℕ) where
  -- each came: each is kept
  pub each-kept : (j : ℕ) (l : List (List ℕ)) → ((i : ℕ) → j ≤ i → i < j + length l → came c i ≡ true) →
      keep (has_come c) (numbered_from j l) ≡ numbered_from j l
  unfolding numbered_from keep
  each-kept j [] h = refl
  each-kept j (p ∷ l) h =
      let a : came c j ≡ true = h j (omega arith) (omega arith) in
      let r = each-kept (suc j) l (λ i f g. h i (omega arith) (omega arith)) in
      rw (a, r)

  -- as many are kept as there are: each came
  pub full-came : (j : ℕ) (l : List (List ℕ)) → length (keep (has_come c) (numbered_from j l)) ≡ length l → (i : ℕ) → j ≤ i →
      i < j + length l → came c i ≡ true
  unfolding numbered_from keep
  full-came j [] e i h g = absurd (omega arith)
  full-came j (p ∷ l) e i h g =
      bool_cases (came c j)
      (λ x.
      let q = rw x at e in
      lt-cases j i (λ f. full-came (suc j) l (omega arith) i f (omega arith)) (λ f. let z : j ≡ i = omega arith in rw (← z) x))
      (λ x.
      let q = rw x at e in
      let a = length-keep (has_come c) (numbered_from (suc j) l) in
      let b = length-numbered (suc j) l in
      absurd (omega arith))

-- what is kept of a list has no more octets than all of it
pub fewer-octets : (q : KeptPiece → Bool) (l : List KeptPiece) → length (joined_pieces (keep q l)) ≤ length (joined_pieces l)
unfolding keep flat_map
fewer-octets q [] = omega arith
fewer-octets q (k ∷ l) =
    let r = fewer-octets q l in
    bool_cases (q k)
    (λ x. rw (x, length-append k.octets (joined_pieces (keep q l)), length-append k.octets (joined_pieces l)) (omega arith))
    (λ x. rw (x, length-append k.octets (joined_pieces l)) (omega arith))
