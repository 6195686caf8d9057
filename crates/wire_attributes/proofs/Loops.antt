-- How a loop walks items to the end of some octets, and what a reader's answer says of the reading: for items of any kind.
use Rattle.std.specs.Prelude.{Option, Some, None, Result, Ok, Err, ok_or}
use Rattle.std.specs.Result.{IsErrAnd}
use Rattle.std.proofs.lemmas.Result.{err_from_is_err_and}
use Prim.Native.Nat.{ℕ, ◌+◌, ◌-◌, ◌<◌, ◌≤◌}
use mathlib.Core.Path.{◌≡◌, refl, ap, sym, ◌∙◌, subst}
use mathlib.Core.List.{List}
use native.Mathlib.Omega.{arith}
use lib.ListN.{length, drop, length-drop}
use lib.Seq.{drop-drop}
use Rattle.octets.specs.Walk.{part, Reading, whole, broken, Reader, mapped, closed, within, and_then, push, many}
use Rattle.octets.proofs.Walks.{tail, to_end, Takes, Keeps, takes-keeps, took-fewer, many-first, many-breaks, many-ends, outline}
use Rattle.octets.proofs.Walks.{then-goes, after-breaks, stops, breaks}
use Rattle.wire_attributes.specs.declared.Broken.{Broken}
use Rattle.wire_attributes.specs.Answers.{broken_at, layout_of, spot_of}

-- what a `?` answers at its exit is the error of the call
pub exit-is : {A : Type 0} (r : Result A Broken) (e : Broken) → IsErrAnd r (λ y. y ≡ e) → r ≡ Err e
exit-is r e h = let p = err_from_is_err_and r h in p.1 ∙ ap Err p.2

-- what `ok_or` answers says whether something was there
pub there : {A : Type 0} (o : Option A) (e : Broken) (x : A) → Ok x ≡ ok_or o e → Some x ≡ o
there (Some y) e x q = cc
there None e x q = cc

pub none-there : {A : Type 0} (o : Option A) (e d : Broken) → Err d ≡ ok_or o e → (None ≡ o) × (d ≡ e)
none-there (Some x) e d q = cc
none-there None e d q = (refl, cc)

-- a reading that ends at e
pub record Ended {A : Type 0} (s : List ℕ) (x : Reading A) (e : ℕ) : Type 0 where
  pub item : A
  pub is : x ≡ whole item (drop e s)
  pub inside : e ≤ length s

pub ended : {A : Type 0} (s : List ℕ) (x : Reading A) (e : ℕ) → Keeps s x → Ok e ≡ spot_of s x → Ended s x e
ended s (whole a rest) e t q =
    let u : e ≡ length s - length rest = cc in
    let l : length rest ≡ length s - t.size = ap length t.left ∙ length-drop t.size s in
    let i = t.inside in
    let k : t.size ≡ e = omega arith in
    record { item = a; is = ap (whole a) (t.left ∙ ap (λ (n : ℕ). drop n s) k); inside = omega arith }
ended s (broken o) e t q = let z : ◌≡◌ {A = ℕ} 0 1 = cc in absurd (omega arith)

pub ended_some : {A : Type 0} (s : List ℕ) (x : Reading A) (e : ℕ) → Takes s x → Ok e ≡ spot_of s x → 0 < e
ended_some s (whole a rest) e t q =
    let u : e ≡ length s - length rest = cc in
    omega (arith, took-fewer s rest t)
ended_some s (broken o) e t q = let z : ◌≡◌ {A = ℕ} 0 1 = cc in absurd (omega arith)

pub ends_at : {A : Type 0} (s : List ℕ) (a : A) (e : ℕ) → e ≤ length s → Ok e ≡ spot_of s (whole a (drop e s))
ends_at s a e h =
    let d : length s - (length s - e) ≡ e = omega arith in
    ap Ok (sym (ap (λ (n : ℕ). length s - n) (length-drop e s) ∙ d))

-- equal breaks are at one offset
pub same-place : {A : Type 0} {o p : ℕ} → broken_at {A = A} o ≡ broken_at p → o ≡ p
same-place {o = o} {p = p} q =
    let b : ◌≡◌ {A = Broken} (record { at = o }) (record { at = p }) = cc in
    ap (λ (e : Broken). e.at) b

pub spot-broken : {A : Type 0} (s : List ℕ) (x : Reading A) (o : ℕ) → broken_at o ≡ spot_of s x → x ≡ broken o
spot-broken s (whole a rest) o q = cc
spot-broken s (broken p) o q = sym (ap broken (same-place q))

pub layout-broken : {A : Type 0} (x : Reading A) (o : ℕ) → broken_at o ≡ layout_of x → x ≡ broken o
layout-broken (whole a rest) o q = cc
layout-broken (broken p) o q = sym (ap broken (same-place q))

pub layout-push : {A : Type 0} (a : A) (x : Reading (List A)) → layout_of (push a x) ≡ layout_of x
layout-push a (whole l rest) = refl
layout-push a (broken o) = refl

-- the next place after an item read at `&s[at..]`
pub record Next {A : Type 0} (p : Reader A) (b : ℕ) (s : List ℕ) (at e : ℕ) : Type 0 where
  pub item : A
  pub is : p (b + at) (drop at s) ≡ whole item (drop (at + e) s)
  pub some : 0 < e
  pub inside : at + e ≤ length s

module _ {A : Type 0} (p : Reader A) (takes : (b : ℕ) (s : List ℕ) → Takes s (p b s)) (b : ℕ) (s : List ℕ) (at : ℕ)
    (h : at ≤ length s) where
  pub next-is : (e : ℕ) → Ok e ≡ spot_of (tail s at) (p (b + at) (tail s at)) → Next p b s at e
  next-is e q =
      let u : Ok e ≡ spot_of (drop at s) (p (b + at) (drop at s)) =
      subst (λ (l : List ℕ). Ok e ≡ spot_of l (p (b + at) l)) (to_end s at) q in
      let t = takes (b + at) (drop at s) in
      let f = ended (drop at s) (p (b + at) (drop at s)) e (takes-keeps (drop at s) (p (b + at) (drop at s)) t) u in
      let k : e ≤ length s - at = subst (λ (n : ℕ). e ≤ n) (length-drop at s) f.inside in
      let i : 0 < e = ended_some (drop at s) (p (b + at) (drop at s)) e t u in
      record { item = f.item; is = f.is ∙ ap (whole f.item) (drop-drop e at s); some = i; inside = omega arith }

  pub next-broken : (o : ℕ) → broken_at o ≡ spot_of (tail s at) (p (b + at) (tail s at)) → p (b + at) (drop at s) ≡ broken o
  next-broken o q =
      spot-broken (drop at s) (p (b + at) (drop at s)) o
      (subst (λ (l : List ℕ). broken_at o ≡ spot_of l (p (b + at) l)) (to_end s at) q)

module _ {A : Type 0} (p : Reader A) (takes : (b : ℕ) (s : List ℕ) → Takes s (p b s)) (b : ℕ) (s : List ℕ) where
  module _ (at : ℕ) (old : layout_of (many p b s) ≡ layout_of (many p (b + at) (drop at s))) where
    module _ (h : at < length s) where
      pub loop-goes : (e : ℕ) → Ok e ≡ spot_of (tail s at) (p (b + at) (tail s at))
          → (0 < e) × (at + e ≤ length s) × (layout_of (many p b s) ≡ layout_of (many p (b + (at + e)) (drop (at + e) s)))
      loop-goes e q =
          let n = next-is p takes b s at (omega arith) e q in
          let i = n.some in (
            i,
            n.inside,
            old ∙ ap layout_of (many-first p takes b s at n.item (at + e) h (omega arith) n.inside n.is)
                ∙ layout-push n.item (many p (b + (at + e)) (drop (at + e) s)),
          )

      pub loop-breaks : (o : ℕ) → broken_at o ≡ spot_of (tail s at) (p (b + at) (tail s at)) → broken_at o ≡ layout_of (many p b s)
      loop-breaks o q = sym (old ∙ ap layout_of (many-breaks p takes b s at o h (next-broken p takes b s at (omega arith) o q)))

    pub loop-ends : length s ≤ at → Ok tt ≡ layout_of (many p b s)
    loop-ends h = sym (old ∙ ap layout_of (many-ends p takes b s at h))

-- A STRUCTURE OF n OCTETS THAT HOLDS OTHERS from its octet i on
module _ {A : Type 0} (p : Reader A) (b : ℕ) (s : List ℕ) (i n : ℕ) where
  pub held_whole : n ≤ length s → Ok tt ≡ layout_of (p (b + i) (part s i n)) → Ok n ≡ spot_of s (within i n p b s)
  held_whole h = go (p (b + i) (part s i n))
    where
      go : (x : Reading A) → Ok tt ≡ layout_of x → Ok n ≡ spot_of s (closed (drop n s) x)
      go (whole a r) q = ends_at s a n h
      go (broken o) q = let z : ◌≡◌ {A = ℕ} 0 1 = cc in absurd (omega arith)

  pub held-broken : (o : ℕ) → broken_at o ≡ layout_of (p (b + i) (part s i n)) → broken_at o ≡ spot_of s (within i n p b s)
  held-broken o q = ap (λ (x : Reading A). spot_of s (closed (drop n s) x)) (sym (layout-broken (p (b + i) (part s i n)) o q))

pub spot-mapped : {A B : Type 0} (f : A → B) (s : List ℕ) (x : Reading A) → spot_of s x ≡ spot_of s (mapped f x)
spot-mapped f s (whole a r) = refl
spot-mapped f s (broken o) = refl

pub layout-mapped : {A B : Type 0} (f : A → B) (x : Reading A) → layout_of x ≡ layout_of (mapped f x)
layout-mapped f (whole a r) = refl
layout-mapped f (broken o) = refl

pub spot-stops : {A : Type 0} (s : List ℕ) (x : Reading A) (e : ℕ) → e ≤ length s → outline x ≡ stops (drop e s) → Ok e ≡ spot_of s x
spot-stops s (whole a rest) e h q =
    let r : rest ≡ drop e s = cc in
    ends_at s a e h ∙ ap (λ (l : List ℕ). spot_of s (whole a l)) (sym r)
spot-stops s (broken o) e h q = let z : ◌≡◌ {A = ℕ} 0 1 = cc in absurd (omega arith)

pub spot-breaks : {A : Type 0} (s : List ℕ) (x : Reading A) (o : ℕ) → outline x ≡ breaks o → broken_at o ≡ spot_of s x
spot-breaks s (whole a rest) o q = let z : ◌≡◌ {A = ℕ} 0 1 = cc in absurd (omega arith)
spot-breaks s (broken p) o q = cc

-- ONE STRUCTURE, THEN WHAT FOLLOWS IT, read to the end
module _ {A B : Type 0} (p : Reader A) (keeps : (b : ℕ) (s : List ℕ) → Keeps s (p b s)) (k : A → Reader B) (b : ℕ) (s : List ℕ) where
  pub then-layout : (y : Result (Unit {0}) Broken) (e : ℕ) → Ok e ≡ spot_of s (p b s) → ((a : A) → y ≡ layout_of (k a (b + e) (tail s e)))
      → y ≡ layout_of (and_then p k b s)
  then-layout y e q f =
      let g = ended s (p b s) e (keeps b s) q in
      f g.item ∙ ap (λ (l : List ℕ). layout_of (k g.item (b + e) l)) (to_end s e)
      ∙ ap layout_of (sym (then-goes p k b s g.item e g.inside g.is))

  pub then-breaks : (o : ℕ) → broken_at o ≡ spot_of s (p b s) → broken_at o ≡ layout_of (and_then p k b s)
  then-breaks o q = ap layout_of (sym (after-breaks p k b s o (spot-broken s (p b s) o q)))
