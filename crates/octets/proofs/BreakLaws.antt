-- The readers break at an offset exactly when the relations say so, for any level: a structure by its own fields and by what it holds, one
-- that must be there, items in a chain and items to the end. And where the offset lies.
use Prim.Native.Nat.{ℕ, zero, suc, ◌+◌, ◌-◌, ◌<◌, ◌≤◌}
use mathlib.Core.Path.{◌≡◌, refl, ap, sym, ◌∙◌, subst}
use mathlib.Core.List.{List, ◌∷◌, ◌++◌}
use mathlib.Core.Bool.{Bool, true, false, ◌&&◌, cond}
use mathlib.Core.Logic.{◌⊎◌, inl, inr}
use native.Mathlib.Omega.{arith}
use borrow.Author.Tests.{ne_eqb, eqb-true, eqb-false, lt-leb, leb-false, leb-true}
use lib.Dec.{eqb, leb}
use lib.ListN.{length, length-append}
use Rattle.octets.specs.Walk.{be16, sized, Spans, none, more}
use Rattle.octets.specs.Walk.{part, Reading, whole, broken, Reader, mapped, opened, begun, closed, after, and_then}
use Rattle.octets.specs.Walk.{Linked, push, chain, Alone, at_end, stateless, many}
use Rattle.octets.specs.Breaks.{BreaksStructure, own, inside, BreaksDue, missing, has-begun, BreaksInChain, here, later}
use Rattle.octets.specs.Breaks.{BreaksInRow, first, next, FaultOfLength, cut, too_small, runs_past}
use Rattle.octets.proofs.Walks.{Takes, took-fewer, chain-stop, chain_more, takes-stateless, begun-none, begun-some, part-short}
use Rattle.octets.proofs.Grammar.{Splits, Cuts}

pub broken-at : {A : Type 0} {m n : ℕ} → ◌≡◌ {A = Reading A} (broken m) (broken n) → m ≡ n
broken-at e = cc

pub not-broken : {A : Type 0} {a : A} {rest : List ℕ} {o : ℕ} {B : Type 0} → whole a rest ≡ broken o → B
not-broken e = let z : ◌≡◌ {A = ℕ} 0 1 = cc in absurd (omega arith)

-- WHAT A BROKEN READING SAYS OF ITS PARTS
pub mapped-broken : {A B : Type 0} (f : A → B) (x : Reading A) (o : ℕ) → mapped f x ≡ broken o → x ≡ broken o
mapped-broken f (whole a rest) o q = not-broken q
mapped-broken f (broken p) o q = ap broken (broken-at q)

pub broken-mapped : {A B : Type 0} (f : A → B) (x : Reading A) (o : ℕ) → x ≡ broken o → mapped f x ≡ broken o
broken-mapped f x o q = ap (mapped f) q

pub closed-broken : {A : Type 0} (rest : List ℕ) (x : Reading A) (o : ℕ) → closed rest x ≡ broken o → x ≡ broken o
closed-broken rest (whole a r) o q = not-broken q
closed-broken rest (broken p) o q = ap broken (broken-at q)

pub data ThenBroken {A B : Type 0} (p : Reader A) (k : A → Reader B) (b : ℕ) (s : List ℕ) (o : ℕ) : Type 0 where
  at_first : p b s ≡ broken o → ThenBroken p k b s o
  at_second : (a : A) (left : List ℕ) → p b s ≡ whole a left → k a (b + (length s - length left)) left ≡ broken o → ThenBroken p k b s o

pub then-broken : {A B : Type 0} (p : Reader A) (k : A → Reader B) (b : ℕ) (s : List ℕ) (o : ℕ) → and_then p k b s ≡ broken o
    → ThenBroken p k b s o
then-broken {A} p k b s o = go (p b s) refl
  where
    go : (x : Reading A) → p b s ≡ x → after x b s k ≡ broken o → ThenBroken p k b s o
    go (whole a r) e q = at_second a r e q
    go (broken m) e q = at_first (e ∙ ap broken (broken-at q))

-- TESTS THAT FAIL
pub not_left : (a b : Bool) → a ≡ false → (a && b) ≡ false
not_left a b e = ap (λ (t : Bool). t && b) e

pub not_right : (a b : Bool) → b ≡ false → (a && b) ≡ false
not_right true b e = e
not_right false b e = refl

pub one-not : (a b : Bool) → (a && b) ≡ false → (a ≡ false) ⊎ (b ≡ false)
one-not true b e = inr e
one-not false b e = inl refl

-- a structure that counts its octets
module _ (k : ℕ) (s : List ℕ) where
  pub unsized-fault : sized k s ≡ false → FaultOfLength k s
  unsized-fault q = go (one-not (leb k (be16 s 2)) (leb (be16 s 2) (length s)) q)
    where
      go : (leb k (be16 s 2) ≡ false) ⊎ (leb (be16 s 2) (length s) ≡ false) → FaultOfLength k s
      go (inl e) = too_small (leb-false k (be16 s 2) e)
      go (inr e) = runs_past (leb-false (be16 s 2) (length s) e)

  pub fault-unsized : FaultOfLength k s → sized k s ≡ false
  fault-unsized (cut h) = go (leb k (be16 s 2)) refl
    where
      go : (t : Bool) → leb k (be16 s 2) ≡ t → (t && leb (be16 s 2) (length s)) ≡ false
      go true e = lt-leb (be16 s 2) (length s) (omega (arith, leb-true k (be16 s 2) e))
      go false e = refl
  fault-unsized (too_small h) = not_left (leb k (be16 s 2)) (leb (be16 s 2) (length s)) (lt-leb k (be16 s 2) h)
  fault-unsized (runs_past h) = not_right (leb k (be16 s 2)) (leb (be16 s 2) (length s)) (lt-leb (be16 s 2) (length s) h)

-- a structure: its own fields, then what it holds
module _ {A : Type 0} (Fault Inside : Type 0) (b : ℕ) (t : Bool) (x : Reading A) (o : ℕ)
    (fault : t ≡ false → Fault) (unfit : Fault → t ≡ false) where
  pub structure-to : (t ≡ true → x ≡ broken o → Inside) → opened b t x ≡ broken o → BreaksStructure Fault Inside b o
  structure-to f = go t refl
    where
      go : (u : Bool) → t ≡ u → opened b u x ≡ broken o → BreaksStructure Fault Inside b o
      go true e q =
          inside
          (λ y. let z : ◌≡◌ {A = Bool} true false = sym e ∙ unfit y in let w : ◌≡◌ {A = ℕ} 0 1 = cc in absurd (omega arith)) (f e q)
      go false e q = own (fault e) (sym (broken-at q))

  pub structure-from : (Inside → x ≡ broken o) → BreaksStructure Fault Inside b o → opened b t x ≡ broken o
  structure-from f (own y e) = ap (λ (u : Bool). opened b u x) (unfit y) ∙ ap broken (sym e)
  structure-from f (inside n i) = go t refl
    where
      go : (u : Bool) → t ≡ u → opened b u x ≡ broken o
      go true e = f i
      go false e = absurd (n (fault e))

-- fields that are read with what the structure holds, and count for it as its own
pub opened_both : {A : Type 0} (b : ℕ) (t u : Bool) (x : Reading A) → (u ≡ false → x ≡ broken b) → opened b t x ≡ opened b (t && u) x
opened_both b true true x f = refl
opened_both b true false x f = f refl
opened_both b false u x f = refl

-- one that must be there
module _ {A : Type 0} (h : ℕ) (s : List ℕ) (x : Reading A) (Breaks : Type 0) (o : ℕ) where
  pub due-to : (0 < length s → x ≡ broken o → Breaks) → begun h s x ≡ broken o → BreaksDue h s Breaks o
  due-to f = go (eqb (length s) 0) refl
    where
      go : (u : Bool) → eqb (length s) 0 ≡ u → cond u (broken h) x ≡ broken o → BreaksDue h s Breaks o
      go true e q = missing (eqb-true (length s) 0 e) (sym (broken-at q))
      go false e q = let n = eqb-false (length s) 0 e in let k : 0 < length s = omega arith in has-begun k (f k q)

  pub due-from : (Breaks → x ≡ broken o) → BreaksDue h s Breaks o → begun h s x ≡ broken o
  due-from f (missing e q) = begun-none h s x e ∙ ap broken (sym q)
  due-from f (has-begun k i) = begun-some h s x (λ e. omega arith) ∙ f i

-- how far the octets that are left stand behind the first
pub passed : (b : ℕ) (s front rest : List ℕ) → s ≡ front ++ rest → b + (length s - length rest) ≡ b + length front
passed b s front rest e = omega (arith, ap length e, length-append front rest)

-- ITEMS IN A CHAIN
module _ {S A : Type 0} (stop : S → List ℕ → Bool) (step : S → Reader (Linked S A))
    (takes : (st : S) (b : ℕ) (s : List ℕ) → Takes s (step st b s))
    (Is : S → List ℕ → A → S → Type 0)
    (sound : (st : S) (b : ℕ) (s : List ℕ) (x : Linked S A) (rest : List ℕ) → stop st s ≡ false → step st b s ≡ whole x rest
    → Splits Is st s x.item x.next rest)
    (complete : (st : S) (b : ℕ) (o rest : List ℕ) (x : Linked S A) → stop st (o ++ rest) ≡ false → Is st o x.item x.next
    → step st b (o ++ rest) ≡ whole x rest)
    (Breaks : S → ℕ → List ℕ → ℕ → Type 0)
    (to : (st : S) (b : ℕ) (s : List ℕ) (o : ℕ) → stop st s ≡ false → step st b s ≡ broken o → Breaks st b s o)
    (from : (st : S) (b : ℕ) (s : List ℕ) (o : ℕ) → stop st s ≡ false → Breaks st b s o → step st b s ≡ broken o) where
  pub chain-from : {st : S} {b : ℕ} {s : List ℕ} {o : ℕ} → BreaksInChain stop Is Breaks st b s o → chain stop step st b s ≡ broken o
  chain-from {st} {b} {s} {o} (here e i) = chain_more stop step takes st b s (broken o) e (from st b s o e i)
  chain-from {st} {b} (later {st' = st'} front s {a = a} {o = o} e i r) =
      let x : Linked S A = record { item = a; next = st' } in
      chain_more stop step takes st b (front ++ s) (whole x s) e (complete st b front s x e i)
      ∙ ap (λ (c : ℕ). push a (chain stop step st' c s)) (passed b (front ++ s) front s refl) ∙ ap (push a) (chain-from r)

  module _ (st : S) (b : ℕ) (s : List ℕ) (o : ℕ)
      (again : (t : S) (c : ℕ) (r : List ℕ) → length r < length s → chain stop step t c r ≡ broken o
      → BreaksInChain stop Is Breaks t c r o) where
    torn : (t : Bool) → stop st s ≡ t → (p : Reading (Linked S A)) → step st b s ≡ p → chain stop step st b s ≡ broken o
        → BreaksInChain stop Is Breaks st b s o
    torn true e p c q = not-broken (sym (chain-stop stop step takes st b s e) ∙ q)
    torn false e (broken m) p q =
        let u : m ≡ o = broken-at (sym (chain_more stop step takes st b s (broken m) e p) ∙ q) in
        here e (to st b s o e (p ∙ ap broken u))
    torn false e (whole x r) p q =
        let f = sound st b s x r e p in
        let l : length r < length s = took-fewer s r (subst (Takes s) p (takes st b s)) in
        let c = chain stop step x.next (b + (length s - length r)) r in
        let u : c ≡ broken o =
        mapped-broken (λ (m : List A). x.item ∷ m) c o (sym (chain_more stop step takes st b s (whole x r) e p) ∙ q) in
        let v = passed b s f.octets r f.joined in
        let w : BreaksInChain stop Is Breaks x.next (b + length f.octets) r o =
        again x.next (b + length f.octets) r l (ap (λ (d : ℕ). chain stop step x.next d r) (sym v) ∙ u) in
        let j : stop st (f.octets ++ r) ≡ false = subst (λ (y : List ℕ). stop st y ≡ false) f.joined e in
        subst (λ (y : List ℕ). BreaksInChain stop Is Breaks st b y o) (sym f.joined) (later f.octets r j f.is w)

  torn-upto : (n : ℕ) (st : S) (b : ℕ) (s : List ℕ) (o : ℕ) → length s < n → chain stop step st b s ≡ broken o
      → BreaksInChain stop Is Breaks st b s o
  torn-upto zero st b s o h q = absurd (omega arith)
  torn-upto (suc n) st b s o h q =
      torn st b s o (λ t c r l u. torn-upto n t c r o (omega arith) u) (stop st s) refl (step st b s) refl q

  pub chain-to : (st : S) (b : ℕ) (s : List ℕ) (o : ℕ) → chain stop step st b s ≡ broken o → BreaksInChain stop Is Breaks st b s o
  chain-to st b s o q = torn-upto (suc (length s)) st b s o (omega arith) q

-- ITEMS TO THE END
module _ {A : Type 0} (p : Reader A) (takes : (b : ℕ) (s : List ℕ) → Takes s (p b s)) (Is : List ℕ → A → Type 0)
    (sound : (b : ℕ) (s : List ℕ) (a : A) (rest : List ℕ) → p b s ≡ whole a rest → Cuts Is s a rest)
    (complete : (b : ℕ) (o rest : List ℕ) (a : A) → Is o a → p b (o ++ rest) ≡ whole a rest)
    (Breaks : ℕ → List ℕ → ℕ → Type 0)
    (to : (b : ℕ) (s : List ℕ) (o : ℕ) → p b s ≡ broken o → Breaks b s o)
    (from : (b : ℕ) (s : List ℕ) (o : ℕ) → Breaks b s o → p b s ≡ broken o) where
  some : (s : List ℕ) → 0 < length s → at_end tt s ≡ false
  some s h = ne_eqb (length s) 0 (λ e. omega arith)

  pub row_from : {b : ℕ} {s : List ℕ} {o : ℕ} → BreaksInRow Is Breaks b s o → many p b s ≡ broken o
  unfolding many
  row_from {b} {s} {o} (first h i) =
      chain_more at_end (stateless p) (takes-stateless p takes) tt b s (broken o) (some s h)
      (ap (mapped (λ (a : A). record { item = a; next = tt })) (from b s o i))
  row_from {b} (next front s {a = a} {o = o} i r) =
      let c = complete b front s a i in
      let k : length s < length (front ++ s) = took-fewer (front ++ s) s (subst (Takes (front ++ s)) c (takes b (front ++ s))) in
      let x : Linked Alone A = record { item = a; next = tt } in
      chain_more at_end (stateless p) (takes-stateless p takes) tt b (front ++ s) (whole x s) (some (front ++ s) (omega arith))
      (ap (mapped (λ (y : A). record { item = y; next = tt })) c)
      ∙ ap (λ (d : ℕ). push a (chain at_end (stateless p) tt d s)) (passed b (front ++ s) front s refl) ∙ ap (push a) (row_from r)

  module _ (b : ℕ) (s : List ℕ) (o : ℕ)
      (again : (c : ℕ) (r : List ℕ) → length r < length s → many p c r ≡ broken o → BreaksInRow Is Breaks c r o) where
    cracked : (t : Bool) → at_end tt s ≡ t → (y : Reading A) → p b s ≡ y → many p b s ≡ broken o → BreaksInRow Is Breaks b s o
    unfolding many
    cracked true e y f q = not-broken (sym (chain-stop at_end (stateless p) (takes-stateless p takes) tt b s e) ∙ q)
    cracked false e (broken m) f q =
        let n = eqb-false (length s) 0 e in
        let g : stateless p tt b s ≡ broken m = ap (mapped (λ (a : A). record { item = a; next = tt })) f in
        let u : m ≡ o = broken-at (sym (chain_more at_end (stateless p) (takes-stateless p takes) tt b s (broken m) e g) ∙ q) in
        let h : 0 < length s = omega arith in
        first h (to b s o (f ∙ ap broken u))
    cracked false e (whole a r) f q =
        let x : Linked Alone A = record { item = a; next = tt } in
        let g : stateless p tt b s ≡ whole x r = ap (mapped (λ (y : A). record { item = y; next = tt })) f in
        let k = sound b s a r f in
        let l : length r < length s = took-fewer s r (subst (Takes s) f (takes b s)) in
        let c = chain at_end (stateless p) tt (b + (length s - length r)) r in
        let u : c ≡ broken o =
        mapped-broken (λ (m : List A). a ∷ m) c o
        (sym (chain_more at_end (stateless p) (takes-stateless p takes) tt b s (whole x r) e g) ∙ q) in
        let v = passed b s k.octets r k.joined in
        let w : BreaksInRow Is Breaks (b + length k.octets) r o =
        again (b + length k.octets) r l (ap (λ (d : ℕ). chain at_end (stateless p) tt d r) (sym v) ∙ u) in
        subst (λ (y : List ℕ). BreaksInRow Is Breaks b y o) (sym k.joined) (next k.octets r k.is w)

  cracked-upto : (n : ℕ) (b : ℕ) (s : List ℕ) (o : ℕ) → length s < n → many p b s ≡ broken o → BreaksInRow Is Breaks b s o
  cracked-upto zero b s o h q = absurd (omega arith)
  cracked-upto (suc n) b s o h q =
      cracked b s o (λ c r l u. cracked-upto n c r o (omega arith) u) (at_end tt s) refl (p b s) refl q

  pub row-to : (b : ℕ) (s : List ℕ) (o : ℕ) → many p b s ≡ broken o → BreaksInRow Is Breaks b s o
  row-to b s o q = cracked-upto (suc (length s)) b s o (omega arith) q

-- WHERE THE OFFSET LIES: in the octets of the structure, or it is its holder's
abbrev pub Among : ℕ → List ℕ → ℕ → Type 0
Among b s o = (b ≤ o) × (o < b + length s)

pub among-structure : (Fault Inside : Type 0) (b : ℕ) (s : List ℕ) (o : ℕ) → 0 < length s → ((Fault → ⊥) → Inside → Among b s o)
    → BreaksStructure Fault Inside b o → Among b s o
among-structure Fault Inside b s o h f (own y e) = (omega arith, omega arith)
among-structure Fault Inside b s o h f (inside n i) = f n i

pub among-row : {A : Type 0} (Is : List ℕ → A → Type 0) (Breaks : ℕ → List ℕ → ℕ → Type 0)
    → ((b : ℕ) (s : List ℕ) (o : ℕ) → 0 < length s → Breaks b s o → Among b s o)
    → {b : ℕ} {s : List ℕ} {o : ℕ} → BreaksInRow Is Breaks b s o → Among b s o
among-row Is Breaks f {b} {s} {o} (first h i) = f b s o h i
among-row Is Breaks f {b} (next front s {o = o} i r) =
    let g = among-row Is Breaks f r in
    (omega (arith, g.0), omega (arith, g.1, length-append front s))

-- inside a holder at h
abbrev pub AmongOr : ℕ → ℕ → List ℕ → ℕ → Type 0
AmongOr h b s o = (o ≡ h) ⊎ Among b s o

pub among-due : (h b : ℕ) (s : List ℕ) (Breaks : Type 0) (o : ℕ) → (0 < length s → Breaks → Among b s o) → BreaksDue h s Breaks o
    → AmongOr h b s o
among-due h b s Breaks o f (missing e q) = inl q
among-due h b s Breaks o f (has-begun k i) = inr (f k i)

pub among-after : (h b : ℕ) (s front rest : List ℕ) (o : ℕ) → s ≡ front ++ rest → AmongOr h (b + length front) rest o → AmongOr h b s o
among-after h b s front rest o e (inl q) = inl q
among-after h b s front rest o e (inr g) = inr (omega (arith, g.0), omega (arith, g.1, ap length e, length-append front rest))

pub among-chain : {S A : Type 0} (stop : S → List ℕ → Bool) (Is : S → List ℕ → A → S → Type 0)
    (Breaks : S → ℕ → List ℕ → ℕ → Type 0) (h : ℕ) → ((st : S) (b : ℕ) (s : List ℕ) (o : ℕ) → Breaks st b s o → AmongOr h b s o)
    → {st : S} {b : ℕ} {s : List ℕ} {o : ℕ} → BreaksInChain stop Is Breaks st b s o → AmongOr h b s o
among-chain stop Is Breaks h f {st} {b} {s} {o} (here e i) = f st b s o i
among-chain stop Is Breaks h f {b = b} (later front s {o = o} e i r) =
    among-after h b (front ++ s) front s o refl (among-chain stop Is Breaks h f r)

-- what a structure holds stands in its octets
pub among-part : (b i n : ℕ) (s : List ℕ) (o : ℕ) → Among (b + i) (part s i n) o → Among b s o
among-part b i n s o g = (omega (arith, g.0), omega (arith, g.0, g.1, part-short s i n))

-- the octets after a chain are no more than those before
pub span-short : {S A : Type 0} {stop : S → List ℕ → Bool} {Is : S → List ℕ → A → S → Type 0} {st : S} {s : List ℕ} {l : List A}
    {rest : List ℕ} → Spans stop Is st s l rest → length rest ≤ length s
span-short (none e) = omega arith
span-short (more o s e i r) = omega (arith, span-short r, length-append o s)
