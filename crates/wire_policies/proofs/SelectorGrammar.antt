-- The reader of a selector answers one exactly when the octets are that selector's.
use Prim.Native.Nat.{ℕ, ◌+◌, ◌-◌, ◌<◌, ◌≤◌}
use mathlib.Core.Path.{◌≡◌, refl, ap, sym, ◌∙◌, subst}
use mathlib.Core.List.{List, [], ◌++◌}
use mathlib.Core.Bool.{Bool, true, false, cond, ◌&&◌}
use native.Mathlib.Omega.{arith}
use borrow.Author.Tests.{le-leb, leb-true, lt-ltb, ltb-true, eq-eqb, eqb-true}
use lib.Dec.{leb, ltb, eqb}
use lib.ListN.{length, drop, length-append, length-drop}
use lib.Seq.{drop-append-le, take_all, drop-length}
use Rattle.lists.proofs.Cases.{and_parts}
use Rattle.octets.specs.Numbers.{oct}
use Rattle.octets.specs.Walk.{be16, part, Reading, whole, opened}
use Rattle.octets.proofs.Walks.{by-test, begun-some}
use Rattle.octets.proofs.Local.{extended, oct-append, be16-append, part-append, opened-extend, begun-extend, Local}
use Rattle.octets.proofs.Grammar.{Cuts, sound-of, complete-of}
use Rattle.wire_policies.specs.Selector.{Selector, address_size, selector_size, selector_of, selector_fits, selector}
use Rattle.wire_policies.specs.Grammar.{IsSelector}
use Rattle.wire_policies.proofs.SelectorLaws.{size-some}

abbrev size_at : List ℕ → ℕ
size_at s = selector_size (oct s 0)

-- a selector has 8 octets and two addresses
two-addresses : (t : ℕ) → 0 < selector_size t → selector_size t ≡ 8 + address_size t + address_size t
two-addresses t h = go (eqb t 7) (eqb t 8) h
  where
    go : (x y : Bool) → 0 < cond x 16 (cond y 40 0) → cond x 16 (cond y 40 0) ≡ 8 + cond x 4 (cond y 16 0) + cond x 4
        (cond y 16 0)
    go true y k = refl
    go false true k = refl
    go false false k = absurd (omega arith)

record Fits (s : List ℕ) : Type 0 where
  known : 0 < size_at s
  there : size_at s ≤ length s
  size : be16 s 2 ≡ size_at s

fits-is : (s : List ℕ) → selector_fits s ≡ true → Fits s
fits-is s e =
    let n = size_at s in
    let f = and_parts (ltb 0 n) (leb n (length s) && eqb (be16 s 2) n) e in
    let g = and_parts (leb n (length s)) (eqb (be16 s 2) n) f.1 in
    record { known = ltb-true 0 n f.0; there = leb-true n (length s) g.0; size = eqb-true (be16 s 2) n g.1 }

is-fits : (s : List ℕ) → Fits s → selector_fits s ≡ true
is-fits s f =
    ap (λ (t : Bool). t && (leb (size_at s) (length s) && eqb (be16 s 2) (size_at s))) (lt-ltb 0 (size_at s) f.known)
    ∙ ap (λ (t : Bool). t && eqb (be16 s 2) (size_at s)) (le-leb (size_at s) (length s) f.there)
    ∙ eq-eqb (be16 s 2) (size_at s) f.size

module _ (h : ℕ) where
  inverse : (b : ℕ) (s : List ℕ) (x : Selector) (rest : List ℕ) → selector h b s ≡ whole x rest → Fits s × (selector_of s ≡ x) ×
      (rest ≡ drop (size_at s) s)
  unfolding selector
  inverse b s x rest =
      by-test (λ (y : Reading Selector). y ≡ whole x rest → Fits s × (selector_of s ≡ x) × (rest ≡ drop (size_at s) s)) (eqb (length s) 0)
      (λ t q. let z : ◌≡◌ {A = ℕ} 0 1 = cc in absurd (omega arith))
      (λ t. by-test (λ (y : Reading Selector). y ≡ whole x rest → Fits s × (selector_of s ≡ x) × (rest ≡ drop (size_at s) s)) (selector_fits s)
      (λ u q. (fits-is s u, cc, cc))
      (λ u q. let z : ◌≡◌ {A = ℕ} 0 1 = cc in absurd (omega arith)))

  module _ (o r : List ℕ) (l : 4 ≤ length o) where
    first : oct (o ++ r) 0 ≡ oct o 0
    first = oct-append o r 0 (omega arith)

    same_size : size_at (o ++ r) ≡ size_at o
    same_size = ap selector_size first

    module _ (k : size_at o ≤ length o) where
      same-fits : selector_fits (o ++ r) ≡ selector_fits o
      same-fits =
          (λ i. ltb 0 (same_size i) && (leb (same_size i) (length (o ++ r)) && eqb (be16-append o r 2 l i) (same_size i)))
          ∙ ap (λ (t : Bool). ltb 0 (size_at o) && (t && eqb (be16 o 2) (size_at o)))
          (le-leb (size_at o) (length (o ++ r)) (omega (arith, length-append o r)) ∙ sym (le-leb (size_at o) (length o) k))

      module _ (f : Fits o) where
        long : 16 ≤ size_at o
        long = let n = f.known in size-some {n = size_at o} (oct o 0) (λ e. omega arith) refl

        same-selector : selector_of (o ++ r) ≡ selector_of o
        same-selector =
            let w = two-addresses (oct o 0) f.known in
            let n = long in
            let a : part (o ++ r) 8 (8 + address_size (oct (o ++ r) 0)) ≡ part o 8 (8 + address_size (oct o 0)) =
            ap (λ (t : ℕ). part (o ++ r) 8 (8 + address_size t)) first ∙ part-append o r 8 (8 + address_size (oct o 0)) (omega arith)
            (omega arith) in
            let e : part (o ++ r) (8 + address_size (oct (o ++ r) 0)) (size_at (o ++ r)) ≡ part o (8 + address_size (oct o 0)) (size_at o) =
            ap (λ (t : ℕ). part (o ++ r) (8 + address_size t) (selector_size t)) first
            ∙ part-append o r (8 + address_size (oct o 0)) (size_at o) (omega arith) k in
            λ i. record {
              kind = first i;
              protocol = oct-append o r 1 (omega arith) i;
              start_port = be16-append o r 4 (omega arith) i;
              end_port = be16-append o r 6 (omega arith) i;
              start_address = a i;
              end_address = e i;
            }

  extends : (b : ℕ) (o r : List ℕ) → 4 ≤ length o → size_at o ≤ length o → selector h b (o ++ r) ≡ extended r (selector h b o)
  unfolding selector
  extends b o r l k =
      begun-extend o r h (opened b (selector_fits (o ++ r)) (whole (selector_of (o ++ r)) (drop (size_at (o ++ r)) (o ++ r))))
      (opened b (selector_fits o) (whole (selector_of o) (drop (size_at o) o))) (omega arith)
      (opened-extend o r b (selector_fits (o ++ r)) (selector_fits o) (whole (selector_of (o ++ r)) (drop (size_at (o ++ r)) (o ++ r)))
      (whole (selector_of o) (drop (size_at o) o)) (same-fits o r l k)
      (λ t. (λ i. whole (same-selector o r l k (fits-is o t) i) (drop (same_size o r l i) (o ++ r)))
      ∙ ap (whole (selector_of o)) (drop-append-le (size_at o) o r k)))

  counted : (b : ℕ) (s : List ℕ) (x : Selector) (rest : List ℕ) → selector h b s ≡ whole x rest
      → (4 ≤ size_at s) × (size_at s ≤ length s) × (rest ≡ drop (size_at s) s)
  counted b s x rest q =
      let f = inverse b s x rest q in
      let n = f.0.known in
      (omega (arith, size-some {n = size_at s} (oct s 0) (λ e. omega arith) refl), f.0.there, f.2)

  pub local : Local (selector h) 4 size_at
  local = record { same = same_size; counts = counted; extend = extends }

  module _ (b : ℕ) (o : List ℕ) (x : Selector) where
    pub to : selector h b o ≡ whole x [] → IsSelector o x
    to q =
        let f = inverse b o x [] q in
        let g = f.0 in
        let e = f.1 in
        let there = g.there in
        let l : length o ≡ size_at o = omega (arith, ap length f.2, length-drop (size_at o) o) in
        let k : oct o 0 ≡ x.kind = ap (λ (y : Selector). y.kind) e in
        let w = two-addresses (oct o 0) g.known in
        record {
          kind = k;
          known = subst (λ (t : ℕ). 0 < selector_size t) k g.known;
          all = l ∙ ap selector_size k;
          size = g.size ∙ ap selector_size k;
          protocol = ap (λ (y : Selector). y.protocol) e;
          start_port = ap (λ (y : Selector). y.start_port) e;
          end_port = ap (λ (y : Selector). y.end_port) e;
          start_address = ap (λ (t : ℕ). part o 8 (8 + address_size t)) (sym k) ∙ ap (λ (y : Selector). y.start_address) e;
          end_address =
              ap (λ (t : ℕ). drop (8 + address_size t) o) (sym k)
              ∙ sym (take_all (size_at o - (8 + address_size (oct o 0))) (drop (8 + address_size (oct o 0)) o) (rw length-drop (omega arith)))
              ∙ ap (λ (y : Selector). y.end_address) e;
        }

    pub from : IsSelector o x → selector h b o ≡ whole x []
    unfolding selector
    from i =
        let k = sym i.kind in
        let l : length o ≡ size_at o = i.all ∙ ap selector_size k in
        let n : 0 < size_at o = subst (λ (t : ℕ). 0 < selector_size t) k i.known in
        let w = two-addresses (oct o 0) n in
        let f : selector_fits o ≡ true = is-fits o (record { known = n; there = omega arith; size = i.size ∙ ap selector_size k }) in
        let a : part o 8 (8 + address_size (oct o 0)) ≡ x.start_address = ap (λ (t : ℕ). part o 8 (8 + address_size t)) i.kind
        ∙ i.start_address in
        let z : part o (8 + address_size (oct o 0)) (size_at o) ≡ x.end_address =
        take_all (size_at o - (8 + address_size (oct o 0))) (drop (8 + address_size (oct o 0)) o) (rw length-drop (omega arith))
        ∙ ap (λ (t : ℕ). drop (8 + address_size t) o) i.kind ∙ i.end_address in
        let e : selector_of o ≡ x =
        λ j. record {
          kind = i.kind j;
          protocol = i.protocol j;
          start_port = i.start_port j;
          end_port = i.end_port j;
          start_address = a j;
          end_address = z j;
        } in
        begun-some h o (opened b (selector_fits o) (whole (selector_of o) (drop (size_at o) o))) (λ y. omega arith)
        ∙ ap (λ (t : Bool). opened b t (whole (selector_of o) (drop (size_at o) o))) f
        ∙ (λ j. whole (e j) (drop (sym l j) o)) ∙ ap (whole x) (drop-length o)

  pub sound : (b : ℕ) (s : List ℕ) (x : Selector) (rest : List ℕ) → selector h b s ≡ whole x rest → Cuts IsSelector s x rest
  sound = sound-of (selector h) 4 size_at local IsSelector to

  pub complete : (b : ℕ) (o rest : List ℕ) (x : Selector) → IsSelector o x → selector h b (o ++ rest) ≡ whole x rest
  complete = complete-of (selector h) 4 size_at local IsSelector from
