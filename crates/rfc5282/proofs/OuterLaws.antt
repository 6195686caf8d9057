-- What the outer layout tells, for any type of its one payload.
use mathlib.Core.Path.{◌≡◌, refl, sym, ap, ◌∙◌}
use mathlib.Core.Bool.{Bool, true, false, ◌&&◌}
use mathlib.Core.List.{List}
use Prim.Native.Nat.{ℕ, ◌+◌, ◌/◌, ◌<◌, ◌≤◌}
use native.Mathlib.Omega.{arith}
use borrow.Author.Tests.{leb-true, lt-leb, le-leb, eqb-true, eq-eqb, ne_eqb}
use lib.Dec.{leb, eqb}
use lib.ListN.{length}
use Rattle.lists.proofs.Cases.{and_parts}
use Rattle.octets.specs.Numbers.{oct}
use Rattle.octets.specs.Walk.{be16, be32}
use Rattle.wire_frames.specs.Header.{header_fits}
use Rattle.rfc5282.specs.Outer.{alone, outer}

pub record Alone (type : ℕ) (s : List ℕ) : Type 0 where
  pub least : 32 ≤ length s
  pub most : length s ≤ 16384
  pub counts : be32 s 24 ≡ length s
  pub next : oct s 16 ≡ type
  pub version : oct s 17 / 16 ≡ 2
  pub fills : 28 + be16 s 30 ≡ length s

abbrev pub Outer : List ℕ → Type 0
Outer s = Alone 46 s

third-false : (a b d : Bool) → (a && (b && (false && d))) ≡ false
third-false true true d = refl
third-false true false d = refl
third-false false b d = refl

module _ (type : ℕ) (s : List ℕ) where
  pub alone-is : alone type s ≡ true → Alone type s
  unfolding alone
  alone-is e =
      let a = and_parts (header_fits s) (eqb (oct s 16) type && (leb 32 (length s) && eqb (28 + be16 s 30) (length s))) e in
      let b = and_parts (eqb (oct s 16) type) (leb 32 (length s) && eqb (28 + be16 s 30) (length s)) a.1 in
      let c = and_parts (leb 32 (length s)) (eqb (28 + be16 s 30) (length s)) b.1 in
      let h = and_parts (leb 28 (length s)) (leb (length s) 16384 && (eqb (be32 s 24) (length s) && eqb (oct s 17 / 16) 2))
      a.0 in
      let m = and_parts (leb (length s) 16384) (eqb (be32 s 24) (length s) && eqb (oct s 17 / 16) 2) h.1 in
      let n = and_parts (eqb (be32 s 24) (length s)) (eqb (oct s 17 / 16) 2) m.1 in
      record {
        least = leb-true 32 (length s) c.0;
        most = leb-true (length s) 16384 m.0;
        counts = eqb-true (be32 s 24) (length s) n.0;
        next = eqb-true (oct s 16) type b.0;
        version = eqb-true (oct s 17 / 16) 2 n.1;
        fills = eqb-true (28 + be16 s 30) (length s) c.1;
      }

  pub too_short : length s < 32 → false ≡ alone type s
  unfolding alone
  too_short h =
      sym (ap (λ (t : Bool). header_fits s && (eqb (oct s 16) type && (t && eqb (28 + be16 s 30) (length s))))
      (lt-leb 32 (length s) h)
      ∙ third-false (header_fits s) (eqb (oct s 16) type) (eqb (28 + be16 s 30) (length s)))

  module _ (l : 32 ≤ length s) where
    judged : (m c v : Bool) → leb (length s) 16384 ≡ m → eqb (be32 s 24) (length s) ≡ c → eqb (oct s 17 / 16) 2 ≡ v
        → alone type s ≡ ((m && (c && v)) && (eqb (oct s 16) type && eqb (28 + be16 s 30) (length s)))
    unfolding alone
    judged m c v em ec ev =
        (λ i. (le-leb 28 (length s) (omega arith) i && (em i && (ec i && ev i)))
        && (eqb (oct s 16) type && (le-leb 32 (length s) l i && eqb (28 + be16 s 30) (length s))))

    pub too_long : 16384 < length s → false ≡ alone type s
    too_long h = sym (judged false (eqb (be32 s 24) (length s)) (eqb (oct s 17 / 16) 2) (lt-leb (length s) 16384 h) refl refl)

    module _ (m : length s ≤ 16384) where
      pub miscounted : (be32 s 24 ≡ length s → ⊥) → false ≡ alone type s
      miscounted h = sym (judged true false (eqb (oct s 17 / 16) 2) (le-leb (length s) 16384 m) (ne_eqb (be32 s 24) (length s) h) refl)

      module _ (c : be32 s 24 ≡ length s) where
        pub other-version : (oct s 17 / 16 ≡ 2 → ⊥) → false ≡ alone type s
        other-version h =
            sym (judged true true false (le-leb (length s) 16384 m) (eq-eqb (be32 s 24) (length s) c) (ne_eqb (oct s 17 / 16) 2 h))

        module _ (v : oct s 17 / 16 ≡ 2) where
          past : alone type s ≡ (eqb (oct s 16) type && eqb (28 + be16 s 30) (length s))
          past = judged true true true (le-leb (length s) 16384 m) (eq-eqb (be32 s 24) (length s) c) (eq-eqb (oct s 17 / 16) 2 v)

          pub other-payload : (oct s 16 ≡ type → ⊥) → false ≡ alone type s
          other-payload h = sym (past ∙ ap (λ (t : Bool). t && eqb (28 + be16 s 30) (length s)) (ne_eqb (oct s 16) type h))

          pub last-test : oct s 16 ≡ type → eqb (28 + be16 s 30) (length s) ≡ alone type s
          last-test h = sym (past ∙ ap (λ (t : Bool). t && eqb (28 + be16 s 30) (length s)) (eq-eqb (oct s 16) type h))

  pub is-alone : Alone type s → alone type s ≡ true
  is-alone f = sym (last-test f.least f.most f.counts f.version f.next) ∙ eq-eqb (28 + be16 s 30) (length s) f.fills

-- of an Encrypted payload
pub outer-is : (s : List ℕ) → outer s ≡ true → Outer s
unfolding outer
outer-is s e = alone-is 46 s e

pub alone-outer : (s : List ℕ) → alone 46 s ≡ outer s
unfolding outer
alone-outer s = refl
