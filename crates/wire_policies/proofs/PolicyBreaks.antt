-- The reader of policies breaks at an offset exactly when the relation says so, and where that offset lies.
use Prim.Native.Nat.{ℕ, ◌+◌, ◌-◌, ◌<◌, ◌≤◌}
use mathlib.Core.Path.{◌≡◌, refl, ap, sym, ◌∙◌, subst}
use mathlib.Core.List.{List, ◌++◌}
use mathlib.Core.Bool.{Bool, true, false, cond, ◌&&◌, ◌||◌}
use mathlib.Core.Logic.{◌⊎◌, inl, inr}
use native.Mathlib.Omega.{arith}
use borrow.Author.Tests.{le-ltb, ltb-false, eq-eqb, ne_eqb, eqb-true, eqb-false}
use lib.Dec.{ltb, eqb}
use lib.ListN.{length, drop, length-append}
use Rattle.octets.specs.Numbers.{oct}
use Rattle.octets.specs.Walk.{be16, part, sized, Reading, whole, broken, Reader, mapped, closed, within, after, and_then}
use Rattle.octets.proofs.BreakLaws.{mapped-broken, closed-broken, ThenBroken, at_first, at_second, then-broken}
use Rattle.octets.proofs.BreakLaws.{not_left, not_right, one-not, unsized-fault, fault-unsized, passed}
use Rattle.octets.proofs.BreakLaws.{structure-to, structure-from, row-to, row_from}
use Rattle.octets.proofs.BreakLaws.{Among, AmongOr, among-structure, among-row, among-after, among-part, span-short}
use Rattle.wire_attributes.specs.Attribute.{Attribute}
use Rattle.wire_attributes.specs.Place.{in_policy}
use Rattle.wire_attributes.specs.Layout.{attributes}
use Rattle.wire_attributes.specs.Breaks.{BreaksAttributes}
use Rattle.wire_attributes.specs.declared.tables.Place.{Place}
use Rattle.wire_attributes.specs.declared.tables.Place.TheVariants as place
use Rattle.wire_attributes.proofs.BreakLaws.{attributes-to, attributes-from, among-attributes}
use Rattle.wire_policies.specs.Selector.{Selector, selector}
use Rattle.wire_policies.specs.Transform.{Transform, transforms}
use Rattle.wire_policies.specs.Policy.{spi_size, first_known, spi_sized, head_size, head_fits}
use Rattle.wire_policies.specs.Policy.{Suite, suite, SaBody, sa_body, group_sa_of, group_wide_of, policy_holds, policy, policies}
use Rattle.wire_policies.specs.Grammar.{IsSelector, IsPolicy}
use Rattle.wire_policies.specs.Breaks.{BreaksSaBody, in_source, in-destination, in-transforms, in-attributes}
use Rattle.wire_policies.specs.Breaks.{FaultOfHead, by_length, unknown, other-size, BreaksHeld, in-wide, in-sa, BreaksPolicy}
use Rattle.wire_policies.specs.Breaks.{BreaksPolicies}
use Rattle.wire_policies.proofs.SelectorGrammar.{sound as selector-sound, complete as selector-complete}
use Rattle.wire_policies.proofs.TransformGrammar.{transforms-read, read-transforms}
use Rattle.wire_policies.proofs.PolicyLaws.{takes}
use Rattle.wire_policies.proofs.PolicyGrammar.{sound, complete}
use Rattle.wire_policies.proofs.SelectorBreaks.{selector-to, selector-from, among-selector, transforms-to, transforms-from}
use Rattle.wire_policies.proofs.SelectorBreaks.{among-transforms}

-- WHAT A GROUP SA POLICY HOLDS
module _ (h : ℕ) (p : Place) where
  suited : List Transform → Reader Suite
  suited ts c r = mapped (λ l. record { transforms = ts; attributes = l }) (attributes p c r)

  bodied : Selector → Selector → Reader SaBody
  bodied src dst c r = mapped (λ x. record { source = src; destination = dst; suite = x }) (suite h p c r)

  module _ (b : ℕ) (s : List ℕ) (o : ℕ) where
    -- two selectors are whole: what follows them
    module _ (source destination rest : List ℕ) (x y : Selector) (j : s ≡ source ++ (destination ++ rest)) (f : IsSelector source x)
        (g : IsSelector destination y) where
      suite-to : suite h p (b + length source + length destination) rest ≡ broken o → BreaksSaBody h p b s o
      unfolding suite suited
      suite-to q = go (then-broken (transforms h) suited (b + length source + length destination) rest o q)
        where
          go : ThenBroken (transforms h) suited (b + length source + length destination) rest o → BreaksSaBody h p b s o
          go (at_first e) =
              in-transforms source destination rest j f g (transforms-to h (b + length source + length destination) rest o e)
          go (at_second ts tail e k) =
              let t = read-transforms h (b + length source + length destination) rest ts tail e in
              let c : b + length source + length destination + (length rest - length tail) ≡ b + (length s - length tail) =
              omega (arith, span-short t, ap length j, length-append source (destination ++ rest), length-append destination rest) in
              let a = attributes-to p (b + length source + length destination + (length rest - length tail)) tail o
              (mapped-broken (λ (l : List Attribute). record { transforms = ts; attributes = l })
              (attributes p (b + length source + length destination + (length rest - length tail)) tail) o k) in
              in-attributes source destination rest tail j f g t (subst (λ (d : ℕ). BreaksAttributes p d tail o) c a)

    -- the source is whole
    module _ (source left : List ℕ) (x : Selector) (j : s ≡ source ++ left) (f : IsSelector source x) where
      second-to : and_then (selector h) (bodied x) (b + length source) left ≡ broken o → BreaksSaBody h p b s o
      unfolding bodied
      second-to q = go (then-broken (selector h) (bodied x) (b + length source) left o q)
        where
          go : ThenBroken (selector h) (bodied x) (b + length source) left o → BreaksSaBody h p b s o
          go (at_first e) = in-destination source left j f (selector-to h (b + length source) left o e)
          go (at_second y rest e k) =
              let v = selector-sound h (b + length source) left y rest e in
              let c = passed (b + length source) left v.octets rest v.joined in
              let m = mapped-broken (λ (z : Suite). record { source = x; destination = y; suite = z })
              (suite h p (b + length source + (length left - length rest)) rest) o k in
              suite-to source v.octets rest x y (j ∙ ap (λ (l : List ℕ). source ++ l) v.joined) f v.is
              (ap (λ (d : ℕ). suite h p d rest) (sym c) ∙ m)

    pub sa-body-to : sa_body h p b s ≡ broken o → BreaksSaBody h p b s o
    unfolding sa_body bodied
    sa-body-to q = go (then-broken (selector h) (λ src. and_then (selector h) (bodied src)) b s o q)
      where
        go : ThenBroken (selector h) (λ src. and_then (selector h) (bodied src)) b s o → BreaksSaBody h p b s o
        go (at_first e) = in_source (selector-to h b s o e)
        go (at_second x left e k) =
            let u = selector-sound h b s x left e in
            let c = passed b s u.octets left u.joined in
            second-to u.octets left x u.joined u.is (ap (λ (d : ℕ). and_then (selector h) (bodied x) d left) (sym c) ∙ k)

    -- back
    selected : (source left : List ℕ) (x : Selector) → s ≡ source ++ left → IsSelector source x
        → sa_body h p b s ≡ and_then (selector h) (bodied x) (b + length source) left
    unfolding sa_body bodied
    selected source left x j f =
        let e : selector h b s ≡ whole x left = ap (selector h b) j ∙ selector-complete h b source left x f in
        ap (λ (y : Reading Selector). after y b s (λ src. and_then (selector h) (bodied src))) e
        ∙ ap (λ (d : ℕ). and_then (selector h) (bodied x) d left) (passed b s source left j)

    both-selected : (source destination rest : List ℕ) (x y : Selector) → s ≡ source ++ (destination ++ rest) → IsSelector source x
        → IsSelector destination y → sa_body h p b s ≡ bodied x y (b + length source + length destination) rest
    both-selected source destination rest x y j f g =
        selected source (destination ++ rest) x j f
        ∙ ap (λ (z : Reading Selector). after z (b + length source) (destination ++ rest) (bodied x))
        (selector-complete h (b + length source) destination rest y g)
        ∙ ap (λ (d : ℕ). bodied x y d rest) (passed (b + length source) (destination ++ rest) destination rest refl)

    pub sa-body-from : BreaksSaBody h p b s o → sa_body h p b s ≡ broken o
    unfolding sa_body bodied suite suited
    sa-body-from (in_source i) =
        ap (λ (y : Reading Selector). after y b s (λ src. and_then (selector h) (bodied src))) (selector-from h b s o i)
    sa-body-from (in-destination source rest {x = x} j f i) =
        selected source rest x j f
        ∙ ap (λ (z : Reading Selector). after z (b + length source) rest (bodied x)) (selector-from h (b + length source) rest o i)
    sa-body-from (in-transforms source destination rest {x = x} {y = y} j f g i) =
        both-selected source destination rest x y j f g
        ∙ ap (λ (t : Reading (List Transform)). mapped (λ (z : Suite). record { source = x; destination = y; suite = z })
        (after t (b + length source + length destination) rest suited))
        (transforms-from h (b + length source + length destination) rest o i)
    sa-body-from (in-attributes source destination rest tail {x = x} {y = y} {l = l} j f g t i) =
        let c : b + (length s - length tail) ≡ b + length source + length destination + (length rest - length tail) =
        omega (arith, span-short t, ap length j, length-append source (destination ++ rest), length-append destination rest) in
        let a = attributes-from p (b + (length s - length tail)) tail o i in
        both-selected source destination rest x y j f g
        ∙ ap (λ (v : Reading (List Transform)). mapped (λ (z : Suite). record { source = x; destination = y; suite = z })
        (after v (b + length source + length destination) rest suited))
        (transforms-read h t (b + length source + length destination))
        ∙ ap (λ (v : Reading (List Attribute)). mapped (λ (z : Suite). record { source = x; destination = y; suite = z })
        (mapped (λ (m : List Attribute). record { transforms = l; attributes = m }) v))
        (ap (λ (d : ℕ). attributes p d tail) (sym c) ∙ a)

    pub among-sa-body : BreaksSaBody h p b s o → AmongOr h b s o
    among-sa-body (in_source i) = among-selector h b s o i
    among-sa-body (in-destination source rest j f i) =
        among-after h b s source rest o j (among-selector h (b + length source) rest o i)
    among-sa-body (in-transforms source destination rest j f g i) =
        among-after h b s source (destination ++ rest) o j
        (among-after h (b + length source) (destination ++ rest) destination rest o refl
        (among-transforms h (b + length source + length destination) rest o i))
    among-sa-body (in-attributes source destination rest tail j f g t i) =
        let k = among-attributes p (b + (length s - length tail)) tail o i in
        let n : length tail ≤ length s =
        omega (arith, span-short t, ap length j, length-append source (destination ++ rest), length-append destination rest) in
        inr (omega (arith, k.0), omega (arith, k.1))

-- THE HEAD
no-protocol : (t : ℕ) → (t ≡ 6 → ⊥) → (t ≡ 3 → ⊥) → (t ≡ 2 → ⊥) → spi_size t ≡ 0
no-protocol t f g k = rw (ne_eqb t 6 f, ne_eqb t 3 g, ne_eqb t 2 k)

protocol-known : (t : ℕ) → spi_size t ≡ 0 → (t ≡ 6 → ⊥) × (t ≡ 3 → ⊥) × (t ≡ 2 → ⊥)
protocol-known t e =
    (λ q. omega (arith, e, ap spi_size q), λ q. omega (arith, e, ap spi_size q), λ q. omega (arith, e, ap spi_size q))

module _ (s : List ℕ) where
  pub head-unfit : FaultOfHead s → head_fits s ≡ false
  head-unfit (by_length f) =
      not_left (sized (head_size s) s) (first_known (oct s 0) && spi_sized s) (fault-unsized (head_size s) s f)
  head-unfit (unknown z f g k) =
      not_right (sized (head_size s) s) (first_known (oct s 0) && spi_sized s)
      (not_left (first_known (oct s 0)) (spi_sized s)
      (ap (λ (t : Bool). t || ltb 0 (spi_size (oct s 0))) (ne_eqb (oct s 0) 0 z)
      ∙ le-ltb 0 (spi_size (oct s 0)) (omega (arith, no-protocol (oct s 0) f g k))))
  head-unfit (other-size z n) =
      not_right (sized (head_size s) s) (first_known (oct s 0) && spi_sized s)
      (not_right (first_known (oct s 0)) (spi_sized s)
      (ap (λ (t : Bool). t || eqb (oct s 1) (spi_size (oct s 0))) (ne_eqb (oct s 0) 0 z)
      ∙ ne_eqb (oct s 1) (spi_size (oct s 0)) n))

  -- a test that a 0 passes
  unless-zero : (x : Bool) → (eqb (oct s 0) 0 || x) ≡ false → (oct s 0 ≡ 0 → ⊥) × (x ≡ false)
  unless-zero x = go (eqb (oct s 0) 0) refl
    where
      go : (t : Bool) → eqb (oct s 0) 0 ≡ t → (t || x) ≡ false → (oct s 0 ≡ 0 → ⊥) × (x ≡ false)
      go true e q = let w : ◌≡◌ {A = ℕ} 0 1 = cc in absurd (omega arith)
      go false e q = (eqb-false (oct s 0) 0 e, q)

  pub head-fault : head_fits s ≡ false → FaultOfHead s
  head-fault q = go (one-not (sized (head_size s) s) (first_known (oct s 0) && spi_sized s) q)
    where
      rest : (first_known (oct s 0) ≡ false) ⊎ (spi_sized s ≡ false) → FaultOfHead s
      rest (inl e) =
          let f = unless-zero (ltb 0 (spi_size (oct s 0))) e in
          let n = ltb-false 0 (spi_size (oct s 0)) f.1 in
          let k = protocol-known (oct s 0) (omega arith) in
          unknown f.0 k.0 k.1 k.2
      rest (inr e) =
          let f = unless-zero (eqb (oct s 1) (spi_size (oct s 0))) e in
          other-size f.0 (eqb-false (oct s 1) (spi_size (oct s 0)) f.1)

      go : (sized (head_size s) s ≡ false) ⊎ ((first_known (oct s 0) && spi_sized s) ≡ false) → FaultOfHead s
      go (inl e) = by_length (unsized-fault (head_size s) s e)
      go (inr e) = rest (one-not (first_known (oct s 0)) (spi_sized s) e)

-- A POLICY
module _ (b : ℕ) (s : List ℕ) (o : ℕ) where
  -- what a group-wide policy holds starts behind its 4 octets
  wide-place : (t : ℕ) → t ≡ 0 → 4 + spi_size t ≡ 4
  wide-place t e = ap (λ (u : ℕ). 4 + spi_size u) e

  holds-to : policy_holds b s (b + head_size s) (part s (head_size s) (be16 s 2)) ≡ broken o → BreaksHeld b s o
  holds-to = go (eqb (oct s 0) 0) refl
    where
      go : (t : Bool) → eqb (oct s 0) 0 ≡ t
          → cond t (mapped group_wide_of (attributes place.GroupWidePolicy (b + head_size s) (part s (head_size s) (be16 s 2))))
          (mapped (group_sa_of s) (sa_body b (in_policy (oct s 0)) (b + head_size s) (part s (head_size s) (be16 s 2)))) ≡ broken o
          → BreaksHeld b s o
      go true e q =
          let z = eqb-true (oct s 0) 0 e in
          in-wide z (subst (λ (u : ℕ). BreaksAttributes place.GroupWidePolicy (b + u) (part s u (be16 s 2)) o) (wide-place (oct s 0) z)
          (attributes-to place.GroupWidePolicy (b + head_size s) (part s (head_size s) (be16 s 2)) o
          (mapped-broken group_wide_of (attributes place.GroupWidePolicy (b + head_size s) (part s (head_size s) (be16 s 2))) o q)))
      go false e q =
          in-sa (eqb-false (oct s 0) 0 e)
          (sa-body-to b (in_policy (oct s 0)) (b + head_size s) (part s (head_size s) (be16 s 2)) o
          (mapped-broken (group_sa_of s) (sa_body b (in_policy (oct s 0)) (b + head_size s) (part s (head_size s) (be16 s 2))) o q))

  holds-from : BreaksHeld b s o → policy_holds b s (b + head_size s) (part s (head_size s) (be16 s 2)) ≡ broken o
  holds-from (in-wide z i) =
      let j = subst (λ (u : ℕ). BreaksAttributes place.GroupWidePolicy (b + u) (part s u (be16 s 2)) o) (sym (wide-place (oct s 0) z)) i in
      ap (λ (t : Bool). cond t (mapped group_wide_of (attributes place.GroupWidePolicy (b + head_size s) (part s (head_size s) (be16 s 2))))
      (mapped (group_sa_of s) (sa_body b (in_policy (oct s 0)) (b + head_size s) (part s (head_size s) (be16 s 2))))) (eq-eqb (oct s 0) 0 z)
      ∙ ap (mapped group_wide_of) (attributes-from place.GroupWidePolicy (b + head_size s) (part s (head_size s) (be16 s 2)) o j)
  holds-from (in-sa z i) =
      ap (λ (t : Bool). cond t (mapped group_wide_of (attributes place.GroupWidePolicy (b + head_size s) (part s (head_size s) (be16 s 2))))
      (mapped (group_sa_of s) (sa_body b (in_policy (oct s 0)) (b + head_size s) (part s (head_size s) (be16 s 2))))) (ne_eqb (oct s 0) 0 z)
      ∙ ap (mapped (group_sa_of s)) (sa-body-from b (in_policy (oct s 0)) (b + head_size s) (part s (head_size s) (be16 s 2)) o i)

  among-held : 0 < length s → BreaksHeld b s o → Among b s o
  among-held h (in-wide z i) =
      among-part b 4 (be16 s 2) s o (among-attributes place.GroupWidePolicy (b + 4) (part s 4 (be16 s 2)) o i)
  among-held h (in-sa z i) = go (among-sa-body b (in_policy (oct s 0)) (b + head_size s) (part s (head_size s) (be16 s 2)) o i)
    where
      go : AmongOr b (b + head_size s) (part s (head_size s) (be16 s 2)) o → Among b s o
      go (inl e) = (omega arith, omega arith)
      go (inr k) = among-part b (head_size s) (be16 s 2) s o k

pub policy-to : (b : ℕ) (s : List ℕ) (o : ℕ) → policy b s ≡ broken o → BreaksPolicy b s o
unfolding policy
policy-to b s o q =
    structure-to (FaultOfHead s) (BreaksHeld b s o) b (head_fits s) (within (head_size s) (be16 s 2) (policy_holds b s) b s) o (head-fault s)
    (head-unfit s)
    (λ t e. holds-to b s o (closed-broken (drop (be16 s 2) s) (policy_holds b s (b + head_size s) (part s (head_size s) (be16 s 2))) o e)) q

pub policy-from : (b : ℕ) (s : List ℕ) (o : ℕ) → BreaksPolicy b s o → policy b s ≡ broken o
unfolding policy
policy-from b s o i =
    structure-from (FaultOfHead s) (BreaksHeld b s o) b (head_fits s) (within (head_size s) (be16 s 2) (policy_holds b s) b s) o (head-fault s)
    (head-unfit s) (λ j. ap (closed (drop (be16 s 2) s)) (holds-from b s o j)) i

pub policies-to : (b : ℕ) (s : List ℕ) (o : ℕ) → policies b s ≡ broken o → BreaksPolicies b s o
policies-to b s o q = row-to policy takes IsPolicy sound complete BreaksPolicy policy-to policy-from b s o q

pub policies-from : (b : ℕ) (s : List ℕ) (o : ℕ) → BreaksPolicies b s o → policies b s ≡ broken o
policies-from b s o i = row_from policy takes IsPolicy sound complete BreaksPolicy policy-to policy-from i

pub among-policies : (b : ℕ) (s : List ℕ) (o : ℕ) → BreaksPolicies b s o → Among b s o
among-policies b s o i =
    among-row IsPolicy BreaksPolicy
    (λ c r m h j. among-structure (FaultOfHead r) (BreaksHeld c r m) c r m h (λ n k. among-held c r m h k) j) i
