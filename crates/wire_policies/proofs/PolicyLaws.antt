-- What the readers' answers say of a policy, with what it holds.
use Rattle.wire_attributes.specs.declared.Broken.{Broken}
use Rattle.std.specs.Prelude.{Result, Ok}
use Prim.Native.Nat.{ℕ, ◌+◌}
use mathlib.Core.Path.{◌≡◌, ap, sym, ◌∙◌}
use mathlib.Core.List.{List}
use mathlib.Core.Bool.{true, false}
use native.Mathlib.Nat.{add_assoc}
use native.Mathlib.Omega.{arith}
use lib.ListN.{drop}
use Rattle.octets.specs.Walk.{be16, part, Reading, Reader, mapped, within, and_then}
use Rattle.octets.proofs.Walks.{tail, tail-tail, Takes, Keeps, took, takes-keeps, takes-closed, opened-is, opened-not, takes-opened}
use Rattle.wire_attributes.specs.Attribute.{Attribute}
use Rattle.wire_attributes.specs.Layout.{attributes}
use Rattle.wire_attributes.specs.Answers.{broken_at, layout_of, spot_of}
use Rattle.wire_attributes.specs.declared.tables.Place.{Place}
use Rattle.wire_attributes.proofs.Loops.{held_whole, held-broken, layout-mapped, then-layout, then-breaks}
use Rattle.wire_policies.specs.Selector.{Selector, selector}
use Rattle.wire_policies.specs.Transform.{Transform, transforms}
use Rattle.wire_policies.specs.Policy.{head_size, head_fits, Policy, Suite, suite, SaBody, sa_body, policy_holds}
use Rattle.wire_policies.specs.Policy.{policy}
use Rattle.wire_policies.proofs.HeadLaws.{head-is}
use Rattle.wire_policies.proofs.SelectorLaws.{takes as selector-takes}
use Rattle.wire_policies.proofs.TransformLaws.{keeps as transforms-keep}

-- WHAT FOLLOWS THE SELECTORS
module _ (h : ℕ) (p : Place) (b : ℕ) (s : List ℕ) where
  joined : List Transform → Reader Suite
  joined ts c r = mapped (λ l. record { transforms = ts; attributes = l }) (attributes p c r)

  pub suite-goes : (e : ℕ) (y : Result (Unit {0}) Broken) → Ok e ≡ spot_of s (transforms h b s) → y ≡ layout_of (attributes p (b + e) (tail s e))
      → y ≡ layout_of (suite h p b s)
  unfolding suite joined
  suite-goes e y q f =
      then-layout (transforms h) (transforms-keep h) joined b s y e q
      (λ ts. f ∙ layout-mapped (λ (l : List Attribute). record { transforms = ts; attributes = l }) (attributes p (b + e) (tail s e)))

  pub suite-breaks : (o : ℕ) → broken_at o ≡ spot_of s (transforms h b s) → broken_at o ≡ layout_of (suite h p b s)
  unfolding suite joined
  suite-breaks o q = then-breaks (transforms h) (transforms-keep h) joined b s o q

-- WHAT A GROUP SA POLICY HOLDS
selector-keeps : (h b : ℕ) (s : List ℕ) → Keeps s (selector h b s)
selector-keeps h b s = takes-keeps s (selector h b s) (selector-takes h b s)

module _ (h : ℕ) (p : Place) (b : ℕ) (s : List ℕ) where
  final : Selector → Selector → Reader SaBody
  final src dst c r = mapped (λ x. record { source = src; destination = dst; suite = x }) (suite h p c r)

  second : Selector → Reader SaBody
  second src = and_then (selector h) (final src)

  pub body-breaks : (o : ℕ) → broken_at o ≡ spot_of s (selector h b s) → broken_at o ≡ layout_of (sa_body h p b s)
  unfolding sa_body second final
  body-breaks o q = then-breaks (selector h) (selector-keeps h) second b s o q

  module _ (a : ℕ) (q : Ok a ≡ spot_of s (selector h b s)) where
    pub body-breaks-2 : (o : ℕ) → broken_at o ≡ spot_of (tail s a) (selector h (b + a) (tail s a)) → broken_at o ≡ layout_of
        (sa_body h p b s)
    unfolding sa_body second final
    body-breaks-2 o f =
        then-layout (selector h) (selector-keeps h) second b s (broken_at o) a q
        (λ src. then-breaks (selector h) (selector-keeps h) (final src) (b + a) (tail s a) o f)

    pub body-goes : (d : ℕ) (y : Result (Unit {0}) Broken) → Ok d ≡ spot_of (tail s a) (selector h (b + a) (tail s a))
        → y ≡ layout_of (suite h p (b + (a + d)) (tail s (a + d))) → y ≡ layout_of (sa_body h p b s)
    unfolding sa_body second final
    body-goes d y f g =
        let k : y ≡ layout_of (suite h p (b + a + d) (tail (tail s a) d)) =
        g ∙ ap (λ (l : List ℕ). layout_of (suite h p (b + (a + d)) l)) (sym (tail-tail s a d))
        ∙ ap (λ (c : ℕ). layout_of (suite h p c (tail (tail s a) d))) (sym (add_assoc b a d)) in
        then-layout (selector h) (selector-keeps h) second b s y a q
        (λ src. then-layout (selector h) (selector-keeps h) (final src) (b + a) (tail s a) y d f
        (λ dst. k ∙ layout-mapped (λ (x : Suite). record { source = src; destination = dst; suite = x }) (suite h p (b + a + d) (tail
        (tail s a) d))))

-- A POLICY
module _ (b : ℕ) (s : List ℕ) where
  holds : Reading Policy
  holds = within (head_size s) (be16 s 2) (policy_holds b s) b s

  pub bad : head_fits s ≡ false → broken_at b ≡ spot_of s (policy b s)
  unfolding policy holds
  bad e = sym (ap (spot_of s) (opened-not b (head_fits s) holds e))

  module _ (fit : head_fits s ≡ true) where
    pub good : (n : ℕ) → n ≡ be16 s 2 → Ok tt ≡ layout_of (policy_holds b s (b + head_size s) (part s (head_size s) (be16 s 2)))
        → Ok n ≡ spot_of s (policy b s)
    unfolding policy holds
    good n e q =
        ap Ok e ∙ held_whole (policy_holds b s) b s (head_size s) (be16 s 2) (head-is s fit).1 q
        ∙ sym (ap (spot_of s) (opened-is b (head_fits s) holds fit))

    pub inner-broken : (o : ℕ) → broken_at o ≡ layout_of (policy_holds b s (b + head_size s) (part s (head_size s) (be16 s 2)))
        → broken_at o ≡ spot_of s (policy b s)
    unfolding policy holds
    inner-broken o q =
        held-broken (policy_holds b s) b s (head_size s) (be16 s 2) o q ∙ sym (ap (spot_of s) (opened-is b (head_fits s) holds fit))

pub takes : (b : ℕ) (s : List ℕ) → Takes s (policy b s)
unfolding policy
takes b s =
    takes-opened s b (head_fits s) (within (head_size s) (be16 s 2) (policy_holds b s) b s)
    (λ e.
    let f = head-is s e in
    takes-closed s (drop (be16 s 2) s) (policy_holds b s (b + head_size s) (part s (head_size s) (be16 s 2)))
    (took s (be16 s 2) (omega (arith, f.0)) f.1))
