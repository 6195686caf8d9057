-- The reader of what a Group SA policy holds answers it exactly when the octets are that.
use Prim.Native.Nat.{ℕ, ◌+◌, ◌-◌}
use mathlib.Core.Path.{◌≡◌, ap, ◌∙◌, subst}
use mathlib.Core.List.{List, [], ◌++◌}
use lib.ListN.{length}
use Rattle.octets.specs.Walk.{Reading, whole, Reader, mapped, after}
use Rattle.octets.specs.Walk.{and_then}
use Rattle.octets.proofs.Inverse.{inverse-mapped, inverse-then}
use Rattle.wire_attributes.specs.Attribute.{Attribute}
use Rattle.wire_attributes.specs.Layout.{attributes}
use Rattle.wire_attributes.specs.declared.tables.Place.{Place}
use Rattle.wire_attributes.proofs.GrammarLaws.{are-read, read-are}
use Rattle.wire_policies.specs.Selector.{Selector, selector}
use Rattle.wire_policies.specs.Transform.{Transform, transforms}
use Rattle.wire_policies.specs.Policy.{Suite, suite, SaBody, sa_body}
use Rattle.wire_policies.specs.Grammar.{IsSaBody}
use Rattle.wire_policies.proofs.SelectorGrammar.{sound as selector-sound, complete as selector-complete}
use Rattle.wire_policies.proofs.TransformGrammar.{transforms-read, read-transforms}

-- WHAT A GROUP SA POLICY HOLDS
module _ (h : ℕ) (p : Place) where
  suited : List Transform → Reader Suite
  suited ts c r = mapped (λ l. record { transforms = ts; attributes = l }) (attributes p c r)

  bodied : Selector → Selector → Reader SaBody
  bodied src dst c r = mapped (λ x. record { source = src; destination = dst; suite = x }) (suite h p c r)

  pub body-to : (b : ℕ) (s : List ℕ) (x : SaBody) (rest : List ℕ) → sa_body h p b s ≡ whole x rest → IsSaBody p s x
  unfolding sa_body suite suited bodied
  body-to b s x rest q =
      let f = inverse-then (selector h) (λ src. and_then (selector h) (bodied src)) b s x rest q in
      let c₁ = b + (length s - length f.left) in
      let g = inverse-then (selector h) (bodied f.item) c₁ f.left x rest f.second in
      let c₂ = c₁ + (length f.left - length g.left) in
      let m = inverse-mapped (λ (y : Suite). record { source = f.item; destination = g.item; suite = y }) (suite h p c₂
      g.left) x rest g.second in
      let k = inverse-then (transforms h) suited c₂ g.left m.item rest m.is in
      let c₃ = c₂ + (length g.left - length k.left) in
      let n = inverse-mapped (λ (l : List Attribute). record { transforms = k.item; attributes = l }) (attributes p c₃ k.left)
      m.item rest k.second in
      let u = selector-sound h b s f.item f.left f.first in
      let v = selector-sound h c₁ f.left g.item g.left g.first in
      let made : ◌≡◌ {A = SaBody}
      (record { source = f.item; destination = g.item; suite = record { transforms = k.item; attributes = n.item } }) x =
      ap (λ (y : Suite). record { source = f.item; destination = g.item; suite = y }) n.gives ∙ m.gives in
      subst (IsSaBody p s) made
      (record {
        source = u.octets;
        destination = v.octets;
        after = g.left;
        tail = k.left;
        joined = u.joined ∙ ap (λ (l : List ℕ). u.octets ++ l) v.joined;
        from = u.is;
        to = v.is;
        transforms = read-transforms h c₂ g.left k.item k.left k.first;
        attributes = read-are p c₃ k.left n.item rest n.is;
      })

  pub body-from : (s : List ℕ) (x : SaBody) → IsSaBody p s x → (b : ℕ) → sa_body h p b s ≡ whole x []
  unfolding sa_body suite suited bodied
  body-from s x i b =
      let c₁ = b + (length s - length (i.destination ++ i.after)) in
      let c₂ = c₁ + (length (i.destination ++ i.after) - length i.after) in
      let c₃ = c₂ + (length i.after - length i.tail) in
      let e₁ : selector h b s ≡ whole x.source (i.destination ++ i.after) =
      ap (selector h b) i.joined ∙ selector-complete h b i.source (i.destination ++ i.after) x.source i.from in
      let e₂ = selector-complete h c₁ i.destination i.after x.destination i.to in
      let e₃ = transforms-read h i.transforms c₂ in
      let e₄ = are-read p i.attributes c₃ in
      ap (λ (y : Reading Selector). after y b s (λ src. and_then (selector h) (bodied src))) e₁
      ∙ ap (λ (y : Reading Selector). after y c₁ (i.destination ++ i.after) (bodied x.source)) e₂
      ∙ ap (λ (y : Reading (List Transform)). mapped (λ (z : Suite). record { source = x.source; destination = x.destination; suite = z })
      (after y c₂ i.after suited)) e₃
      ∙ ap (λ (y : Reading (List Attribute)). mapped (λ (z : Suite). record { source = x.source; destination = x.destination; suite = z })
      (mapped (λ (l : List Attribute). record { transforms = x.suite.transforms; attributes = l }) y)) e₄
