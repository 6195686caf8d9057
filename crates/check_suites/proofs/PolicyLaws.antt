-- The Group SA policies of a GSA payload's body, one policy after the other.
use Prim.Native.Nat.{ℕ, ◌+◌, ◌<◌, ◌≤◌}
use mathlib.Core.Path.{◌≡◌, ap, sym, subst}
use mathlib.Core.List.{List}
use mathlib.Core.Bool.{true}
use native.Mathlib.Omega.{arith}
use lib.ListN.{length, drop, length-drop}
use lib.Seq.{drop-drop}
use Rattle.octets.proofs.Walks.{tail as cut, to_end}
use Rattle.wire_policies.specs.Policy.{SaBody, policies}
use Rattle.wire_attributes.specs.declared.tables.Place.{Place}
use Rattle.wire_policies.specs.Grammar.{Transforms}
use Rattle.wire_readers.specs.inner.Values.{is_whole}
use Rattle.wire_readers.specs.inner.Policies.{PolicyIs}
use Rattle.wire_readers.specs.inner.Bodies.{SaPartsAre}
use Rattle.wire_readers.specs.declared.policy.Parts.{Parts}
use Rattle.wire_readers.specs.declared.body.SaParts.{SaParts}

-- the transforms of a Group SA policy are the octets from where they start
module _ (p : Place) (s : List ℕ) (b : SaBody) (r : SaParts) (f : SaPartsAre p s b r) where
  pub transforms-start : r.transforms ≤ length s
  transforms-start = omega (arith, f.then, f.inside)

  pub transforms-are : Transforms (cut s r.transforms) b.suite.transforms (drop r.attributes s)
  transforms-are =
      subst (λ (y : List ℕ). Transforms y b.suite.transforms (drop r.attributes s)) (sym (to_end s r.transforms)) f.transforms

-- a policy starts here
pub starts : (g : List ℕ) (at : ℕ) → at < length g → is_whole (policies 0 (drop at g)) ≡ true
    → (0 < length (cut g at)) × (is_whole (policies 0 (cut g at)) ≡ true)
starts g at h e = (
  omega (arith, ap length (to_end g at), length-drop at g),
  subst (λ (y : List ℕ). is_whole (policies 0 y) ≡ true) (sym (to_end g at)) e,
)

module _ (g : List ℕ) (at : ℕ) (r : Parts) (f : PolicyIs (cut g at) r) where
  is : PolicyIs (drop at g) r
  is = subst (λ (y : List ℕ). PolicyIs y r) (to_end g at) f

  pub ends : (4 ≤ r.body) × (r.body ≤ r.end) × (at + r.end ≤ length g)
  ends =
      let h = is.head in
      (h.some, h.order, omega (arith, h.some, h.order, h.inside, length-drop at g))

  after : drop r.end (drop at g) ≡ drop (at + r.end) g
  after = drop-drop r.end at g

  pub rest : is_whole (policies 0 (drop (at + r.end) g)) ≡ true
  rest = subst (λ (y : List ℕ). is_whole (policies 0 y) ≡ true) after is.rest
