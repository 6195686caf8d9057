-- One policy, and the others, where a loop over them stands.
use Prim.Native.Nat.{ℕ, ◌+◌, ◌≤◌}
use mathlib.Core.Path.{◌≡◌, ap, subst}
use mathlib.Core.List.{List, []}
use mathlib.Core.Bool.{true}
use native.Mathlib.Omega.{arith}
use lib.ListN.{length, drop, length-drop}
use lib.Seq.{drop-drop}
use Rattle.octets.specs.Walk.{Reader, many}
use Rattle.octets.proofs.Walks.{Takes, tail, to_end, many-none}
use Rattle.wire_policies.specs.Policy.{policy, policies}
use Rattle.wire_policies.proofs.PolicyLaws.{takes as policy-takes}
use Rattle.wire_readers.specs.inner.Values.{is_whole, items_of}
use Rattle.wire_readers.specs.inner.Policies.{policies_in, PolicyIs}
use Rattle.wire_readers.specs.declared.policy.Parts.{Parts}

-- WHAT A LOOP ASKS before it reads the next one, and at the end
module _ {A : Type 0} (p : Reader A) (takes : (b : ℕ) (s : List ℕ) → Takes s (p b s)) (s : List ℕ) (at : ℕ) where
  none-there : length s ≤ at → items_of (many p 0 (drop at s)) ≡ []
  none-there h = ap items_of (many-none p takes 0 (drop at s) (omega (arith, length-drop at s)))

module _ (s : List ℕ) (at : ℕ) where
  pub no-policy : length s ≤ at → policies_in (drop at s) ≡ []
  no-policy h = none-there policy policy-takes s at h

-- ONE OF THEM
pub record PolicyAt (s : List ℕ) (at : ℕ) (r : Parts) : Type 0 where
  pub is : PolicyIs (drop at s) r
  pub some : 4 ≤ r.end
  pub inside : at + r.end ≤ length s
  pub next : drop r.end (drop at s) ≡ drop (at + r.end) s
  pub rest : is_whole (policies 0 (drop (at + r.end) s)) ≡ true

pub policy-at : (s : List ℕ) (at : ℕ) (r : Parts) → at ≤ length s → PolicyIs (tail s at) r → PolicyAt s at r
policy-at s at r h f =
    let g : PolicyIs (drop at s) r = subst (λ (l : List ℕ). PolicyIs l r) (to_end s at) f in
    let d = drop-drop r.end at s in
    record {
      is = g;
      some = omega (arith, g.head.some, g.head.order);
      inside = omega (arith, g.head.some, g.head.order, g.head.inside, length-drop at s);
      next = d;
      rest = subst (λ (l : List ℕ). is_whole (policies 0 l) ≡ true) d g.rest;
    }
