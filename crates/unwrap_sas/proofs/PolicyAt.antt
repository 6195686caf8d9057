-- The first policy from a place of a GSA body on, and the others.
use native.Mathlib.Omega.{arith}
use Prim.Native.Nat.{ℕ, ◌+◌, ◌<◌, ◌≤◌}
use mathlib.Core.Path.{◌≡◌, refl, ap, sym, ◌∙◌, subst}
use mathlib.Core.Bool.{true}
use mathlib.Core.List.{List, [], ◌∷◌, flat_map}
use lib.ListN.{length, drop, length-drop}
use lib.Seq.{drop-drop, get_or-drop}
use Rattle.octets.specs.Numbers.{oct}
use Rattle.octets.specs.Octets.{Octets}
use Rattle.octets.specs.Walk.{part, Reading}
use Rattle.wire_attributes.specs.Tree.{initial_message_ids, key_lifetimes}
use Rattle.octets.proofs.Walks.{tail, to_end, many-none, part_length}
use Rattle.wire_attributes.specs.Place.{in_policy}
use Rattle.wire_policies.specs.Policy.{spi_size, head_spi, GroupSaPolicy, Policy, SaBody, policy, policies}
use Rattle.wire_policies.specs.Grammar.{IsSaBody}
use Rattle.wire_policies.proofs.PolicyLaws.{takes}
use Rattle.wire_readers.specs.inner.Values.{is_whole, items_of}
use Rattle.wire_readers.specs.inner.Policies.{policies_in, PolicyIs}
use Rattle.wire_readers.specs.declared.policy.Parts.{Parts}
use Rattle.rules_refusals.specs.Contents.{group_sa_in}
use Rattle.check_bagkeys.proofs.BagAt.{part-within}
use Rattle.check_suites.proofs.PolicyLaws.{ends, rest}
use Rattle.unwrap_sas.specs.inner.Policies.{lifetimes_of, spi_at, body_at}

-- the SAs that the policies from a place on announce
abbrev pub sas_from : List ℕ → ℕ → List GroupSaPolicy
sas_from g at = flat_map group_sa_in (policies_in (drop at g))

pub no-more-sas : (g : List ℕ) (at : ℕ) → length g ≤ at → sas_from g at ≡ []
unfolding flat_map
no-more-sas g at h =
    ap (λ (x : Reading (List Policy)). flat_map group_sa_in (items_of x)) (many-none policy takes 0 (drop at g) (rw length-drop (omega arith)))

abbrev policy_of : List ℕ → SaBody → GroupSaPolicy
policy_of s x = record {
  protocol = oct s 0;
  spi = head_spi s;
  source = x.source;
  destination = x.destination;
  transforms = x.suite.transforms;
  initial_message_ids = initial_message_ids (in_policy (oct s 0)) x.suite.attributes;
  key_lifetimes = key_lifetimes (in_policy (oct s 0)) x.suite.attributes;
}

module _ (g : List ℕ) (at : ℕ) (r : Parts) where
  -- a Group SA policy: its name, and what it holds after its SPI
  pub record SaAt : Type 0 where
    pub sa : GroupSaPolicy
    pub protocol-is : sa.protocol ≡ r.first
    pub spi-is : sa.spi ≡ spi_at g at r
    pub spi-size : length (spi_at g at r) ≡ spi_size r.first
    pub body : SaBody
    pub is : IsSaBody (in_policy r.first) (body_at g at r) body
    pub transforms : sa.transforms ≡ body.suite.transforms
    pub lifetimes : sa.key_lifetimes ≡ lifetimes_of r.first body
    pub first : sas_from g at ≡ sa ∷ sas_from g (at + r.end)

  pub record PolicyAt : Type 0 where
    pub some : 4 ≤ r.body
    pub order : r.body ≤ r.end
    pub inside : at + r.end ≤ length g
    pub small : Octets g → length (body_at g at r) < 65536
    pub others : is_whole (policies 0 (drop (at + r.end) g)) ≡ true
    pub wide : r.first ≡ 0 → sas_from g at ≡ sas_from g (at + r.end)
    pub sa-at : (r.first ≡ 0 → ⊥) → SaAt

  module _ (k : PolicyIs (tail g at) r) where
    is : PolicyIs (drop at g) r
    is = subst (λ (y : List ℕ). PolicyIs y r) (to_end g at) k

    after : sas_from g (at + r.end) ≡ flat_map group_sa_in (policies_in (drop r.end (drop at g)))
    after = ap (λ (s : List ℕ). flat_map group_sa_in (policies_in s)) (sym (drop-drop r.end at g))

    sa-at : (r.first ≡ 0 → ⊥) → SaAt
    unfolding flat_map
    sa-at z =
        let w = is.sa z in
        let h = is.head in
        let e = ends g at r k in
        let a = policy_of (drop at g) w.body in
        let b : r.body ≡ 4 + spi_size r.first = h.body ∙ ap (λ (n : ℕ). 4 + spi_size n) (sym h.first) in
        let l = part_length g (at + 4) (at + r.body) (omega arith) (omega arith) in
        record {
          sa = a;
          protocol-is = sym h.first;
          spi-is = ap (part (drop at g) 4) (sym h.body) ∙ part-within g at 4 r.body;
          spi-size = l ∙ omega arith;
          body = w.body;
          is = subst (λ (y : List ℕ). IsSaBody (in_policy r.first) y w.body) (part-within g at r.body r.end) w.is;
          transforms = refl;
          lifetimes = ap (λ (n : ℕ). lifetimes_of n w.body) (sym h.first);
          first = ap (flat_map group_sa_in) w.item ∙ ap (λ (m : List GroupSaPolicy). a ∷ m) (sym after);
        }

    pub policy-at : PolicyAt
    unfolding flat_map
    policy-at =
        let h = is.head in
        let e = ends g at r k in
        let l = part_length g (at + r.body) (at + r.end) (omega arith) (omega arith) in
        let octet : Octets g → (i : ℕ) → oct (drop at g) i < 256 =
        λ o i. subst (λ (n : ℕ). n < 256) (sym (get_or-drop at g i 0)) (o (at + i)) in
        record {
          some = h.some;
          order = h.order;
          inside = e.2;
          small = λ o. let t = h.two_octets (octet o 2) (octet o 3) in omega arith;
          others = rest g at r k;
          wide = λ z. ap (flat_map group_sa_in) (is.wide z).item ∙ sym after;
          sa-at = sa-at;
        }
