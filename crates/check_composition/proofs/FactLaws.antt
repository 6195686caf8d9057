-- The walk over the policies of a GSA body.
use Prim.Native.Nat.{ℕ, ◌+◌, ◌-◌, ◌≤◌}
use mathlib.Core.Path.{◌≡◌, ap, sym, ◌∙◌, subst}
use mathlib.Core.List.{List, [], ◌∷◌, flat_map}
use mathlib.Core.Bool.{Bool, true, false, cond, or-false}
use native.Mathlib.Omega.{arith}
use borrow.Author.Tests.{eqb-true, eqb-false}
use lib.ListN.{length, take, drop}
use lib.Seq.{drop-drop}
use lib.Dec.{eqb}
use Rattle.octets.specs.Walk.{part}
use Rattle.lists.specs.Lists.{any, count}
use Rattle.lists.proofs.Cases.{bool_cases}
use Rattle.wire_attributes.specs.Place.{in_policy}
use Rattle.wire_attributes.specs.Layout.{attributes}
use Rattle.wire_attributes.specs.declared.tables.Place.TheVariants as place
use Rattle.wire_policies.specs.Policy.{Policy, group_sa, group_wide, GroupWidePolicy, group_sa_of, group_wide_of, head_spi, policies}
use Rattle.wire_policies.specs.Grammar.{IsSaBody}
use Rattle.wire_readers.specs.inner.Values.{is_whole, attributes_in}
use Rattle.wire_readers.specs.inner.Policies.{policies_in}
use Rattle.wire_readers.specs.declared.policy.Parts.{Parts}
use Rattle.rules_refusals.specs.Contents.{group_sa_in, wide_of}
use Rattle.rules_refusals.specs.Fitness.{is_esp, is_rekey}
use Rattle.rules_refusals.proofs.OneOf.{or-joined}
use Rattle.check_suites.specs.inner.Adding.{once}
use Rattle.check_composition.specs.inner.Facts.{given_by, of_sa, of_policy, sa_with, PolicyFactsAtMost, PolicyBodyHolds, FactsOfPolicy}
use Rattle.check_composition.specs.inner.Facts.{no_policies, merge_policy_facts, policy_facts_of}
use Rattle.check_composition.specs.inner.Numbers.{greatest}
use Rattle.check_composition.specs.declared.PolicyFacts.{PolicyFacts}
use Rattle.check_composition.proofs.NumberLaws.{greater-none, none-greater, greater-joined, greatest-join}
use Rattle.check_composition.proofs.WalkLaws.{PolicyAt, no-policy}

-- ---- facts add up
from-none : (f : PolicyFacts) → merge_policy_facts no_policies f ≡ f
from-none f =
    let s : 0 + f.sas ≡ f.sas = omega arith in
    let e : 0 + f.esps ≡ f.esps = omega arith in
    let r : 0 + f.rekeys ≡ f.rekeys = omega arith in
    let w : 0 + f.wides ≡ f.wides = omega arith in
    λ i. record {
      sas = s i;
      esps = e i;
      rekeys = r i;
      wides = w i;
      ah = f.ah;
      two_lengths = f.two_lengths;
      two_message_ids = f.two_message_ids;
      two_delays = f.two_delays;
      two_lifetimes = f.two_lifetimes;
      elsewhere = f.elsewhere;
      long = f.long;
      unfit = f.unfit;
      delay = none-greater f.delay i;
      initial = none-greater f.initial i;
    }

none_left : (a : Bool) (f : PolicyFacts) → merge_policy_facts f (policy_facts_of a []) ≡ f
unfolding any count flat_map greatest
none_left a f =
    let s : f.sas + 0 ≡ f.sas = omega arith in
    let e : f.esps + 0 ≡ f.esps = omega arith in
    let r : f.rekeys + 0 ≡ f.rekeys = omega arith in
    let w : f.wides + 0 ≡ f.wides = omega arith in
    λ i. record {
      sas = s i;
      esps = e i;
      rekeys = r i;
      wides = w i;
      ah = or-false f.ah i;
      two_lengths = or-false f.two_lengths i;
      two_message_ids = or-false f.two_message_ids i;
      two_delays = or-false f.two_delays i;
      two_lifetimes = or-false f.two_lifetimes i;
      elsewhere = or-false f.elsewhere i;
      long = or-false f.long i;
      unfit = or-false f.unfit i;
      delay = greater-none f.delay i;
      initial = greater-none f.initial i;
    }

joined : (a b c : PolicyFacts) → merge_policy_facts a (merge_policy_facts b c) ≡ merge_policy_facts (merge_policy_facts a b) c
joined a b c =
    let s : a.sas + (b.sas + c.sas) ≡ a.sas + b.sas + c.sas = omega arith in
    let e : a.esps + (b.esps + c.esps) ≡ a.esps + b.esps + c.esps = omega arith in
    let r : a.rekeys + (b.rekeys + c.rekeys) ≡ a.rekeys + b.rekeys + c.rekeys = omega arith in
    let w : a.wides + (b.wides + c.wides) ≡ a.wides + b.wides + c.wides = omega arith in
    λ i. record {
      sas = s i;
      esps = e i;
      rekeys = r i;
      wides = w i;
      ah = or-joined a.ah b.ah c.ah i;
      two_lengths = or-joined a.two_lengths b.two_lengths c.two_lengths i;
      two_message_ids = or-joined a.two_message_ids b.two_message_ids c.two_message_ids i;
      two_delays = or-joined a.two_delays b.two_delays c.two_delays i;
      two_lifetimes = or-joined a.two_lifetimes b.two_lifetimes c.two_lifetimes i;
      elsewhere = or-joined a.elsewhere b.elsewhere c.elsewhere i;
      long = or-joined a.long b.long c.long i;
      unfit = or-joined a.unfit b.unfit c.unfit i;
      delay = greater-joined a.delay b.delay c.delay i;
      initial = greater-joined a.initial b.initial c.initial i;
    }

counted : (b : Bool) (n : ℕ) → cond b (n + 1) n ≡ once b + n
counted true n = omega arith
counted false n = omega arith

-- the first policy, and the others
one_more : (a : Bool) (p : Policy) (l : List Policy) → policy_facts_of a (p ∷ l) ≡ merge_policy_facts (of_policy a p) (policy_facts_of a l)
unfolding any count flat_map
one_more a (group_sa p) l =
    let f = policy_facts_of a (group_sa p ∷ l) in
    let s : length (flat_map group_sa_in (group_sa p ∷ l)) ≡ 1 + length (flat_map group_sa_in l) = omega arith in
    let w : length (flat_map wide_of l) ≡ 0 + length (flat_map wide_of l) = omega arith in
    λ i. record {
      sas = s i;
      esps = counted (is_esp p) (count is_esp (flat_map group_sa_in l)) i;
      rekeys = counted (is_rekey p) (count is_rekey (flat_map group_sa_in l)) i;
      wides = w i;
      ah = f.ah;
      two_lengths = f.two_lengths;
      two_message_ids = f.two_message_ids;
      two_delays = f.two_delays;
      two_lifetimes = f.two_lifetimes;
      elsewhere = f.elsewhere;
      long = f.long;
      unfit = f.unfit;
      delay = sym (none-greater f.delay) i;
      initial = greatest-join (given_by p) (flat_map given_by (flat_map group_sa_in l)) i;
    }
one_more a (group_wide w) l =
    let f = policy_facts_of a (group_wide w ∷ l) in
    let s : length (flat_map group_sa_in l) ≡ 0 + length (flat_map group_sa_in l) = omega arith in
    let e : count is_esp (flat_map group_sa_in l) ≡ 0 + count is_esp (flat_map group_sa_in l) = omega arith in
    let r : count is_rekey (flat_map group_sa_in l) ≡ 0 + count is_rekey (flat_map group_sa_in l) = omega arith in
    let v : length (flat_map wide_of (group_wide w ∷ l)) ≡ 1 + length (flat_map wide_of l) = omega arith in
    λ i. record {
      sas = s i;
      esps = e i;
      rekeys = r i;
      wides = v i;
      ah = f.ah;
      two_lengths = f.two_lengths;
      two_message_ids = f.two_message_ids;
      two_delays = f.two_delays;
      two_lifetimes = f.two_lifetimes;
      elsewhere = f.elsewhere;
      long = f.long;
      unfit = f.unfit;
      delay = greatest-join w.deactivation_delays (flat_map (λ (x : GroupWidePolicy). x.deactivation_delays) (flat_map wide_of l)) i;
      initial = sym (none-greater f.initial) i;
    }

at_most : (n m k : ℕ) (f o g : PolicyFacts) → g ≡ merge_policy_facts f o → PolicyFactsAtMost n f → PolicyFactsAtMost m o → n + m ≤ k →
    PolicyFactsAtMost k g
at_most n m k f o g q x y h = record {
  sas = omega (arith, ap (λ (z : PolicyFacts). z.sas) q, x.sas, y.sas);
  esps = omega (arith, ap (λ (z : PolicyFacts). z.esps) q, x.esps, y.esps);
  rekeys = omega (arith, ap (λ (z : PolicyFacts). z.rekeys) q, x.rekeys, y.rekeys);
  wides = omega (arith, ap (λ (z : PolicyFacts). z.wides) q, x.wides, y.wides);
}

-- ---- one policy
module _ (s : List ℕ) (at : ℕ) (r : Parts) (q : PolicyAt s at r) where
  abbrev body : List ℕ
  body = part s (at + r.body) (at + r.end)

  body_is : part (drop at s) r.body r.end ≡ body
  body_is =
      let n : r.end - r.body ≡ at + r.end - (at + r.body) = omega (arith, q.is.head.order) in
      λ i. take (n i) (drop-drop r.body at s i)

  pub holds-one : PolicyBodyHolds r.first body
  holds-one = record {
    wide = λ z. ap (λ (y : List ℕ). is_whole (attributes place.GroupWidePolicy 0 y)) (sym body_is) ∙ (q.is.wide z).held;
    sa = λ z.
        let f = q.is.sa z in
        (f.body, subst (λ (y : List ℕ). IsSaBody (in_policy r.first) y f.body) body_is f.is);
  }

  abbrev After : List Policy
  After = policies_in (drop (at + r.end) s)

  item_of : (a : Bool) (o : PolicyFacts) → FactsOfPolicy a r.first body o
      → (p : Policy) × (policies_in (drop at s) ≡ p ∷ After) × (o ≡ of_policy a p)
  unfolding holds-one
  item_of a o h =
      bool_cases (eqb r.first 0)
      (λ e.
      let z = eqb-true r.first 0 e in
      let w = q.is.wide z in (
        group_wide_of (attributes_in place.GroupWidePolicy body),
        w.item ∙ (λ i. group_wide_of (attributes_in place.GroupWidePolicy (body_is i)) ∷ policies_in (q.next i)),
        h.wide z,
      ))
      (λ e.
      let z = eqb-false r.first 0 e in
      let f = q.is.sa z in
      let x = head_spi (drop at s) in (
        group_sa_of (drop at s) f.body,
        f.item ∙ ap (λ (y : List ℕ). group_sa_of (drop at s) f.body ∷ policies_in y) q.next,
        h.sa z f.body x (holds-one.sa z).1 ∙ ap (λ (n : ℕ). of_sa a (sa_with n x f.body)) q.is.head.first,
      ))

-- ---- the walk: where it stands at a place
module _ (a : Bool) (g : List ℕ) where
  pub record PolicyWalk (f : PolicyFacts) (at : ℕ) : Type 0 where
    pub few : PolicyFactsAtMost at f
    pub inside : at ≤ length g
    pub rest : is_whole (policies 0 (drop at g)) ≡ true
    pub so_far : merge_policy_facts f (policy_facts_of a (policies_in (drop at g))) ≡ policy_facts_of a (policies_in g)

  module _ (f : PolicyFacts) (at : ℕ) (w : PolicyWalk f at) where
    pub policies-end : length g ≤ at → f ≡ policy_facts_of a (policies_in g)
    policies-end h =
        sym (none_left a f) ∙ ap (λ (l : List Policy). merge_policy_facts f (policy_facts_of a l)) (sym (no-policy g at h)) ∙ w.so_far

    module _ (r : Parts) (q : PolicyAt g at r) (o : PolicyFacts) (h : FactsOfPolicy a r.first (body g at r q) o) where
      pub policies-next : (n : PolicyFacts) → n ≡ merge_policy_facts f o → PolicyWalk n (at + r.end)
      policies-next n e =
          let i = item_of g at r q a o h in
          let after = policy_facts_of a (After g at r q) in
          record {
            few = at_most at 1 (at + r.end) f o n e w.few h.few (omega (arith, q.some));
            inside = q.inside;
            rest = q.rest;
            so_far =
                ap (λ (x : PolicyFacts). merge_policy_facts x after) e ∙ sym (joined f o after)
                ∙ ap (λ (x : PolicyFacts). merge_policy_facts f (merge_policy_facts x after)) i.2
                ∙ ap (merge_policy_facts f) (sym (one_more a i.0 (After g at r q)))
                ∙ ap (λ (l : List Policy). merge_policy_facts f (policy_facts_of a l)) (sym i.1) ∙ w.so_far;
          }
