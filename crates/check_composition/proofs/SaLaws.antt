-- The facts of one policy, by the parts that the code reads.
use Prim.Native.Nat.{ℕ, ◌≤◌}
use mathlib.Core.Path.{◌≡◌, ap, sym, ◌∙◌}
use mathlib.Core.List.{List, [], map}
use mathlib.Core.Bool.{Bool, true, false, not, cond, ◌&&◌}
use native.Mathlib.Omega.{arith}
use lib.Dec.{ltb, eqb}
use lib.ListN.{length, length-map}
use Rattle.octets.proofs.Walks.{tail, to_end}
use Rattle.wire_attributes.specs.Place.{in_policy}
use Rattle.wire_attributes.specs.Tree.{number16, number32, values_of}
use Rattle.wire_attributes.specs.Layout.{attributes}
use Rattle.wire_attributes.specs.declared.tables.Place.{Place}
use Rattle.wire_attributes.specs.declared.tables.Place.TheVariants as place
use Rattle.wire_attributes.specs.declared.tables.Meaning.{Meaning}
use Rattle.wire_attributes.specs.declared.tables.Meaning.TheVariants as meaning
use Rattle.wire_policies.specs.Policy.{SaBody}
use Rattle.wire_policies.specs.Grammar.{IsSaBody}
use Rattle.wire_readers.specs.inner.Values.{is_whole, values_in}
use Rattle.wire_readers.specs.inner.Bodies.{SaPartsAre}
use Rattle.wire_readers.specs.declared.body.SaParts.{SaParts}
use Rattle.state_sa.specs.Entry.{most_seconds}
use Rattle.rules_refusals.specs.Fitness.{one_group_address}
use Rattle.rules_refusals.specs.Number4.{twice_in_transform}
use Rattle.rules_refusals.proofs.FlatMap.{any-count}
use Rattle.check_suites.specs.inner.Adding.{once}
use Rattle.check_suites.specs.inner.Suites.{suite_of, fit_by}
use Rattle.check_suites.specs.declared.counts.SuiteCounts.{SuiteCounts}
use Rattle.check_suites.proofs.TestLaws.{fits}
use Rattle.check_composition.specs.inner.Facts.{of_sa, sa_with, wide_by, FactsOfPolicy}
use Rattle.check_composition.specs.inner.Numbers.{greatest, numbers_by}
use Rattle.check_composition.specs.declared.numbers.Numbers.{Numbers}
use Rattle.check_composition.specs.declared.PolicyFacts.{PolicyFacts}
use Rattle.check_composition.proofs.NumberLaws.{greatest-if, over-greatest}

-- ---- a Group SA policy
module _ (protocol : ℕ) (o : List ℕ) (x : SaBody) (r : SaParts) (f : SaPartsAre (in_policy protocol) o x r) where
  module _ (p : Place) (pq : p ≡ in_policy protocol) where
    pub attributes-whole : is_whole (attributes p 0 (tail o r.attributes)) ≡ true
    attributes-whole = (λ i. is_whole (attributes (pq i) 0 (to_end o r.attributes i))) ∙ f.held

    -- the first Message IDs and the lifetimes, by what the code reads of them
    abbrev values : Meaning → List (List ℕ)
    values m = values_of m (in_policy protocol) x.suite.attributes

    values-are : (m : Meaning) → values_in m p (tail o r.attributes) ≡ values m
    values-are m = (λ i. values_in m (pq i) (to_end o r.attributes i)) ∙ ap (values_of m (in_policy protocol)) f.attributes

    abbrev Numbered : Meaning → Numbers → Type 0
    Numbered m n = n ≡ numbers_by m (values_in m p (tail o r.attributes))

    abbrev fours : List (List ℕ) → Numbers
    fours l = record { count = length (map number32 l); greatest = greatest (map number32 l) }

    counted : (l : List (List ℕ)) → ◌≡◌ {A = Numbers} (record { count = length l; greatest = greatest (map number32 l) }) (fours l)
    counted l = λ i. record { count = sym (length-map l number32) i; greatest = greatest (map number32 l) }

    ids-are : (n : Numbers) → Numbered meaning.InitialMessageId n → n ≡ fours (values meaning.InitialMessageId)
    ids-are n nq =
        nq ∙ ap (numbers_by meaning.InitialMessageId) (values-are meaning.InitialMessageId)
        ∙ counted (values meaning.InitialMessageId)

    pub lifetimes-are : (n : Numbers) → Numbered meaning.KeyLifetime n → n ≡ fours (values meaning.KeyLifetime)
    lifetimes-are n nq = nq ∙ ap (numbers_by meaning.KeyLifetime) (values-are meaning.KeyLifetime) ∙ counted (values meaning.KeyLifetime)

    pub of-sa-is : (a : Bool) (spi : List ℕ) (u : SuiteCounts) → u ≡ suite_of x.suite.transforms
        → (n : Numbers) → Numbered meaning.InitialMessageId n → (m : Numbers) → Numbered meaning.KeyLifetime m
        → (g : Bool) → g ≡ one_group_address x.destination → (t : Bool) → t ≡ fit_by a protocol u
        → (e k : ℕ) → e ≡ once (eqb protocol 3) → k ≡ once (eqb protocol 6) → (h : ℕ) → h ≡ cond (eqb protocol 6) n.greatest 0
        → ◌≡◌ {A = PolicyFacts} (record {
          sas = 1;
          esps = e;
          rekeys = k;
          wides = 0;
          ah = eqb protocol 2;
          two_lengths = ltb 0 u.doubled;
          two_message_ids = ltb 1 n.count;
          two_delays = false;
          two_lifetimes = ltb 1 m.count;
          elsewhere = eqb protocol 6 && not g;
          long = ltb most_seconds m.greatest;
          unfit = not t;
          delay = 0;
          initial = h;
        }) (of_sa a (sa_with protocol spi x))
    of-sa-is a spi u uq n nq m mq g gq t tq e k eq kq h hq =
        let l = ap (λ (s : SuiteCounts). ltb 0 s.doubled) uq ∙ sym (any-count twice_in_transform x.suite.transforms) in
        let w = tq ∙ ap (fit_by a protocol) uq ∙ fits (sa_with protocol spi x) a in
        let v = ids-are n nq in
        let z = lifetimes-are m mq in
        let y =
        hq ∙ ap (λ (z : Numbers). cond (eqb protocol 6) z.greatest 0) v
        ∙ greatest-if (eqb protocol 6) (map number32 (values meaning.InitialMessageId)) in
        let over =
        ap (λ (t : Numbers). ltb most_seconds t.greatest) z ∙ over-greatest most_seconds (map number32 (values meaning.KeyLifetime)) in
        λ i. record {
          sas = 1;
          esps = eq i;
          rekeys = kq i;
          wides = 0;
          ah = eqb protocol 2;
          two_lengths = l i;
          two_message_ids = ltb 1 (v i).count;
          two_delays = false;
          two_lifetimes = ltb 1 (z i).count;
          elsewhere = eqb protocol 6 && not (gq i);
          long = over i;
          unfit = not (w i);
          delay = 0;
          initial = y i;
        }

-- ---- either, by the first octet
once-few : (b : Bool) → once b ≤ 1
once-few true = omega arith
once-few false = omega arith

module _ (a : Bool) (first : ℕ) (o : List ℕ) (r : PolicyFacts) where
  pub wide-one : first ≡ 0 → (n : Numbers)
      → n ≡ numbers_by meaning.DeactivationDelay (values_in meaning.DeactivationDelay place.GroupWidePolicy o) → r ≡ wide_by n
      → FactsOfPolicy a first o r
  wide-one z n nq q =
      let l = values_in meaning.DeactivationDelay place.GroupWidePolicy o in
      let m : n ≡ record { count = length (map number16 l); greatest = greatest (map number16 l) } =
      nq ∙ (λ i. record { count = sym (length-map l number16) i; greatest = greatest (map number16 l) }) in
      record {
        wide = λ y. q ∙ ap wide_by m;
        sa = λ y. absurd (y z);
        few = record {
          sas = omega (arith, ap (λ (x : PolicyFacts). x.sas) q);
          esps = omega (arith, ap (λ (x : PolicyFacts). x.esps) q);
          rekeys = omega (arith, ap (λ (x : PolicyFacts). x.rekeys) q);
          wides = omega (arith, ap (λ (x : PolicyFacts). x.wides) q);
        };
      }

  pub sa-one : (first ≡ 0 → ⊥) → (x : SaBody) → IsSaBody (in_policy first) o x
      → ((x : SaBody) (spi : List ℕ) → IsSaBody (in_policy first) o x → r ≡ of_sa a (sa_with first spi x)) → FactsOfPolicy a first o r
  sa-one z x i h =
      let q = h x [] i in
      record {
        wide = λ y. absurd (z y);
        sa = λ y. h;
        few = record {
          sas = omega (arith, ap (λ (x : PolicyFacts). x.sas) q);
          esps = omega (arith, ap (λ (x : PolicyFacts). x.esps) q, once-few (eqb first 3));
          rekeys = omega (arith, ap (λ (x : PolicyFacts). x.rekeys) q, once-few (eqb first 6));
          wides = omega (arith, ap (λ (x : PolicyFacts). x.wides) q);
        };
      }
