-- The needs and the lifetime of an announced policy.
use native.Mathlib.Omega.{arith}
use Prim.Native.Nat.{ℕ, ◌+◌, ◌≤◌}
use mathlib.Core.Path.{◌≡◌, ap, sym, ◌∙◌}
use mathlib.Core.Bool.{Bool, false}
use mathlib.Core.List.{List, flat_map}
use borrow.Author.Tests.{eq-eqb, ne_eqb, eqb-true, eqb-false}
use lib.Dec.{eqb}
use Rattle.lists.specs.Lists.{count}
use Rattle.state_keys.specs.Algorithms.{is_encryption_size}
use Rattle.state_keys.specs.Kinds.{rekey_sizes}
use Rattle.lists.proofs.Cases.{bool_cases}
use Rattle.state_keys.proofs.Sizes.{encryption-le, rekey-le}
use Rattle.wire_attributes.specs.Place.{in_policy}
use Rattle.wire_policies.specs.Policy.{spi_size, GroupSaPolicy, SaBody}
use Rattle.wire_policies.specs.Grammar.{IsSaBody}
use Rattle.wire_frames.specs.Frame.{Frame}
use Rattle.wire_readers.specs.inner.Bags.{bags_in}
use Rattle.state_sa.specs.declared.entry.Lifetime.{Lifetime}
use Rattle.rules_refusals.specs.Contents.{row_of, several, group_bag_of}
use Rattle.rules_refusals.specs.Fitness.{sum, encryption_needs, key_wrap_needs, encryption_octets, key_wrap_octets}
use Rattle.rules_refusals.specs.Number6.{bag_named}
use Rattle.check_suites.specs.inner.Suites.{needs_of}
use Rattle.check_suites.specs.declared.counts.Needs.{Needs}
use Rattle.rules_outcome.specs.Roots.{need_of}
use Rattle.rules_outcome.specs.After.{lifetime_from}
use Rattle.rules_outcome.proofs.RunsNeeds.{esp-sizes, rekey-sizes}
use Rattle.unwrap_sas.specs.inner.Policies.{Sized, PolicyGives, lifetimes_of, Announces}

-- parts of these sizes have 68 octets at most
pub few-octets : (p : ℕ) (x : List ℕ) (e w : ℕ) → Sized p x e w → e + w ≤ 68
few-octets p x e w s =
    bool_cases (eqb p 3)
    (λ g. let z = s.esp (eqb-true p 3 g) in let h = encryption-le e z.1 in let o = z.2 in omega arith)
    (λ g. let z = s.rekey (eqb-false p 3 g) in let h = rekey-le e w z.1 in omega arith)

module _ (reads : Bool) (k : List ℕ) (p : ℕ) (x y : List ℕ) (f : Frame) (a : GroupSaPolicy) (h : Announces reads k p x y f a) where
  pub one-bag : count (bag_named p x) (flat_map group_bag_of (bags_in reads k)) ≡ 1
  one-bag = (λ i. count (bag_named (sym h.protocol-is i) (sym h.spi-is i)) (flat_map group_bag_of (sym h.bags i))) ∙ h.paired

  -- its lifetime is read from what it holds after its SPI
  pub lifetime-there : (b : SaBody) × IsSaBody (in_policy p) y b × (several (lifetimes_of p b) ≡ false)
  lifetime-there = (h.body, h.is, ap (λ (l : List ℕ). several l) (sym h.lifetimes) ∙ h.lasting)

  pub lifetime-of : (t : Lifetime) (tick : ℕ) → ((b : SaBody) → IsSaBody (in_policy p) y b → t ≡ lifetime_from tick (lifetimes_of p b)) →
      lifetime_from tick a.key_lifetimes ≡ t
  lifetime-of t tick is = ap (lifetime_from tick) h.lifetimes ∙ sym (is h.body h.is)

  module _ (n : Needs) (is : n ≡ needs_of h.body.suite.transforms) where
    encryption-of : encryption_octets a ≡ n.encryption
    unfolding encryption_octets
    encryption-of = ap (sum encryption_needs) h.transforms ∙ ap (λ (m : Needs). m.encryption) (sym is)

    wrapping-of : key_wrap_octets a ≡ n.wrapping
    unfolding key_wrap_octets
    wrapping-of = ap (sum key_wrap_needs) h.transforms ∙ ap (λ (m : Needs). m.wrapping) (sym is)

    pub named-with : (t : Lifetime) (tick : ℕ) → lifetime_from tick a.key_lifetimes ≡ t →
        PolicyGives p x n.encryption n.wrapping t tick a
    named-with t tick l = record {
      protocol-is = h.protocol-is;
      spi-is = h.spi-is;
      encryption-is = encryption-of;
      wrapping-is = wrapping-of;
      lifetime-is = l;
    }

    pub need-is : need_of a ≡ n.encryption + n.wrapping
    unfolding need_of
    need-is = λ i. encryption-of i + wrapping-of i

    pub sizes-are : Sized p x n.encryption n.wrapping
    sizes-are =
        let e = encryption-of in
        let w = wrapping-of in
        let q = h.protocol-is in
        record {
          esp = λ z.
              let t = esp-sizes (row_of f).authentication a h.fits h.once (eq-eqb a.protocol 3 (q ∙ z)) in
              (h.spi-size ∙ ap spi_size z, ap is_encryption_size (sym e) ∙ t.0, sym w ∙ t.1);
          rekey = λ z.
              let t = rekey-sizes (row_of f).authentication a h.fits h.once (ne_eqb a.protocol 3 (λ y. z (sym q ∙ y))) in
              let six : p ≡ 6 = sym q ∙ eqb-true a.protocol 6 t.0 in
              (h.spi-size ∙ ap spi_size six, (λ i. rekey_sizes (sym e i) (sym w i)) ∙ t.1);
        }
