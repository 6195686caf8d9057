-- The SA that a policy announces, made of octets behind which others stand.
use native.Mathlib.Omega.{arith}
use Prim.Native.Nat.{ℕ, ◌+◌, ◌-◌, ◌≤◌}
use mathlib.Core.Path.{◌≡◌, ap, sym, ◌∙◌}
use mathlib.Core.Bool.{true, false}
use mathlib.Core.List.{List}
use borrow.Author.Tests.{eq-eqb, ne_eqb}
use lib.ListN.{length, take}
use lib.Seq.{length-take-le}
use Rattle.octets.specs.Walk.{part}
use Rattle.state_keys.specs.Algorithms.{is_encryption_size}
use Rattle.state_keys.specs.Kinds.{esp_of, esp_key, rekey_of, rekey_key, rekey_sizes}
use Rattle.state_keys.specs.declared.kinds.EspKey.{EspKey}
use Rattle.state_keys.specs.declared.kinds.RekeyKey.{RekeyKey}
use Rattle.state_keys.proofs.Sizes.{encryption-le, rekey-le}
use Rattle.state_keys.proofs.Made.{esp-made, rekey-made}
use Rattle.wire_policies.specs.Policy.{GroupSaPolicy}
use Rattle.state_sa.specs.Entry.{esp_sa, rekey_sa}
use Rattle.state_sa.specs.declared.entry.Lifetime.{Lifetime}
use Rattle.state_sa.specs.declared.entry.Sa.{Sa}
use Rattle.rules_refusals.specs.Fitness.{is_esp, encryption_octets, key_wrap_octets}
use Rattle.rules_outcome.specs.After.{lifetime_from, sa_from}
use Rattle.unwrap_sas.specs.inner.Policies.{PolicyGives}
use Rattle.std.specs.Prelude.{Option, Some, is_some, IsSome}
use Rattle.std.proofs.lemmas.Option.{same_Some}

module _ (tick : ℕ) (a : GroupSaPolicy) (x : List ℕ) where
  of-esp : is_esp a ≡ true → sa_from tick a x ≡ esp_sa a.spi (esp_of x) (lifetime_from tick a.key_lifetimes)
  unfolding sa_from
  of-esp e = rw e

  of-rekey : is_esp a ≡ false →
      sa_from tick a x ≡ rekey_sa a.spi (rekey_of x (encryption_octets a) (key_wrap_octets a)) (lifetime_from tick a.key_lifetimes)
  unfolding sa_from
  of-rekey e = rw e

module _ (octets : List ℕ) (long : length octets ≡ 68) where
  first : (n : ℕ) → part octets 0 n ≡ take n octets
  first n = let m : n - 0 ≡ n = omega arith in ap (λ (i : ℕ). take i octets) m

  -- ---- ESP: the first e octets
  module _ (e : ℕ) (fit : is_encryption_size e ≡ true) where
    pub esp-inside : e ≤ length octets
    esp-inside = let h = encryption-le e fit in omega arith

    esp-is : esp_key (part octets 0 e) ≡ Some (esp_of (take e octets))
    esp-is = ap esp_key (first e) ∙ esp-made (take e octets) (ap is_encryption_size (length-take-le e octets esp-inside) ∙ fit)

    pub esp-stands : (k : Option EspKey) → k ≡ esp_key (part octets 0 e) → IsSome k
    esp-stands k q = ap is_some (q ∙ esp-is)

    module _ (k : EspKey) (is : esp_key (part octets 0 e) ≡ Some k) where
      esp-key : k ≡ esp_of (take e octets)
      esp-key = same_Some k (esp_of (take e octets)) (sym is ∙ esp-is)

      pub esp-small : k.count ≤ 36
      esp-small =
          let h = encryption-le e fit in
          let n : k.count ≡ e = ap (λ (m : EspKey). m.count) esp-key ∙ length-take-le e octets esp-inside in
          omega arith

      pub esp-from : (t : Lifetime) (tick : ℕ) (a : GroupSaPolicy) (p : ℕ) (x : List ℕ) (w : ℕ) (r : Sa) → r ≡ esp_sa x k t →
          p ≡ 3 → w ≡ 0 → PolicyGives p x e w t tick a → r ≡ sa_from tick a (take (e + w) octets)
      esp-from t tick a p x w r made q z h =
          let n : e ≡ e + w = omega arith in
          let o = esp-key ∙ ap (λ (m : ℕ). esp_of (take m octets)) n in
          made ∙ (λ i. esp_sa (sym h.spi-is i) (o i) (sym h.lifetime-is i))
          ∙ sym (of-esp tick a (take (e + w) octets) (eq-eqb a.protocol 3 (h.protocol-is ∙ q)))

  -- ---- a Rekey SA: the first e + w octets, cut after e
  module _ (e w : ℕ) (fit : rekey_sizes e w ≡ true) where
    pub rekey-inside : e + w ≤ length octets
    rekey-inside = let h = rekey-le e w fit in omega arith

    rekey-is : rekey_key (part octets 0 (e + w)) e w ≡ Some (rekey_of (take (e + w) octets) e w)
    rekey-is =
        ap (λ (x : List ℕ). rekey_key x e w) (first (e + w))
        ∙ rekey-made (take (e + w) octets) e w fit (length-take-le (e + w) octets rekey-inside)

    pub rekey-stands : (k : Option RekeyKey) → k ≡ rekey_key (part octets 0 (e + w)) e w → IsSome k
    rekey-stands k q = ap is_some (q ∙ rekey-is)

    module _ (k : RekeyKey) (is : rekey_key (part octets 0 (e + w)) e w ≡ Some k) where
      rekey-key : k ≡ rekey_of (take (e + w) octets) e w
      rekey-key = same_Some k (rekey_of (take (e + w) octets) e w) (sym is ∙ rekey-is)

      pub rekey-small : rekey_sizes k.encryption k.wrapping ≡ true
      rekey-small = ap (λ (m : RekeyKey). rekey_sizes m.encryption m.wrapping) rekey-key ∙ fit

      pub rekey-from : (t : Lifetime) (tick : ℕ) (a : GroupSaPolicy) (p : ℕ) (x : List ℕ) (r : Sa) → r ≡ rekey_sa x k t →
          (p ≡ 3 → ⊥) → PolicyGives p x e w t tick a → r ≡ sa_from tick a (take (e + w) octets)
      rekey-from t tick a p x r made q h =
          let y : List ℕ = take (e + w) octets in
          let o = rekey-key ∙ (λ i. rekey_of y (sym h.encryption-is i) (sym h.wrapping-is i)) in
          made ∙ (λ i. rekey_sa (sym h.spi-is i) (o i) (sym h.lifetime-is i))
          ∙ sym (of-rekey tick a y (ne_eqb a.protocol 3 (λ z. q (sym h.protocol-is ∙ z))))
