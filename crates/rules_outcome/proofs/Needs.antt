-- "An ESP SA needs the first number, a Rekey SA the sum of both": each policy whose transforms are fit, by its Key Length and its key wrap
-- algorithm, with the octets that its SA needs and the two parts into which they are cut; the transforms stand in any order.
use Prim.Native.Nat.{ℕ}
use mathlib.Core.Path.{◌≡◌, refl}
use mathlib.Core.List.{List, [], ◌∷◌, map}
use Rattle.state_keys.specs.Algorithms.{needed_by, needed_in, is_row_of}
use Rattle.wire_policies.specs.Selector.{Selector}
use Rattle.wire_policies.specs.Transform.{Transform}
use Rattle.wire_policies.specs.Policy.{GroupSaPolicy}
use Rattle.rules_refusals.specs.Fitness.{sum, encryption_octets, key_wrap_octets}
use Rattle.rules_outcome.specs.Roots.{need_of}

abbrev encryption : ℕ → Transform
encryption bits = record { kind = 1; id = 20; key_lengths = bits ∷ [] }

abbrev other : ℕ → ℕ → Transform
other k i = record { kind = k; id = i; key_lengths = [] }

-- the transforms of an ESP policy, and of a Rekey policy with the key wrap algorithm i, in two orders each
abbrev suites : ℕ → List (List Transform)
suites bits = (encryption bits ∷ other 5 0 ∷ []) ∷ (other 5 2 ∷ encryption bits ∷ []) ∷ []

abbrev rekey_suites : ℕ → ℕ → List (List Transform)
rekey_suites bits i = (encryption bits ∷ other 13 i ∷ other 14 1 ∷ []) ∷ (other 14 2 ∷ other 13 i ∷ encryption bits ∷ []) ∷ []

-- what is needed, and its two parts
pub record Parted : Type 0 where
  pub need : ℕ
  pub first : ℕ
  pub second : ℕ

abbrev octets : ℕ → ℕ → ℕ → Parted
octets n a b = record { need = n; first = a; second = b }

-- whatever its SPI, its selectors, its GSA_INITIAL_MESSAGE_ID and its GSA_KEY_LIFETIME
module _ (spi : List ℕ) (from to : Selector) (ids seconds : List ℕ) where
  abbrev needed_of : ℕ → List Transform → Parted
  needed_of p l =
      let a : GroupSaPolicy = record {
        protocol = p;
        spi = spi;
        source = from;
        destination = to;
        transforms = l;
        initial_message_ids = ids;
        key_lifetimes = seconds;
      } in
      octets (need_of a) (encryption_octets a) (key_wrap_octets a)

  abbrev Need : ℕ → List (List Transform) → Parted → Type 0
  Need p l n = map (needed_of p) l ≡ map (λ (x : List Transform). n) l

  pub record Needs : Type 0 where
    pub esp-128 : Need 3 (suites 128) (octets 20 20 0)
    pub esp-192 : Need 3 (suites 192) (octets 28 28 0)
    pub esp-256 : Need 3 (suites 256) (octets 36 36 0)
    pub rekey-128-128 : Need 6 (rekey_suites 128 1) (octets 36 20 16)
    pub rekey-128-192 : Need 6 (rekey_suites 128 2) (octets 44 20 24)
    pub rekey-128-256 : Need 6 (rekey_suites 128 3) (octets 52 20 32)
    pub rekey-192-128 : Need 6 (rekey_suites 192 1) (octets 44 28 16)
    pub rekey-192-192 : Need 6 (rekey_suites 192 2) (octets 52 28 24)
    pub rekey-192-256 : Need 6 (rekey_suites 192 3) (octets 60 28 32)
    pub rekey-256-128 : Need 6 (rekey_suites 256 1) (octets 52 36 16)
    pub rekey-256-192 : Need 6 (rekey_suites 256 2) (octets 60 36 24)
    pub rekey-256-256 : Need 6 (rekey_suites 256 3) (octets 68 36 32)

  pub policies-need : Needs
  unfolding need_of encryption_octets key_wrap_octets sum needed_by needed_in is_row_of
  policies-need =
      record {
        esp-128 = refl;
        esp-192 = refl;
        esp-256 = refl;
        rekey-128-128 = refl;
        rekey-128-192 = refl;
        rekey-128-256 = refl;
        rekey-192-128 = refl;
        rekey-192-192 = refl;
        rekey-192-256 = refl;
        rekey-256-128 = refl;
        rekey-256-192 = refl;
        rekey-256-256 = refl;
      }
