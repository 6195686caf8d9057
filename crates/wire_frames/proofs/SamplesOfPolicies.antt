-- Samples computed on the definitions: transforms and policies by their octets, what they are read to, and where a broken layout breaks.
use Prim.Native.Nat.{ℕ}
use mathlib.Core.Path.{◌≡◌, refl}
use mathlib.Core.List.{List, [], ◌∷◌, ◌++◌, map}
use Rattle.octets.specs.Numbers.{number}
use Rattle.octets.specs.Walk.{Reading, whole, broken, Reader, chain, chain_up_to, many}
use Rattle.wire_attributes.specs.declared.tables.Place.TheVariants as place
use Rattle.wire_attributes.specs.Tree.{values_of}
use Rattle.wire_attributes.specs.Layout.{attribute, attributes}
use Rattle.wire_policies.specs.Selector.{Selector, selector}
use Rattle.wire_policies.specs.Transform.{Transform, transform, transforms}
use Rattle.wire_policies.specs.Policy.{suite, sa_body, Policy, group_sa, group_wide, policy, policies}

-- octets, and what they are read to at offset 100
pub record Sample (A : Type 0) : Type 0 where
  pub octets : List ℕ
  pub reading : Reading A

abbrev pub sample : {A : Type 0} → List ℕ → Reading A → Sample A
sample o r = record { octets = o; reading = r }

abbrev pub Read : {A : Type 0} → Reader A → List (Sample A) → Type 0
Read {A = A} p l = map (λ (s : Sample A). p 100 s.octets) l ≡ map (λ (s : Sample A). s.reading) l

-- "octets 80 0e 00 80 read as Key Length 128", in a type 1 transform at any offset
sample-key-length : (h b : ℕ) → transforms h b (0 ∷ 0 ∷ 0 ∷ 12 ∷ 1 ∷ 0 ∷ 0 ∷ 20 ∷ 128 ∷ 14 ∷ 0 ∷ 128 ∷ [])
    ≡ whole (record { kind = 1; id = 20; key_lengths = 128 ∷ [] } ∷ []) []
unfolding transform attribute many chain chain_up_to number values_of
sample-key-length h b = refl

-- ---- transforms of a policy whose offset is 77
abbrev is : ℕ → ℕ → List ℕ → Transform
is k i l = record { kind = k; id = i; key_lengths = l }

abbrev transform_samples : List (Sample (List Transform))
transform_samples =
    -- Key Length in the other format breaks at its own offset; twice is read; in a type 5 transform it is skipped in any format
    sample (0 ∷ 0 ∷ 0 ∷ 14 ∷ 1 ∷ 0 ∷ 0 ∷ 20 ∷ 0 ∷ 14 ∷ 0 ∷ 2 ∷ 0 ∷ 128 ∷ []) (broken 108) ∷
    sample (0 ∷ 0 ∷ 0 ∷ 16 ∷ 1 ∷ 0 ∷ 0 ∷ 20 ∷ 128 ∷ 14 ∷ 0 ∷ 128 ∷ 128 ∷ 14 ∷ 1 ∷ 0 ∷ []) (whole (is 1 20 (128 ∷ 256 ∷ []) ∷ []) []) ∷
    sample (0 ∷ 0 ∷ 0 ∷ 14 ∷ 5 ∷ 0 ∷ 0 ∷ 0 ∷ 0 ∷ 14 ∷ 0 ∷ 2 ∷ 0 ∷ 128 ∷ []) (whole (is 5 0 [] ∷ []) []) ∷
    -- after 3 another follows, after 0 none, and the octets after that are left
    sample (3 ∷ 9 ∷ 0 ∷ 8 ∷ 13 ∷ 9 ∷ 0 ∷ 2 ∷ 0 ∷ 0 ∷ 0 ∷ 8 ∷ 14 ∷ 0 ∷ 1 ∷ 1 ∷ 5 ∷ 6 ∷ [])
    (whole (is 13 2 [] ∷ is 14 257 [] ∷ []) (5 ∷ 6 ∷ [])) ∷
    -- one of which not one octet is there counts for the policy; one that has begun for itself
    sample [] (broken 77) ∷
    sample (3 ∷ 0 ∷ 0 ∷ 8 ∷ 5 ∷ 0 ∷ 0 ∷ 0 ∷ []) (broken 77) ∷
    sample (3 ∷ 0 ∷ 0 ∷ 8 ∷ 5 ∷ 0 ∷ 0 ∷ 0 ∷ 0 ∷ []) (broken 108) ∷
    -- another first octet than 3 and 0; a length under 8, and one past the octets
    sample (1 ∷ 0 ∷ 0 ∷ 8 ∷ 5 ∷ 0 ∷ 0 ∷ 0 ∷ []) (broken 100) ∷
    sample (2 ∷ 0 ∷ 0 ∷ 8 ∷ 5 ∷ 0 ∷ 0 ∷ 0 ∷ []) (broken 100) ∷
    sample (0 ∷ 0 ∷ 0 ∷ 7 ∷ 5 ∷ 0 ∷ 0 ∷ 0 ∷ []) (broken 100) ∷
    sample (0 ∷ 0 ∷ 0 ∷ 9 ∷ 5 ∷ 0 ∷ 0 ∷ 0 ∷ []) (broken 100) ∷
    []

transforms-read : Read (transforms 77) transform_samples
unfolding transform attribute many chain chain_up_to number values_of
transforms-read = refl

-- 1 to 3 octets where attributes stand have begun another
begun-attribute : attributes place.RekeyPolicy 100 (128 ∷ 14 ∷ 0 ∷ 128 ∷ 0 ∷ []) ≡ broken 104
unfolding attribute many chain chain_up_to number
begun-attribute = refl

-- ---- selectors: IPv4, and IPv6 with two addresses
abbrev ip4 : List ℕ
ip4 = 7 ∷ 17 ∷ 0 ∷ 16 ∷ 3 ∷ 80 ∷ 3 ∷ 81 ∷ 239 ∷ 1 ∷ 2 ∷ 3 ∷ 239 ∷ 1 ∷ 2 ∷ 4 ∷ []

abbrev is_ip4 : Selector
is_ip4 = record {
  kind = 7;
  protocol = 17;
  start_port = 848;
  end_port = 849;
  start_address = 239 ∷ 1 ∷ 2 ∷ 3 ∷ [];
  end_address = 239 ∷ 1 ∷ 2 ∷ 4 ∷ [];
}

abbrev from6 : List ℕ
from6 = 255 ∷ 2 ∷ 3 ∷ 4 ∷ 5 ∷ 6 ∷ 7 ∷ 8 ∷ 9 ∷ 10 ∷ 11 ∷ 12 ∷ 13 ∷ 14 ∷ 15 ∷ 16 ∷ []

abbrev to6 : List ℕ
to6 = 255 ∷ 2 ∷ 3 ∷ 4 ∷ 5 ∷ 6 ∷ 7 ∷ 8 ∷ 9 ∷ 10 ∷ 11 ∷ 12 ∷ 13 ∷ 14 ∷ 15 ∷ 17 ∷ []

abbrev ip6 : List ℕ
ip6 = (8 ∷ 0 ∷ 0 ∷ 40 ∷ 0 ∷ 0 ∷ 255 ∷ 255 ∷ []) ++ (from6 ++ to6)

abbrev is_ip6 : Selector
is_ip6 = record { kind = 8; protocol = 0; start_port = 0; end_port = 65535; start_address = from6; end_address = to6 }

abbrev is_policy : ℕ → List ℕ → Selector → List Transform → List ℕ → List ℕ → Policy
is_policy p x d l m t = group_sa (record {
  protocol = p;
  spi = x;
  source = is_ip4;
  destination = d;
  transforms = l;
  initial_message_ids = m;
  key_lifetimes = t;
})

-- ---- transforms: the last one, and others before it
abbrev numbers : List ℕ
numbers = 0 ∷ 0 ∷ 0 ∷ 8 ∷ 5 ∷ 0 ∷ 0 ∷ 2 ∷ []

abbrev gcm : List ℕ
gcm = 3 ∷ 0 ∷ 0 ∷ 12 ∷ 1 ∷ 0 ∷ 0 ∷ 20 ∷ 128 ∷ 14 ∷ 0 ∷ 192 ∷ []

abbrev spi16 : List ℕ
spi16 = 1 ∷ 2 ∷ 3 ∷ 4 ∷ 5 ∷ 6 ∷ 7 ∷ 8 ∷ 9 ∷ 10 ∷ 11 ∷ 12 ∷ 13 ∷ 14 ∷ 15 ∷ 16 ∷ []

-- the octets of a policy after its SPI: two selectors, two or three transforms
abbrev esp_body : List ℕ
esp_body = ip4 ++ (ip6 ++ (gcm ++ numbers))

abbrev rekey_body : List ℕ
rekey_body = ip4 ++ (ip4 ++ (gcm ++ (3 ∷ 0 ∷ 0 ∷ 8 ∷ 13 ∷ 0 ∷ 0 ∷ 2 ∷ 0 ∷ 0 ∷ 0 ∷ 8 ∷ 14 ∷ 0 ∷ 0 ∷ 1 ∷ [])))

abbrev rekey_suite : List Transform
rekey_suite = is 1 20 (192 ∷ []) ∷ is 13 2 [] ∷ is 14 1 [] ∷ []

abbrev policy_samples : List (Sample (List Policy))
policy_samples =
    sample [] (whole [] []) ∷
    -- ESP; attribute 2 is skipped there in any format
    sample ((3 ∷ 4 ∷ 0 ∷ 84 ∷ 9 ∷ 8 ∷ 7 ∷ 6 ∷ []) ++ esp_body)
    (whole (is_policy 3 (9 ∷ 8 ∷ 7 ∷ 6 ∷ []) is_ip6 (is 1 20 (192 ∷ []) ∷ is 5 2 [] ∷ []) [] [] ∷ []) []) ∷
    sample ((3 ∷ 4 ∷ 0 ∷ 88 ∷ 9 ∷ 8 ∷ 7 ∷ 6 ∷ []) ++ (esp_body ++ (128 ∷ 2 ∷ 0 ∷ 7 ∷ [])))
    (whole (is_policy 3 (9 ∷ 8 ∷ 7 ∷ 6 ∷ []) is_ip6 (is 1 20 (192 ∷ []) ∷ is 5 2 [] ∷ []) [] [] ∷ []) []) ∷
    -- AH; Key Length is read in its type 1 transform too
    sample ((2 ∷ 4 ∷ 0 ∷ 84 ∷ 9 ∷ 8 ∷ 7 ∷ 6 ∷ []) ++ esp_body)
    (whole (is_policy 2 (9 ∷ 8 ∷ 7 ∷ 6 ∷ []) is_ip6 (is 1 20 (192 ∷ []) ∷ is 5 2 [] ∷ []) [] [] ∷ []) []) ∷
    -- GSA_KEY_LIFETIME is read in each, once and twice; as TV, or with 2 octets, it breaks at its own offset
    sample ((3 ∷ 4 ∷ 0 ∷ 92 ∷ 9 ∷ 8 ∷ 7 ∷ 6 ∷ []) ++ (esp_body ++ (0 ∷ 1 ∷ 0 ∷ 4 ∷ 0 ∷ 0 ∷ 14 ∷ 16 ∷ [])))
    (whole (is_policy 3 (9 ∷ 8 ∷ 7 ∷ 6 ∷ []) is_ip6 (is 1 20 (192 ∷ []) ∷ is 5 2 [] ∷ []) [] (3600 ∷ []) ∷ []) []) ∷
    sample ((2 ∷ 4 ∷ 0 ∷ 100 ∷ 9 ∷ 8 ∷ 7 ∷ 6 ∷ [])
    ++ (esp_body ++ (0 ∷ 1 ∷ 0 ∷ 4 ∷ 0 ∷ 0 ∷ 14 ∷ 16 ∷ 0 ∷ 1 ∷ 0 ∷ 4 ∷ 0 ∷ 30 ∷ 132 ∷ 128 ∷ [])))
    (whole (is_policy 2 (9 ∷ 8 ∷ 7 ∷ 6 ∷ []) is_ip6 (is 1 20 (192 ∷ []) ∷ is 5 2 [] ∷ []) [] (3600 ∷ 2000000 ∷ []) ∷ []) []) ∷
    sample ((3 ∷ 4 ∷ 0 ∷ 88 ∷ 9 ∷ 8 ∷ 7 ∷ 6 ∷ []) ++ (esp_body ++ (128 ∷ 1 ∷ 0 ∷ 7 ∷ []))) (broken 184) ∷
    sample ((2 ∷ 4 ∷ 0 ∷ 90 ∷ 9 ∷ 8 ∷ 7 ∷ 6 ∷ []) ++ (esp_body ++ (0 ∷ 1 ∷ 0 ∷ 2 ∷ 0 ∷ 7 ∷ []))) (broken 184) ∷
    sample ((6 ∷ 16 ∷ 0 ∷ 84 ∷ []) ++ (spi16 ++ (rekey_body ++ (128 ∷ 1 ∷ 0 ∷ 7 ∷ [])))) (broken 180) ∷
    -- Rekey, with GSA_KEY_LIFETIME and GSA_INITIAL_MESSAGE_ID read; as TV, or with 2 octets, the latter breaks at its own offset
    sample ((6 ∷ 16 ∷ 0 ∷ 80 ∷ []) ++ (spi16 ++ rekey_body)) (whole (is_policy 6 spi16 is_ip4 rekey_suite [] [] ∷ []) []) ∷
    sample ((6 ∷ 16 ∷ 0 ∷ 96 ∷ []) ++ (spi16 ++ (rekey_body ++ (0 ∷ 1 ∷ 0 ∷ 4 ∷ 0 ∷ 0 ∷ 14 ∷ 16 ∷ 0 ∷ 2 ∷ 0 ∷ 4 ∷ 0 ∷ 1 ∷ 0 ∷ 7 ∷ []))))
    (whole (is_policy 6 spi16 is_ip4 rekey_suite (65543 ∷ []) (3600 ∷ []) ∷ []) []) ∷
    sample ((6 ∷ 16 ∷ 0 ∷ 84 ∷ []) ++ (spi16 ++ (rekey_body ++ (128 ∷ 2 ∷ 0 ∷ 7 ∷ [])))) (broken 180) ∷
    sample ((6 ∷ 16 ∷ 0 ∷ 86 ∷ []) ++ (spi16 ++ (rekey_body ++ (0 ∷ 2 ∷ 0 ∷ 2 ∷ 0 ∷ 7 ∷ [])))) (broken 180) ∷
    -- the SPI size is the protocol's
    sample ((6 ∷ 4 ∷ 0 ∷ 80 ∷ []) ++ (spi16 ++ rekey_body)) (broken 100) ∷
    sample ((3 ∷ 16 ∷ 0 ∷ 80 ∷ []) ++ (spi16 ++ rekey_body)) (broken 100) ∷
    -- no selector, a selector cut short, no second selector, no transform
    sample (3 ∷ 4 ∷ 0 ∷ 8 ∷ 1 ∷ 2 ∷ 3 ∷ 4 ∷ []) (broken 100) ∷
    sample (3 ∷ 4 ∷ 0 ∷ 9 ∷ 1 ∷ 2 ∷ 3 ∷ 4 ∷ 7 ∷ []) (broken 108) ∷
    sample ((3 ∷ 4 ∷ 0 ∷ 24 ∷ 1 ∷ 2 ∷ 3 ∷ 4 ∷ []) ++ ip4) (broken 100) ∷
    sample ((3 ∷ 4 ∷ 0 ∷ 40 ∷ 1 ∷ 2 ∷ 3 ∷ 4 ∷ []) ++ (ip4 ++ ip4)) (broken 100) ∷
    -- a selector of another type, and one whose length is not its type's
    sample ((3 ∷ 4 ∷ 0 ∷ 44 ∷ 1 ∷ 2 ∷ 3 ∷ 4 ∷ []) ++ ((9 ∷ 0 ∷ 0 ∷ 16 ∷ []) ++ (spi16 ++ spi16))) (broken 108) ∷
    sample ((3 ∷ 4 ∷ 0 ∷ 44 ∷ 1 ∷ 2 ∷ 3 ∷ 4 ∷ []) ++ ((8 ∷ 0 ∷ 0 ∷ 16 ∷ []) ++ (spi16 ++ spi16))) (broken 108) ∷
    -- group-wide, and after it a length too small for the SPI, an unknown first octet, a policy that runs past its holder
    sample (0 ∷ 9 ∷ 0 ∷ 4 ∷ []) (whole (group_wide (record { deactivation_delays = [] }) ∷ []) []) ∷
    sample (0 ∷ 9 ∷ 0 ∷ 4 ∷ 3 ∷ 4 ∷ 0 ∷ 7 ∷ 1 ∷ 2 ∷ 3 ∷ []) (broken 104) ∷
    sample (0 ∷ 9 ∷ 0 ∷ 4 ∷ 1 ∷ 0 ∷ 0 ∷ 4 ∷ []) (broken 104) ∷
    sample (0 ∷ 9 ∷ 0 ∷ 4 ∷ 0 ∷ 9 ∷ 0 ∷ 5 ∷ []) (broken 104) ∷
    sample (0 ∷ 9 ∷ 0 ∷ 3 ∷ []) (broken 100) ∷
    -- the deactivation delay is group-wide attribute 2, a TV; attributes 1 and 3 are skipped
    sample (0 ∷ 9 ∷ 0 ∷ 16 ∷ 128 ∷ 1 ∷ 0 ∷ 5 ∷ 128 ∷ 2 ∷ 1 ∷ 1 ∷ 128 ∷ 3 ∷ 0 ∷ 6 ∷ [])
    (whole (group_wide (record { deactivation_delays = 257 ∷ [] }) ∷ []) []) ∷
    sample (0 ∷ 9 ∷ 0 ∷ 10 ∷ 0 ∷ 2 ∷ 0 ∷ 2 ∷ 1 ∷ 1 ∷ []) (broken 104) ∷
    []

policies-read : Read policies policy_samples
unfolding policy suite sa_body selector transform attribute many chain chain_up_to number values_of
policies-read = refl
