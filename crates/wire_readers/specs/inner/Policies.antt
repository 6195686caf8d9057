-- What `policy_parts` answers on policies whose layout is whole: the first one; the others follow at its end, and are whole too.
use Rattle.std.specs.Prelude.{ℕ, ◌<◌, ◌≤◌, ◌≡◌, List, ◌∷◌, true, length, drop}
use Rattle.ikev2_numbers.specs.Codes.{policy_head_octets, structure_length_at}
use Rattle.octets.specs.Numbers.{oct}
use Rattle.octets.specs.Walk.{be16, part}
use Rattle.wire_attributes.specs.Place.{in_policy}
use Rattle.wire_attributes.specs.Layout.{attributes}
use Rattle.wire_readers.specs.inner.Values.{is_whole, items_of, attributes_in}
use Rattle.wire_attributes.specs.declared.tables.Place.TheVariants as place
use Rattle.wire_policies.specs.Policy.{head_size, Policy, SaBody, group_sa_of, group_wide_of, policies}
use Rattle.wire_policies.specs.Grammar.{IsSaBody}
use Rattle.wire_readers.specs.declared.policy.Parts.{Parts}

-- `r` is the parts of the head at the start of `s`
pub record Heads (s : List ℕ) (r : Parts) : Type 0 where
  pub first : r.first ≡ oct s 0
  pub body : r.body ≡ head_size s
  pub end : r.end ≡ be16 s structure_length_at
  pub some : policy_head_octets ≤ r.body
  pub order : r.body ≤ r.end
  pub inside : r.end ≤ length s
  pub two_octets : oct s 2 < 256 → oct s 3 < 256 → r.end < 65536

abbrev pub policies_in : List ℕ → List Policy
policies_in s = items_of (policies 0 s)

-- the first policy of `s` is group-wide, and the others follow at its end
pub record WideFirst (s : List ℕ) (r : Parts) : Type 0 where
  pub item : policies_in s ≡ group_wide_of (attributes_in place.GroupWidePolicy (part s r.body r.end)) ∷ policies_in (drop r.end s)
  pub held : is_whole (attributes place.GroupWidePolicy 0 (part s r.body r.end)) ≡ true

-- the first policy of `s` is a Group SA policy, and the others follow at its end
pub record SaFirst (s : List ℕ) (r : Parts) : Type 0 where
  pub body : SaBody
  pub item : policies_in s ≡ group_sa_of s body ∷ policies_in (drop r.end s)
  pub is : IsSaBody (in_policy r.first) (part s r.body r.end) body

pub record PolicyIs (s : List ℕ) (r : Parts) : Type 0 where
  pub head : Heads s r
  pub wide : r.first ≡ 0 → WideFirst s r
  pub sa : (r.first ≡ 0 → ⊥) → SaFirst s r
  pub rest : is_whole (policies 0 (drop r.end s)) ≡ true
