-- The protocols and SPIs by which policies and Group Key Bags are paired. Policies and key bags have the same head, so that a GSA's body
-- and a KD's body are gone through alike.
use Rattle.std.specs.Prelude.{ℕ, ◌<◌, ◌≡◌, List, [], ◌∷◌, ◌++◌, Bool, true, not, ◌&&◌, cond, length, drop, eqb}
use Rattle.ikev2_numbers.specs.Codes.{no_protocol, structure_length_at}
use Rattle.octets.specs.Numbers.{oct}
use Rattle.octets.specs.Walk.{be16}
use Rattle.octets.specs.Compare.{same}
use Rattle.lists.specs.Lists.{any, count}
use Rattle.state_sa.specs.Entry.{named}
use Rattle.state_sa.specs.declared.entry.Sa.{Sa}
use Rattle.state_table.specs.Table.{stays}
use Rattle.wire_policies.specs.Policy.{head_fits, head_spi}

pub record Name : Type 0 where
  pub protocol : ℕ
  pub spi : List ℕ

-- the name of a policy or key bag with first octet `p` and SPI `x`: a group-wide policy and a Member Key Bag have none
abbrev pub name_of : ℕ → List ℕ → List Name
name_of p x = cond (eqb p no_protocol) [] (record { protocol = p; spi = x } ∷ [])

abbrev pub name_at : List ℕ → List Name
name_at s = name_of (oct s 0) (head_spi s)

-- THESE OCTETS ARE POLICIES OR KEY BAGS WITH THESE NAMES
pub data Names : List ℕ → List Name → Type 0 where
  no-more : (s : List ℕ) → length s ≡ 0 → Names s []
  next : (s : List ℕ) {l : List Name} → 0 < length s → head_fits s ≡ true → Names (drop (be16 s structure_length_at) s) l → Names s
      (name_at s ++ l)

-- name `n` is protocol `p` and SPI `x`
abbrev pub is_named : ℕ → List ℕ → Name → Bool
is_named p x n = eqb n.protocol p && same n.spi x

-- name `n` does not stand exactly once in `l`
abbrev pub is_unpaired : List Name → Name → Bool
is_unpaired l n = not (eqb (count (is_named n.protocol n.spi) l) 1)

-- SA `s` of the table is not due at `now` and has a name of `l`
abbrev pub is_announced : ℕ → List Name → Sa → Bool
is_announced now l s = stays now s && any (λ (n : Name). named n.protocol n.spi s) l
