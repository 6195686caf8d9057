-- THE KEY THAT A KWK ID NAMES, and what a copy of an announced SA's key opens to, in the customer's words: the vocabulary of the theorems,
-- by exchange type and by where a key stands in the frame. No contract cites this file.
use Rattle.std.specs.Prelude.{ℕ, ◌≡◌, true, false, ◌⊎◌, List, [], ◌∷◌, map, length, take, drop}
use Rattle.ikev2_numbers.specs.Codes.{gsa_auth, gsa_inband_rekey, gsa_registration, gsa_rekey}
use Rattle.rfc5649.specs.Opens.{Opens}
use Rattle.state_keys.specs.Limits.{Limits}
use Rattle.state_keys.specs.Kinds.{value_of, wrapping_of}
use Rattle.wire_attributes.specs.Tree.{SaKey, WrapKey}
use Rattle.wire_policies.specs.Policy.{GroupSaPolicy}
use Rattle.wire_bags.specs.Bag.{GroupKeyBag, MemberKeyBag}
use Rattle.wire_frames.specs.Frame.{Frame}
use Rattle.wire_frames.specs.Grammar.{IsFrame}
use Rattle.state_sa.specs.Entry.{sa_spi, live_rekey, due}
use Rattle.state_sa.specs.declared.entry.Sa.{Sa}
use Rattle.state_table.specs.Table.{sas_of}
use Rattle.state.specs.declared.State.{State}
use Rattle.state.specs.declared.held.HeldKey.{HeldKey}
use Rattle.state.specs.Held.{keys_of}
use Rattle.rules_refusals.specs.Contents.{group_bags, member_bags, wrap_keys_of, fresh_keys_of}
use Rattle.rules_chains.specs.Chain.{In, Root, Chain, Reached, CopyOpens}
use Rattle.rules_outcome.specs.Roots.{own_key_of, key_zero_value, held_root, those_not_carried, roots_of, entries_of, wrapping_size}
use Rattle.rules_outcome.specs.Roots.{copies_of}
use Rattle.rules_outcome.specs.Meets.{Meets}

-- "Registration frames (GSA_AUTH, GSA_REGISTRATION responses)": exchange types 39 and 40
abbrev pub Registration : Frame → Type 0
Registration f = (f.header.exchange ≡ gsa_auth) ⊎ (f.header.exchange ≡ gsa_registration)

-- document 02, T-02, "Rekeys over the member's own channel": GSA_INBAND_REKEY, exchange type 42
abbrev pub Inband : Frame → Type 0
Inband f = f.header.exchange ≡ gsa_inband_rekey

-- a rekey over the Rekey SA (GSA_REKEY, exchange type 41) or over the member's own channel
abbrev pub Rekey : Frame → Type 0
Rekey f = (f.header.exchange ≡ gsa_rekey) ⊎ Inband f

-- the lent default key as key 0
abbrev pub lent_root : List ℕ → List Root
lent_root lent = record { id = 0; value = lent } ∷ []

-- a chain of one or more entries leads from the lent default key to key `k` and gives it the value `x`
abbrev pub Given : List ℕ → Frame → ℕ → List ℕ → Type 0
Given lent f k x = Reached (lent_root lent) (wrap_keys_of f) (length lent) k x

-- document 02, T-11: "if the frame carries any entry for that ID": a fresh tree key of the frame has Key ID `i`, whether or not it opens
pub record Carries (f : Frame) (i : ℕ) : Type 0 where
  pub entry : WrapKey
  pub stands : In entry (fresh_keys_of f)
  pub is : entry.key_id ≡ i

-- SA_KEY `c` stands in a Group Key Bag of the frame with the protocol and SPI of policy `a`
pub record InOwnBag (f : Frame) (a : GroupSaPolicy) (c : SaKey) : Type 0 where
  pub bag : GroupKeyBag
  pub stands : In bag (group_bags f)
  pub protocol : bag.protocol ≡ a.protocol
  pub spi : bag.spi ≡ a.spi
  pub copy : In c bag.keys

-- WRAP_KEY `e` stands in a Member Key Bag of the frame
pub record InMemberBag (f : Frame) (e : WrapKey) : Type 0 where
  pub bag : MemberKeyBag
  pub stands : In bag (member_bags f)
  pub entry : In e bag.keys

-- held key `k` has the value of a chain from the lent default key over WRAP_KEYs of Member Key Bags alone
pub record OfMemberBags (lent : List ℕ) (f : Frame) (k : HeldKey) : Type 0 where
  pub value : List ℕ
  pub key-is : k.key ≡ wrapping_of value
  pub passed : List WrapKey
  pub chain : Chain (lent_root lent) (wrap_keys_of f) (length lent) passed k.id value
  pub own : (w : WrapKey) → In w passed → InMemberBag f w

module _ (limits : Limits) (s : State) (now : ℕ) (lent : List ℕ) (f : Frame) where
  -- in a rekey over the Rekey SA "chains now start from the default key or a held key not carried anew" (T-11)
  abbrev pub fresh_roots : List Root
  fresh_roots = record { id = 0; value = own_key_of limits s now } ∷ map held_root (those_not_carried (fresh_keys_of f) (keys_of s.held))

  -- and a chain of one or more fresh tree keys leads from one of these to key `k` and gives it the value `x`. "A fresh key has the size of
  -- the live Rekey SA's default key."
  abbrev pub FreshGiven : ℕ → List ℕ → Type 0
  FreshGiven k x = Reached fresh_roots (fresh_keys_of f) (length (own_key_of limits s now)) k x

  -- "be it key 0, the last key of such a chain or, in a rekey, a key the member held". Key 0 is the lent default key in a registration and
  -- "the live Rekey SA's own" in a rekey. In GSA_INBAND_REKEY "its key 0 is the lent key; held keys, in demand 3 too, are for GSA_REKEY
  -- only" (T-02). "A KWK ID names the fresh key if the frame carries any entry for that ID, otherwise the held key" (T-11)
  pub data Named (k : ℕ) (v : List ℕ) : Type 0 where
    lent_key : Registration f → k ≡ 0 → v ≡ lent → Named k v
    lent-in-band : Inband f → k ≡ 0 → v ≡ lent → Named k v
    own_key : f.header.exchange ≡ gsa_rekey → k ≡ 0 → v ≡ own_key_of limits s now → Named k v
    last-of-chain : Registration f → Given lent f k v → Named k v
    held-key : f.header.exchange ≡ gsa_rekey → (h : HeldKey) → In h (keys_of s.held) → (Carries f h.id → ⊥) → h.id ≡ k →
        value_of h.key ≡ v → Named k v
    fresh-key : f.header.exchange ≡ gsa_rekey → FreshGiven k v → Named k v

  -- "its SA_KEY attributes, opened under the key their KWK ID names"
  pub record OpensUnder (a : GroupSaPolicy) (x : List ℕ) : Type 0 where
    pub copy : SaKey
    pub own : InOwnBag f a copy
    pub value : List ℕ
    pub named : Named copy.kwk_id value
    pub opens : Opens value copy.wrapped x

  -- the same in the words of the outcome: a copy of the announced SA's key opens to `x` (`copies-of-own-bag`, proofs/Demands.antt)
  abbrev pub OpensTo : GroupSaPolicy → List ℕ → Type 0
  OpensTo a x = CopyOpens (roots_of limits s now lent f) (entries_of f) (wrapping_size limits s now lent f) (copies_of f a) x

-- KEY 0 OF A REKEY: "GSA_REKEY frames use the live Rekey SA's own"; "The default key of the live Rekey SA: the key wrap part of its keying
-- octets, cut as 001 section 3.4 orders", "GSK_e | GSK_a | GSK_w = KEYMAT" with no GSK_a. The frame came over that SA, which stands
-- at its tick: its SPI is the header's two SPIs.
pub record CameOver (s : State) (now : ℕ) (f : Frame) (zero : List ℕ) : Type 0 where
  pub sa : Sa
  pub stands : In sa (sas_of s.table)
  pub live : live_rekey sa ≡ true
  pub not-due : due now sa ≡ false
  pub spi : sa_spi sa ≡ f.header.spi
  pub cut : zero ≡ take sa.wrapping (drop sa.encryption sa.octets)

-- every GSA_REKEY frame that number 2 lets pass came over such an SA, whether or not it is accepted
abbrev pub ZeroOfRekeys : Limits → State → Type 0
ZeroOfRekeys limits s =
    (now : ℕ) (lent octets : List ℕ) (f : Frame) → IsFrame s.profile octets f → f.header.exchange ≡ gsa_rekey →
    (Meets limits s now lent octets 2 → ⊥) →
    CameOver s now f (key_zero_value limits s now lent f)
