-- THE FRAMES OF THE SAMPLES and the members that get them, by which specs/Samples.antt states its rows. "What a sample does not mention is
-- fit; entries stand in a registration." No row assumes that something opens: what opens is the wrapping of any octets under any key. A row
-- speaks of any octets that are laid out as its frame. No contract cites this file.
use Rattle.std.specs.Prelude.{ℕ, ◌≤◌, ◌≡◌, Bool, true, false, cond, List, [], ◌∷◌, length}
use Rattle.octets.specs.Octets.{Octets}
use Rattle.fips197.specs.Key.{Key}
use Rattle.rfc5649.specs.Wrap.{wrap_of}
use Rattle.lists.specs.Lists.{insert}
use Rattle.state_keys.specs.Limits.{limits}
use Rattle.state_keys.specs.Kinds.{wrapping_of, esp_of, rekey_of}
use Rattle.wire_attributes.specs.Tree.{SaKey, WrapKey}
use Rattle.wire_policies.specs.Selector.{Selector}
use Rattle.wire_policies.specs.Policy.{GroupSaPolicy, group_sa}
use Rattle.wire_bags.specs.Bag.{group_keys, member_keys}
use Rattle.wire_frames.specs.Frame.{Frame, Payload, Content, gsa, kd, delete}
use Rattle.wire_frames.specs.Grammar.{IsFrame}
use Rattle.state_sa.specs.Entry.{sa_before, esp_sa, rekey_sa, with_condition}
use Rattle.state_sa.specs.declared.entry.Condition.TheVariants.{Retiring}
use Rattle.state_sa.specs.declared.entry.Lifetime.TheVariants.{Unlimited}
use Rattle.state_sa.specs.declared.entry.Sa.{Sa}
use Rattle.state_table.specs.Table.{table_of}
use Rattle.state.specs.declared.State.{State}
use Rattle.state.specs.declared.least.Least.TheVariants.{Id}
use Rattle.state.specs.declared.held.HeldKey.{HeldKey}
use Rattle.state.specs.Held.{held_of}
use Rattle.rules_refusals.specs.Fitness.{one_group_address}

abbrev sample_payload : ℕ → Content → Payload
sample_payload k c = record { kind = k; critical = false; content = c }

-- ---- Message IDs: rekeys over the Rekey SA with SPI `x`, with Message ID `i` and D alone, which names from 1 to 32 ESP SPIs
abbrev pub deleting : List ℕ → ℕ → List (List ℕ) → Frame
deleting x i l = record {
  header = record { spi = x; exchange = 41; message_id = i };
  payloads = sample_payload 42 (delete (record { protocol = 3; spis = l })) ∷ [];
}

pub record Rekeys (profile : Bool) (x : List ℕ) (i : ℕ) (octets : List ℕ) : Type 0 where
  pub spis : List (List ℕ)
  pub some : 1 ≤ length spis
  pub few : length spis ≤ limits.deleted_spis
  pub reads : IsFrame profile octets (deleting x i spis)

-- ---- entries in a registration, GSA_AUTH (39) or GSA_REGISTRATION (40), that announces one ESP SA with AES-GCM-16 of 128 bits and
-- Sequence Numbers 0, without a lifetime; what no sample mentions may be anything
pub record Around : Type 0 where
  pub auth : Bool
  pub spis : List ℕ
  pub message_id : ℕ
  pub spi : List ℕ
  pub source : Selector
  pub destination : Selector
  -- the member's profile (document 02, T-11)
  pub profile : Bool

abbrev pub esp_policy : Around → GroupSaPolicy
esp_policy r = record {
  protocol = 3;
  spi = r.spi;
  source = r.source;
  destination = r.destination;
  transforms = record { kind = 1; id = 20; key_lengths = 128 ∷ [] } ∷ record { kind = 5; id = 0; key_lengths = [] } ∷ [];
  initial_message_ids = [];
  key_lifetimes = [];
}

-- the registration: the SA's SA_KEY under KWK ID 0, and a Member bag with the entries
abbrev pub registering : Around → List ℕ → List WrapKey → Frame
registering r wrapped entries = record {
  header = record { spi = r.spis; exchange = cond r.auth 39 40; message_id = r.message_id };
  payloads =
      sample_payload 51 (gsa (group_sa (esp_policy r) ∷ []))
      ∷ sample_payload 52 (kd (group_keys (record {
        protocol = 3;
        spi = r.spi;
        keys = record { key_id = 0; kwk_id = 0; wrapped = wrapped } ∷ [];
        fresh = [];
      }) ∷ member_keys (record { keys = entries }) ∷ []))
      ∷ [];
}

-- an entry with Key ID `i` under KWK ID `k`
abbrev pub entry : ℕ → ℕ → List ℕ → WrapKey
entry i k w = record { key_id = i; kwk_id = k; wrapped = w }

abbrev pub held_with : ℕ → List ℕ → HeldKey
held_with i v = record { id = i; key = wrapping_of v }

-- the member after it: the ESP SA with its keying octets `x`, and no held key
abbrev pub registered : Around → List ℕ → State
registered r x = record {
  table = table_of limits (esp_sa r.spi (esp_of x) Unlimited ∷ []);
  held = held_of limits [];
  least = Id 0;
  profile = r.profile;
}

-- keying octets that the SA needs, and a wrapping key of the lent key's size
pub record Keying (x : List ℕ) : Type 0 where
  pub size : length x ≡ 20
  pub octets : Octets x

pub record FitKey (lent v : List ℕ) : Type 0 where
  pub key : Key v
  pub size : length v ≡ length lent

-- a registration of a new member with these entries, its SA_KEY wrapped under the lent key
pub record Registers (r : Around) (lent x : List ℕ) (entries : List WrapKey) (octets : List ℕ) : Type 0 where
  pub key : Key lent
  pub keying : Keying x
  pub reads : IsFrame r.profile octets (registering r (wrap_of lent x) entries)

-- ---- entries in a registration that announces one Rekey SA with AES-GCM-16 of 128 bits, KW_5649_128 and implicit authentication, its
-- SA_KEY under KWK ID `k`
abbrev pub rekey_policy : Around → GroupSaPolicy
rekey_policy r = record {
  protocol = 6;
  spi = r.spi;
  source = r.source;
  destination = r.destination;
  transforms = record { kind = 1; id = 20; key_lengths = 128 ∷ [] } ∷ record { kind = 13; id = 1; key_lengths = [] }
      ∷ record { kind = 14; id = 1; key_lengths = [] } ∷ [];
  initial_message_ids = [];
  key_lifetimes = [];
}

abbrev pub creating : Around → ℕ → List ℕ → List WrapKey → Frame
creating r k wrapped entries = record {
  header = record { spi = r.spis; exchange = cond r.auth 39 40; message_id = r.message_id };
  payloads =
      sample_payload 51 (gsa (group_sa (rekey_policy r) ∷ []))
      ∷ sample_payload 52 (kd (group_keys (record {
        protocol = 6;
        spi = r.spi;
        keys = record { key_id = 0; kwk_id = k; wrapped = wrapped } ∷ [];
        fresh = [];
      }) ∷ member_keys (record { keys = entries }) ∷ []))
      ∷ [];
}

-- the member after it: the Rekey SA with its keying octets `x`, 20 to encrypt and 16 to wrap, and the held keys `l`
abbrev pub created : Around → List ℕ → List HeldKey → State
created r x l = record {
  table = table_of limits (rekey_sa r.spi (rekey_of x 20 16) Unlimited ∷ []);
  held = held_of limits l;
  least = Id 0;
  profile = r.profile;
}

-- such a registration of a new member with these entries, its SA_KEY wrapped under the value `v` of key `k`
pub record Creates (r : Around) (lent x : List ℕ) (k : ℕ) (v : List ℕ) (entries : List WrapKey) (octets : List ℕ) : Type 0 where
  pub key : Key lent
  pub group : one_group_address r.destination ≡ true
  pub size : length x ≡ 36
  pub small : Octets x
  pub fit : FitKey lent v
  pub reads : IsFrame r.profile octets (creating r k (wrap_of v x) entries)

-- ---- fresh tree keys in a rekey (document 02, T-11) that announces such a Rekey SA, for a member with the profile

-- a copy of the new Rekey SA's key under KWK ID `k`
abbrev pub copy_under : ℕ → List ℕ → SaKey
copy_under k w = record { key_id = 0; kwk_id = k; wrapped = w }

-- the rekey over the Rekey SA whose SPI is the header's two SPIs: the new SA's SA_KEYs and the private entries stand in its Group Key Bag
abbrev pub renewing : Around → List SaKey → List WrapKey → Frame
renewing r copies fresh = record {
  header = record { spi = r.spis; exchange = 41; message_id = r.message_id };
  payloads =
      sample_payload 51 (gsa (group_sa (rekey_policy r) ∷ []))
      ∷ sample_payload 52 (kd (group_keys (record { protocol = 6; spi = r.spi; keys = copies; fresh = fresh }) ∷ []))
      ∷ [];
}

-- a Rekey SA with its keying octets, 20 to encrypt and 16 to wrap
abbrev pub sample_rekey_sa : List ℕ → List ℕ → Sa
sample_rekey_sa spi x = rekey_sa spi (rekey_of x 20 16) Unlimited

-- the member before it: the old Rekey SA with its keying octets `z`, and the held keys `l`
abbrev pub holding : Around → List ℕ → List HeldKey → State
holding r z l = record {
  table = table_of limits (sample_rekey_sa r.spis z ∷ []);
  held = held_of limits l;
  least = Id r.message_id;
  profile = true;
}

-- the member after it: the old Rekey SA retires with no delay, and the new one has its keying octets `x`
abbrev pub renewed : Around → ℕ → List ℕ → List ℕ → List HeldKey → State
renewed r now z x l = record {
  table =
      table_of limits
      (insert sa_before (sample_rekey_sa r.spi x) (with_condition (Retiring now 0) (sample_rekey_sa r.spis z) ∷ []));
  held = held_of limits l;
  least = Id 0;
  profile = true;
}

-- such a rekey of a member with old keying octets `z`, which brings the keying octets `x`
pub record Renews (r : Around) (z x : List ℕ) (copies : List SaKey) (fresh : List WrapKey) (octets : List ℕ) : Type 0 where
  pub spi : length r.spis ≡ 16
  pub another : r.spis ≡ r.spi → ⊥
  pub group : one_group_address r.destination ≡ true
  pub old-size : length z ≡ 36
  pub size : length x ≡ 36
  pub small : Octets x
  pub reads : IsFrame true octets (renewing r copies fresh)
