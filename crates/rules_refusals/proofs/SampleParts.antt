-- Parts of small frames and small members, of which the samples are made. What a sample does not mention is fit.
use Prim.Native.Nat.{ℕ}
use mathlib.Core.List.{List, [], ◌∷◌, ◌++◌, map}
use mathlib.Core.Bool.{false}
use lib.ListN.{replicate}
use Rattle.octets.specs.Generate.{gen}
use Rattle.state_keys.specs.Limits.{Limits, limits}
use Rattle.state_keys.specs.Kinds.{wrapping_of, esp_of, rekey_of}
use Rattle.state_sa.specs.Entry.{with_condition, esp_sa, rekey_sa}
use Rattle.state_sa.specs.declared.entry.Condition.{Condition}
use Rattle.state_sa.specs.declared.entry.Condition.TheVariants.{Live, Retiring}
use Rattle.state_sa.specs.declared.entry.Lifetime.{Lifetime}
use Rattle.state_sa.specs.declared.entry.Lifetime.TheVariants.{Unlimited, Limited}
use Rattle.state_sa.specs.declared.entry.Sa.{Sa}
use Rattle.state_table.specs.Table.{table_of}
use Rattle.state.specs.declared.State.{State}
use Rattle.state.specs.declared.held.HeldKey.{HeldKey}
use Rattle.state.specs.declared.least.Least.{Least}
use Rattle.state.specs.declared.least.Least.TheVariants.{Id}
use Rattle.state.specs.Held.{held_of}
use Rattle.state.specs.State.{new_state}
use Rattle.wire_attributes.specs.Tree.{SaKey, WrapKey}
use Rattle.wire_policies.specs.Selector.{Selector}
use Rattle.wire_policies.specs.Transform.{Transform}
use Rattle.wire_policies.specs.Policy.{Policy, group_sa, group_wide, GroupSaPolicy}
use Rattle.wire_bags.specs.Bag.{Bag, group_keys, member_keys}
use Rattle.wire_frames.specs.Frame.{Frame, Payload, Content, gsa, kd, delete, unread}
use Rattle.rules_refusals.specs.Refusals.{refusal}

-- ---- SPIs: an ESP SA's, that of the live Rekey SA, and two other Rekey SAs'
abbrev pub spi : ℕ → List ℕ
spi n = 1 ∷ 2 ∷ 3 ∷ n ∷ []

abbrev pub live_spi : List ℕ
live_spi = replicate 16 7

abbrev pub next_spi : List ℕ
next_spi = replicate 16 8

abbrev pub third_spi : List ℕ
third_spi = replicate 16 9

-- ---- policies: the transforms, a selector of one address and one port, the whole
abbrev pub transform : ℕ → ℕ → List ℕ → Transform
transform k i l = record { kind = k; id = i; key_lengths = l }

abbrev pub esp_suite : List Transform
esp_suite = transform 5 0 [] ∷ transform 1 20 (128 ∷ []) ∷ []

abbrev pub rekey_suite : List Transform
rekey_suite = transform 13 2 [] ∷ transform 1 20 (192 ∷ []) ∷ transform 14 1 [] ∷ []

-- the type, the two ports, the two addresses
abbrev pub selector : ℕ → ℕ → ℕ → List ℕ → List ℕ → Selector
selector t i j a e = record { kind = t; protocol = 17; start_port = i; end_port = j; start_address = a; end_address = e }

abbrev pub ip4 : ℕ → List ℕ
ip4 n = n ∷ 1 ∷ 1 ∷ 1 ∷ []

abbrev pub ip6 : ℕ → List ℕ
ip6 n = n ∷ replicate 15 2

abbrev pub group : Selector
group = selector 7 848 848 (ip4 239) (ip4 239)

abbrev pub alone : Selector
alone = selector 7 848 848 (ip4 10) (ip4 10)

abbrev pub sa_policy : ℕ → List ℕ → Selector → List Transform → List ℕ → GroupSaPolicy
sa_policy p x d l m = record {
  protocol = p;
  spi = x;
  source = alone;
  destination = d;
  transforms = l;
  initial_message_ids = m;
  key_lifetimes = [];
}

-- the same policy with these lifetimes
abbrev pub lasting : List ℕ → GroupSaPolicy → Policy
lasting t a = group_sa (record {
  protocol = a.protocol;
  spi = a.spi;
  source = a.source;
  destination = a.destination;
  transforms = a.transforms;
  initial_message_ids = a.initial_message_ids;
  key_lifetimes = t;
})

abbrev pub policy : ℕ → List ℕ → List Transform → Policy
policy p x l = group_sa (sa_policy p x group l [])

abbrev pub esp_policy : ℕ → Policy
esp_policy n = policy 3 (spi n) esp_suite

abbrev pub rekey_policy : List ℕ → Policy
rekey_policy x = policy 6 x rekey_suite

abbrev pub wide : List ℕ → Policy
wide l = group_wide (record { deactivation_delays = l })

-- ---- bags
abbrev pub sa_key : ℕ → ℕ → SaKey
sa_key i k = record { key_id = i; kwk_id = k; wrapped = [] }

abbrev pub wrap_key : ℕ → ℕ → WrapKey
wrap_key i k = record { key_id = i; kwk_id = k; wrapped = [] }

abbrev pub bag : ℕ → List ℕ → List SaKey → Bag
bag p x l = group_keys (record { protocol = p; spi = x; keys = l; fresh = [] })

abbrev pub esp_bag : ℕ → Bag
esp_bag n = bag 3 (spi n) (sa_key 0 0 ∷ [])

-- with a copy under key 0 and these fresh tree keys
abbrev pub fresh_bag : List ℕ → List WrapKey → Bag
fresh_bag x l = group_keys (record { protocol = 6; spi = x; keys = sa_key 0 0 ∷ []; fresh = l })

-- with n copies, under a KWK ID that is not 0
abbrev pub rekey_bag : List ℕ → ℕ → Bag
rekey_bag x n = bag 6 x (replicate n (sa_key 0 9))

abbrev pub member_bag : List WrapKey → Bag
member_bag l = member_keys (record { keys = l })

-- ---- frames by what their payloads hold, with Message ID 0; rekeys are those over the live Rekey SA, in-band ones have no SPIs
abbrev pub deletes : ℕ → List (List ℕ) → Content
deletes p l = delete (record { protocol = p; spis = l })

abbrev pub kind_of : Content → ℕ
kind_of (gsa l) = 51
kind_of (kd l) = 52
kind_of (delete d) = 42
kind_of unread = 41

abbrev pub payload : Content → Payload
payload c = record { kind = kind_of c; critical = false; content = c }

-- with SPIs x, exchange e, Message ID m
abbrev pub frame_of : List ℕ → ℕ → ℕ → List Payload → Frame
frame_of x e m l = record { header = record { spi = x; exchange = e; message_id = m }; payloads = l }

abbrev pub registers : List Content → Frame
registers l = frame_of [] 39 0 (map payload l)

abbrev pub rekeys : List Content → Frame
rekeys l = frame_of live_spi 41 0 (map payload l)

abbrev pub inband : List Content → Frame
inband l = frame_of [] 42 0 (map payload l)

-- a registration with an ESP SA and a Rekey SA; a rekey that deletes an ESP SA, with SPIs x and Message ID m
abbrev pub fit : List Content
fit = gsa (esp_policy 1 ∷ rekey_policy live_spi ∷ []) ∷ kd (rekey_bag live_spi 1 ∷ esp_bag 1 ∷ []) ∷ []

abbrev pub deletion : Content
deletion = deletes 3 (spi 4 ∷ [])

abbrev pub deleting : List ℕ → ℕ → Frame
deleting x m = frame_of x 41 m (payload deletion ∷ [])

-- 1 up to n
abbrev pub up_to : ℕ → List ℕ
up_to n = gen (λ (i : ℕ). i) 1 n

-- what announces n ESP SAs; what registers with n WRAP_KEY; rekeys with n copies of a new Rekey SA's key, with n fresh tree keys, and with
-- n deleted SPIs
abbrev pub esp_sas : ℕ → List Content
esp_sas n = gsa (map esp_policy (up_to n)) ∷ kd (map esp_bag (up_to n)) ∷ []

abbrev pub wrap_keys : ℕ → Frame
wrap_keys n = registers (gsa (esp_policy 1 ∷ []) ∷ kd (member_bag (replicate n (wrap_key 5 0)) ∷ esp_bag 1 ∷ []) ∷ [])

abbrev pub copies : ℕ → Frame
copies n = rekeys (gsa (rekey_policy next_spi ∷ []) ∷ kd (rekey_bag next_spi n ∷ []) ∷ [])

abbrev pub fresh_keys : ℕ → Frame
fresh_keys n = rekeys (gsa (rekey_policy next_spi ∷ []) ∷ kd (fresh_bag next_spi (replicate n (wrap_key 5 0)) ∷ []) ∷ [])

abbrev pub deleted : ℕ → Frame
deleted n = rekeys (deletes 3 (replicate n (spi 4)) ∷ [])

-- what announces an ESP SA more, and a rekey with it
abbrev pub another : List Content
another = gsa (esp_policy 200 ∷ []) ∷ kd (esp_bag 200 ∷ []) ∷ []

abbrev pub one_more : Frame
one_more = rekeys another

-- ---- members
abbrev pub esp_at : ℕ → Condition → Sa
esp_at n c = with_condition c (esp_sa (spi n) (esp_of (replicate 20 0)) Unlimited)

abbrev pub rekey_at : Condition → Sa
rekey_at c = with_condition c (rekey_sa live_spi (rekey_of (replicate 36 0) 20 16) Unlimited)

-- live ones with a lifetime
abbrev pub esp_for : ℕ → Lifetime → Sa
esp_for n t = esp_sa (spi n) (esp_of (replicate 20 0)) t

abbrev pub rekey_for : Lifetime → Sa
rekey_for t = rekey_sa live_spi (rekey_of (replicate 36 0) 20 16) t

-- the tick at which the samples are judged; an SA that is due then, and one that retires and is not due
abbrev pub tick : ℕ
tick = 1000

abbrev pub due_now : Condition
due_now = Retiring 0 1

abbrev pub due_later : Condition
due_later = Retiring 0 2

-- a lifetime that has run at that tick, and one that has not
abbrev pub out_now : Lifetime
out_now = Limited 0 1

abbrev pub out_later : Lifetime
out_later = Limited 1 1

-- n ESP SAs, one more in this condition, and the live Rekey SA
abbrev pub sas_with : ℕ → Condition → List Sa
sas_with n c = esp_at 0 c ∷ (map (λ (k : ℕ). esp_at k Live) (up_to n) ++ rekey_at Live ∷ [])

-- a held key of n octets
abbrev pub held_key : ℕ → ℕ → HeldKey
held_key i n = record { id = i; key = wrapping_of (replicate n 1) }

-- under these limits a member with these SAs and held keys
abbrev pub member_within : Limits → List Sa → List HeldKey → Least → State
member_within limits l h m = record { table = table_of limits l; held = held_of limits h; least = m; profile = false }

abbrev pub member_of : List Sa → Least → State
member_of l m = member_within limits l [] m

abbrev pub holding : List Sa → List HeldKey → State
holding l h = member_within limits l h (Id 0)

abbrev pub having : ℕ → Condition → State
having n c = member_of (sas_with n c) (Id 0)

abbrev pub fresh : State
fresh = new_state limits false

-- a member whose table has the live Rekey SA alone
abbrev pub member : Least → State
member m = member_of (rekey_at Live ∷ []) m

-- ---- a sample: the member before the frame, the lent key's octets, the frame, and the number that it is given
pub record Sample : Type 0 where
  pub state : State
  pub lent : ℕ
  pub frame : Frame
  pub number : ℕ

abbrev pub sample : State → ℕ → Frame → ℕ → Sample
sample s n f k = record { state = s; lent = n; frame = f; number = k }

-- a registration of the new member with a key of 16 octets; a rekey of that member with none
abbrev pub anew : Frame → ℕ → Sample
anew f k = sample fresh 16 f k

abbrev pub later : Frame → ℕ → Sample
later f k = sample (member (Id 0)) 0 f k

-- a rekey in-band of that member, whose least acceptable Message ID is 7, with a key of 16 octets
abbrev pub own : Frame → ℕ → Sample
own f k = sample (member (Id 7)) 16 f k

abbrev pub answer_within : Limits → Sample → ℕ
answer_within limits s = refusal limits s.state tick (replicate s.lent 0) s.frame
