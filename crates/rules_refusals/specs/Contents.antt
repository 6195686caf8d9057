-- What a frame holds, at whatever place: its payloads of a kind, policies, bags, keys and deleted SPIs. The clauses of document 01 ask "is
-- there one", "each" and "how many" of these, so their order cannot matter.
use Rattle.std.specs.Prelude.{ℕ, Bool, true, false, length, ltb}
use mathlib.Core.List.{List, [], ◌∷◌, flat_map}
use Rattle.wire_attributes.specs.Tree.{WrapKey}
use Rattle.wire_policies.specs.Policy.{Policy, group_sa, group_wide, GroupSaPolicy, GroupWidePolicy}
use Rattle.wire_bags.specs.Bag.{Bag, group_keys, member_keys, GroupKeyBag, MemberKeyBag}
use Rattle.wire_frames.specs.Delete.{Delete}
use Rattle.wire_frames.specs.Frame.{Frame, Payload, Content, gsa, kd, delete, unread}
use Rattle.wire_frames.specs.Exchange.{exchange_of}
use Rattle.wire_frames.specs.declared.exchanges.Exchange.{Exchange}

-- the row of the frame's exchange: what differs between exchanges
abbrev pub row_of : Frame → Exchange
row_of f = exchange_of f.header.exchange

-- `l` has at least one element; below, more than one
abbrev pub some : {A : Type 0} → List A → Bool
some l = ltb 0 (length l)

abbrev pub several : {A : Type 0} → List A → Bool
several l = ltb 1 (length l)

-- ---- payloads
abbrev pub is_gsa : Content → Bool
is_gsa (gsa l) = true
is_gsa (kd l) = false
is_gsa (delete d) = false
is_gsa unread = false

abbrev pub is_kd : Content → Bool
is_kd (gsa l) = false
is_kd (kd l) = true
is_kd (delete d) = false
is_kd unread = false

abbrev pub has_gsa : Payload → Bool
has_gsa p = is_gsa p.content

abbrev pub has_kd : Payload → Bool
has_kd p = is_kd p.content

-- ---- what one payload holds
abbrev pub policies_of_content : Content → List Policy
policies_of_content (gsa l) = l
policies_of_content (kd l) = []
policies_of_content (delete d) = []
policies_of_content unread = []

abbrev pub bags_of_content : Content → List Bag
bags_of_content (gsa l) = []
bags_of_content (kd l) = l
bags_of_content (delete d) = []
bags_of_content unread = []

abbrev pub deletes_of_content : Content → List Delete
deletes_of_content (gsa l) = []
deletes_of_content (kd l) = []
deletes_of_content (delete d) = d ∷ []
deletes_of_content unread = []

-- ---- what one policy or bag is: a policy is a Group SA policy or a group-wide one, a bag a Group or a Member Key Bag
abbrev pub group_sa_in : Policy → List GroupSaPolicy
group_sa_in (group_sa p) = p ∷ []
group_sa_in (group_wide w) = []

abbrev pub wide_of : Policy → List GroupWidePolicy
wide_of (group_sa p) = []
wide_of (group_wide w) = w ∷ []

abbrev pub group_bag_of : Bag → List GroupKeyBag
group_bag_of (group_keys b) = b ∷ []
group_bag_of (member_keys b) = []

abbrev pub member_bag_of : Bag → List MemberKeyBag
member_bag_of (group_keys b) = []
member_bag_of (member_keys b) = b ∷ []

-- ---- what the frame holds
abbrev pub policies_of : Frame → List Policy
policies_of f = flat_map (λ (p : Payload). policies_of_content p.content) f.payloads

abbrev pub bags_of : Frame → List Bag
bags_of f = flat_map (λ (p : Payload). bags_of_content p.content) f.payloads

abbrev pub deletes_of : Frame → List Delete
deletes_of f = flat_map (λ (p : Payload). deletes_of_content p.content) f.payloads

-- "The SAs a frame announces are those of its Group SA policies."
abbrev pub announced : Frame → List GroupSaPolicy
announced f = flat_map group_sa_in (policies_of f)

abbrev pub group_wides : Frame → List GroupWidePolicy
group_wides f = flat_map wide_of (policies_of f)

abbrev pub group_bags : Frame → List GroupKeyBag
group_bags f = flat_map group_bag_of (bags_of f)

abbrev pub member_bags : Frame → List MemberKeyBag
member_bags f = flat_map member_bag_of (bags_of f)

abbrev pub wrap_keys_of : Frame → List WrapKey
wrap_keys_of f = flat_map (λ (b : MemberKeyBag). b.keys) (member_bags f)

-- the fresh tree keys of its Group Key Bags: private attribute 16385 (document 02, T-11)
abbrev pub fresh_keys_of : Frame → List WrapKey
fresh_keys_of f = flat_map (λ (b : GroupKeyBag). b.fresh) (group_bags f)

abbrev pub deleted_spis : Frame → List (List ℕ)
deleted_spis f = flat_map (λ (d : Delete). d.spis) (deletes_of f)
