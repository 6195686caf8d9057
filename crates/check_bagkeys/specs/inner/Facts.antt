-- The facts of the key bags of a KD payload: of the wrapped keys of one bag, of one bag, of all bags. Each is what a clause of numbers 4 to
-- 7 asks of the frame's bags, in the clause's own words.
use Rattle.std.specs.Prelude.{ℕ, ◌+◌, ◌≤◌, ◌≡◌, Bool, true, false, not, ◌&&◌, ◌||◌, cond, length, ltb, eqb}
use mathlib.Core.List.{List, flat_map}
use Rattle.ikev2_numbers.specs.Codes.{kwk_id_at, no_protocol}
use Rattle.octets.specs.Walk.{be32}
use Rattle.lists.specs.Lists.{any}
use Rattle.state_keys.specs.Limits.{Limits}
use Rattle.wire_attributes.specs.Attribute.{Attribute}
use Rattle.wire_attributes.specs.Tree.{SaKey, WrapKey, wrap_keys}
use Rattle.wire_attributes.specs.declared.tables.Meaning.{Meaning}
use Rattle.wire_attributes.specs.declared.tables.Meaning.TheVariants as meaning
use Rattle.wire_attributes.specs.declared.tables.Place.TheVariants as place
use Rattle.wire_bags.specs.Bag.{Bag, group_keys, member_keys, GroupKeyBag, MemberKeyBag, place_of, group_key_bag_of}
use Rattle.wire_readers.specs.inner.Values.{attributes_in}
use Rattle.state_sa.specs.Entry.{esp_protocol, rekey_protocol}
use Rattle.rules_refusals.specs.Contents.{group_bag_of, member_bag_of}
use Rattle.rules_refusals.specs.Fitness.{ah}
use Rattle.rules_refusals.specs.Number6.{has_key_id, has_kwk_id, under_itself}
use Rattle.check_bagkeys.specs.declared.wrapped.KeyFacts.{KeyFacts}
use Rattle.check_bagkeys.specs.declared.BagFacts.{BagFacts}

-- ---- the wrapped keys of one bag, by the values of their attributes
abbrev pub carries_key : Meaning → Bool
carries_key meaning.Skipped = false
carries_key meaning.KeyLength = false
carries_key meaning.InitialMessageId = false
carries_key meaning.DeactivationDelay = false
carries_key meaning.KeyLifetime = false
carries_key meaning.SaKey = true
carries_key meaning.WrapKey = true
carries_key meaning.FreshKey = true

abbrev pub no_id : List ℕ → Bool
no_id v = eqb (be32 v 0) 0

abbrev pub no_kwk : List ℕ → Bool
no_kwk v = eqb (be32 v kwk_id_at) 0

abbrev pub one_id : List ℕ → Bool
one_id v = eqb (be32 v 0) (be32 v kwk_id_at)

abbrev pub key_facts_of : List (List ℕ) → KeyFacts
key_facts_of l = record {
  keys = length l;
  named = any (λ (v : List ℕ). not (no_id v)) l;
  unnamed = any no_id l;
  with_kwk_id = any (λ (v : List ℕ). not (no_kwk v)) l;
  itself = any one_id l;
}

abbrev pub with_key : KeyFacts → List ℕ → KeyFacts
with_key f v = record {
  keys = f.keys + 1;
  named = f.named || not (no_id v);
  unnamed = f.unnamed || no_id v;
  with_kwk_id = f.with_kwk_id || not (no_kwk v);
  itself = f.itself || one_id v;
}

-- ---- one bag
-- the facts of a Group Key Bag of protocol `p`, and of a Member Key Bag; `k` are the facts of its keys, `e` those of its fresh keys
abbrev pub of_group : Limits → ℕ → KeyFacts → KeyFacts → BagFacts
of_group limits p k e = record {
  members = 0;
  wraps = 0;
  unnamed = false;  -- asked of a WRAP_KEY alone
  itself = false;  -- likewise
  ah = eqb p ah;
  keyless = eqb k.keys 0;
  several = not (eqb p rekey_protocol) && ltb 1 k.keys;
  several_of_rekey = eqb p rekey_protocol && ltb 1 k.keys;
  overfull = ltb limits.sa_keys k.keys;
  named = k.named;
  esp_with_kwk_id = eqb p esp_protocol && k.with_kwk_id;
  fresh = e.keys;
  fresh_unnamed = e.unnamed;
  fresh_itself = e.itself;
}

abbrev pub of_member : KeyFacts → BagFacts
of_member k = record {
  members = 1;
  wraps = k.keys;
  unnamed = k.unnamed;
  itself = k.itself;
  ah = false;
  keyless = false;
  several = false;
  several_of_rekey = false;
  overfull = false;
  named = false;
  esp_with_kwk_id = false;
  fresh = 0;
  fresh_unnamed = false;
  fresh_itself = false;
}

abbrev pub of_sa_keys : List SaKey → KeyFacts
of_sa_keys l = record {
  keys = length l;
  named = any has_key_id l;
  unnamed = any (λ (k : SaKey). eqb k.key_id 0) l;
  with_kwk_id = any has_kwk_id l;
  itself = any (λ (k : SaKey). eqb k.key_id k.kwk_id) l;
}

abbrev pub of_wrap_keys : List WrapKey → KeyFacts
of_wrap_keys l = record {
  keys = length l;
  named = any (λ (k : WrapKey). not (eqb k.key_id 0)) l;
  unnamed = any (λ (k : WrapKey). eqb k.key_id 0) l;
  with_kwk_id = any (λ (k : WrapKey). not (eqb k.kwk_id 0)) l;
  itself = any under_itself l;
}

abbrev pub of_bag : Limits → Bag → BagFacts
of_bag limits (group_keys b) = of_group limits b.protocol (of_sa_keys b.keys) (of_wrap_keys b.fresh)
of_bag limits (member_keys b) = of_member (of_wrap_keys b.keys)

-- the bag with first octet `p`, SPI `x` and attributes `l`; `fresh` says whether fresh keys are read in the Rekey SA's bag
abbrev pub bag_with : Bool → ℕ → List ℕ → List Attribute → Bag
bag_with fresh p x l =
    cond (eqb p no_protocol) (member_keys (record { keys = wrap_keys place.MemberBag l })) (group_keys (group_key_bag_of fresh p x l))

-- `r` are the facts of the bag with first octet `p` and the attributes `a`, whatever its SPI; its counts are small
pub record IsOfBag (limits : Limits) (fresh : Bool) (p : ℕ) (a : List ℕ) (r : BagFacts) : Type 0 where
  pub is : (x : List ℕ) → r ≡ of_bag limits (bag_with fresh p x (attributes_in (place_of fresh p) a))
  pub members : r.members ≤ 1
  pub wraps : r.wraps ≤ length a
  pub fresh-few : r.fresh ≤ length a

-- ---- all bags
abbrev pub no_bags : BagFacts
no_bags = record {
  members = 0;
  wraps = 0;
  unnamed = false;
  itself = false;
  ah = false;
  keyless = false;
  several = false;
  several_of_rekey = false;
  overfull = false;
  named = false;
  esp_with_kwk_id = false;
  fresh = 0;
  fresh_unnamed = false;
  fresh_itself = false;
}

abbrev pub merge_bag_facts : BagFacts → BagFacts → BagFacts
merge_bag_facts a b = record {
  members = a.members + b.members;
  wraps = a.wraps + b.wraps;
  unnamed = a.unnamed || b.unnamed;
  itself = a.itself || b.itself;
  ah = a.ah || b.ah;
  keyless = a.keyless || b.keyless;
  several = a.several || b.several;
  several_of_rekey = a.several_of_rekey || b.several_of_rekey;
  overfull = a.overfull || b.overfull;
  named = a.named || b.named;
  esp_with_kwk_id = a.esp_with_kwk_id || b.esp_with_kwk_id;
  fresh = a.fresh + b.fresh;
  fresh_unnamed = a.fresh_unnamed || b.fresh_unnamed;
  fresh_itself = a.fresh_itself || b.fresh_itself;
}

abbrev pub wraps_in : List Bag → List WrapKey
wraps_in l = flat_map (λ (b : MemberKeyBag). b.keys) (flat_map member_bag_of l)

abbrev pub fresh_in : List Bag → List WrapKey
fresh_in l = flat_map (λ (b : GroupKeyBag). b.fresh) (flat_map group_bag_of l)

-- THE FACTS OF THE BAGS `l`
abbrev pub bag_facts_of : Limits → List Bag → BagFacts
bag_facts_of limits l = record {
  members = length (flat_map member_bag_of l);
  wraps = length (wraps_in l);
  unnamed = any (λ (k : WrapKey). eqb k.key_id 0) (wraps_in l);
  itself = any under_itself (wraps_in l);
  ah = any (λ (b : GroupKeyBag). eqb b.protocol ah) (flat_map group_bag_of l);
  keyless = any (λ (b : GroupKeyBag). eqb (length b.keys) 0) (flat_map group_bag_of l);
  several = any (λ (b : GroupKeyBag). not (eqb b.protocol rekey_protocol) && ltb 1 (length b.keys)) (flat_map group_bag_of l);
  several_of_rekey = any (λ (b : GroupKeyBag). eqb b.protocol rekey_protocol && ltb 1 (length b.keys)) (flat_map group_bag_of l);
  overfull = any (λ (b : GroupKeyBag). ltb limits.sa_keys (length b.keys)) (flat_map group_bag_of l);
  named = any (λ (b : GroupKeyBag). any has_key_id b.keys) (flat_map group_bag_of l);
  esp_with_kwk_id = any (λ (b : GroupKeyBag). eqb b.protocol esp_protocol && any has_kwk_id b.keys) (flat_map group_bag_of l);
  fresh = length (fresh_in l);
  fresh_unnamed = any (λ (k : WrapKey). eqb k.key_id 0) (fresh_in l);
  fresh_itself = any under_itself (fresh_in l);
}
