-- A frame in another order (document 02, T-14): "put its policies, bags, WRAP_KEY entries and the SA_KEY copies in any other order within
-- what holds them, with the payloads keeping theirs".
use Rattle.std.specs.Prelude.{◌≡◌, List, [], ◌∷◌}
use Rattle.wire_policies.specs.Policy.{Policy}
use Rattle.wire_bags.specs.Bag.{Bag, group_keys, member_keys, GroupKeyBag, MemberKeyBag}
use Rattle.wire_frames.specs.Delete.{Delete}
use Rattle.wire_frames.specs.Frame.{Frame, Payload, Content, gsa, kd, delete, unread}

-- the second list is the first one reordered: neighbours changed places, and elements were replaced by ones that `R` relates to them
pub data AnyOrder {A : Type 0} (R : A → A → Type 0) : List A → List A → Type 0 where
  none : AnyOrder R [] []
  next : {a b : A} {l m : List A} → R a b → AnyOrder R l m → AnyOrder R (a ∷ l) (b ∷ m)
  swapped : {a b : A} {l : List A} → AnyOrder R (a ∷ b ∷ l) (b ∷ a ∷ l)
  then : {l m n : List A} → AnyOrder R l m → AnyOrder R m n → AnyOrder R l n

-- the second list is the first one in the same order, each element replaced by one that `R` relates to it
pub data SameOrder {A : Type 0} (R : A → A → Type 0) : List A → List A → Type 0 where
  no_item : SameOrder R [] []
  item : {a b : A} {l m : List A} → R a b → SameOrder R l m → SameOrder R (a ∷ l) (b ∷ m)

-- SA_KEY copies, fresh keys and WRAP_KEY entries within their bag
pub record GroupBagReordered (a b : GroupKeyBag) : Type 0 where
  pub protocol : a.protocol ≡ b.protocol
  pub spi : a.spi ≡ b.spi
  pub keys : AnyOrder ◌≡◌ a.keys b.keys
  pub fresh : AnyOrder ◌≡◌ a.fresh b.fresh

pub record MemberBagReordered (x y : MemberKeyBag) : Type 0 where
  pub keys : AnyOrder ◌≡◌ x.keys y.keys

pub data BagReordered : Bag → Bag → Type 0 where
  group : {a b : GroupKeyBag} → GroupBagReordered a b → BagReordered (group_keys a) (group_keys b)
  member : {a b : MemberKeyBag} → MemberBagReordered a b → BagReordered (member_keys a) (member_keys b)

-- policies and bags within their payload
pub data ContentReordered : Content → Content → Type 0 where
  in-gsa : {l m : List Policy} → AnyOrder ◌≡◌ l m → ContentReordered (gsa l) (gsa m)
  in-kd : {l m : List Bag} → AnyOrder BagReordered l m → ContentReordered (kd l) (kd m)
  in-delete : {d e : Delete} → d ≡ e → ContentReordered (delete d) (delete e)
  not-read : ContentReordered unread unread

pub record PayloadReordered (a b : Payload) : Type 0 where
  pub kind : a.kind ≡ b.kind
  pub critical : a.critical ≡ b.critical
  pub content : ContentReordered a.content b.content

pub record Reordered (f g : Frame) : Type 0 where
  pub header : f.header ≡ g.header
  pub payloads : SameOrder PayloadReordered f.payloads g.payloads
