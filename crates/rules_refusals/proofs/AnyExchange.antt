-- ANOTHER ORDER IS NOT TOO NARROW (document 02, T-14): frames in which two neighbours within what holds them were exchanged are
-- `Reordered`, for each kind of neighbours. A definition that relates a frame to itself alone would let every law of order hold.
use mathlib.Core.Path.{◌≡◌, refl}
use mathlib.Core.Bool.{Bool}
use mathlib.Core.List.{List, [], ◌∷◌, ◌++◌}
use Prim.Native.Nat.{ℕ}
use Rattle.wire_attributes.specs.Tree.{SaKey, WrapKey}
use Rattle.wire_policies.specs.Policy.{Policy, group_sa, group_wide, GroupSaPolicy, GroupWidePolicy}
use Rattle.wire_bags.specs.Bag.{Bag, group_keys, member_keys, GroupKeyBag, MemberKeyBag}
use Rattle.wire_frames.specs.Header.{Header}
use Rattle.wire_frames.specs.Frame.{Frame, Payload, Content, gsa, kd, delete, unread}
use Rattle.rules_refusals.specs.Reordered.{AnyOrder, next, swapped, SameOrder, no_item, item, BagReordered, group, member}
use Rattle.rules_refusals.specs.Reordered.{ContentReordered, in-gsa, in-kd, in-delete, not-read, PayloadReordered, Reordered}
use Rattle.rules_refusals.proofs.AnyOrder.{as_is}

-- ---- neighbours in a list, and one element replaced by one that is related to it
module _ {A : Type 0} {R : A → A → Type 0} (same : (a : A) → R a a) where
  pub neighbours : (l m : List A) (a b : A) → AnyOrder R (l ++ a ∷ b ∷ m) (l ++ b ∷ a ∷ m)
  neighbours [] m a b = swapped
  neighbours (c ∷ l) m a b = next (same c) (neighbours l m a b)

  one-replaced : (l m : List A) (a b : A) → R a b → AnyOrder R (l ++ a ∷ m) (l ++ b ∷ m)
  one-replaced [] m a b r = next r (as_is same m)
  one-replaced (c ∷ l) m a b r = next (same c) (one-replaced l m a b r)

  one-in-order : (l m : List A) (a b : A) → R a b → SameOrder R (l ++ a ∷ m) (l ++ b ∷ m)
  one-in-order [] m a b r = item r (all-in-order m)
    where
      all-in-order : (k : List A) → SameOrder R k k
      all-in-order [] = no_item
      all-in-order (d ∷ k) = item (same d) (all-in-order k)
  one-in-order (c ∷ l) m a b r = item (same c) (one-in-order l m a b r)

-- ---- within what holds them
module _ (protocol : ℕ) (spi : List ℕ) where
  -- a Group Key Bag with these copies and these fresh keys
  abbrev pub bag_of_keys : List SaKey → List WrapKey → Bag
  bag_of_keys keys fresh = group_keys (record { protocol = protocol; spi = spi; keys = keys; fresh = fresh })

  copies-in-bag : (fresh : List WrapKey) (x y : List SaKey) (a b : SaKey) →
      BagReordered (bag_of_keys (x ++ a ∷ b ∷ y) fresh) (bag_of_keys (x ++ b ∷ a ∷ y) fresh)
  copies-in-bag fresh x y a b =
      group (record { protocol = refl; spi = refl; keys = neighbours (λ k. refl) x y a b; fresh = as_is (λ k. refl) fresh })

  fresh-in-bag : (keys : List SaKey) (x y : List WrapKey) (a b : WrapKey) →
      BagReordered (bag_of_keys keys (x ++ a ∷ b ∷ y)) (bag_of_keys keys (x ++ b ∷ a ∷ y))
  fresh-in-bag keys x y a b =
      group (record { protocol = refl; spi = refl; keys = as_is (λ k. refl) keys; fresh = neighbours (λ k. refl) x y a b })

-- a Member Key Bag with these entries
abbrev pub bag_of_entries : List WrapKey → Bag
bag_of_entries keys = member_keys (record { keys = keys })

entries-in-bag : (x y : List WrapKey) (a b : WrapKey) → BagReordered (bag_of_entries (x ++ a ∷ b ∷ y)) (bag_of_entries (x ++ b ∷ a ∷ y))
entries-in-bag x y a b = member (record { keys = neighbours (λ k. refl) x y a b })

as-they-are : {A : Type 0} (l : List A) → AnyOrder ◌≡◌ l l
as-they-are l = as_is (λ a. refl) l

bag-as-it-is : (b : Bag) → BagReordered b b
bag-as-it-is (group_keys b) = group (record { protocol = refl; spi = refl; keys = as-they-are b.keys; fresh = as-they-are b.fresh })
bag-as-it-is (member_keys b) = member (record { keys = as-they-are b.keys })

policies-in-gsa : (l m : List Policy) (a b : Policy) → ContentReordered (gsa (l ++ a ∷ b ∷ m)) (gsa (l ++ b ∷ a ∷ m))
policies-in-gsa l m a b = in-gsa (neighbours (λ x. refl) l m a b)

bags-in-kd : (l m : List Bag) (a b : Bag) → ContentReordered (kd (l ++ a ∷ b ∷ m)) (kd (l ++ b ∷ a ∷ m))
bags-in-kd l m a b = in-kd (neighbours bag-as-it-is l m a b)

bag-in-kd : (l m : List Bag) (a b : Bag) → BagReordered a b → ContentReordered (kd (l ++ a ∷ m)) (kd (l ++ b ∷ m))
bag-in-kd l m a b r = in-kd (one-replaced bag-as-it-is l m a b r)

-- ---- in a frame, with other payloads before and behind
content-as-it-is : (c : Content) → ContentReordered c c
content-as-it-is (gsa l) = in-gsa (as-they-are l)
content-as-it-is (kd l) = in-kd (as_is bag-as-it-is l)
content-as-it-is (delete d) = in-delete refl
content-as-it-is unread = not-read

payload-as-it-is : (p : Payload) → PayloadReordered p p
payload-as-it-is p = record { kind = refl; critical = refl; content = content-as-it-is p.content }

module _ (header : Header) (before behind : List Payload) (kind : ℕ) (critical : Bool) where
  -- the frame with a payload of this content there
  abbrev pub with : Content → Frame
  with c = record { header = header; payloads = before ++ record { kind = kind; critical = critical; content = c } ∷ behind }

  replaced-in-frame : (c d : Content) → ContentReordered c d → Reordered (with c) (with d)
  replaced-in-frame c d r =
      record {
        header = refl;
        payloads =
            one-in-order payload-as-it-is before behind (record { kind = kind; critical = critical; content = c })
            (record { kind = kind; critical = critical; content = d }) (record { kind = refl; critical = refl; content = r });
      }

  -- ---- each kind of neighbours
  pub two-policies : (l m : List Policy) (a b : GroupSaPolicy) →
      Reordered (with (gsa (l ++ group_sa a ∷ group_sa b ∷ m))) (with (gsa (l ++ group_sa b ∷ group_sa a ∷ m)))
  two-policies l m a b = replaced-in-frame _ _ (policies-in-gsa l m (group_sa a) (group_sa b))

  pub wide-and-policy : (l m : List Policy) (w : GroupWidePolicy) (a : GroupSaPolicy) →
      Reordered (with (gsa (l ++ group_wide w ∷ group_sa a ∷ m))) (with (gsa (l ++ group_sa a ∷ group_wide w ∷ m)))
  wide-and-policy l m w a = replaced-in-frame _ _ (policies-in-gsa l m (group_wide w) (group_sa a))

  pub two-bags : (l m : List Bag) (a b : GroupKeyBag) →
      Reordered (with (kd (l ++ group_keys a ∷ group_keys b ∷ m))) (with (kd (l ++ group_keys b ∷ group_keys a ∷ m)))
  two-bags l m a b = replaced-in-frame _ _ (bags-in-kd l m (group_keys a) (group_keys b))

  pub member-bag-and-bag : (l m : List Bag) (a : MemberKeyBag) (b : GroupKeyBag) →
      Reordered (with (kd (l ++ member_keys a ∷ group_keys b ∷ m))) (with (kd (l ++ group_keys b ∷ member_keys a ∷ m)))
  member-bag-and-bag l m a b = replaced-in-frame _ _ (bags-in-kd l m (member_keys a) (group_keys b))

  module _ (l m : List Bag) where
    pub two-copies : (protocol : ℕ) (spi : List ℕ) (fresh : List WrapKey) (x y : List SaKey) (a b : SaKey) →
        Reordered (with (kd (l ++ bag_of_keys protocol spi (x ++ a ∷ b ∷ y) fresh ∷ m)))
        (with (kd (l ++ bag_of_keys protocol spi (x ++ b ∷ a ∷ y) fresh ∷ m)))
    two-copies protocol spi fresh x y a b = replaced-in-frame _ _ (bag-in-kd l m _ _ (copies-in-bag protocol spi fresh x y a b))

    pub two-fresh-keys : (protocol : ℕ) (spi : List ℕ) (keys : List SaKey) (x y : List WrapKey) (a b : WrapKey) →
        Reordered (with (kd (l ++ bag_of_keys protocol spi keys (x ++ a ∷ b ∷ y) ∷ m)))
        (with (kd (l ++ bag_of_keys protocol spi keys (x ++ b ∷ a ∷ y) ∷ m)))
    two-fresh-keys protocol spi keys x y a b = replaced-in-frame _ _ (bag-in-kd l m _ _ (fresh-in-bag protocol spi keys x y a b))

    pub two-wrap-keys : (x y : List WrapKey) (a b : WrapKey) →
        Reordered (with (kd (l ++ bag_of_entries (x ++ a ∷ b ∷ y) ∷ m))) (with (kd (l ++ bag_of_entries (x ++ b ∷ a ∷ y) ∷ m)))
    two-wrap-keys x y a b = replaced-in-frame _ _ (bag-in-kd l m _ _ (entries-in-bag x y a b))
