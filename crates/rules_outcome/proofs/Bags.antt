-- Where the copies of an SA's key and the entries of chains stand in the frame.
use Prim.Native.Nat.{ℕ}
use mathlib.Core.Path.{sym, subst}
use mathlib.Core.Logic.{⊎_elim}
use mathlib.Core.List.{List}
use lib.Dec.{eqb}
use borrow.Author.Tests.{eqb-true, eq-eqb}
use Rattle.octets.specs.Compare.{same}
use Rattle.octets.proofs.Order.{same-eq, eq-same}
use Rattle.lists.specs.Lists.{keep}
use Rattle.lists.proofs.Cases.{and_parts, and-whole}
use Rattle.wire_attributes.specs.Tree.{SaKey, WrapKey}
use Rattle.wire_policies.specs.Policy.{GroupSaPolicy}
use Rattle.wire_bags.specs.Bag.{GroupKeyBag, MemberKeyBag}
use Rattle.wire_frames.specs.Frame.{Frame}
use Rattle.rules_refusals.specs.Contents.{group_bags, member_bags, wrap_keys_of}
use Rattle.rules_refusals.specs.Number6.{bag_named}
use Rattle.rules_chains.specs.Chain.{In, Root, Chain, root, step}
use Rattle.rules_outcome.specs.Roots.{copies_of}
use Rattle.rules_outcome.specs.NamedKey.{InOwnBag, InMemberBag}
use Rattle.rules_outcome.proofs.Members.{in-cases, not-in-none, in-keep, keep-in, in-flat_map, flat_map-in}

module _ (f : Frame) (a : GroupSaPolicy) (c : SaKey) where
  pub copy-own : In c (copies_of f a) → InOwnBag f a c
  unfolding copies_of
  copy-own i =
      let r = in-flat_map (λ (b : GroupKeyBag). b.keys) c (keep (bag_named a.protocol a.spi) (group_bags f)) i in
      let b = r.item in
      let k = in-keep b (bag_named a.protocol a.spi) (group_bags f) r.stands in
      let p = and_parts (eqb b.protocol a.protocol) (same b.spi a.spi) k.1 in
      record {
        bag = b;
        stands = k.0;
        protocol = eqb-true b.protocol a.protocol p.0;
        spi = same-eq b.spi a.spi p.1;
        copy = r.is;
      }

  pub own-copy : InOwnBag f a c → In c (copies_of f a)
  unfolding copies_of
  own-copy r =
      let b = r.bag in
      flat_map-in (λ (x : GroupKeyBag). x.keys) c (keep (bag_named a.protocol a.spi) (group_bags f)) b
      (keep-in b (bag_named a.protocol a.spi) (group_bags f) r.stands
      (and-whole (eqb b.protocol a.protocol) (same b.spi a.spi) (eq-eqb b.protocol a.protocol r.protocol)
      (eq-same b.spi a.spi r.spi)))
      r.copy

pub entry-own : (f : Frame) (e : WrapKey) → In e (wrap_keys_of f) → InMemberBag f e
entry-own f e i =
    let r = in-flat_map (λ (b : MemberKeyBag). b.keys) e (member_bags f) i in record { bag = r.item; stands = r.stands; entry = r.is }

-- each entry that a chain passes is one of the entries
pub passed-stand : (roots : List Root) (entries : List WrapKey) (size : ℕ) (passed : List WrapKey) (k : ℕ) (v : List ℕ) →
    Chain roots entries size passed k v → (e : WrapKey) → In e passed → In e entries
passed-stand roots entries size _ _ _ (root r m) e i = absurd (not-in-none e i)
passed-stand roots entries size _ _ _ (step {passed = p} {k = k} {v = v} d c t l) e i =
    ⊎_elim (λ q. subst (λ (x : WrapKey). In x entries) (sym q) l.entry) (λ j. passed-stand roots entries size p k v c e j)
    (in-cases e d p i)
