-- The copies of an SA's key are those of its bag, where that stands among the key bags.
use Prim.Native.Nat.{ℕ}
use mathlib.Core.Path.{◌≡◌, ap, sym, ◌∙◌, subst}
use mathlib.Core.Bool.{Bool, true}
use mathlib.Core.List.{List, flat_map}
use Rattle.octets.specs.Walk.{part}
use Rattle.lists.specs.Lists.{keep}
use Rattle.wire_attributes.specs.Place.{in_bag}
use Rattle.wire_attributes.specs.Tree.{WrapKey}
use Rattle.wire_attributes.specs.Layout.{attributes}
use Rattle.wire_attributes.specs.declared.tables.Place.{Place}
use Rattle.wire_policies.specs.Policy.{GroupSaPolicy}
use Rattle.wire_bags.specs.Bag.{GroupKeyBag}
use Rattle.wire_frames.specs.Frame.{Frame}
use Rattle.wire_readers.specs.inner.Values.{is_whole}
use Rattle.wire_readers.specs.inner.Bags.{bags_in}
use Rattle.rules_refusals.specs.Contents.{group_bag_of, bags_of}
use Rattle.rules_refusals.specs.Number6.{bag_named}
use Rattle.rules_chains.specs.Chain.{Root}
use Rattle.rules_chains.specs.Refusals.{Announced}
use Rattle.unwrap_copies.specs.inner.Answer.{copies_in, announced_in}
use Rattle.unwrap_copies.specs.inner.Openers.{CopiesAnswer}
use Rattle.unwrap_copies.specs.declared.answer.Copied.{Copied}
use Rattle.rules_outcome.specs.Roots.{copies_of, need_of, announced_as}
use Rattle.check_pairing.proofs.Seeking.{StretchIs}
use Rattle.wire_readers.specs.declared.Stretch.{Stretch}

module _ (reads : Bool) (k : List ℕ) (p : ℕ) (x : List ℕ) (s : Stretch) (is : StretchIs reads k p x s) (place : Place)
    (in-bag : place ≡ in_bag reads p) where
  abbrev own : List ℕ
  own = part k s.start s.end

  pub own-whole : is_whole (attributes place 0 own) ≡ true
  own-whole = ap (λ (q : Place). is_whole (attributes q 0 own)) in-bag ∙ is.held

  module _ (f : Frame) (a : GroupSaPolicy) (b : bags_of f ≡ bags_in reads k) (q : a.protocol ≡ p) (y : a.spi ≡ x) where
    copies-are : copies_of f a ≡ copies_in place own
    unfolding copies_of
    copies-are =
        (λ i. flat_map (λ (c : GroupKeyBag). c.keys) (keep (bag_named (q i) (y i)) (flat_map group_bag_of (b i)))) ∙ is.keys
        ∙ ap (λ (z : Place). copies_in z own) (sym in-bag)

    pub own-answers : (need : ℕ) → need_of a ≡ need → (roots : List Root) (entries : List WrapKey) (size : ℕ) (r : Copied) →
        CopiesAnswer roots entries size (announced_in place own need) r → CopiesAnswer roots entries size (announced_as f a) r
    own-answers need n roots entries size r t =
        subst (λ (c : Announced). CopiesAnswer roots entries size c r) (λ i. record { copies = sym copies-are i; need = sym n i }) t
