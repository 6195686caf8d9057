-- The copies of the Rekey SA's key among the policies of a frame, which have one Rekey policy at most, and their number.
use native.Mathlib.Omega.{arith}
use Prim.Native.Nat.{ℕ, ◌+◌, ◌≤◌}
use mathlib.Core.Path.{◌≡◌, refl, ap, sym, ◌∙◌, subst}
use mathlib.Core.Bool.{Bool, true, false, cond}
use mathlib.Core.List.Memᴰ
use mathlib.Core.List.{List, [], ◌∷◌, ◌++◌, append-nil, Memᴰ, flat_map}
use borrow.Author.Tests.{ltb-false}
use lib.Dec.{ltb}
use lib.ListN.{length}
use Rattle.state_keys.specs.Limits.{limits}
use Rattle.lists.specs.Lists.{keep, count}
use Rattle.lists.proofs.Cases.{bool_cases}
use Rattle.wire_attributes.specs.Tree.{SaKey}
use Rattle.wire_policies.specs.Policy.{GroupSaPolicy}
use Rattle.wire_bags.specs.Bag.{GroupKeyBag}
use Rattle.wire_frames.specs.Frame.{Frame}
use Rattle.rules_refusals.specs.Contents.{announced, group_bags}
use Rattle.rules_refusals.specs.Fitness.{is_rekey}
use Rattle.rules_refusals.specs.Number4.{several_rekey_policies}
use Rattle.rules_refusals.specs.Number6.{bag_named, bags_named}
use Rattle.rules_refusals.specs.Number7.{many_sa_keys}
use Rattle.rules_refusals.proofs.FlatMap.{count-append}
use Rattle.rules_outcome.specs.Roots.{copies_of}
use Rattle.rules_outcome.proofs.RunsLists.{none_passes}

module _ {A : Type 0} (p : A → Bool) where
  keep_append : (x y : List A) → keep p (x ++ y) ≡ keep p x ++ keep p y
  unfolding keep
  keep_append [] y = refl
  keep_append (a ∷ x) y =
      let e = keep_append x y in bool_cases (p a) (λ f. rw f (ap (λ (l : List A). a ∷ l) e)) (λ f. rw f e)

  kept-none : (l : List A) → count p l ≡ 0 → keep p l ≡ []
  unfolding keep count
  kept-none [] e = refl
  kept-none (a ∷ l) e =
      bool_cases (p a)
      (λ f. let c : count p l + 1 ≡ 0 = subst (λ (b : Bool). cond b (count p l + 1) (count p l) ≡ 0) f e in absurd (omega arith))
      (λ f.
      let c : count p l ≡ 0 = subst (λ (b : Bool). cond b (count p l + 1) (count p l) ≡ 0) f e in
      rw f (kept-none l c))

  count-first : (a : A) (l : List A) → p a ≡ true → count p (a ∷ l) ≡ count p l + 1
  unfolding count
  count-first a l f = rw f refl

  count-other : (a : A) (l : List A) → p a ≡ false → count p (a ∷ l) ≡ count p l
  unfolding count
  count-other a l f = rw f refl

  keep-first : (a : A) (l : List A) → p a ≡ true → keep p (a ∷ l) ≡ a ∷ keep p l
  unfolding keep
  keep-first a l f = rw f refl

  keep-other : (a : A) (l : List A) → p a ≡ false → keep p (a ∷ l) ≡ keep p l
  unfolding keep
  keep-other a l f = rw f refl

-- ---- no more copies than a bag may have
abbrev keys_of : List GroupKeyBag → List SaKey
keys_of l = flat_map (λ (b : GroupKeyBag). b.keys) l

few-kept : (n : ℕ) (p : GroupKeyBag → Bool) (l : List GroupKeyBag) →
    ((b : GroupKeyBag) → Memᴰ b l → ltb n (length b.keys) ≡ false) → count p l ≤ 1 → length (keys_of (keep p l)) ≤ n
unfolding flat_map keep
few-kept n p [] all c = omega arith
few-kept n p (a ∷ l) all c =
    bool_cases (p a)
    (λ f.
    let d = count-first p a l f in
    let z : count p l ≡ 0 = omega (arith, c, d) in
    let k : keys_of (keep p (a ∷ l)) ≡ a.keys =
    ap keys_of (keep-first p a l f ∙ ap (λ (m : List GroupKeyBag). a ∷ m) (kept-none p l z)) ∙ append-nil a.keys in
    let h = ltb-false n (length a.keys) (all a (Memᴰ.head refl)) in
    omega (arith, h, ap length k))
    (λ f.
    let h = few-kept n p l (λ b m. all b (Memᴰ.append_right (a ∷ []) m)) (omega (arith, c, count-other p a l f)) in
    omega (arith, h, ap (λ (m : List GroupKeyBag). length (keys_of m)) (keep-other p a l f)))

pub few-copies : (f : Frame) (a : GroupSaPolicy) → many_sa_keys limits f ≡ false → bags_named f a.protocol a.spi ≡ 1 →
    length (copies_of f a) ≤ limits.sa_keys
unfolding copies_of many_sa_keys
few-copies f a e n =
    few-kept limits.sa_keys (bag_named a.protocol a.spi) (group_bags f)
    (none_passes (λ (b : GroupKeyBag). ltb limits.sa_keys (length b.keys)) (group_bags f) e) (omega (arith, n))

-- ---- one more policy
module _ (f : Frame) where
  -- the copies of the Rekey SAs among the policies l
  abbrev pub copies_among : List GroupSaPolicy → List SaKey
  copies_among l = flat_map (copies_of f) (keep is_rekey l)

  pub among_none : copies_among [] ≡ []
  unfolding flat_map keep
  among_none = refl

  pub among-other : (l : List GroupSaPolicy) (a : GroupSaPolicy) → is_rekey a ≡ false → copies_among (l ++ (a ∷ [])) ≡ copies_among l
  unfolding keep
  among-other l a e =
      ap (flat_map (copies_of f)) (keep_append is_rekey l (a ∷ []) ∙ ap (λ (m : List GroupSaPolicy). keep is_rekey l ++ m)
      (keep-other is_rekey a [] e)
      ∙ append-nil (keep is_rekey l))

  pub among_first : (l : List GroupSaPolicy) (a : GroupSaPolicy) (rest : List GroupSaPolicy) → several_rekey_policies f ≡ false →
      l ++ (a ∷ rest) ≡ announced f → is_rekey a ≡ true → copies_among (l ++ (a ∷ [])) ≡ copies_of f a
  unfolding flat_map keep several_rekey_policies
  among_first l a rest one all e =
      let h = ltb-false 1 (count is_rekey (announced f)) one in
      let c = ap (count is_rekey) (sym all) ∙ count-append is_rekey l (a ∷ rest) in
      let d = count-first is_rekey a rest e in
      let z : count is_rekey l ≡ 0 = omega (arith, h, c, d) in
      ap (flat_map (copies_of f))
      (keep_append is_rekey l (a ∷ []) ∙ (λ i. kept-none is_rekey l z i ++ keep-first is_rekey a [] e i))
      ∙ append-nil (copies_of f a)
