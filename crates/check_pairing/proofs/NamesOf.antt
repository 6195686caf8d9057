-- The names of the policies of a GSA's body and of the bags of a KD's body.
use Prim.Native.Nat.{ℕ, zero, suc, ◌<◌}
use mathlib.Core.Path.{◌≡◌, refl, ap, sym, ◌∙◌, subst}
use mathlib.Core.List.{List, [], ◌∷◌, ◌++◌, map, flat_map}
use mathlib.Core.Bool.{Bool, true, false, cond}
use native.Mathlib.Omega.{arith}
use borrow.Author.Tests.{eqb-true, eqb-false}
use lib.ListN.{length, drop, length-drop}
use lib.Dec.{eqb}
use Rattle.octets.proofs.Numerals.{be16-is}
use Rattle.octets.specs.Numbers.{oct}
use Rattle.octets.specs.Walk.{be16, Reading}
use Rattle.octets.proofs.Walks.{many-none}
use Rattle.lists.proofs.Cases.{bool_cases, lt-cases}
use Rattle.wire_policies.specs.Policy.{head_size, head_fits, Policy, GroupSaPolicy, policy, policies}
use Rattle.wire_policies.proofs.PolicyLaws.{takes}
use Rattle.wire_policies.proofs.HeadLaws.{head-is}
use Rattle.wire_bags.specs.Bag.{Bag, GroupKeyBag, MemberKeyBag, group_keys, member_keys, bags}
use Rattle.wire_readers.specs.inner.Values.{is_whole, items_of}
use Rattle.wire_readers.specs.inner.Policies.{policies_in, Heads}
use Rattle.wire_readers.specs.inner.Bags.{bags_in}
use Rattle.wire_readers.specs.declared.policy.Parts.{Parts}
use Rattle.wire_readers.proofs.PoliciesLaws.{policy-is, fits-first as policy-fits}
use Rattle.wire_readers.proofs.BagsLaws.{bag-is, fits-first as bag-fits}
use Rattle.rules_refusals.specs.Contents.{group_sa_in, group_bag_of}
use Rattle.check_bagkeys.proofs.BagAt.{no-bags}
use Rattle.check_pairing.specs.inner.Names.{Name, name_at, Names, no-more, next}

-- ---- a reader of names that goes from head to head
record Steps (ok : List ℕ → Bool) (read : List ℕ → List Name) (s : List ℕ) : Type 0 where
  fits : head_fits s ≡ true
  all : read s ≡ name_at s ++ read (drop (be16 s 2) s)
  rest : ok (drop (be16 s 2) s) ≡ true

module _ (ok : List ℕ → Bool) (read : List ℕ → List Name) (none : (s : List ℕ) → length s ≡ 0 → read s ≡ [])
    (step : (s : List ℕ) → ok s ≡ true → 0 < length s → Steps ok read s) where
  upto : (n : ℕ) (s : List ℕ) → length s < n → ok s ≡ true → Names s (read s)
  upto zero s h e = absurd (omega arith)
  upto (suc n) s h e =
      lt-cases 0 (length s)
      (λ g.
      let f = step s e g in
      let i = head-is s f.fits in
      let d : length (drop (be16 s 2) s) < n = rw length-drop (omega (arith, i.0, i.1)) in
      subst (Names s) (sym f.all) (next s g f.fits (upto n (drop (be16 s 2) s) d f.rest)))
      (λ g. let z : length s ≡ 0 = omega arith in subst (Names s) (sym (none s z)) (no-more s z))

  read_names : (s : List ℕ) → ok s ≡ true → Names s (read s)
  read_names s e = upto (suc (length s)) s (omega arith) e

pub parts : List ℕ → Parts
parts s = record { first = oct s 0; body = head_size s; end = be16 s 2 }

pub heads : (s : List ℕ) → head_fits s ≡ true → Heads s (parts s)
unfolding parts
heads s e =
    let i = head-is s e in
    let n = be16-is s 2 in
    record {
      first = refl;
      body = refl;
      end = refl;
      some = omega arith;
      order = i.0;
      inside = i.1;
      two_octets = λ a b. omega arith;
    }

-- ---- the name of a Group SA policy, of a Group Key Bag
abbrev pub policy_name : GroupSaPolicy → Name
policy_name a = record { protocol = a.protocol; spi = a.spi }

abbrev pub bag_name : GroupKeyBag → Name
bag_name b = record { protocol = b.protocol; spi = b.spi }

-- ---- policies
abbrev pub policy_names : List Policy → List Name
policy_names l = map policy_name (flat_map group_sa_in l)

policies-done : (s : List ℕ) → length s ≡ 0 → policy_names (policies_in s) ≡ []
unfolding flat_map
policies-done s e =
    ap (λ (x : Reading (List Policy)). policy_names (items_of x)) (many-none policy takes 0 s e)

policy-step : (s : List ℕ) → is_whole (policies 0 s) ≡ true → 0 < length s →
    Steps (λ (x : List ℕ). is_whole (policies 0 x)) (λ (x : List ℕ). policy_names (policies_in x)) s
unfolding parts flat_map
policy-step s e h =
    let q = policy-fits s e h in
    let p = policy-is s e h (parts s) (heads s q) in
    record {
      fits = q;
      all = bool_cases (eqb (oct s 0) 0)
          (λ t. ap policy_names (p.wide (eqb-true (oct s 0) 0 t)).item ∙ rw t)
          (λ t. ap policy_names (p.sa (eqb-false (oct s 0) 0 t)).item ∙ rw t);
      rest = p.rest;
    }

pub policy-names : (g : List ℕ) → is_whole (policies 0 g) ≡ true → Names g (policy_names (policies_in g))
policy-names g e =
    read_names (λ (x : List ℕ). is_whole (policies 0 x)) (λ (x : List ℕ). policy_names (policies_in x)) policies-done policy-step g e

-- ---- key bags
abbrev pub bag_names : List Bag → List Name
bag_names l = map bag_name (flat_map group_bag_of l)

bags-done : (fresh : Bool) (s : List ℕ) → length s ≡ 0 → bag_names (bags_in fresh s) ≡ []
unfolding flat_map
bags-done fresh s e = ap bag_names (no-bags fresh s 0 (omega arith))

named-bag : (t : Bool) (m : MemberKeyBag) (b : GroupKeyBag) (l : List Bag) →
    bag_names (cond t (member_keys m) (group_keys b) ∷ l) ≡ cond t [] (bag_name b ∷ []) ++ bag_names l
unfolding flat_map
named-bag true m b l = refl
named-bag false m b l = refl

bag-step : (fresh : Bool) (s : List ℕ) → is_whole (bags fresh 0 s) ≡ true → 0 < length s →
    Steps (λ (x : List ℕ). is_whole (bags fresh 0 x)) (λ (x : List ℕ). bag_names (bags_in fresh x)) s
unfolding parts
bag-step fresh s e h =
    let q = bag-fits fresh s e h in
    let p = bag-is fresh s e h (parts s) (heads s q) in
    record { fits = q; all = ap bag_names p.item ∙ named-bag (eqb (oct s 0) 0) _ _ _; rest = p.rest }

pub bag-names : (fresh : Bool) (k : List ℕ) → is_whole (bags fresh 0 k) ≡ true → Names k (bag_names (bags_in fresh k))
bag-names fresh k e =
    read_names (λ (x : List ℕ). is_whole (bags fresh 0 x)) (λ (x : List ℕ). bag_names (bags_in fresh x)) (bags-done fresh) (bag-step fresh) k e
