-- The tests of number 6 over the facts of a frame and the names of its policies and bags are its clauses.
use Prim.Native.Nat.{ℕ, ◌+◌}
use mathlib.Core.Path.{◌≡◌, refl, ap, sym, ◌∙◌}
use mathlib.Core.List.{List, [], ◌∷◌, map}
use mathlib.Core.Bool.{Bool, true, false, not, cond, ◌&&◌, ◌||◌, or-true, or-false}
use native.Mathlib.Omega.{arith}
use borrow.Author.Tests.{eq-eqb, ne_eqb, lt-ltb, le-ltb}
use lib.ListN.{length}
use lib.Dec.{ltb, eqb}
use Rattle.lists.specs.Lists.{any, count}
use Rattle.state_keys.specs.Limits.{limits}
use Rattle.lists.proofs.Cases.{never, lt-cases}
use Rattle.state_sa.specs.Entry.{named, rekey_protocol}
use Rattle.state_table.specs.Table.{sas_of}
use Rattle.state.specs.declared.State.{State}
use Rattle.wire_policies.specs.Policy.{GroupSaPolicy}
use Rattle.wire_bags.specs.Bag.{GroupKeyBag}
use Rattle.wire_frames.specs.Frame.{Frame}
use Rattle.wire_frames.specs.declared.exchanges.Exchange.{Exchange}
use Rattle.rules_refusals.specs.Contents.{row_of, policies_of, bags_of, announced, group_bags}
use Rattle.rules_refusals.specs.Number2.{not_due_sas}
use Rattle.rules_refusals.specs.Number6.{policies_named, bags_named, policy_unpaired, bag_unpaired, policy_twice, bag_twice, already_in_table}
use Rattle.rules_refusals.specs.Number6.{other_sa_key_count, sa_key_count, sa_key_id, esp_kwk_id, wrap_key_id, wraps_itself}
use Rattle.rules_refusals.specs.Number6.{fresh_key_id, fresh_wraps_itself, number6_of_frame, number6_of_member}
use Rattle.rules_refusals.specs.Refusals.{one, number6, applies}
use Rattle.rules_refusals.proofs.FlatMap.{any-either}
use Rattle.check_bagkeys.specs.declared.BagFacts.{BagFacts}
use Rattle.check_bagkeys.specs.inner.Facts.{bag_facts_of as bagFacts}
use Rattle.check_bagkeys.proofs.KeyLaws.{any-of-map}
use Rattle.check_pairing.specs.inner.Names.{Name, is_named, is_unpaired, is_announced}
use Rattle.check_pairing.proofs.InTable.{in_table}
use Rattle.check_pairing.proofs.NamesOf.{policy_names, bag_names, policy_name, bag_name}
use Rattle.check_pairing.proofs.Twice.{is_twice, twice-unpaired}
use Rattle.check_judging.specs.inner.Tests.{number6_of}

count-of-map : {A B : Type 0} (f : A → B) (p : B → Bool) (l : List A) → count (λ (a : A). p (f a)) l ≡ count p (map f l)
unfolding count
count-of-map f p [] = refl
count-of-map f p (a ∷ l) = ap (λ (n : ℕ). cond (p (f a)) (n + 1) n) (count-of-map f p l)

-- ---- the SA_KEY count of one bag: c where the exchange has copies, r where it is a Rekey SA's, n SA_KEYs
no_key : (c r : Bool) → cond (c && r) true true ≡ ((true || (not r && false)) || (not c && (r && false)))
no_key true true = refl
no_key true false = refl
no_key false r = refl

one_key : (c r : Bool) → cond (c && r) false false ≡ ((false || (not r && false)) || (not c && (r && false)))
one_key true true = refl
one_key true false = refl
one_key false true = refl
one_key false false = refl

many-keys : (c r : Bool) → cond (c && r) false true ≡ ((false || (not r && true)) || (not c && (r && true)))
many-keys true true = refl
many-keys true false = refl
many-keys false true = refl
many-keys false false = refl

by_tests : (c r : Bool) {z o g x y w : Bool} → z ≡ x → o ≡ y → g ≡ w
    → cond (c && r) x (not y) ≡ ((x || (not r && w)) || (not c && (r && w)))
    → cond (c && r) z (not o) ≡ ((z || (not r && g)) || (not c && (r && g)))
by_tests c r zq oq gq h =
    (λ i. cond (c && r) (zq i) (not (oq i))) ∙ h ∙ (λ i. (sym zq i || (not r && sym gq i)) || (not c && (r && sym gq i)))

by_count : (c r : Bool) (n : ℕ) → cond (c && r) (eqb n 0) (not (eqb n 1)) ≡ ((eqb n 0 || (not r && ltb 1 n)) || (not c && (r && ltb 1 n)))
by_count c r n =
    lt-cases 1 n
    (λ h. by_tests c r (ne_eqb n 0 (λ e. omega arith)) (ne_eqb n 1 (λ e. omega arith)) (lt-ltb 1 n h) (many-keys c r))
    (λ h. lt-cases 0 n
    (λ g. by_tests c r (ne_eqb n 0 (λ e. omega arith)) (eq-eqb n 1 (omega arith)) (le-ltb 1 n h) (one_key c r))
    (λ g. by_tests c r (eq-eqb n 0 (omega arith)) (ne_eqb n 1 (λ e. omega arith)) (le-ltb 1 n h) (no_key c r)))

any-never : {A : Type 0} (l : List A) → any (λ (a : A). false) l ≡ false
unfolding any
any-never [] = refl
any-never (a ∷ l) = any-never l

any_where : {A : Type 0} (c : Bool) (p : A → Bool) (l : List A) → any (λ (a : A). c && p a) l ≡ (c && any p l)
any_where true p l = refl
any_where false p l = any-never l

module _ (f : Frame) where
  abbrev in_bags : (GroupKeyBag → Bool) → Bool
  in_bags p = any p (group_bags f)

  abbrev facts : BagFacts
  facts = bagFacts limits (bags_of f)

  key_counts : ((facts.keyless || facts.several) || (not (row_of f).allows_copies && facts.several_of_rekey)) ≡ sa_key_count f
  unfolding sa_key_count other_sa_key_count
  key_counts =
      let c = (row_of f).allows_copies in
      let none : GroupKeyBag → Bool = λ b. eqb (length b.keys) 0 in
      let several : GroupKeyBag → Bool = λ b. not (eqb b.protocol rekey_protocol) && ltb 1 (length b.keys) in
      let copied : GroupKeyBag → Bool = λ b. eqb b.protocol rekey_protocol && ltb 1 (length b.keys) in
      sym (
      (λ i. in_bags (λ (b : GroupKeyBag). by_count c (eqb b.protocol rekey_protocol) (length b.keys) i))
      ∙ any-either (λ (b : GroupKeyBag). none b || several b) (λ (b : GroupKeyBag). not c && copied b) (group_bags f)
      ∙ (λ i. any-either none several (group_bags f) i || any_where (not c) copied (group_bags f) i))

-- ---- the clauses on names
module _ (f : Frame) where
  abbrev of_policies : List Name
  of_policies = policy_names (policies_of f)

  abbrev of_bags : List Name
  of_bags = bag_names (bags_of f)

  policy-count : (p : ℕ) (x : List ℕ) → policies_named f p x ≡ count (is_named p x) of_policies
  policy-count p x = count-of-map policy_name (is_named p x) (announced f)

  bag-count : (p : ℕ) (x : List ℕ) → bags_named f p x ≡ count (is_named p x) of_bags
  bag-count p x = count-of-map bag_name (is_named p x) (group_bags f)

  policy-unpaired : policy_unpaired f ≡ any (is_unpaired of_bags) of_policies
  unfolding policy_unpaired
  policy-unpaired =
      (λ i. any (λ (a : GroupSaPolicy). not (eqb (bag-count a.protocol a.spi i) 1)) (announced f))
      ∙ sym (any-of-map policy_name (is_unpaired of_bags) (announced f))

  bag-unpaired : bag_unpaired f ≡ any (is_unpaired of_policies) of_bags
  unfolding bag_unpaired
  bag-unpaired =
      (λ i. any (λ (b : GroupKeyBag). not (eqb (policy-count b.protocol b.spi i) 1)) (group_bags f))
      ∙ sym (any-of-map bag_name (is_unpaired of_policies) (group_bags f))

  policy-twice : policy_twice f ≡ any (is_twice of_policies) of_policies
  unfolding policy_twice
  policy-twice =
      (λ i. any (λ (a : GroupSaPolicy). ltb 1 (policy-count a.protocol a.spi i)) (announced f))
      ∙ sym (any-of-map policy_name (is_twice of_policies) (announced f))

  bag-twice : bag_twice f ≡ any (is_twice of_bags) of_bags
  unfolding bag_twice
  bag-twice =
      (λ i. any (λ (b : GroupKeyBag). ltb 1 (bag-count b.protocol b.spi i)) (group_bags f))
      ∙ sym (any-of-map bag_name (is_twice of_bags) (group_bags f))

  already : (s : State) (now : ℕ) → already_in_table s now f ≡ any (is_announced now of_policies) (sas_of s.table)
  unfolding already_in_table
  already s now =
      sym (any-of-map policy_name (λ (n : Name). any (named n.protocol n.spi) (not_due_sas now s)) (announced f))
      ∙ in_table now of_policies (sas_of s.table)

-- ---- all of them: k on keys, t on the table, p and q unpaired, pp and qq twice
tried : (k t p q pp qq : Bool) → (pp ≡ true → p ≡ false → q ≡ true) → (qq ≡ true → q ≡ false → p ≡ true) →
    (p || (q || (t || k))) ≡ ((p || (q || (pp || (qq || k)))) || (t || false))
tried k t true q pp qq f g = refl
tried k t false true pp qq f g = refl
tried k t false false true qq f g = never false (f refl refl) refl
tried k t false false false true f g = never false (g refl refl) refl
tried k true false false false false f g = sym (or-true k)
tried k false false false false false f g = sym (or-false k)

module _ (row : Exchange) (f : Frame) (e : row_of f ≡ row) (k : BagFacts) (kq : k ≡ bagFacts limits (bags_of f)) (s : State) (now : ℕ) where
  pub number6-is : one (number6_of row k (of_policies f) (of_bags f) now (sas_of s.table)) ≡ applies (number6 s now f)
  unfolding one sa_key_id esp_kwk_id wrap_key_id wraps_itself fresh_key_id fresh_wraps_itself number6_of_frame number6_of_member
  number6-is =
      (λ i. one (sym (policy-unpaired f) i ∷ sym (bag-unpaired f) i ∷ sym (already f s now) i
      ∷ (((kq i).keyless || (kq i).several) || (not (sym e i).allows_copies && (kq i).several_of_rekey))
      ∷ (kq i).named ∷ (kq i).esp_with_kwk_id ∷ (kq i).unnamed
      ∷ (kq i).itself ∷ (kq i).fresh_unnamed ∷ (kq i).fresh_itself ∷ []))
      ∙ (λ i. one (policy_unpaired f ∷ bag_unpaired f ∷ already_in_table s now f ∷ key_counts f i ∷ sa_key_id f ∷ esp_kwk_id f ∷ wrap_key_id f
      ∷ wraps_itself f ∷ fresh_key_id f ∷ fresh_wraps_itself f ∷ []))
      ∙ tried (one (sa_key_count f ∷ sa_key_id f ∷ esp_kwk_id f ∷ wrap_key_id f ∷ wraps_itself f ∷ fresh_key_id f ∷ fresh_wraps_itself f ∷ []))
      (already_in_table s now f) (policy_unpaired f) (bag_unpaired f) (policy_twice f) (bag_twice f)
      (λ e g. bag-unpaired f ∙ twice-unpaired (of_policies f) (of_bags f) (sym (policy-twice f) ∙ e) (sym (policy-unpaired f) ∙ g))
      (λ e g. policy-unpaired f ∙ twice-unpaired (of_bags f) (of_policies f) (sym (bag-twice f) ∙ e) (sym (bag-unpaired f) ∙ g))
