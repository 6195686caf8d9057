-- The tests of number 4 over the facts of a frame are its clauses.
use Prim.Native.Nat.{ℕ, ◌≤◌}
use mathlib.Core.Path.{◌≡◌, refl, ap, sym, ◌∙◌}
use mathlib.Core.List.{List, [], ◌∷◌, ◌++◌, append-nil, flat_map}
use mathlib.Core.Bool.{Bool, true, false, not, ◌&&◌, ◌||◌, or-false}
use native.Mathlib.Omega.{arith}
use borrow.Author.Tests.{lt-ltb}
use lib.Dec.{ltb}
use Rattle.octets.specs.Walk.{part}
use Rattle.lists.specs.Lists.{any, count}
use Rattle.state_keys.specs.Limits.{limits}
use Rattle.lists.proofs.Cases.{bool_cases, never, lt-cases}
use Rattle.wire_policies.specs.Policy.{Policy}
use Rattle.wire_frames.specs.Frame.{Frame, Payload, Content, gsa, kd, delete, unread}
use Rattle.wire_frames.specs.declared.exchanges.Exchange.{Exchange}
use Rattle.wire_readers.specs.inner.Policies.{policies_in}
use Rattle.wire_readers.specs.inner.Bags.{bags_in}
use Rattle.rules_refusals.specs.Contents.{row_of, some, is_gsa, has_gsa, has_kd, policies_of_content as policiesOfOne, policies_of, bags_of}
use Rattle.rules_refusals.specs.Contents.{group_sa_in}
use Rattle.rules_refusals.specs.Number4.{barred_member_bag, barred_delete, two_gsa, two_kd, gsa_without_kd, kd_without_gsa, neither}
use Rattle.rules_refusals.specs.Number4.{several_rekey_policies, several_group_wide, several_member_bags, gsa_without_sa_policy, key_length_twice}
use Rattle.rules_refusals.specs.Number4.{initial_message_id_twice, delay_twice, other_destination, lifetime_twice, without_sa_policy}
use Rattle.rules_refusals.specs.Number4.{number4_of_frame}
use Rattle.rules_refusals.specs.Refusals.{one, applies, number4}
use Rattle.rules_refusals.proofs.First.{any-no, count_yes, count_no}
use Rattle.rules_refusals.proofs.OneOf.{one_at}
use Rattle.rules_refusals.proofs.FlatMap.{any-count}
use Rattle.check_payloads.specs.declared.PayloadFacts.{PayloadFacts}
use Rattle.check_payloads.proofs.FoundLaws.{OfFrame}
use Rattle.check_composition.specs.declared.PolicyFacts.{PolicyFacts}
use Rattle.check_composition.specs.inner.Facts.{policy_facts_of as policyFacts}
use Rattle.check_bagkeys.specs.declared.BagFacts.{BagFacts}
use Rattle.check_bagkeys.specs.inner.Facts.{bag_facts_of as bagFacts}
use Rattle.check_judging.specs.inner.Tests.{number4_of}

-- A GSA WITH NO SA POLICY, where there is one GSA at most
holds-none : (c : Content) → is_gsa c ≡ false → policiesOfOne c ≡ []
holds-none (gsa l) e = never true refl e
holds-none (kd l) e = refl
holds-none (delete d) e = refl
holds-none unread e = refl

in_all : List Payload → List Policy
in_all l = flat_map (λ (p : Payload). policiesOfOne p.content) l

with_sa : List Policy → Bool
with_sa l = some (flat_map group_sa_in l)

module _ (p : Payload) (l : List Payload) where
  next-policies : in_all (p ∷ l) ≡ policiesOfOne p.content ++ in_all l
  unfolding in_all flat_map
  next-policies = refl

  first-without : has_gsa p ≡ true → any without_sa_policy l ≡ false → any without_sa_policy (p ∷ l) ≡ not (with_sa (policiesOfOne p.content))
  unfolding any with_sa
  first-without e f =
      (λ i. (e i && not (with_sa (policiesOfOne p.content))) || f i) ∙ or-false (not (with_sa (policiesOfOne p.content)))

  later-without : has_gsa p ≡ false → any without_sa_policy (p ∷ l) ≡ any without_sa_policy l
  later-without e =
      any-no without_sa_policy p l (p ∷ l) refl (ap (λ (b : Bool). b && not (some (flat_map group_sa_in (policiesOfOne p.content)))) e)

no-gsa-left : (l : List Payload) → count has_gsa l ≤ 0 → (any without_sa_policy l ≡ false) × (in_all l ≡ [])
unfolding any flat_map in_all
no-gsa-left [] h = (refl, refl)
no-gsa-left (p ∷ l) h =
    bool_cases (has_gsa p) (λ e. absurd (omega (arith, count_yes has_gsa p l (p ∷ l) refl e)))
    (λ e.
    let r = no-gsa-left l (omega (arith, count_no has_gsa p l (p ∷ l) refl e)) in
    (later-without p l e ∙ r.0, (λ i. holds-none p.content e i ++ r.1 i)))

one-gsa : (l : List Payload) → count has_gsa l ≤ 1 → any without_sa_policy l ≡ (ltb 0 (count has_gsa l) && not (with_sa (in_all l)))
unfolding any count
one-gsa [] h = refl
one-gsa (p ∷ l) h =
    bool_cases (has_gsa p)
    (λ e.
    let c = count_yes has_gsa p l (p ∷ l) refl e in
    let r = no-gsa-left l (omega arith) in
    let q : in_all (p ∷ l) ≡ policiesOfOne p.content =
    next-policies p l ∙ ap (λ (x : List Policy). policiesOfOne p.content ++ x) r.1 ∙ append-nil (policiesOfOne p.content) in
    first-without p l e r.0 ∙ (λ i. sym (lt-ltb 0 (count has_gsa (p ∷ l)) (omega arith)) i && not (with_sa (sym q i))))
    (λ e.
    let c = count_no has_gsa p l (p ∷ l) refl e in
    let q : in_all (p ∷ l) ≡ in_all l = next-policies p l ∙ ap (λ (x : List Policy). x ++ in_all l) (holds-none p.content e) in
    later-without p l e ∙ one-gsa l (omega arith) ∙ (λ i. ltb 0 (sym c i) && not (with_sa (sym q i))))

-- THE TESTS
module _ (fresh : Bool) (s : List ℕ) (f : Frame) (b : PayloadFacts) (is : OfFrame fresh s f b) (row : Exchange) (e : row_of f ≡ row)
    (p : PolicyFacts) (k : BagFacts) (pq : p ≡ policyFacts row.authentication (policies_in (part s b.gsa.start b.gsa.end)))
    (kq : k ≡ bagFacts limits (bags_in fresh (part s b.kd.start b.kd.end))) where
  -- with one GSA and one KD at most, the facts of their bodies are the frame's
  pub policies-are : b.gsas ≤ 1 → p ≡ policyFacts (row_of f).authentication (policies_of f)
  policies-are h = pq ∙ (λ i. policyFacts (sym e i).authentication ((is.policies h).all i))

  pub bags-are : b.kds ≤ 1 → k ≡ bagFacts limits (bags_of f)
  bags-are h = kq ∙ ap (bagFacts limits) (is.bags h).all

  gsa-there : ltb 0 b.gsas ≡ any has_gsa f.payloads
  gsa-there = ap (ltb 0) is.gsas ∙ sym (any-count has_gsa f.payloads)

  kd-there : ltb 0 b.kds ≡ any has_kd f.payloads
  kd-there = ap (ltb 0) is.kds ∙ sym (any-count has_kd f.payloads)

  without-sa : b.gsas ≤ 1 → (ltb 0 b.gsas && not (ltb 0 p.sas)) ≡ gsa_without_sa_policy f
  unfolding gsa_without_sa_policy in_all with_sa
  without-sa h =
      (λ i. ltb 0 (is.gsas i) && not (ltb 0 (policies-are h i).sas)) ∙ sym (one-gsa f.payloads (omega (arith, is.gsas)))

  as-clauses : b.gsas ≤ 1 → b.kds ≤ 1 → number4_of row b p k ≡ number4_of_frame f
  unfolding number4_of_frame barred_member_bag barred_delete two_gsa two_kd gsa_without_kd kd_without_gsa neither several_rekey_policies several_group_wide
      several_member_bags key_length_twice initial_message_id_twice delay_twice other_destination lifetime_twice
  as-clauses g h = λ i.
      is.critical i ∷ (not (sym e i).allows_member_bag && ltb 0 (bags-are h i).members)
      ∷ (not (sym e i).allows_deletes && ltb 0 (is.deletes i))
      ∷ ltb 1 (is.gsas i) ∷ ltb 1 (is.kds i) ∷ (gsa-there i && not (kd-there i)) ∷ (kd-there i && not (gsa-there i))
      ∷ (not (gsa-there i) && (not (kd-there i) && not ((sym e i).allows_deletes && ltb 0 (is.deletes i))))
      ∷ ltb 1 (policies-are g i).rekeys ∷ ltb 1 (policies-are g i).wides ∷ ltb 1 (bags-are h i).members ∷ without-sa g i
      ∷ (policies-are g i).two_lengths ∷ (policies-are g i).two_message_ids ∷ (policies-are g i).two_delays ∷ (policies-are g i).elsewhere
      ∷ (policies-are g i).two_lifetimes ∷ []

  -- with two of them, both apply
  two-gsas : ltb 1 b.gsas ≡ true → one (number4_of row b p k) ≡ applies (number4 f)
  unfolding number4_of_frame two_gsa
  two-gsas h =
      let t : two_gsa f ≡ true = ap (ltb 1) (sym is.gsas) ∙ h in
      one_at 3 (number4_of row b p k) h ∙ sym (ap (λ (x : Bool). x || one []) (one_at 3 (number4_of_frame f) t))

  two-kds : ltb 1 b.kds ≡ true → one (number4_of row b p k) ≡ applies (number4 f)
  unfolding number4_of_frame two_kd
  two-kds h =
      let t : two_kd f ≡ true = ap (ltb 1) (sym is.kds) ∙ h in
      one_at 4 (number4_of row b p k) h ∙ sym (ap (λ (x : Bool). x || one []) (one_at 4 (number4_of_frame f) t))

  pub number4-is : one (number4_of row b p k) ≡ applies (number4 f)
  unfolding one
  number4-is =
      lt-cases 1 b.gsas (λ g. two-gsas (lt-ltb 1 b.gsas g))
      (λ g. lt-cases 1 b.kds (λ h. two-kds (lt-ltb 1 b.kds h))
      (λ h. ap one (as-clauses g h) ∙ sym (or-false (one (number4_of_frame f)))))
