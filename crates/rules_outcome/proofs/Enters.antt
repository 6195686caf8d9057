-- What stands in the table after acceptance: the announced SAs, each with the octets of its key, and the old ones that are not due.
use mathlib.Core.Path.{◌≡◌, refl, ap, sym, subst}
use Prim.Native.Nat.{ℕ}
use mathlib.Core.Bool.{true, false, not}
use mathlib.Core.Logic.{◌⊎◌, inl, inr, ⊎_elim}
use mathlib.Core.List.{List, [], ◌∷◌}
use borrow.Author.Tests.{not-true}
use Rattle.state_keys.specs.Kinds.{padded}
use Rattle.lists.proofs.Cases.{bool_cases}
use Rattle.lists.proofs.Members.{inserted-member, member-inserted}
use Rattle.wire_attributes.specs.Tree.{WrapKey}
use Rattle.wire_policies.specs.Policy.{GroupSaPolicy}
use Rattle.wire_frames.specs.Frame.{Frame}
use Rattle.state_sa.specs.Entry.{is_live, due, esp_sa, rekey_sa}
use Rattle.state_sa.specs.declared.entry.Sa.{Sa}
use Rattle.state_table.specs.Table.{sas_of, stays}
use Rattle.state.specs.declared.State.{State}
use Rattle.rules_refusals.specs.Fitness.{is_esp, encryption_octets, key_wrap_octets}
use Rattle.rules_refusals.specs.Number2.{not_due_sas}
use Rattle.rules_chains.specs.Chain.{In, Root}
use Rattle.rules_chains.specs.Refusals.{KeyOf}
use Rattle.rules_outcome.specs.Roots.{announced_as}
use Rattle.rules_outcome.specs.After.{old_sa, old_sas, sa_from, insert_all, Enter, no-sa, one_more}
use Rattle.rules_outcome.specs.RestSays.{Stayed}
use Rattle.rules_chains.proofs.Members.{in-member, member-in}
use Rattle.rules_outcome.proofs.Members.{in_head, in_tail, in-cases, not-in-none, in-keep, keep-in, in_map, map-in}

-- ---- the new SAs
module _ (roots : List Root) (entries : List WrapKey) (size now : ℕ) (f : Frame) where
  -- an announced SA enters with the octets of its key
  pub record EntersIn (m : List Sa) (a : GroupSaPolicy) : Type 0 where
    pub octets : List ℕ
    pub key : KeyOf roots entries size (announced_as f a) octets
    pub stands : In (sa_from now a octets) m

  pub each-enters : (l : List GroupSaPolicy) (m : List Sa) → Enter roots entries size now f l m → (a : GroupSaPolicy) → In a l →
      EntersIn m a
  each-enters [] _ no-sa a i = absurd (not-in-none a i)
  each-enters (b ∷ l) _ (one_more {m = m} x k e) a i =
      ⊎_elim
      (λ q. subst (EntersIn (sa_from now b x ∷ m)) (sym q) (record {
        octets = x;
        key = k;
        stands = in_head (sa_from now b x) (sa_from now b x) m refl;
      }))
      (λ j.
      let r = each-enters l m e a j in
      record { octets = r.octets; key = r.key; stands = in_tail (sa_from now a r.octets) (sa_from now b x) m r.stands })
      (in-cases a b l i)

  -- and what enters was announced
  pub record Announces (l : List GroupSaPolicy) (b : Sa) : Type 0 where
    pub policy : GroupSaPolicy
    pub stands : In policy l
    pub octets : List ℕ
    pub key : KeyOf roots entries size (announced_as f policy) octets
    pub is : b ≡ sa_from now policy octets

  pub entered-is : (l : List GroupSaPolicy) (m : List Sa) → Enter roots entries size now f l m → (b : Sa) → In b m → Announces l b
  entered-is [] _ no-sa b i = absurd (not-in-none b i)
  entered-is (a ∷ l) _ (one_more {m = m} x k e) b i =
      ⊎_elim (λ q. record { policy = a; stands = in_head a a l refl; octets = x; key = k; is = q })
      (λ j.
      let r = entered-is l m e b j in
      record { policy = r.policy; stands = in_tail r.policy a l r.stands; octets = r.octets; key = r.key; is = r.is })
      (in-cases b (sa_from now a x) m i)

module _ (now : ℕ) (a : GroupSaPolicy) (x : List ℕ) where
  -- "The new SAs enter as live"
  pub enters-live : is_live (sa_from now a x).condition ≡ true
  unfolding sa_from esp_sa rekey_sa
  enters-live = bool_cases (is_esp a) (λ e. rw e) (λ e. rw e)

  -- a Rekey SA's octets are cut where its policy says, and not by their count
  pub enters_cut : is_esp a ≡ false →
      ((sa_from now a x).encryption ≡ encryption_octets a) × ((sa_from now a x).wrapping ≡ key_wrap_octets a)
      × ((sa_from now a x).octets ≡ padded 68 x)
  unfolding sa_from rekey_sa
  enters_cut e = (rw e, rw e, rw e)

-- ---- put in their places
module _ (b : Sa) where
  pub in_all : (m l : List Sa) → In b (insert_all m l) → In b m ⊎ In b l
  unfolding insert_all
  in_all [] l i = inr i
  in_all (a ∷ m) l i =
      ⊎_elim (λ e. inl (in_head b a m e))
      (λ j. ⊎_elim (λ k. inl (in_tail b a m k)) inr (in_all m l (member-in b (insert_all m l) j)))
      (inserted-member _ a b (insert_all m l) (in-member b _ i))

  pub all_in : (m l : List Sa) → In b m ⊎ In b l → In b (insert_all m l)
  unfolding insert_all
  all_in [] l i = ⊎_elim (λ k. absurd (not-in-none b k)) (λ k. k) i
  all_in (a ∷ m) l i =
      member-in b _
      (member-inserted _ a b (insert_all m l)
      (⊎_elim (λ k. ⊎_elim inl (λ j. inr (in-member b (insert_all m l) (all_in m l (inl j)))) (in-cases b a m k))
      (λ k. inr (in-member b (insert_all m l) (all_in m l (inr k)))) i))

-- ---- the old ones
module _ (s : State) (now : ℕ) (f : Frame) where
  pub old-stayed : (b : Sa) → In b (old_sas s now f) → Stayed s now f b
  unfolding old_sas
  old-stayed b i =
      let r = in_map (old_sa now f) b (not_due_sas now s) i in
      let k = in-keep r.item (stays now) (sas_of s.table) r.stands in
      record { old = r.item; stood = k.0; not-due = not-true (due now r.item) k.1; is = r.is }

  pub stayed-old : (b : Sa) → Stayed s now f b → In b (old_sas s now f)
  unfolding old_sas
  stayed-old b r =
      map-in (old_sa now f) b (not_due_sas now s) r.old
      (keep-in r.old (stays now) (sas_of s.table) r.stood (ap not r.not-due)) r.is
