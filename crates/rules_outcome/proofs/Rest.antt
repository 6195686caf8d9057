-- "AND THE REST OF THE MEMBER IS AS THAT DOCUMENT LEAVES IT": what an accepted frame makes of the least Message ID, the delay and the old
-- SAs, by cases and with document 01's words.
use native.Mathlib.Omega.{arith}
use Prim.Native.Nat.{ℕ, ◌+◌, ◌≤◌}
use mathlib.Core.Path.{◌≡◌, refl, ap, sym, ◌∙◌, subst}
use mathlib.Core.Bool.{Bool, true, false, not, cond, ◌||◌, false≢true}
use mathlib.Core.Logic.{◌⊎◌, inl, inr, ⊎_elim, ◌↔◌}
use mathlib.Core.List.{List, [], ◌∷◌, Memᴰ}
use borrow.Author.Tests.{eqb-true, eq-eqb, ltb-false, not-false}
use lib.Dec.{eqb}
use Rattle.octets.specs.Compare.{same}
use Rattle.octets.proofs.Order.{same-eq, eq-same}
use Rattle.state_keys.specs.Limits.{Limits}
use Rattle.lists.specs.Lists.{any, count}
use Rattle.lists.proofs.Cases.{bool_cases, lt-cases, and_parts, and-whole, or_left, or_right, or_cases}
use Rattle.wire_policies.specs.Policy.{GroupSaPolicy, GroupWidePolicy}
use Rattle.wire_frames.specs.Delete.{Delete}
use Rattle.wire_frames.specs.Frame.{Frame}
use Rattle.wire_frames.specs.Grammar.{IsFrame}
use Rattle.wire_frames.specs.Exchange.{registration, rekey, inband}
use Rattle.wire_frames.specs.declared.exchanges.Exchange.{Exchange}
use Rattle.state_sa.specs.Entry.{sa_spi, with_condition}
use Rattle.state_sa.specs.declared.entry.Condition.TheVariants.{Retiring}
use Rattle.state_sa.specs.declared.entry.Sa.{Sa}
use Rattle.state_sa.proofs.Laws.{retired-live, retired-kept}
use Rattle.state_table.specs.Table.{sas_of, retired_if}
use Rattle.state.specs.declared.State.{State}
use Rattle.state.specs.declared.least.Least.{Least}
use Rattle.state.specs.declared.least.Least.TheVariants.{Id, NoneAnyMore}
use Rattle.state.proofs.Laws.{after_more, after_last}
use Rattle.rules_refusals.specs.Contents.{row_of, announced, group_wides, deletes_of, deleted_spis, several}
use Rattle.rules_refusals.specs.Fitness.{is_rekey, sum}
use Rattle.rules_refusals.specs.Number2.{number2_of_frame}
use Rattle.rules_refusals.specs.Number4.{several_rekey_policies, several_group_wide, initial_message_id_twice, delay_twice, number4_of_frame}
use Rattle.rules_refusals.specs.Number5.{delete_of_other, number5_of_frame}
use Rattle.rules_refusals.proofs.Clear.{no-clause}
use Rattle.rules_chains.specs.Chain.{In}
use Rattle.rules_chains.proofs.Members.{in-member, member-in}
use Rattle.rules_outcome.specs.Holding.{new_rekey}
use Rattle.rules_outcome.specs.After.{delay_of, is_zero, named_in_delete, replaced, retires, old_sa, initial_message_id, least_by}
use Rattle.rules_outcome.specs.After.{least_afterwards}
use Rattle.rules_outcome.specs.Outcome.{Outcome}
use Rattle.rules_outcome.proofs.HeldList.{new-any, any-new}
use Rattle.rules_outcome.proofs.Rows.{registration-row, rekeys, inband-row, one-of-four}
use Rattle.rules_outcome.specs.RestSays.{NewRekey, NoNewRekey, LeastAs, its-initial-id, else-0, of-registration, own-plus-1}
use Rattle.rules_outcome.specs.RestSays.{none-any-more, as_before, DelayAs, given, none-in-it, no-group-wide, EndsSa, by-its-spi}
use Rattle.rules_outcome.specs.RestSays.{by-spi-0}
use Rattle.rules_outcome.specs.RestSays.{by-new-rekey, Becomes, kept, turned, OldSa, Stayed}
use Rattle.rules_outcome.proofs.Members.{in_head, in-cases, not-in-none}
use Rattle.rules_outcome.specs.Demand3.{Entered}
use Rattle.rules_outcome.proofs.Demands.{table-after}
use Rattle.rules_outcome.proofs.RunsLists.{none_passes, some-passes, passes-some}
use Rattle.rules_outcome.proofs.RunsClear.{Clear, Taken, taken}
use Rattle.rules_outcome.proofs.RestSpis.{deleted-size}
use Rattle.rules_outcome.proofs.RestLaws.{sum-at, at_most_one, of_none, of_one, four-zero, zero-four}
use Rattle.rules_outcome.proofs.RestLaws.{live-or-retiring}

module _ (limits : Limits) (s : State) (now : ℕ) (lent octets : List ℕ) (f : Frame) (e : IsFrame s.profile octets f) where
  module _ (c : Clear limits s now lent f) where
    -- number 4 lets pass one Rekey policy, one group-wide policy, one GSA_INITIAL_MESSAGE_ID and one delay in it
    one-rekey : count is_rekey (announced f) ≤ 1
    unfolding number4_of_frame several_rekey_policies
    one-rekey = ltb-false 1 (count is_rekey (announced f)) (no-clause (number4_of_frame f) 8 c.no-4.of_frame)

    one-wide : several (group_wides f) ≡ false
    unfolding number4_of_frame several_group_wide
    one-wide = no-clause (number4_of_frame f) 9 c.no-4.of_frame

    one-initial : (p : GroupSaPolicy) → In p (announced f) → several p.initial_message_ids ≡ false
    unfolding number4_of_frame initial_message_id_twice
    one-initial p m =
        none_passes (λ (q : GroupSaPolicy). several q.initial_message_ids) (announced f)
        (no-clause (number4_of_frame f) 13 c.no-4.of_frame) p (in-member p (announced f) m)

    one-delay : (w : GroupWidePolicy) → In w (group_wides f) → several w.deactivation_delays ≡ false
    unfolding number4_of_frame delay_twice
    one-delay w m =
        none_passes (λ (q : GroupWidePolicy). several q.deactivation_delays) (group_wides f)
        (no-clause (number4_of_frame f) 14 c.no-4.of_frame) w (in-member w (group_wides f) m)

    -- number 5 lets pass Deletes of ESP alone
    esp-deletes : (d : Delete) → Memᴰ d (deletes_of f) → d.protocol ≡ 3
    unfolding number5_of_frame delete_of_other
    esp-deletes d m =
        eqb-true d.protocol 3
        (not-false (eqb d.protocol 3)
        (none_passes (λ (x : Delete). not (eqb x.protocol 3)) (deletes_of f) (no-clause (number5_of_frame lent f) 3 c.no-5.of_frame) d
        m))

    admitted : (row_of f).admitted ≡ true
    admitted = not-false (row_of f).admitted (no-clause (number2_of_frame f.header.exchange) 0 c.no-2.of_frame)

    -- ---- the least Message ID
    no-new : NoNewRekey f → new_rekey f ≡ false
    no-new n = bool_cases (new_rekey f) (λ g. let r = any-new f g in absurd (n r.0 r.1)) (λ g. g)

    not_new : new_rekey f ≡ false → NoNewRekey f
    not_new g p n = false≢true (sym g ∙ new-any f p n)

    initial-of : (p : GroupSaPolicy) → NewRekey f p → initial_message_id f ≡ sum (λ (i : ℕ). i) p.initial_message_ids
    unfolding initial_message_id
    initial-of p n =
        let t = eq-eqb p.protocol 6 n.is-rekey in
        sum-at is_rekey (λ (a : GroupSaPolicy). cond (is_rekey a) (sum (λ (i : ℕ). i) a.initial_message_ids) 0) (λ a g. rw g) (announced f)
        one-rekey p (in-member p (announced f) n.stands) t
        ∙ rw t

    least-row : (x : Exchange) → row_of f ≡ x →
        least_by (row_of f).least f.header.message_id s.least ≡ least_by x.least f.header.message_id s.least
    least-row x q = ap (λ (y : Exchange). least_by y.least f.header.message_id s.least) q

    as-least : (l : Least) → LeastAs f s.least l → least_afterwards s f ≡ l
    unfolding least_afterwards
    as-least _ (its-initial-id p n i q) = rw (new-any f p n) (ap Id (initial-of p n ∙ of_one p.initial_message_ids i q))
    as-least _ (else-0 p n q) = rw (new-any f p n) (ap Id (initial-of p n ∙ of_none p.initial_message_ids q))
    as-least _ (of-registration n r) = rw (no-new n) (least-row registration (registration-row f r))
    as-least _ (own-plus-1 n x h) =
        rw (no-new n) (least-row rekey (rekeys f.header.exchange x) ∙ sym (after_more f.header.message_id h))
    as-least _ (none-any-more n x h) =
        rw (no-new n) (least-row rekey (rekeys f.header.exchange x) ∙ sym (after_last f.header.message_id h))
    as-least _ (as_before n x) = rw (no-new n) (least-row inband (inband-row f x))

    settled : (l : Least) → LeastAs f s.least l → LeastAs f s.least (least_afterwards s f)
    settled l a = subst (LeastAs f s.least) (sym (as-least l a)) a

    least-as : LeastAs f s.least (least_afterwards s f)
    least-as =
        let i = f.header.message_id in
        bool_cases (new_rekey f)
        (λ g.
        let p = (any-new f g).0 in
        let n = (any-new f g).1 in
        ⊎_elim (λ q. settled (Id 0) (else-0 p n q)) (λ q. settled (Id q.0) (its-initial-id p n q.0 q.1))
        (at_most_one p.initial_message_ids (one-initial p n.stands)))
        (λ g.
        ⊎_elim (λ r. settled (Id 0) (of-registration (not_new g) r))
        (λ k.
        ⊎_elim
        (λ x.
        lt-cases i 4294967295 (λ h. settled (Id (i + 1)) (own-plus-1 (not_new g) x h))
        (λ h. settled NoneAnyMore (none-any-more (not_new g) x h)))
        (λ x. settled s.least (as_before (not_new g) x)) k)
        (one-of-four f admitted))

    -- ---- the delay
    the-wide : (w v : GroupWidePolicy) → In w (group_wides f) → group_wides f ≡ v ∷ [] → w ≡ v
    the-wide w v m q =
        ⊎_elim (λ r. r) (λ n. absurd (not-in-none w n)) (in-cases w v [] (subst (In w) q m))

    no-wide : group_wides f ≡ [] → (w : GroupWidePolicy) → In w (group_wides f) → ⊥
    no-wide q w m = not-in-none w (subst (In w) q m)

    delay-one : (v : GroupWidePolicy) → group_wides f ≡ v ∷ [] → delay_of f ≡ sum (λ (d : ℕ). d) v.deactivation_delays
    unfolding delay_of sum
    delay-one v q =
        let h = ap (sum (λ (w : GroupWidePolicy). sum (λ (d : ℕ). d) w.deactivation_delays)) q in
        h ∙ omega arith

    delay-none : group_wides f ≡ [] → delay_of f ≡ 0
    unfolding delay_of sum
    delay-none q = ap (sum (λ (w : GroupWidePolicy). sum (λ (d : ℕ). d) w.deactivation_delays)) q

    delay-at : (w : GroupWidePolicy) → In w (group_wides f) → delay_of f ≡ sum (λ (d : ℕ). d) w.deactivation_delays
    delay-at w m =
        ⊎_elim (λ q. absurd (no-wide q w m))
        (λ q.
        delay-one q.0 q.1
        ∙ ap (λ (v : GroupWidePolicy). sum (λ (d : ℕ). d) v.deactivation_delays) (sym (the-wide w q.0 m q.1)))
        (at_most_one (group_wides f) one-wide)

    as-delay : (d : ℕ) → DelayAs f d → delay_of f ≡ d
    as-delay d (given w m _ q) = delay-at w m ∙ of_one w.deactivation_delays d q
    as-delay _ (none-in-it w m q) = delay-at w m ∙ of_none w.deactivation_delays q
    as-delay _ (no-group-wide n) =
        ⊎_elim delay-none (λ q. absurd (n q.0 (subst (In q.0) (sym q.1) (in_head q.0 q.0 [] refl))))
        (at_most_one (group_wides f) one-wide)

    delay-as : DelayAs f (delay_of f)
    delay-as =
        let settle : (d : ℕ) → DelayAs f d → DelayAs f (delay_of f) = λ d a. subst (DelayAs f) (sym (as-delay d a)) a in
        ⊎_elim (λ q. settle 0 (no-group-wide (no-wide q)))
        (λ q.
        let w = q.0 in
        let m : In w (group_wides f) = subst (In w) (sym q.1) (in_head w w [] refl) in
        ⊎_elim (λ r. settle 0 (none-in-it w m r)) (λ r. settle r.0 (given w m r.0 r.1))
        (at_most_one w.deactivation_delays (one-delay w m)))
        (at_most_one (group_wides f) one-wide)

    -- ---- the old SAs
    abbrev names : Sa → List ℕ → Bool
    names a x = is_zero x || same (sa_spi a) x

    deletes : (a : Sa) (x : List ℕ) → a.protocol ≡ 3 → In x (deleted_spis f) → names a x ≡ true → retires f a ≡ true
    unfolding named_in_delete
    deletes a x p m t =
        or_left (named_in_delete f a) (replaced f a)
        (and-whole (eqb a.protocol 3) (any (names a) (deleted_spis f)) (eq-eqb a.protocol 3 p)
        (passes-some (names a) (deleted_spis f) x (in-member x (deleted_spis f) m) t))

    ends-retires : (a : Sa) → EndsSa f a → retires f a ≡ true
    unfolding replaced
    ends-retires a (by-its-spi p m) =
        deletes a (sa_spi a) p m (or_right (is_zero (sa_spi a)) (same (sa_spi a) (sa_spi a)) (eq-same (sa_spi a) (sa_spi a) refl))
    ends-retires a (by-spi-0 p m) =
        let z : List ℕ = 0 ∷ 0 ∷ 0 ∷ 0 ∷ [] in deletes a z p m (or_left (is_zero z) (same (sa_spi a) z) (zero-four z refl))
    ends-retires a (by-new-rekey p q n) =
        or_right (named_in_delete f a) (replaced f a)
        (and-whole (new_rekey f) (eqb a.protocol 6) (new-any f q n) (eq-eqb a.protocol 6 p))

    retires-ends : (a : Sa) → retires f a ≡ true → EndsSa f a
    unfolding named_in_delete replaced
    retires-ends a t =
        ⊎_elim
        (λ d.
        let p = and_parts (eqb a.protocol 3) (any (names a) (deleted_spis f)) d in
        let r = some-passes (names a) (deleted_spis f) p.1 in
        let x = r.one in
        let m = member-in x (deleted_spis f) r.stands in
        let esp = eqb-true a.protocol 3 p.0 in
        ⊎_elim
        (λ z.
        let q = four-zero x (deleted-size s.profile octets f e esp-deletes x r.stands) z in
        by-spi-0 esp (subst (λ (y : List ℕ). In y (deleted_spis f)) q m))
        (λ z. by-its-spi esp (subst (λ (y : List ℕ). In y (deleted_spis f)) (sym (same-eq (sa_spi a) x z)) m))
        (or_cases (is_zero x) (same (sa_spi a) x) r.passes))
        (λ d.
        let p = and_parts (new_rekey f) (eqb a.protocol 6) d in
        let n = any-new f p.0 in
        by-new-rekey (eqb-true a.protocol 6 p.1) n.0 n.1)
        (or_cases (named_in_delete f a) (replaced f a) t)

    becomes-is : (a b : Sa) → Becomes f now a b → b ≡ old_sa now f a
    unfolding retired_if
    becomes-is a _ (kept (inl n)) =
        bool_cases (retires f a) (λ g. absurd (n (retires-ends a g))) (λ g. rw g)
    becomes-is a _ (kept (inr q)) =
        bool_cases (retires f a) (λ g. rw g (retired-kept a _ _ q.0 q.1 q.2)) (λ g. rw g)
    becomes-is a b (turned l n d x) =
        rw (ends-retires a n)
        (retired-live a now (delay_of f) b l (ap (λ (k : ℕ). with_condition (Retiring now k) a) (sym (as-delay d x))))

    is-becomes : (a : Sa) → Becomes f now a (old_sa now f a)
    is-becomes a =
        let settle : (b : Sa) → Becomes f now a b → Becomes f now a (old_sa now f a) =
        λ b x. subst (Becomes f now a) (becomes-is a b x) x in
        ⊎_elim
        (λ l.
        bool_cases (retires f a)
        (λ g. settle (with_condition (Retiring now (delay_of f)) a) (turned l (retires-ends a g) (delay_of f) delay-as))
        (λ g. settle a (kept (inl (λ n. false≢true (sym g ∙ ends-retires a n))))))
        (λ q. settle a (kept (inr q))) (live-or-retiring a.condition)

    old-stayed : (b : Sa) → OldSa f s now b → Stayed s now f b
    old-stayed b o = record { old = o.was; stood = o.stood; not-due = o.not-due; is = becomes-is o.was b o.becomes }

    stayed-old : (b : Sa) → Stayed s now f b → OldSa f s now b
    stayed-old b o =
        record {
          was = o.old;
          stood = o.stood;
          not-due = o.not-due;
          becomes = subst (Becomes f now o.old) (sym o.is) (is-becomes o.old);
        }

  -- ---- THE THEOREMS
  module _ (next : State) (o : Outcome limits s now lent octets 0 next) where
    was-taken : Taken limits s now lent next f
    was-taken = taken limits s now lent octets f next e o

    -- "With a new Rekey SA the least Message ID is its GSA_INITIAL_MESSAGE_ID, else 0; without one, a registration sets 0 and a rekey sets
    -- it to its own plus 1, or "none any more" after 4,294,967,295." In GSA_INBAND_REKEY it "changes only if a new Rekey SA comes" (T-02).
    pub least-after : (l : Least) → (next.least ≡ l) ↔ LeastAs f s.least l
    least-after l = (
      λ q. subst (LeastAs f s.least) (sym was-taken.after.least ∙ q) (least-as was-taken.is-clear),
      λ a. was-taken.after.least ∙ as-least was-taken.is-clear l a,
    )

    -- "The delay is the frame's deactivation delay, 0 if it has none (house)."
    pub delay-after : (d : ℕ) → (delay_of f ≡ d) ↔ DelayAs f d
    delay-after d = (λ q. subst (DelayAs f) q (delay-as was-taken.is-clear), as-delay was-taken.is-clear d)

    -- "First, SAs due at the tick go. Then each ESP SPI named in D that was live retires, SPI 0 naming every ESP SA in the table (001
    -- section 2.4.3); unknown or retiring ones are passed over. A new Rekey SA turns the old one to retiring. The new SAs enter as live.":
    -- the table has exactly the entered SAs and the old ones, each kept or turned
    pub old-after : (b : Sa) → In b (sas_of next.table) ↔ (Entered limits s now lent f b ⊎ OldSa f s now b)
    old-after b =
        let t = table-after limits s now lent octets f e next o b in
        let c = was-taken.is-clear in (
          λ m. ⊎_elim inl (λ x. inr (stayed-old c b x)) (t.0 m),
          λ m. t.1 (⊎_elim inl (λ x. inr (old-stayed c b x)) m),
        )
