-- WHAT THE CUSTOMER DEMANDS, as theorems of the definition of the outcome.
use native.Mathlib.Omega.{arith}
use Prim.Native.Nat.{ℕ, zero, suc, ◌≤◌, ◌<◌}
use mathlib.Core.Path.{◌≡◌, refl, ap, sym, ◌∙◌, subst}
use mathlib.Core.Bool.{Bool, true, false, ◌&&◌, and-false}
use mathlib.Core.Logic.{◌⊎◌, inl, inr, ⊎_elim, ◌↔◌}
use mathlib.Core.List.{List, [], ◌∷◌, ◌++◌, append-nil}
use borrow.Author.Tests.{not-false}
use lib.ListN.{length}
use Rattle.state_keys.specs.Limits.{Limits}
use Rattle.state_keys.specs.Kinds.{padded}
use Rattle.wire_attributes.specs.Tree.{WrapKey}
use Rattle.wire_policies.specs.Policy.{GroupSaPolicy}
use Rattle.wire_frames.specs.Frame.{Frame}
use Rattle.wire_frames.specs.Grammar.{IsFrame}
use Rattle.wire_frames.specs.declared.exchanges.Exchange.{Exchange}
use Rattle.state_sa.specs.declared.entry.Sa.{Sa}
use Rattle.state_sa.specs.Entry.{is_live}
use Rattle.state_table.specs.Table.{sas_of}
use Rattle.state.specs.declared.State.{State}
use Rattle.state.specs.declared.held.HeldKey.{HeldKey}
use Rattle.state.specs.Held.{keys_of}
use Rattle.rules_refusals.specs.Contents.{row_of, announced, wrap_keys_of, fresh_keys_of}
use Rattle.rules_refusals.specs.Fitness.{is_esp, encryption_octets, key_wrap_octets}
use Rattle.rules_refusals.specs.Number2.{number2_of_frame}
use Rattle.rules_refusals.specs.Number4.{number4_of_frame}
use Rattle.rules_refusals.specs.Refusals.{number2, number4}
use Rattle.rules_refusals.proofs.Clear.{no-clause}
use Rattle.rules_chains.specs.Chain.{In}
use Rattle.rules_outcome.specs.Roots.{roots_of, entries_of, wrapping_size}
use Rattle.rules_outcome.specs.Holding.{new_rekey, rekey_copies, held_before, HeldNext, OverHeldOf}
use Rattle.rules_outcome.specs.After.{least_afterwards, After}
use Rattle.rules_outcome.specs.Outcome.{NoTree, Outcome, no-layout}
use Rattle.rules_outcome.specs.Judging.{SomeHolds}
use Rattle.rules_outcome.specs.Meets.{OfTree, judging_order, Meets, Refused, lowest, over-then, Accepted}
use Rattle.rules_outcome.specs.RestSays.{Stayed}
use Rattle.rules_outcome.specs.NamedKey.{Registration, Inband, Rekey, lent_root, OpensUnder, OpensTo, OfMemberBags}
use Rattle.rules_outcome.specs.Demand3.{HeldAfter, Standing, Entered}
use Rattle.rules_outcome.proofs.FreshRead.{no-fresh}
use Rattle.rules_outcome.proofs.Meets.{meets-2, meets-4, at-most-9, given_holds, refused-stays, refused-is, is-refused}
use Rattle.rules_outcome.proofs.Meets.{refused-layout, accepted-is, is-accepted}
use Rattle.rules_outcome.proofs.Enters.{enters-live, enters_cut}
use Rattle.rules_outcome.proofs.Answering.{accepts}
use Rattle.rules_outcome.proofs.RunsClear.{none-applies}
use Rattle.rules_outcome.proofs.Rows.{registration-row, rekeys, inband-row, rekey-bars, one-of-four, no-wrap-key}
use Rattle.rules_outcome.proofs.Rows.{lent-roots, lent-size}
use Rattle.rules_outcome.proofs.NotRead.{same_outcome}
use Rattle.rules_outcome.proofs.NamedKey.{Passes, registers, in-band, over-sa, not-in-band, to-under, under_to}
use Rattle.rules_outcome.proofs.Bags.{entry-own, passed-stand}
use Rattle.rules_outcome.proofs.HeldList.{held_after, no-entry-stays}
use Rattle.rules_outcome.proofs.Accepting.{entries_fit, after-opens, whole-accepted}
use Rattle.rules_outcome.proofs.Accepting.{new_by, entered_by, new-stands, stands-as, as-stands}

module _ (limits : Limits) (s : State) (now : ℕ) (lent octets : List ℕ) where
  -- ---- DEMAND 1
  -- "Bad input gets one of the nine refusals in document 01, each exactly when its condition holds and no lower one does, and a refusal
  -- changes nothing in the member."
  pub refused-exactly : (n : ℕ) (next : State) →
      Outcome limits s now lent octets (suc n) next ↔ Refused limits s now lent octets (suc n) next
  refused-exactly n next = (refused-is limits s now lent octets n next, is-refused limits s now lent octets n next)

  -- "0: accepted"; "0 is due when no condition holds"
  pub accepted-exactly : (next : State) → Outcome limits s now lent octets 0 next ↔ Accepted limits s now lent octets next
  accepted-exactly next = (accepted-is limits s now lent octets next, is-accepted limits s now lent octets next)

  pub zero-due : (n : ℕ) (next : State) → Outcome limits s now lent octets n next →
      ((m : ℕ) → SomeHolds (judging_order limits s now lent octets) m → ⊥) → n ≡ 0
  zero-due zero next o none = refl
  zero-due (suc n) next o none = absurd (none (suc n) (given_holds limits s now lent octets n next o))

  -- "one of the nine"
  pub one-of-the-numbers : (n : ℕ) (next : State) → Outcome limits s now lent octets n next → n ≤ 9
  one-of-the-numbers zero next o = omega arith
  one-of-the-numbers (suc n) next o = at-most-9 limits s now lent octets (suc n) (given_holds limits s now lent octets n next o)

  -- number 1, by the grammar alone: "under 28 or over 16,384 octets, header length .., major version not 2, or any first octet, length, ..
  -- or end that breaks the layouts". It is given exactly when no tree is laid out as the octets
  pub one-exactly : (next : State) → Outcome limits s now lent octets 1 next ↔ (NoTree s.profile octets × (next ≡ s))
  one-exactly next = (
    λ o. (
      refused-layout limits s now lent octets next
          (refused-is limits s now lent octets 0 next o),
      refused-stays limits s now lent octets 0 next o,
    ),
    λ p. subst (Outcome limits s now lent octets 1) (sym p.1) (no-layout p.0),
  )

  -- document 02, T-11: "over 128 gives 7", "Over 128 then is 7, judged after 9". 7 is given exactly when a clause of it applies and none of
  -- 1 to 6 does, or the held list would be over its limit and none of 1 to 9 applies
  pub number7-exactly : (next : State) →
      Outcome limits s now lent octets 7 next
      ↔ (((Meets limits s now lent octets 7 × ((m : ℕ) → m < 7 → Meets limits s now lent octets m → ⊥))
      ⊎ (OfTree s.profile octets (OverHeldOf limits s now lent) × ((m : ℕ) → Meets limits s now lent octets m → ⊥))) × (next ≡ s))
  number7-exactly next =
      (λ o. to (refused-is limits s now lent octets 6 next o), λ p. is-refused limits s now lent octets 6 next (of p.0 p.1))
    where
      to : Refused limits s now lent octets 7 next →
          ((Meets limits s now lent octets 7 × ((m : ℕ) → m < 7 → Meets limits s now lent octets m → ⊥))
          ⊎ (OfTree s.profile octets (OverHeldOf limits s now lent) × ((m : ℕ) → Meets limits s now lent octets m → ⊥))) × (next ≡ s)
      to (lowest x none e) = (inl (x, none), e)
      to (over-then q x none e) = (inr (x, none), e)

      of : (Meets limits s now lent octets 7 × ((m : ℕ) → m < 7 → Meets limits s now lent octets m → ⊥))
          ⊎ (OfTree s.profile octets (OverHeldOf limits s now lent) × ((m : ℕ) → Meets limits s now lent octets m → ⊥)) →
          next ≡ s → Refused limits s now lent octets 7 next
      of (inl p) e = lowest p.0 p.1 e
      of (inr p) e = over-then refl p.0 p.1 e

  -- "a refusal changes nothing in the member"
  pub refusal-keeps : (n : ℕ) (next : State) → Outcome limits s now lent octets n next → (n ≡ 0 → ⊥) → next ≡ s
  refusal-keeps zero next o not-zero = absurd (not-zero refl)
  refusal-keeps (suc n) next o not-zero = refused-stays limits s now lent octets n next o

  -- ---- DEMAND 3, of a frame whose layout is whole
  module _ (f : Frame) (e : IsFrame s.profile octets f) where
    -- "Elsewhere .. the attribute is skipped" (document 02, T-11): no fresh key stands in a registration or an in-band rekey
    pub unread-fresh : Registration f → fresh_keys_of f ≡ []
    unread-fresh g =
        no-fresh s.profile octets f e
        (ap (λ (x : Exchange). s.profile && x.reads_fresh_keys) (registration-row f g) ∙ and-false s.profile)

    pub unread-in-band : Inband f → fresh_keys_of f ≡ []
    unread-in-band g =
        no-fresh s.profile octets f e
        (ap (λ (x : Exchange). s.profile && x.reads_fresh_keys) (inband-row f g) ∙ and-false s.profile)

    -- "After a registration the held list is now the chain that opens the Rekey SA's SA_KEY, written from the key that opens it back
    -- towards the default key, which is not listed. If several chains do, take the one with fewest keys; among these, the smallest when
    -- their Key ID lists are compared number by number. No Rekey SA, or one opened by the default key: empty." (document 02, T-04)
    pub held-after-registration : (next : State) → Outcome limits s now lent octets 0 next → Registration f → HeldAfter lent f next.held
    held-after-registration next o registration =
        let a = whole-accepted limits s now lent octets f e next o in
        let r = registration-row f registration in
        let bare = unread-fresh registration in
        let h = subst
        (λ (b : Bool).
        HeldNext (roots_of limits s now lent f) (entries_of f) (wrapping_size limits s now lent f) limits (new_rekey f) (rekey_copies f)
        (held_before limits b s.held) next.held)
        (ap (λ (x : Exchange). x.registers) r) a.1.held in
        let none = entries_fit limits s now lent f (accepts limits s now lent f a.0).no-conflict in
        held_after lent f (roots_of limits s now lent f) (entries_of f) (wrapping_size limits s now lent f) (lent-roots limits s now f r lent)
        (ap (λ (l : List WrapKey). wrap_keys_of f ++ l) bare ∙ append-nil (wrap_keys_of f)) (lent-size limits s now f r lent) limits
        next.held none (λ p n. after-opens limits s now lent f next a.1 p n.stands) h

    -- ---- what opens a copy
    pub passes-2-and-4 : (Meets limits s now lent octets 2 → ⊥) → (Meets limits s now lent octets 4 → ⊥) → Passes limits s now lent f
    unfolding number4_of_frame
    passes-2-and-4 no-2 no-4 =
        let x = f.header.exchange in
        let n = none-applies (number2 limits s now x f.header.spi) (λ h. no-2 (meets-2 limits s now lent octets f e h)) in
        let m = none-applies (number4 f) (λ h. no-4 (meets-4 limits s now lent octets f e h)) in
        let barred : Rekey f → wrap_keys_of f ≡ [] = λ r. no-wrap-key f (rekey-bars f r) (no-clause (number4_of_frame f) 1 m.of_frame) in
        ⊎_elim (λ g. registers g (unread-fresh g))
        (λ r. ⊎_elim (λ y. over-sa y (barred (inl y))) (λ y. in-band y (barred (inr y)) (unread-in-band y)) r)
        (one-of-four f (not-false (row_of f).admitted (no-clause (number2_of_frame x) 0 n.of_frame)))

    -- NO CONFUSION OF KEYS: "A group's key and a tree key are both attribute 1 with the same layout, and their wrapped forms can be equally
    -- long." What a copy of an announced SA's key opens to comes from an SA_KEY of a Group Key Bag with its own protocol and SPI, opened
    -- under the key its KWK ID names, "be it key 0, the last key of such a chain or, in a rekey, a key the member held", and from nowhere
    -- else
    module _ (no-2 : Meets limits s now lent octets 2 → ⊥) (no-4 : Meets limits s now lent octets 4 → ⊥) where
      to : (a : GroupSaPolicy) (x : List ℕ) → OpensTo limits s now lent f a x → OpensUnder limits s now lent f a x
      to = to-under limits s now lent f (passes-2-and-4 no-2 no-4)

      pub copies-of-own-bag : (a : GroupSaPolicy) (x : List ℕ) → OpensTo limits s now lent f a x ↔ OpensUnder limits s now lent f a x
      copies-of-own-bag a x = (to a x, under_to limits s now lent f (passes-2-and-4 no-2 no-4) a x)

    -- ---- after acceptance
    module _ (next : State) (o : Outcome limits s now lent octets 0 next) where
      pub accepted-fit : Passes limits s now lent f
      accepted-fit = let n = (accepted-is limits s now lent octets next o).none in passes-2-and-4 (n 2) (n 4)

      accepted-to : (a : GroupSaPolicy) (x : List ℕ) → OpensTo limits s now lent f a x → OpensUnder limits s now lent f a x
      accepted-to = to-under limits s now lent f accepted-fit

      -- "On acceptance each of those SAs stands in the table as document 01 enters it, with the octets that every such copy opens to"
      pub each_stands : (p : GroupSaPolicy) → In p (announced f) → Standing limits s now lent f next p
      each_stands p m =
          let a = whole-accepted limits s now lent octets f e next o in
          let none = (accepts limits s now lent f a.0).no-conflict in
          new_by now (OpensTo limits s now lent f) (OpensUnder limits s now lent f) accepted-to (under_to limits s now lent f accepted-fit)
          (sas_of next.table) p (new-stands limits s now lent f next a.1 none p m)

      -- "and the rest of the member is as that document leaves it": the table has no other SAs than these and the old ones that are not
      -- due (Rest.antt says what becomes of each)
      pub table-after : (b : Sa) → In b (sas_of next.table) ↔ (Entered limits s now lent f b ⊎ Stayed s now f b)
      table-after b =
          let a = whole-accepted limits s now lent octets f e next o in
          let none = (accepts limits s now lent f a.0).no-conflict in
          let P = OpensTo limits s now lent f in
          let Q = OpensUnder limits s now lent f in
          let from = under_to limits s now lent f accepted-fit in (
            λ m. ⊎_elim (λ x. inl (entered_by now P Q accepted-to from f b x)) inr (stands-as limits s now lent f next a.1 none b m),
            λ m.
                as-stands limits s now lent f next a.1 none b
                (⊎_elim (λ x. inl (entered_by now Q P from accepted-to f b x)) inr m),
          )

      -- an in-band rekey leaves the held list (T-02); the least Message ID (Rest.antt gives its cases)
      pub rest-after : (Inband f → next.held ≡ s.held) × (next.least ≡ least_afterwards s f)
      rest-after = let a = (whole-accepted limits s now lent octets f e next o).1 in (in-band-stays a accepted-fit, a.least)
        where
          in-band-stays : After limits s now lent f next → Passes limits s now lent f → Inband f → next.held ≡ s.held
          in-band-stays a (registers g bare) y = absurd (not-in-band limits s now lent f g y)
          in-band-stays a (over-sa x none) y = let z : ◌≡◌ {A = ℕ} 41 42 = sym x ∙ y in absurd (omega arith)
          in-band-stays a (in-band x none bare) y =
              no-entry-stays (roots_of limits s now lent f) (entries_of f) (wrapping_size limits s now lent f) limits (new_rekey f)
              (rekey_copies f) s.held next.held (ap (λ (l : List WrapKey). l ++ fresh_keys_of f) none ∙ bare)
              (subst
              (λ (b : Bool).
              HeldNext (roots_of limits s now lent f) (entries_of f) (wrapping_size limits s now lent f) limits (new_rekey f) (rekey_copies f)
              (held_before limits b s.held) next.held)
              (ap (λ (r : Exchange). r.registers) (inband-row f x)) a.held)

    -- "as document 01 enters it": live, and a Rekey SA with the octet counts of its policy's two parts, "44 is 20 + 24 and 28 + 16"
    pub entered-live : (b : Sa) → Entered limits s now lent f b → is_live b.condition ≡ true
    entered-live b n = rw n.is (enters-live now n.policy n.octets)

    pub entered-parts : (b : Sa) (n : Entered limits s now lent f b) → is_esp n.policy ≡ false →
        (b.encryption ≡ encryption_octets n.policy) × (b.wrapping ≡ key_wrap_octets n.policy) × (b.octets ≡ padded 68 n.octets)
    entered-parts b n r = rw n.is (enters_cut now n.policy n.octets r)

    -- a held value of an accepted registration is what a chain gives whose entries are all WRAP_KEYs of Member Key Bags
    pub held-of-member-bags : (next : State) → Outcome limits s now lent octets 0 next → Registration f → (k : HeldKey) →
        In k (keys_of next.held) → OfMemberBags lent f k
    held-of-member-bags next o registration k m =
        let h = held-after-registration next o registration in
        let x = h.only k m in
        let r = x.1 in
        let passed = r.last ∷ r.before in
        record {
          value = x.0;
          key-is = h.value k m x.0 r;
          passed = passed;
          chain = r.chain;
          own = λ w i. entry-own f w (passed-stand (lent_root lent) (wrap_keys_of f) (length lent) passed k.id x.0 r.chain w i);
        }

  -- "GSA_REKEY frames use the live Rekey SA's own, and the lent one is not read": with exchange type 41 the outcome is the same for another
  -- lent key
  pub lent-not-read : ((f : Frame) → IsFrame s.profile octets f → f.header.exchange ≡ 41) → (other : List ℕ) (n : ℕ) (next : State) →
      Outcome limits s now lent octets n next → Outcome limits s now other octets n next
  lent-not-read e other =
      same_outcome limits s now lent other octets (λ f d. rekeys f.header.exchange (e f d))
