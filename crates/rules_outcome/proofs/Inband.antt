-- REKEYS OVER THE MEMBER'S OWN CHANNEL (document 02, T-02): GSA_INBAND_REKEY, each sentence as a theorem of the definition of the outcome.
use native.Mathlib.Omega.{arith}
use Prim.Native.Nat.{ℕ, zero, suc}
use mathlib.Core.Path.{◌≡◌, refl, ap, sym, ◌∙◌, subst}
use mathlib.Core.Bool.{true, false, false≢true}
use mathlib.Core.Logic.{inl, inr, ⊎_elim, ◌↔◌}
use mathlib.Core.List.{List, [], ◌∷◌, ◌++◌, map}
use borrow.Author.Tests.{le-leb, not-false}
use lib.Dec.{leb}
use Rattle.state_keys.specs.Limits.{Limits}
use Rattle.lists.specs.Lists.{all}
use Rattle.lists.proofs.Cases.{bool_cases, lt-cases, and_parts, and-whole, or-none}
use Rattle.rfc5649.specs.Opens.{Opens}
use Rattle.wire_policies.specs.Policy.{GroupSaPolicy}
use Rattle.wire_frames.specs.Frame.{Frame}
use Rattle.wire_frames.specs.Grammar.{IsFrame}
use Rattle.wire_frames.specs.Exchange.{inband}
use Rattle.wire_frames.specs.declared.exchanges.Exchange.{Exchange}
use Rattle.wire_frames.proofs.FrameGrammar.{one-tree}
use Rattle.state_sa.specs.Entry.{due}
use Rattle.state_table.specs.Table.{sas_of, empty_at, table_formed}
use Rattle.state_table.proofs.Kept.{formed-count}
use Rattle.state.specs.declared.State.{State}
use Rattle.state.specs.declared.held.Held.{Held}
use Rattle.state.specs.declared.least.Least.{Least}
use Rattle.state.specs.Held.{held_formed}
use Rattle.state.specs.State.{state_formed}
use Rattle.rules_refusals.specs.Number2.{breaks_wanted, unwanted_member, number2_of_frame, number2_of_member}
use Rattle.rules_refusals.specs.Number3.{not_acceptable}
use Rattle.rules_refusals.specs.Refusals.{one, applies, number2, number3, number4, number5, number6, number7}
use Rattle.rules_refusals.proofs.Clear.{no-clause}
use Rattle.rules_outcome.specs.Answer.{by_clauses, KeyConflictOf, KeyMissingOf}
use Rattle.rules_outcome.specs.Holding.{new_rekey}
use Rattle.rules_outcome.specs.Outcome.{Judged, refused, accepted, Outcome, no-layout, by-tree}
use Rattle.rules_outcome.specs.NamedKey.{Inband, Named, lent_key, lent-in-band, own_key, last-of-chain, held-key, fresh-key}
use Rattle.rules_outcome.specs.NamedKey.{OpensUnder}
use Rattle.rules_outcome.specs.Meets.{refusal_rows, Meets, Refused, lowest, over-then}
use Rattle.rules_outcome.specs.Judging.{SomeHolds}
use Rattle.rules_outcome.specs.Inband.{Beside, UnderLent}
use Rattle.rules_outcome.proofs.First.{exceed-holds}
use Rattle.rules_outcome.proofs.Meets.{on_frame, meets-2, meets-rows, not_low, met-or-over, refused-is, accepted-is}
use Rattle.rules_outcome.proofs.Runs.{outcome-profile}
use Rattle.rules_outcome.proofs.Rows.{inband-row}
use Rattle.rules_outcome.proofs.RunsClear.{clear}
use Rattle.rules_outcome.proofs.RunsReplay.{kept-least}
use Rattle.rules_outcome.proofs.InbandBeside.{beside}

-- ---- number 2, for an empty member
-- where 2 is met, and the layout is whole, 2 is given
met-2 : (limits : Limits) (s : State) (now : ℕ) (lent octets : List ℕ) (f : Frame) → IsFrame s.profile octets f →
    Meets limits s now lent octets 2 → (n : ℕ) (next : State) → Outcome limits s now lent octets n next → (n ≡ 2) × (next ≡ s)
met-2 limits s now lent octets f e m zero next o = absurd ((accepted-is limits s now lent octets next o).none 2 m)
met-2 limits s now lent octets f e m (suc n) next o = by (refused-is limits s now lent octets n next o)
  where
    by : Refused limits s now lent octets (suc n) next → (suc n ≡ 2) × (next ≡ s)
    by (lowest x none q) =
        let low = not_low limits s now lent octets f e (suc n) x in
        (lt-cases 2 (suc n) (λ h. absurd (none 2 h m)) (λ h. omega arith), q)
    by (over-then q x none z) = absurd (none 2 m)

-- a member value with every SA due is empty, or breaks its list
empty-applies : (limits : Limits) (s : State) (now : ℕ) (f : Frame) → Inband f → all (due now) (sas_of s.table) ≡ true →
    applies (number2 limits s now f.header.exchange f.header.spi) ≡ true
unfolding unwanted_member empty_at state_formed
empty-applies limits s now f b a =
    let x = f.header.exchange in
    let clauses = number2_of_member limits s now x f.header.spi in
    bool_cases (applies (number2 limits s now x f.header.spi)) (λ h. h)
    (λ h.
    let none = (or-none (one (number2_of_frame x)) (one clauses) h).1 in
    let formed = not-false (state_formed limits s) (no-clause clauses 2 none) in
    let table_is = (and_parts (table_formed limits s.table) (held_formed limits s.held) formed).0 in
    let few = le-leb s.table.count limits.sas (formed-count limits s.table table_is) in
    let empty = and-whole (leb s.table.count limits.sas) (all (due now) (sas_of s.table)) few a in
    let wanted : breaks_wanted inband.wanted (empty_at limits now s.table) ≡ false =
    sym (ap (λ (r : Exchange). breaks_wanted r.wanted (empty_at limits now s.table)) (inband-row f b)) ∙ no-clause clauses 0 none in
    absurd (false≢true (sym wanted ∙ empty)))

-- ---- number 3
no-3 : (s : State) (f : Frame) → Inband f → applies (number3 s f.header.exchange f.header.message_id) ≡ false
unfolding not_acceptable one
no-3 s f b = rw (inband-row f b)

module _ (limits : Limits) (s : State) (now : ℕ) (lent octets : List ℕ) (f : Frame) (e : IsFrame s.profile octets f) (b : Inband f) where
  -- no row of the table has number 3 and holds
  holds-3 : SomeHolds (map (on_frame f) (refusal_rows limits s now lent)) 3 → ⊥
  holds-3 (inl h) = let y = h.1 in omega arith
  holds-3 (inr (inl h)) = false≢true (sym (no-3 s f b) ∙ h.0)
  holds-3 (inr (inr h)) =
      let later = map by_clauses (number4 f ∷ number5 lent f ∷ number6 s now f ∷ number7 limits s now f ∷ [])
      ++ (record { number = 8; holds = KeyConflictOf limits s now lent f }
      ∷ record { number = 9; holds = KeyMissingOf limits s now lent f } ∷ []) in
      let y = exceed-holds 3 later refl 3 h in
      omega arith

  not-3 : (n : ℕ) (next : State) → Outcome limits s now lent octets n next → n ≡ 3 → ⊥
  not-3 zero next o z = omega arith
  not-3 (suc n) next o z =
      ⊎_elim (λ x. holds-3 (meets-rows limits s now lent octets f e 3 (subst (Meets limits s now lent octets) z x)))
      (λ p. let q = p.0 in omega arith) (met-or-over limits s now lent octets n next o)

-- ---- THE THEOREMS
module _ (limits : Limits) (s : State) (now : ℕ) (lent octets : List ℕ) (f : Frame) (e : IsFrame s.profile octets f) (b : Inband f)
    (n : ℕ) (next : State) (o : Outcome limits s now lent octets n next) where
  -- "does not compare its SPIs; number 3 is not judged, because IKEv2 guards its order": with any other SPIs and Message ID, and the same
  -- payloads, the answer and the next member are the same. So neither of them leaves a trace
  pub header-not-read : (others : List ℕ) (g : Frame) → IsFrame s.profile others g → Inband g → f.payloads ≡ g.payloads →
      Outcome limits s now lent others n next
  header-not-read others g d c p =
      let r = beside limits now lent octets others f g b c p s s e d refl refl n next o in
      let l : r.after.least ≡ next.least = ⊎_elim (λ q. q.1 ∙ sym q.0) (λ q. q) r.least in
      let o' : r.after.profile ≡ next.profile =
      outcome-profile limits s now lent others n r.after r.outcome ∙ sym (outcome-profile limits s now lent octets n next o) in
      let w : r.after ≡ next =
      λ k. record { table = r.table k; held = (r.held.1 ∙ sym r.held.0) k; least = l k; profile = o' k } in
      subst (Outcome limits s now lent others n) w r.outcome

  -- number 3 is not judged: with any other least Message ID, "none any more" too, the answer is the same, and so are the next table and the
  -- held list
  pub least-not-judged : (l : Least) →
      Beside limits s (record { table = s.table; held = s.held; least = l; profile = s.profile }) now lent octets n next
  unfolding state_formed
  least-not-judged l =
      beside limits now lent octets octets f f b b refl s (record { table = s.table; held = s.held; least = l; profile = s.profile }) e e
      refl refl n next o

  -- and it is never the answer
  pub never-3 : n ≡ 3 → ⊥
  never-3 = not-3 limits s now lent octets f e b n next o

  -- "held keys, in demand 3 too, are for GSA_REKEY only": of a member that is as it must be, with any other held list that is so the answer
  -- is the same, and so is the next table
  pub held-not-read : (h : Held) → state_formed limits s ≡ true →
      state_formed limits (record { table = s.table; held = h; least = s.least; profile = s.profile }) ≡ true →
      Beside limits s (record { table = s.table; held = h; least = s.least; profile = s.profile }) now lent octets n next
  held-not-read h w v =
      beside limits now lent octets octets f f b b refl s
      (record { table = s.table; held = h; least = s.least; profile = s.profile }) e e
      refl (w ∙ sym v) n next o

  -- "refuses it for an empty member": at a tick at which every SA is due, or with none, it is number 2, whatever the frame holds and
  -- whatever the member is otherwise
  pub empty-is-2 : all (due now) (sas_of s.table) ≡ true → (n ≡ 2) × (next ≡ s)
  empty-is-2 a = met-2 limits s now lent octets f e (meets-2 limits s now lent octets f e (empty-applies limits s now f b a)) n next o

  -- "The held list stays."
  pub held_stays : next.held ≡ s.held
  held_stays = (beside limits now lent octets octets f f b b refl s s e e refl refl n next o).held.0

  -- "The least Message ID changes only if a new Rekey SA comes."
  pub least_stays : new_rekey f ≡ false → next.least ≡ s.least
  least_stays q = kept_by n next o
    where
      kept-judged : (m : ℕ) (after : State) → Judged limits s now lent f m after → after.least ≡ s.least
      kept-judged _ _ (refused m a) = refl
      kept-judged _ _ (accepted after a r) = kept-least limits s now lent f (clear limits s now lent f a) after r (inband-row f b) q

      kept_by : (m : ℕ) (after : State) → Outcome limits s now lent octets m after → after.least ≡ s.least
      kept_by _ _ (no-layout none) = refl
      kept_by m after (by-tree h z j) =
          kept-judged m after (subst (λ (k : Frame). Judged limits s now lent k m after) (one-tree s.profile octets h f z e) j)

-- "Its key 0 is the lent key; held keys, in demand 3 too, are for GSA_REKEY only": a copy of an announced SA's key opens under the lent
-- key, named by KWK ID 0, and under nothing else
module _ (limits : Limits) (s : State) (now : ℕ) (lent : List ℕ) (f : Frame) (b : Inband f) where
  named-lent : (k : ℕ) (v : List ℕ) → Named limits s now lent f k v → (k ≡ 0) × (v ≡ lent)
  named-lent k v (lent_key g z d) = (z, d)
  named-lent k v (lent-in-band g z d) = (z, d)
  named-lent k v (own_key x z d) = absurd (omega arith)
  named-lent k v (last-of-chain g c) = absurd (⊎_elim (λ x. omega arith) (λ x. omega arith) g)
  named-lent k v (held-key x h m c z d) = absurd (omega arith)
  named-lent k v (fresh-key x c) = absurd (omega arith)

  pub opens-under-lent : (a : GroupSaPolicy) (x : List ℕ) → OpensUnder limits s now lent f a x ↔ UnderLent lent f a x
  opens-under-lent a x = (
    λ o.
        let n = named-lent o.copy.kwk_id o.value o.named in
        record {
          copy = o.copy;
          own = o.own;
          names-zero = n.0;
          opens = subst (λ (v : List ℕ). Opens v o.copy.wrapped x) n.1 o.opens;
        },
    λ o. record { copy = o.copy; own = o.own; value = lent; named = lent-in-band b o.names-zero refl; opens = o.opens },
  )
