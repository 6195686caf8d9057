-- DEMAND 3 AS ONE CLAIM: "Whatever frame, lent default key, tick and member are handed in, the following holds." Of the held list document
-- 02, T-04, says: "After a registration the held list is now the chain that opens the Rekey SA's SA_KEY", and "Demand 3 then says that the
-- list is this path, and exists when a chain does." It goes on: "A frame that meets none of refusals 1 to 8 is accepted exactly when each
-- SA it announces has a copy of its key that opens under the key its KWK ID names, be it key 0, the last key of such a chain or, in a
-- rekey, a key the member held; otherwise it is refused as number 9. On acceptance each of those SAs stands in the table as document 01
-- enters it, with the octets that every such copy opens to, and the rest of the member is as that document leaves it. A chain is defined
-- without running any search."
use native.Mathlib.Omega.{arith}
use Prim.Native.Nat.{ℕ}
use mathlib.Core.Path.{◌≡◌, refl, ap, sym, ◌∙◌, subst}
use mathlib.Core.Bool.{Bool}
use mathlib.Core.List.{List}
use Rattle.state_keys.specs.Limits.{Limits}
use Rattle.state_keys.specs.Limits as figures
use Rattle.wire_policies.specs.Policy.{GroupSaPolicy}
use Rattle.wire_frames.specs.Frame.{Frame}
use Rattle.wire_frames.specs.Grammar.{IsFrame}
use Rattle.wire_frames.specs.declared.exchanges.Exchange.{Exchange}
use Rattle.state.specs.declared.State.{State}
use Rattle.rules_refusals.specs.Contents.{group_bags}
use Rattle.rules_chains.specs.Chain.{CopyOpens}
use Rattle.rules_chains.specs.Refusals.{EntriesConflict}
use Rattle.rules_outcome.specs.Roots.{roots_of, entries_of, wrapping_size, copies_of}
use Rattle.rules_outcome.specs.Holding.{new_rekey, rekey_copies, held_before, HeldNext}
use Rattle.rules_outcome.specs.Answer.{FrameAnswers}
use Rattle.rules_outcome.specs.After.{After}
use Rattle.rules_outcome.specs.Outcome.{Outcome}
use Rattle.rules_outcome.specs.RestSays.{NewRekey}
use Rattle.rules_outcome.specs.Demand3.{HeldAfterRekey, AllOfFrame, OnAcceptance, Demand3}
use Rattle.rules_outcome.proofs.FreshRead.{fresh-in-rekey-bags}
use Rattle.rules_outcome.proofs.Stands.{announced-are, group-bags-are, entries-are, fresh-are}
use Rattle.rules_outcome.proofs.Asked.{asked-after}
use Rattle.rules_chains.proofs.Members.{in-member}
use Rattle.rules_outcome.proofs.Rows.{rekeys}
use Rattle.rules_outcome.proofs.NamedKey.{Passes, registers, in-band, over-sa, not-rekey, to-fresh-roots}
use Rattle.rules_outcome.proofs.Answering.{accepts}
use Rattle.rules_outcome.proofs.Accepting.{entries_fit, after-opens, whole-accepted}
use Rattle.rules_outcome.proofs.Demands.{held-after-registration, accepted-fit, each_stands, rest-after}
use Rattle.rules_outcome.proofs.HeldRekey.{after-rekey}
use Rattle.rules_outcome.proofs.Judged9.{judged-9}
use Rattle.rules_outcome.proofs.Rest.{least-after, old-after}
use Rattle.rules_outcome.proofs.RunsClear.{taken}
use Rattle.rules_outcome.proofs.Runs.{accepted-formed}

module _ (limits : Limits) (s : State) (now : ℕ) (lent octets : List ℕ) (f : Frame) (e : IsFrame s.profile octets f) where
  module _ (next : State) (o : Outcome limits s now lent octets 0 next) where
    abbrev was : FrameAnswers limits s now lent f 0 × After limits s now lent f next
    was = whole-accepted limits s now lent octets f e next o

    -- the held list after a rekey over the Rekey SA
    fresh-after : f.header.exchange ≡ 41 → Passes limits s now lent f → HeldAfterRekey limits s now lent f s.held next.held
    fresh-after x (registers g bare) = absurd (not-rekey limits s now lent f g x)
    fresh-after x (in-band y none bare) = let z : ◌≡◌ {A = ℕ} 42 41 = sym y ∙ x in absurd (omega arith)
    fresh-after x (over-sa y none) =
        after-rekey limits s now lent f next.held
        (to-fresh-roots limits s now lent f (λ r l n. EntriesConflict r l n → ⊥) y none
        (entries_fit limits s now lent f (accepts limits s now lent f was.0).no-conflict))
        (to-fresh-roots limits s now lent f
        (λ r l n. ((p : GroupSaPolicy) → NewRekey f p → (v : List ℕ) × CopyOpens r l n (copies_of f p) v)) y
        none (λ p n. after-opens limits s now lent f next was.1 p n.stands))
        (new_rekey f) refl
        (to-fresh-roots limits s now lent f (λ r l n. HeldNext r l n limits (new_rekey f) (rekey_copies f) s.held next.held) y none
        (subst
        (λ (b : Bool).
        HeldNext (roots_of limits s now lent f) (entries_of f) (wrapping_size limits s now lent f) limits (new_rekey f) (rekey_copies f)
        (held_before limits b s.held) next.held)
        (ap (λ (r : Exchange). r.registers) (rekeys f.header.exchange y)) was.1.held))

    on-acceptance : OnAcceptance limits s now lent f next
    on-acceptance =
        let t = taken limits s now lent octets f next e o in
        record {
          held = held-after-registration limits s now lent octets f e next o;
          stands = each_stands limits s now lent octets f e next o;
          table = old-after limits s now lent octets f e next o;
          kept = (rest-after limits s now lent octets f e next o).0;
          asked = asked-after limits s now lent octets f e next o;
          fresh = λ x. fresh-after x (accepted-fit limits s now lent octets f e next o);
          least = least-after limits s now lent octets f e next o;
          is-formed = accepted-formed limits s now lent f t.is-clear next t.after octets e;
        }

  all-of-frame : AllOfFrame limits s now lent f
  all-of-frame =
      record {
        policies = announced-are f;
        bags = group-bags-are f;
        entries = entries-are f;
        fresh = fresh-are f;
        fresh-bags = λ b m w n.
            fresh-in-rekey-bags s.profile octets f e b (in-member b (group_bags f) m) w (in-member w b.fresh n);
      }

  -- THE CLAIM
  pub demand-3 : (n : ℕ) (next : State) → Outcome limits s now lent octets n next → Demand3 limits s now lent f octets n next
  demand-3 n next o =
      record {
        all = all-of-frame;
        judged = λ none. judged-9 limits s now lent octets f e none n next o;
        after = λ q. on-acceptance next (subst (λ (k : ℕ). Outcome limits s now lent octets k next) q o);
      }

-- with the limits of the code
pub demand-3-within : (s : State) (now : ℕ) (lent octets : List ℕ) (f : Frame) → IsFrame s.profile octets f → (n : ℕ) (next : State) →
    Outcome figures.limits s now lent octets n next → Demand3 figures.limits s now lent f octets n next
demand-3-within = demand-3 figures.limits
