-- NO REPLAY. A rekey that announced no Rekey SA was accepted; no step up to a later state left the group or brought a Rekey SA. Then
-- neither its Message ID nor a lower one is accepted again, in whichever way the two came: opened, sealed or in pieces.
use native.Mathlib.Omega.{arith}
use Prim.Native.Nat.{ℕ, ◌≤◌}
use mathlib.Core.Path.{◌≡◌, refl, sym, ◌∙◌, subst}
use mathlib.Core.Bool.{false}
use mathlib.Core.List.{List, []}
use Rattle.state_keys.specs.Limits.{Limits}
use Rattle.wire_frames.specs.Header.{header_of}
use Rattle.wire_frames.specs.Frame.{Frame}
use Rattle.wire_frames.specs.Grammar.{IsFrame}
use Rattle.state.specs.declared.State.{State}
use Rattle.rfc5282.specs.Number10.{OpensInto}
use Rattle.fragments.specs.declared.Collection.{Collection}
use Rattle.fragments.specs.Gathering.{whole}
use Rattle.rules_outcome.specs.Holding.{new_rekey}
use Rattle.rules_outcome.specs.Outcome.{Outcome}
use Rattle.rules_outcome.specs.Run.{LiveRekey}
use Rattle.rules_outcome.proofs.RunsReplay.{Past, past-then, no-replay, none-any-more}
use Rattle.rules_outcome.proofs.Meets.{accepted-is}
use Rattle.rules_sealed.specs.SealingKey.{sealing_part}
use Rattle.rules_sealed.specs.SealedOutcome.{SealedOutcome, by-opened}
use Rattle.rules_sealed.proofs.SealedHeader.{opened-exchange, opened-message, is-rekey}
use Rattle.rules_sealed.proofs.SealedDetermined.{no-number-2}
use Rattle.rules_sealed.proofs.SealedRuns.{opened_events, opened-run, quiet-run}
use Rattle.rules_fragments.specs.FragmentOutcome.{complete, gathered_with, FragmentOutcome, is-complete}
use Rattle.rules_fragments.specs.FragmentRun.{FragmentEvent, FragmentRun, BringsNone, FragmentAllQuiet}
use Rattle.rules_fragments.specs.FragmentRun.{AcceptsRekey, as-opened, as-sealed-frame, in_pieces, AnnouncesNone}
use Rattle.rules_fragments.proofs.WholeHeader.{tree-exchange, tree-message}
use Rattle.rules_fragments.proofs.FragmentRuns.{sealed-run, quiet-sealed}

module _ (limits : Limits) where
  -- an accepted rekey, as the octets of an opened frame
  record Came (s : State) (id : ℕ) (next : State) (None' : Type 0) : Type 0 where
    now : ℕ
    lent : List ℕ
    octets : List ℕ
    tree : Frame
    layout : IsFrame s.profile octets tree
    exchange : tree.header.exchange ≡ 41
    message : tree.header.message_id ≡ id
    outcome : Outcome limits s now lent octets 0 next
    none : None' → new_rekey tree ≡ false

  came-sealed : (s : State) (now : ℕ) (octets room : List ℕ) (offset : ℕ) (next : State) (after : List ℕ) →
      SealedOutcome limits s now octets room 0 offset next after →
      Came s (header_of octets).message_id next
      ((f : Frame) (o : List ℕ) → OpensInto (sealing_part limits s) octets room o → IsFrame s.profile o f → new_rekey f ≡ false)
  came-sealed s now octets room _ _ _ (by-opened o {next = next} p h u) =
      let a = accepted-is limits s now [] o next u in
      record {
        now = now;
        lent = [];
        octets = o;
        tree = a.tree;
        layout = a.layout;
        exchange =
            opened-exchange s.profile (sealing_part limits s) octets room o h a.tree a.layout
            ∙ is-rekey limits s now octets (no-number-2 limits s now octets room p);
        message = opened-message s.profile (sealing_part limits s) octets room o h a.tree a.layout;
        outcome = u;
        none = λ q. q a.tree o h a.layout;
      }

  came-pieces : (s : State) (now : ℕ) (c : Collection) (octets room : List ℕ) (offset : ℕ) (next : State) (kept : Collection)
      (after : List ℕ) → FragmentOutcome limits s now c octets room (complete 0 offset) next kept after →
      Came s (header_of octets).message_id next (BringsNone limits s now c octets room (complete 0 offset))
  came-pieces s now c octets room _ _ _ _ (is-complete x {next = next} p h u) =
      let o = whole (gathered_with limits s now c octets room x) in
      let a = accepted-is limits s now [] o next u in
      record {
        now = now;
        lent = [];
        octets = o;
        tree = a.tree;
        layout = a.layout;
        exchange = tree-exchange limits s now c octets room x h s.profile a.tree a.layout;
        message = tree-message limits s now c octets room x h s.profile a.tree a.layout;
        outcome = u;
        none = λ q. q a.tree x _ h a.layout refl;
      }

  came-opened : (s : State) (now : ℕ) (lent octets : List ℕ) (next : State) → (header_of octets).exchange ≡ 41 →
      Outcome limits s now lent octets 0 next →
      Came s (header_of octets).message_id next ((f : Frame) → IsFrame s.profile octets f → new_rekey f ≡ false)
  came-opened s now lent octets next e u =
      let a = accepted-is limits s now lent octets next u in
      record {
        now = now;
        lent = lent;
        octets = octets;
        tree = a.tree;
        layout = a.layout;
        exchange = sym a.layout.exchange ∙ e;
        message = sym a.layout.message_id;
        outcome = u;
        none = λ q. q a.tree a.layout;
      }

  -- of this Message ID
  renamed : (s : State) (id other : ℕ) (next : State) (None' : Type 0) → other ≡ id → Came s other next None' → Came s id next None'
  renamed s id other next None' e a = subst (λ (i : ℕ). Came s i next None') e a

  came : {s : State} {id : ℕ} {next : State} (a : AcceptsRekey limits s id next) → Came s id next (AnnouncesNone limits a)
  came {s} {id} {next} (as-opened now lent octets e i o) = renamed s id _ next _ i (came-opened s now lent octets next e o)
  came {s} {id} {next} (as-sealed-frame now octets room offset after i o) =
      renamed s id _ next _ i (came-sealed s now octets room offset next after o)
  came {s} {id} {next} (in_pieces now c octets room offset kept after i o) =
      renamed s id _ next _ i (came-pieces s now c octets room offset next kept after o)

  module _ {s₀ s₁ : State} {id : ℕ} (first : AcceptsRekey limits s₀ id s₁) (none : AnnouncesNone limits first) {s₂ : State}
      {l : List FragmentEvent} (r : FragmentRun limits s₁ l s₂) (quiet : FragmentAllQuiet limits r) where
    -- where a Rekey SA is live then, neither its Message ID nor a lower one is acceptable
    pub fragment-past : (spi : List ℕ) → LiveRekey spi s₂ → Past id s₂.least
    fragment-past spi live =
        let a = came first in
        let q = sealed-run limits r in
        subst (λ (i : ℕ). Past i s₂.least) a.message
        (past-then limits s₀ s₁ a.now a.lent a.octets a.tree a.layout a.exchange (a.none none) a.outcome s₂
        (opened_events limits q) (opened-run limits q) (quiet-run limits q (quiet-sealed limits r quiet)) spi live)

    -- its Message ID and lower ones are not accepted again, over whatever Rekey SA, at whatever tick
    pub fragment-no-replay : {id' : ℕ} {s₃ : State} → id' ≤ id → AcceptsRekey limits s₂ id' s₃ → ⊥
    fragment-no-replay {id'} {s₃} le again =
        let a = came first in
        let b = came again in
        let m = a.message in
        let m' = b.message in
        let q = sealed-run limits r in
        no-replay limits s₀ s₁ a.now a.lent a.octets a.tree a.layout a.exchange (a.none none) a.outcome s₂
        (opened_events limits q) (opened-run limits q) (quiet-run limits q (quiet-sealed limits r quiet)) b.now b.lent b.octets
        b.tree b.layout b.exchange s₃ (omega (arith, m, m', le)) b.outcome

    -- after 4,294,967,295 none is
    pub fragment-none-any-more : {id' : ℕ} {s₃ : State} → id ≡ 4294967295 → AcceptsRekey limits s₂ id' s₃ → ⊥
    fragment-none-any-more {id'} {s₃} e again =
        let a = came first in
        let b = came again in
        let m = a.message in
        let q = sealed-run limits r in
        none-any-more limits s₀ s₁ a.now a.lent a.octets a.tree a.layout a.exchange (a.none none) a.outcome s₂
        (opened_events limits q) (opened-run limits q) (quiet-run limits q (quiet-sealed limits r quiet)) b.now b.lent b.octets
        b.tree b.layout b.exchange s₃ (m ∙ e) b.outcome
