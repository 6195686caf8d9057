-- The theorems that docs/CLAIMS.md cites under "Document 01: what a member is".
use Prim.Native.Nat.{ℕ, ◌≤◌}
use mathlib.Core.Bool.{Bool, true, false}
use mathlib.Core.List.{List, []}
use mathlib.Core.Path.{◌≡◌}
use lib.ListN.{length, take, drop}
use Rattle.octets.specs.Ignored.{Alike}
use Rattle.octets.specs.Walk.{whole}
use Rattle.wire_frames.proofs.FrameGrammar.{read-frame}
use Rattle.wire_frames.specs.Frame.{Frame, frame}
use Rattle.wire_frames.specs.Grammar.{IsFrame}
use Rattle.wire_frames.specs.Ignored.{frame_mask}
use Rattle.state_keys.specs.Limits.{Limits, limits}
use Rattle.state_sa.specs.Entry.{live_rekey, due}
use Rattle.state_sa.specs.declared.entry.Sa.{Sa}
use Rattle.state_table.specs.Table.{sas_of, none}
use Rattle.state.specs.State.{state_formed, new_state, swept_state, asked_sa}
use Rattle.state.specs.declared.State.{State}
use Rattle.rules_refusals.specs.Refusals.{refusal}
use Rattle.rules_chains.specs.Chain.{In}
use Rattle.rules_outcome.proofs.Ignored.{NotRead}
use Rattle.rules_outcome.specs.Meets.{Meets}
use Rattle.rules_outcome.specs.NamedKey.{CameOver, ZeroOfRekeys}
use Rattle.rules_outcome.specs.Outcome.{Outcome}
use Rattle.rules_outcome.specs.Roots.{own_key_of, key_zero_value}
use Rattle.rules_outcome.specs.Run.{Event, Run, Throughout}
use Rattle.gikev2.specs.Member.{left_member, member_with}
use Rattle.gikev2.specs.declared.Member.{Member}
use Rattle.rules_outcome.proofs.OwnKey as ofOwnKey
use Rattle.rules_outcome.proofs.KeyZero as ofKeyZero
use Rattle.rules_outcome.proofs.KeyZeroInRuns as ofKeyZeroInRuns
use Rattle.gikev2.proofs.Kept as ofKept
use Rattle.state.proofs.Laws as ofLaws
use Rattle.rules_refusals.proofs.BrokenMembers as ofBrokenMembers
use Rattle.rules_outcome.proofs.Demands as ofDemands
use Rattle.wire_frames.proofs.Ignored as ofIgnored
use Rattle.rules_outcome.proofs.Ignored as ofRulesoutcomeIgnored
use Rattle.wire_frames.proofs.FrameGrammar as ofFrameGrammar
use Rattle.std.specs.Prelude.{Option}

pub own-key-of-live : (limits : Limits) (s : State) (now : ℕ) (is-formed : state_formed limits s ≡ true) (b : Sa)
    (m : In b (sas_of s.table)) (live : live_rekey b ≡ true) (not-due : due now b ≡ false) (long : 68 ≤ length b.octets) →
    own_key_of limits s now ≡ take b.wrapping (drop b.encryption b.octets)
own-key-of-live = ofOwnKey.own-key-of-live

pub key-zero-of-rekey : (limits : Limits) (s : State) (now : ℕ) (lent octets : List ℕ) (f : Frame) (e : IsFrame s.profile octets f)
    (x : f.header.exchange ≡ 41) (no-2 : Meets limits s now lent octets 2 → ⊥)
    (long : (b : Sa) → In b (sas_of s.table) → 68 ≤ length b.octets) → CameOver s now f (key_zero_value limits s now lent f)
key-zero-of-rekey = ofKeyZero.key-zero-of-rekey

pub key-zero-in-runs : (profile : Bool) {e : State} {l : List Event} (r : Run limits (new_state limits profile) l e) →
    Throughout limits (ZeroOfRekeys limits) r
key-zero-in-runs = ofKeyZeroInRuns.key-zero-in-runs

pub left-new : (m : Member) → left_member m ≡ member_with m.state.profile
left-new = ofKept.left-new

pub swept-no : (limits : Limits) (s : State) (now : ℕ) → state_formed limits s ≡ false → s ≡ swept_state limits now s
swept-no = ofLaws.swept-no

pub asked-no : (limits : Limits) (s : State) (p : ℕ) (x : List ℕ) (r : Option Sa) → state_formed limits s ≡ false → r ≡ none →
    r ≡ asked_sa limits p x s
asked-no = ofLaws.asked-no

pub broken-refused : (limits : Limits) (s : State) → state_formed limits s ≡ false → (now : ℕ) (lent : List ℕ) (f : Frame) →
    refusal limits s now lent f ≡ 2
broken-refused = ofBrokenMembers.broken-refused

pub lent-not-read : (limits : Limits) (s : State) (now : ℕ) (lent octets : List ℕ) →
    ((f : Frame) → IsFrame s.profile octets f → f.header.exchange ≡ 41) → (other : List ℕ) (n : ℕ) (next : State) →
    Outcome limits s now lent octets n next → Outcome limits s now other octets n next
lent-not-read = ofDemands.lent-not-read

pub ignored-octets : (profile : Bool) (s t : List ℕ) (x : Frame) (i : IsFrame profile s x) → Alike (frame_mask profile s x i) s t →
    IsFrame profile t x
ignored-octets = ofIgnored.ignored-octets

pub ignored-outcome : (limits : Limits) (s : State) (now : ℕ) (lent octets other : List ℕ) (f : Frame) (i : IsFrame s.profile octets f)
    (a : Alike (frame_mask s.profile octets f i) octets other) (n : ℕ) (next : State) → Outcome limits s now lent octets n next →
    Outcome limits s now lent other n next
ignored-outcome = ofRulesoutcomeIgnored.ignored-outcome

pub not-read : NotRead
not-read = ofRulesoutcomeIgnored.not-read

pub ignored-read : (profile : Bool) (s t : List ℕ) (x : Frame) (rest : List ℕ) (q : frame profile s ≡ whole x rest) →
    Alike (frame_mask profile s x (read-frame profile s x rest q)) s t → frame profile t ≡ whole x []
ignored-read = ofFrameGrammar.ignored-read
