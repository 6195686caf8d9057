-- The theorems that docs/CLAIMS.md cites under "Document 02: T-02, rekeys over the member's own channel".
use Prim.Native.Nat.{ℕ}
use mathlib.Core.Bool.{Bool, true, false}
use mathlib.Core.List.{List, []}
use mathlib.Core.Logic.{◌⊎◌, ◌↔◌}
use mathlib.Core.Path.{◌≡◌}
use Rattle.wire_policies.specs.Policy.{GroupSaPolicy}
use Rattle.wire_frames.specs.Exchange.{inband, exchange_of}
use Rattle.wire_frames.specs.Frame.{Frame}
use Rattle.wire_frames.specs.Grammar.{IsFrame}
use Rattle.state_keys.specs.Limits.{Limits, limits}
use Rattle.state.specs.State.{state_formed, new_state}
use Rattle.state.specs.declared.State.{State}
use Rattle.state.specs.declared.held.Held.{Held}
use Rattle.state.specs.declared.least.Least.{Least}
use Rattle.rules_refusals.specs.Contents.{row_of, wrap_keys_of}
use Rattle.rules_refusals.specs.Number4.{barred_member_bag}
use Rattle.rules_outcome.specs.Holding.{new_rekey}
use Rattle.rules_outcome.specs.Inband.{Beside, UnderLent}
use Rattle.rules_outcome.specs.NamedKey.{lent_root, Registration, Rekey, Inband, OpensUnder}
use Rattle.rules_outcome.specs.Outcome.{Outcome}
use Rattle.rules_outcome.specs.Roots.{roots_of}
use Rattle.rules_outcome.specs.Run.{Event, Run, Throughout}
use Rattle.rules_outcome.proofs.Rows as ofRows
use Rattle.rules_outcome.proofs.Inband as ofInband
use Rattle.rules_outcome.proofs.Runs as ofRuns
pub use Rattle.rules_refusals.proofs.SamplesAlone.{alone4, alone5}
pub use Rattle.rules_refusals.proofs.SamplesInband.{samples_inband}

pub inband-roots : (limits : Limits) (s : State) (now : ℕ) (f : Frame) (e : row_of f ≡ inband) (lent : List ℕ) →
    roots_of limits s now lent f ≡ lent_root lent
inband-roots = ofRows.inband-roots

pub one-of-four : (f : Frame) → (row_of f).admitted ≡ true → Registration f ⊎ Rekey f
one-of-four = ofRows.one-of-four

pub header-not-read : (limits : Limits) (s : State) (now : ℕ) (lent octets : List ℕ) (f : Frame) (e : IsFrame s.profile octets f)
    (b : Inband f) (n : ℕ) (next : State) (o : Outcome limits s now lent octets n next) (others : List ℕ) (g : Frame) →
    IsFrame s.profile others g → Inband g → f.payloads ≡ g.payloads → Outcome limits s now lent others n next
header-not-read = ofInband.header-not-read

pub least-not-judged : (limits : Limits) (s : State) (now : ℕ) (lent octets : List ℕ) (f : Frame) (e : IsFrame s.profile octets f)
    (b : Inband f) (n : ℕ) (next : State) (o : Outcome limits s now lent octets n next) (l : Least) →
    Beside limits s (record { table = s.table; held = s.held; least = l; profile = s.profile }) now lent octets n next
least-not-judged = ofInband.least-not-judged

pub never-3 : (limits : Limits) (s : State) (now : ℕ) (lent octets : List ℕ) (f : Frame) (e : IsFrame s.profile octets f) (b : Inband f)
    (n : ℕ) (next : State) (o : Outcome limits s now lent octets n next) → n ≡ 3 → ⊥
never-3 = ofInband.never-3

pub no-wrap-key : (f : Frame) → (row_of f).allows_member_bag ≡ false → barred_member_bag f ≡ false → wrap_keys_of f ≡ []
no-wrap-key = ofRows.no-wrap-key

pub rekey-bars : (f : Frame) → Rekey f → (row_of f).allows_member_bag ≡ false
rekey-bars = ofRows.rekey-bars

pub opens-under-lent : (limits : Limits) (s : State) (now : ℕ) (lent : List ℕ) (f : Frame) (b : Inband f) (a : GroupSaPolicy) (x : List ℕ) →
    OpensUnder limits s now lent f a x ↔ UnderLent lent f a x
opens-under-lent = ofInband.opens-under-lent

pub names-held : (x : ℕ) → (exchange_of x).names_held_keys ≡ true → x ≡ 41
names-held = ofRows.names-held

pub held-not-read : (limits : Limits) (s : State) (now : ℕ) (lent octets : List ℕ) (f : Frame) (e : IsFrame s.profile octets f)
    (b : Inband f) (n : ℕ) (next : State) (o : Outcome limits s now lent octets n next) (h : Held) → state_formed limits s ≡ true →
    state_formed limits (record { table = s.table; held = h; least = s.least; profile = s.profile }) ≡ true →
    Beside limits s (record { table = s.table; held = h; least = s.least; profile = s.profile }) now lent octets n next
held-not-read = ofInband.held-not-read

pub held_stays : (limits : Limits) (s : State) (now : ℕ) (lent octets : List ℕ) (f : Frame) (e : IsFrame s.profile octets f)
    (b : Inband f) (n : ℕ) (next : State) (o : Outcome limits s now lent octets n next) → next.held ≡ s.held
held_stays = ofInband.held_stays

pub least_stays : (limits : Limits) (s : State) (now : ℕ) (lent octets : List ℕ) (f : Frame) (e : IsFrame s.profile octets f)
    (b : Inband f) (n : ℕ) (next : State) (o : Outcome limits s now lent octets n next) → new_rekey f ≡ false → next.least ≡ s.least
least_stays = ofInband.least_stays

pub members-formed : (profile : Bool) {e : State} {l : List Event} (r : Run limits (new_state limits profile) l e) →
    Throughout limits (λ (m : State). state_formed limits m ≡ true) r
members-formed = ofRuns.members-formed
