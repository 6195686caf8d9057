-- The theorems that docs/CLAIMS.md cites under "Document 02: T-13, power cuts".
use Prim.Native.Nat.{ℕ, suc, ◌+◌, ◌≤◌}
use mathlib.Core.Bool.{Bool}
use mathlib.Core.List.{List, ◌∷◌, ◌++◌}
use mathlib.Core.Logic.{◌↔◌}
use mathlib.Core.Path.{◌≡◌}
use lib.ListN.{length, take}
use Rattle.state_keys.specs.Limits.{Limits}
use Rattle.state.specs.declared.State.{State}
use Rattle.text_rules.specs.Hex.{digits_of}
use Rattle.rules_outcome.specs.Outcome.{Outcome}
use Rattle.rules_outcome.specs.Run.{Event, handed}
use Rattle.state.specs.State.{new_state}
use Rattle.journal_rules.specs.Line.{event_octets, line_of, says, other_kind, read_line}
use Rattle.journal_rules.specs.Replay.{TakesEffect, StopsReading, ReadBack}
use Rattle.journal_rules.specs.Write.{JournalAnswer, Journals}
use Rattle.journal_rules.specs.Claims.{HoldableEvent, as_written, IsLineOf, line_room, lines_ended, journal_of, TookEffect, CutTo}
use Rattle.journal_rules.specs.Claims.{AcceptedFrame, SameRead, SameCall, NotDone, AsPlain, JournaledRun}
use Rattle.journal_rules.proofs.Accepting as ofAccepting
use Rattle.journal_rules.proofs.LineBack as ofLineBack
use Rattle.journal_rules.proofs.LineExactly as ofLineExactly
use Rattle.journal_rules.proofs.LongLines as ofLongLines
use Rattle.journal_rules.proofs.ReadsBack as ofReadsBack
use Rattle.journal_rules.proofs.Determined as ofDetermined
use Rattle.journal_rules.proofs.SameCall as ofSameCall
use Rattle.journal_rules.proofs.JournalRun as ofJournalRun
use Rattle.journaling.specs.Reader.{Gives, FedWith, ReadInBlocks}
use Rattle.journaling.specs.declared.Replayed.{Replayed}
use Rattle.journaling.specs.declared.reading.JournalReader.{JournalReader}
use Rattle.journaling.proofs.Blocks as ofBlocks
pub use Rattle.journal_rules.proofs.AllSamples.{lines-written, lines-said, reads-onto-profile, stops-onto-profile}

pub line-back : (x : Event) → HoldableEvent x → read_line (digits_of (event_octets x)) ≡ says (as_written x)
line-back = ofLineBack.line-back

pub read-exactly : (text : List ℕ) (x : Event) → (read_line text ≡ says x) ↔ IsLineOf text x
read-exactly = ofLineExactly.read-exactly

pub accepted-frame : (limits : Limits) (s : State) (now : ℕ) (lent frame : List ℕ) (next : State) →
    Outcome limits s now lent frame 0 next → AcceptedFrame frame lent
accepted-frame = ofAccepting.accepted-frame

pub holds-every-line : (limits : Limits) (s : State) (x : Event) (next : State) → TakesEffect limits s x next →
    length (line_of x) ≤ line_room
holds-every-line = ofLongLines.holds-every-line

pub reads-back : (limits : Limits) (profile : Bool) (l : List Event) (e : State) → TookEffect limits (new_state limits profile) l e →
    ReadBack limits profile (journal_of l) e 0
reads-back = ofReadsBack.reads-back

pub cut-anywhere : (limits : Limits) (profile : Bool) (l : List Event) (e : State) → TookEffect limits (new_state limits profile) l e →
    (k : ℕ) → CutTo limits (new_state limits profile) 1 l (take k (journal_of l))
cut-anywhere = ofReadsBack.cut-anywhere

pub cut-anywhere-behind : (limits : Limits) (profile : Bool) (l : List Event) (e : State) →
    TookEffect limits (new_state limits profile) l e → (t : List ℕ) → lines_ended t ≡ 0 → ReadBack limits profile (journal_of l ++ t) e 0
cut-anywhere-behind = ofReadsBack.cut-anywhere-behind

pub stops_at : (limits : Limits) (profile : Bool) (l : List Event) (e : State) → TookEffect limits (new_state limits profile) l e →
    (t rest : List ℕ) → lines_ended t ≡ 0 → StopsReading limits e (read_line t) →
    ReadBack limits profile (journal_of l ++ (t ++ (10 ∷ rest))) e (1 + length l)
stops_at = ofReadsBack.stops_at

pub other-stops : (limits : Limits) (profile : Bool) (l : List Event) (e : State) → TookEffect limits (new_state limits profile) l e →
    (t rest : List ℕ) → lines_ended t ≡ 0 → read_line t ≡ other_kind →
    ReadBack limits profile (journal_of l ++ (t ++ (10 ∷ rest))) e (1 + length l)
other-stops = ofReadsBack.other-stops

pub refusal-stops : (limits : Limits) (profile : Bool) (l : List Event) (e : State) → TookEffect limits (new_state limits profile) l e →
    (t rest frame lent : List ℕ) (tick n : ℕ) → lines_ended t ≡ 0 → read_line t ≡ says (handed frame lent tick) →
    Outcome limits e tick lent frame (suc n) e → ReadBack limits profile (journal_of l ++ (t ++ (10 ∷ rest))) e (1 + length l)
refusal-stops = ofReadsBack.refusal-stops

pub reads-one : (limits : Limits) (profile : Bool) (journal : List ℕ) (e f : State) (j k : ℕ) → ReadBack limits profile journal e j →
    ReadBack limits profile journal f k → SameRead e f j k
reads-one = ofDetermined.reads-one

pub journal-run : (limits : Limits) (profile : Bool) (journal : List ℕ) (e : State) →
    JournaledRun limits (new_state limits profile) journal e → ReadBack limits profile journal e 0
journal-run = ofJournalRun.journal-run

pub journaled-same : (limits : Limits) (s : State) (x : Event) (room : List ℕ) (a : JournalAnswer) (next : State) (after : List ℕ) →
    length (line_of x) ≤ length room → Journals limits s x room a next after → AsPlain limits s x a next
journaled-same = ofJournalRun.journaled-same

pub stays-as-is : (limits : Limits) (s : State) (x : Event) (room : List ℕ) (a : JournalAnswer) (next : State) (after : List ℕ) →
    NotDone a → Journals limits s x room a next after → (next ≡ s) × (after ≡ room)
stays-as-is = ofJournalRun.stays-as-is

pub journals-one : (limits : Limits) {s : State} {x : Event} {room : List ℕ} {a b : JournalAnswer} {next next' : State}
    {after after' : List ℕ} → Journals limits s x room a next after → Journals limits s x room b next' after' →
    SameCall a b next next' after after'
journals-one limits = ofSameCall.journals-one limits

pub blocks-same : (profile : Bool) (journal : List ℕ) (r : JournalReader) (e : Replayed) → FedWith profile journal r → Gives r e →
    ReadInBlocks profile journal e
blocks-same = ofBlocks.blocks-same
