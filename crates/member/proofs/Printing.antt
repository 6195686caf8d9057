-- An input has one output: nothing else than what a run hands over could be printed.
use Rattle.std.proofs.Common.{◌≡◌, ℕ, List, sym, ap, ◌∙◌}
use Rattle.text_rules.specs.Transcript.{LineOutcome}
use Rattle.text_rules.proofs.OneTranscript.{transcript-one}
use Rattle.gikev2.specs.Member.{new_member}
use Rattle.gikev2.specs.Receive.{number_of, figure_of}
use Rattle.gikev2.specs.declared.Member.{Member}
use Rattle.gikev2.proofs.ReceiveLaws.{receives-one}
use Rattle.member.specs.Program.{LineAnswers, Prints}

answers_one : (m : Member) (key : List ℕ) (tick : ℕ) (octets : List ℕ) (o p : LineOutcome Member)
    → LineAnswers m key tick octets o → LineAnswers m key tick octets p → o ≡ p
answers_one m key tick octets o p a b =
    let e = receives-one m tick key octets a.answer b.answer o.next p.next a.receives b.receives in
    let n : o.number ≡ p.number = a.number ∙ ap number_of e.0 ∙ sym b.number in
    let s : o.sas ≡ p.sas = a.sas ∙ ap (λ (x : Member). x.state.table.count) e.1 ∙ sym b.sas in
    let h : o.held ≡ p.held = a.held ∙ ap (λ (x : Member). x.state.held.count) e.1 ∙ sym b.held in
    let f : o.figure ≡ p.figure = a.figure ∙ ap figure_of e.0 ∙ sym b.figure in
    λ i. record { next = e.1 i; number = n i; sas = s i; held = h i; figure = f i }

pub prints-one : (input s t : List ℕ) → Prints input s → Prints input t → s ≡ t
prints-one input s t p q = transcript-one LineAnswers answers_one new_member input s t p q
