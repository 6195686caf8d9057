-- The transcript is one: where a step determines its outcome, the input determines the output.
use Prim.Native.Nat.{ℕ}
use mathlib.Core.Path.{◌≡◌, ap, sym, subst, ◌∙◌}
use mathlib.Core.List.{List, [], ◌∷◌, ◌++◌}
use Rattle.text_rules.specs.Lines.{Line, lines}
use Rattle.text_rules.specs.Input.{Asked, bad, frame, line_key, asked_by}
use Rattle.text_rules.specs.Transcript.{CallRelation, LineOutcome, Reply, told, RepliesTo, Later, OutputOf, Transcript}

module _ {S : Type 0} (step : CallRelation S)
    (one : (member : S) (key : List ℕ) (tick : ℕ) (octets : List ℕ) (o p : LineOutcome S) → step member key tick octets o →
    step member key tick octets p → o ≡ p) where
  reply-one : (key : List ℕ) (member : S) (x : Asked) (a b : Reply S) → RepliesTo step key member x a → RepliesTo step key member x b
      → a ≡ b
  reply-one key member bad a b p q = p ∙ sym q
  reply-one key member (frame tick octets) a b p q =
      p.2 ∙ ap told (one member key tick octets p.0 q.0 p.1 q.1) ∙ sym q.2

  later-one : (key : List ℕ) (member : S) (ls : List Line) (s t : List ℕ) → Later step key member ls s → Later step key member ls t
      → s ≡ t
  later-one key member [] s t p q = p ∙ sym q
  later-one key member (l ∷ ls) s t p q =
      let e = reply-one key member (asked_by l.text) p.0 q.0 p.1 q.1 in
      let more = later-one key q.0.next ls p.2 q.2
      (subst (λ (a : Reply S). Later step key a.next ls p.2) e p.3) q.3 in
      p.4 ∙ ap (λ (a : Reply S). a.text ++ p.2) e ∙ ap (λ (x : List ℕ). q.0.text ++ x) more ∙ sym q.4

  output-one : (member : S) (ls : List Line) (s t : List ℕ) → OutputOf step member ls s → OutputOf step member ls t → s ≡ t
  output-one member [] s t p q = p ∙ sym q
  output-one member (first ∷ ls) s t p q = later-one (line_key first.text) member ls s t p q

  pub transcript-one : (member : S) (input s t : List ℕ) → Transcript step member input s → Transcript step member input t → s ≡ t
  transcript-one member input s t p q = output-one member (lines input) s t p q
