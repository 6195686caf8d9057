-- How far a run has come, from block to block, and what it is at its end.
use Rattle.std.proofs.Common.{◌≡◌, ℕ, ◌+◌, ◌-◌, ◌%◌, ◌^◌, ◌<◌, ◌≤◌, false, ◌⊎◌, List, [], ◌++◌, length, sym, refl, ap, ◌∙◌, subst, inl, inr, arith, length-append}
use borrow.Author.Tests.{eqb-false}
use Rattle.lists.proofs.Cases.{bool_cases, never}
use Rattle.text_lines.specs.inner.Reading.{TextState, text_start, Reads}
use Rattle.text_lines.proofs.ReadingLaws.{reads-append, whole}
use Rattle.gikev2.specs.Member.{new_member}
use Rattle.gikev2.specs.declared.Member.{Member}
use Rattle.member.specs.Program.{LineAnswers, Prints}
use Rattle.member.specs.Run.{RunEnds, input-ended, most-read, write-failed, Runs}
use Rattle.member.specs.inner.Standing.{Stands, Starts}
use Rattle.member.specs.inner.Handing.{nothing_handed, HandedOver}
use Rattle.member.specs.inner.Taking.{nothing_taken, TakenIn}
use Rattle.member.specs.inner.Turns.{Stops, TurnsLeft}
use Rattle.member.specs.inner.Printed.{Consumed, Ended}
use Rattle.member.specs.declared.output.Handed.{Handed}
use Rattle.member.specs.declared.input.InputTaken.{InputTaken}
use Rattle.member.specs.declared.Progress.{Progress}
use Rattle.member.proofs.HandingLaws.{over_none, over-more}

-- it has stopped, or so many octets were read that with one in each turn that is left they are the most
abbrev pub Most : List ℕ → InputTaken → Handed → ℕ → Type 0
Most input t h turns = (Stops t h × (turns ≡ 0)) ⊎ (2 ^ 64 - 1 ≤ length input + turns)

pub left_less : {turns left : ℕ} (t : InputTaken) (h : Handed) → 0 < turns → TurnsLeft turns t h left → left < turns
left_less t h z (inl s) = omega (arith, s.1)
left_less t h z (inr s) = omega (arith, s.2)

-- some octets were read, and some are due: they were handed over, up to a write that failed
pub record Far (line out : List ℕ) (p : Progress) (t : InputTaken) (turns : ℕ) : Type 0 where
  pub input : List ℕ
  pub printed : List ℕ
  pub then : TextState Member
  pub reads : Reads LineAnswers (text_start new_member) input then
  pub stands : Stands printed then line out p.running
  pub taken : t.count % 2 ^ 64 ≡ length input % 2 ^ 64
  pub handed : HandedOver nothing_handed printed p.handed
  pub most : Most input t p.handed turns

pub far-start : {line out : List ℕ} {p : Progress} {t : InputTaken} {turns : ℕ} → Starts p.running → p.handed ≡ nothing_handed
    → t ≡ nothing_taken → 2 ^ 64 - 1 ≤ turns → Far line out p t turns
far-start {line} {out} s h k n =
    record {
      input = [];
      printed = [];
      then = text_start new_member;
      reads = refl;
      stands = s.stands line out;
      taken = ap (λ (x : InputTaken). x.count % 2 ^ 64) k;
      handed = subst (λ (x : Handed). HandedOver nothing_handed [] x) (sym h) over_none;
      most = inr (omega arith);
    }

-- a block more, or none
module _ {line out : List ℕ} {p : Progress} {t : InputTaken} {turns : ℕ} (f : Far line out p t turns) where
  most-more : {b : List ℕ} {u : InputTaken} (h : Handed) {left : ℕ} → 0 < turns → TakenIn t b u → TurnsLeft turns u h left
      → Most (f.input ++ b) u h left
  most-more {b} {u} h {left} z k n = go n f.most
    where
      go : TurnsLeft turns u h left → Most f.input t p.handed turns → Most (f.input ++ b) u h left
      go (inl s) m = inl s
      go (inr s) (inl m) = absurd (omega (arith, m.1))
      go (inr s) (inr m) =
          let some = eqb-false (length b) 0 (sym k.ended ∙ s.0) in
          let l = length-append f.input b in
          inr (omega (arith, s.2))

  pub far-more : {line' out' b : List ℕ} {q : Progress} {u : InputTaken} {left : ℕ} → 0 < turns → TakenIn t b u
      → Consumed p b line out line' out' q → TurnsLeft turns u q.handed left → Far line' out' q u left
  far-more {b = b} {q} z k c n =
      let g = c.gone.goes f.printed f.then f.stands in
      let i = length-append f.input b in
      record {
        input = f.input ++ b;
        printed = f.printed ++ c.gone.octets;
        then = g.then;
        reads = reads-append LineAnswers f.input b (text_start new_member) f.then g.then f.reads g.reads;
        stands = g.stands;
        taken = omega (arith, f.taken, k.count, i);
        handed = over-more f.handed c.gone.over;
        most = most-more q.handed z k n;
      }

  -- the end
  module _ {e : Handed} (d : Ended p line out e) (z : turns ≡ 0) where
    over : HandedOver nothing_handed (f.printed ++ d.octets) e
    over = over-more f.handed d.over

    ends : RunEnds (record { taken = t; handed = e }) f.input over.rest
    ends = bool_cases e.failed write-failed (λ g. go g f.most)
      where
        go : e.failed ≡ false → Most f.input t p.handed turns → RunEnds (record { taken = t; handed = e }) f.input over.rest
        go g (inl (inl s, m)) = input-ended s (over.all g)
        go g (inl (inr s, m)) = never e.failed (d.over.stays s) g
        go g (inr m) = most-read (omega arith) (over.all g)

    pub far-end : Runs (record { taken = t; handed = e })
    far-end =
        let o = f.printed ++ d.octets in
        record {
          input = f.input;
          output = over.over;
          rest = over.rest;
          prints =
              subst (λ (x : List ℕ). Prints f.input x) over.parts
              (whole LineAnswers new_member f.input f.then o f.reads (d.finishes f.printed f.then f.stands));
          taken = f.taken;
          handed = omega (arith, over.count);
          ends = ends;
        }
