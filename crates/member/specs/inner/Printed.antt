-- What the program hands to its output, block by block.
use Rattle.std.specs.Prelude.{◌≡◌, ℕ, ◌⊎◌, List, [], ◌++◌, take}
use Rattle.text_lines.specs.inner.Reading.{TextState, Finishes}
use Rattle.gikev2.specs.declared.Member.{Member}
use Rattle.member.specs.Program.{LineAnswers}
use Rattle.member.specs.inner.Handing.{HandedOver}
use Rattle.member.specs.inner.Standing.{ReplyFits, Stands, Goes}
use Rattle.member.specs.declared.running.Running.{Running}
use Rattle.member.specs.declared.output.Handed.{Handed}
use Rattle.member.specs.declared.Progress.{Progress}

-- all that the output holds is handed over, and nothing stays
pub record Emptied (r : Running) (h : Handed) (out : List ℕ) (e : Progress) : Type 0 where
  pub member : e.running.member ≡ r.member
  pub key : e.running.key ≡ r.key
  pub keyed : e.running.keyed ≡ r.keyed
  pub len : e.running.len ≡ r.len
  pub over : HandedOver h (take r.at out) e.handed
  pub at : e.running.at ≡ 0

-- nothing is handed over and all stays in the output, or all that the output holds is handed over and nothing stays
pub record Flushed (r : Running) (h : Handed) (out : List ℕ) (e : Progress) : Type 0 where
  pub member : e.running.member ≡ r.member
  pub key : e.running.key ≡ r.key
  pub keyed : e.running.keyed ≡ r.keyed
  pub len : e.running.len ≡ r.len
  pub over : (HandedOver h [] e.handed × (e.running.at ≡ r.at)) ⊎
      (HandedOver h (take r.at out) e.handed × (e.running.at ≡ 0))
  pub room : ReplyFits out e.running

-- `block` was read, and `octets` were handed over on the way: they follow what was printed before, and what the output still holds follows
-- them
pub record Gone (p : Progress) (block line out line' out' : List ℕ) (e : Progress) : Type 0 where
  pub octets : List ℕ
  pub over : HandedOver p.handed octets e.handed
  pub goes : (printed : List ℕ) (x : TextState Member) → Stands printed x line out p.running →
      Goes (printed ++ octets) x block line' out' e.running

-- a block was read, and the output holds nothing: whatever line has ended is answered before the next read
pub record Consumed (p : Progress) (block line out line' out' : List ℕ) (e : Progress) : Type 0 where
  pub gone : Gone p block line out line' out' e
  pub at : e.running.at ≡ 0

-- the input has ended, and the rest of what it asks for was handed over
pub record Ended (p : Progress) (line out : List ℕ) (e : Handed) : Type 0 where
  pub octets : List ℕ
  pub over : HandedOver p.handed octets e
  pub finishes : (printed : List ℕ) (x : TextState Member) → Stands printed x line out p.running →
      Finishes LineAnswers x (printed ++ octets)
