-- THE OUTCOME OF A SEALED FRAME: for every state, tick, frame and room the answer's number, the offset that it carries, the next state and
-- the room afterwards.
use Rattle.std.specs.Prelude.{ℕ, suc, ◌≡◌, Bool, true, not, List, [], ◌∷◌, eqb}
use Rattle.ikev2_numbers.specs.Codes.{gsa_rekey}
use Rattle.state_keys.specs.Limits.{Limits}
use Rattle.wire_frames.specs.Header.{Header, header_of}
use Rattle.wire_frames.specs.Frame.{figure}
use Rattle.state.specs.declared.State.{State}
use Rattle.rules_refusals.specs.Number2.{number2_of_frame, number2_of_member}
use Rattle.rules_refusals.specs.Refusals.{Number, applies}
use Rattle.gcm.specs.Opening.{put_at_start}
use Rattle.rfc5282.specs.Outer.{IsOuter}
use Rattle.rfc5282.specs.Number10.{Unopened, OpensInto}
use Rattle.rules_outcome.specs.Answer.{RefusalCase, First}
use Rattle.rules_outcome.specs.Outcome.{Outcome}
use Rattle.rules_sealed.specs.SealingKey.{sealing_part}

-- 2, on the outer header: "Other exchanges still arrive opened and, past 1, are 2 here"; else as on an opened frame
abbrev pub not_rekey : ℕ → Bool
not_rekey x = not (eqb x gsa_rekey)

abbrev pub sealed_number2 : Limits → State → ℕ → Header → Number
sealed_number2 limits s now h =
    record {
      number = 2;
      of_frame = not_rekey h.exchange ∷ number2_of_frame h.exchange;
      of_member = number2_of_member limits s now h.exchange h.spi;
    }

module _ (limits : Limits) (s : State) (now : ℕ) (octets room : List ℕ) where
  -- what is judged before anything is opened, in judging order. 1: "judged first on the outer header and the Encrypted payload, alone in
  -- the frame"; 10: "judged after 2 and before 3"
  abbrev pub sealed_conditions : List RefusalCase
  sealed_conditions =
      record { number = 1; holds = IsOuter octets → ⊥ }
      ∷ record { number = 2; holds = applies (sealed_number2 limits s now (header_of octets)) ≡ true }
      ∷ record { number = 10; holds = Unopened (sealing_part limits s) octets room } ∷ []

  -- "Outer 1, 2 and 10 leave the room for plain octets as lent; else it then starts with the opened frame (next payload and length set
  -- anew), the rest as lent." What was opened has the outcome of an opened frame, inner 1 with its offset. A GSA_REKEY reads no lent key
  -- (document 01), so none is handed in
  pub data SealedOutcome : ℕ → ℕ → State → List ℕ → Type 0 where
    not_opened : (n : ℕ) → First sealed_conditions (suc n) → SealedOutcome (suc n) 0 s room
    by-opened : (o : List ℕ) {n : ℕ} {next : State} → First sealed_conditions 0 → OpensInto (sealing_part limits s) octets room o →
        Outcome limits s now [] o n next → SealedOutcome n (figure s.profile o) next (put_at_start o room)
