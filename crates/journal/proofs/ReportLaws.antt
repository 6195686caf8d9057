-- The text of a report, from its parts, and the blocks of the input.
use native.Mathlib.Omega.{arith}
use Prim.Native.Nat.{ℕ, ◌<◌}
use mathlib.Core.Path.{◌≡◌}
use mathlib.Core.Bool.{false}
use mathlib.Core.Logic.{inl, inr}
use mathlib.Core.List.{List, [], ◌∷◌, ◌++◌, append_assoc}
use borrow.Author.Tests.{eq-eqb, ne_eqb}
use Rattle.text_rules.specs.Answer.{decimal, printed}
use Rattle.text_lines.specs.inner.Room.{Put}
use Rattle.text_lines.proofs.RoomLaws.{put-append, put_as}
use Rattle.journaling.specs.Reader.{BeginsReading, Feeds, not-fed, then-fed}
use Rattle.journaling.specs.declared.reading.JournalReader.{JournalReader}
use Rattle.journal.specs.Report.{report_text, WasFed, TurnsAfter}

module _ (sas held line : ℕ) where
  short-text : line ≡ 0 → ((decimal sas ++ (32 ∷ [])) ++ decimal held) ++ (10 ∷ []) ≡ report_text sas held line
  unfolding report_text printed
  short-text e =
      let x : ((decimal sas ++ (32 ∷ [])) ++ decimal held) ++ (10 ∷ []) ≡ decimal sas ++ (32 ∷ (decimal held ++ (10 ∷ []))) =
      simp append_assoc in
      rw (eq-eqb line 0 e) x

  long-text : (line ≡ 0 → ⊥) →
      ((((decimal sas ++ (32 ∷ [])) ++ decimal held) ++ (32 ∷ [])) ++ decimal line) ++ (10 ∷ []) ≡ report_text sas held line
  unfolding report_text printed
  long-text e =
      let x : ((((decimal sas ++ (32 ∷ [])) ++ decimal held) ++ (32 ∷ [])) ++ decimal line) ++ (10 ∷ [])
      ≡ decimal sas ++ (32 ∷ (decimal held ++ (32 ∷ (decimal line ++ (10 ∷ []))))) = simp append_assoc in
      rw (ne_eqb line 0 e) x

  module _ {room r1 r2 r3 : List ℕ} {a b c : ℕ} (p : Put room 0 (decimal sas) r1 a) (q : Put r1 a (32 ∷ []) r2 b)
      (r : Put r2 b (decimal held) r3 c) where
    pub report-counts : {after : List ℕ} {n : ℕ} → line ≡ 0 → Put r3 c (10 ∷ []) after n → Put room 0 (report_text sas held line) after n
    report-counts e u = put_as (short-text e) (put-append (put-append (put-append p q) r) u)

    pub report-line : {r4 r5 after : List ℕ} {d f n : ℕ} → (line ≡ 0 → ⊥) → Put r3 c (32 ∷ []) r4 d → Put r4 d (decimal line) r5 f →
        Put r5 f (10 ∷ []) after n → Put room 0 (report_text sas held line) after n
    report-line e u v w = put_as (long-text e) (put-append (put-append (put-append (put-append (put-append p q) r) u) v) w)

-- ---- the input
pub fed-none : (r : JournalReader) → BeginsReading false r → WasFed r
fed-none r b = record { journal = []; fed = not-fed r b }

pub fed-more : {r e : JournalReader} {block : List ℕ} → WasFed r → Feeds r block e → WasFed e
fed-more {r} {e} {block} w f = record { journal = w.journal ++ block; fed = then-fed w.journal block r e w.fed f }

pub left-fewer : (turns n left : ℕ) → 0 < turns → TurnsAfter turns n left → left < turns
left-fewer turns n left z (inl t) = omega (arith, t.1)
left-fewer turns n left z (inr t) = omega (arith, t.1)
