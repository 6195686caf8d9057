-- A line put to a room's start, from its parts, and what becomes of a step by it.
use Rattle.std.proofs.Common.{◌≡◌, ℕ, zero, suc, ◌+◌, ◌*◌, ◌/◌, ◌%◌, ◌<◌, ◌≤◌, false, List, [], ◌∷◌, ◌++◌, length, drop, sym, refl, ap, ◌∙◌, subst, inl, inr, append_assoc, arith, length-append, eq-eqb, ne_eqb}
use Rattle.std.specs.Prelude.{Option, Some, None, Ok, Err}
use Rattle.octets.specs.Numbers.{oct, octets_of}
use Rattle.state_keys.specs.Limits.{limits}
use Rattle.text_rules.specs.Hex.{digit_of, digits_of}
use Rattle.text_rules.proofs.RoundTrip.{length-written}
use Rattle.text_lines.specs.inner.Room.{Put}
use Rattle.text_lines.proofs.RoomLaws.{put-append, put_as, put_next, put_whole}
use Rattle.wire_frames.specs.Frame.{figure}
use Rattle.state.specs.declared.State.{State}
use Rattle.rules_outcome.specs.Run.{Event, handed, sweep, leave}
use Rattle.rules_outcome.specs.Outcome.{Outcome}
use Rattle.rules_outcome.proofs.Demands.{refusal-keeps}
use Rattle.gikev2.specs.Member.{swept_member, left_member}
use Rattle.gikev2.specs.Receive.{number_of, Receives}
use Rattle.gikev2.proofs.Where.{others-0}
use Rattle.gikev2.specs.declared.Member.{Member}
use Rattle.gikev2.specs.declared.call.Answer.{Answer}
use Rattle.journal_rules.specs.Line.{is_gsa_rekey, key_read, entry_octets, event_octets, line_of}
use Rattle.journal_rules.specs.Write.{Journals, refused, turned-away, too_small, wrote}
use Rattle.journal_rules.specs.Claims.{KeyFits}
use Rattle.journal_rules.proofs.Accepting.{accepted-frame}
use Rattle.journal_rules.proofs.LongLines.{length-entry}
use Rattle.journaling.specs.Calls.{JournalsStep, JournalsFrame}
use Rattle.journaling.specs.declared.JournalError.TheVariants as error
use Rattle.journaling.specs.inner.LinePutting.{text_of, PutsLine, left_out, put-there, Writable, StepTaken}

digits_append : (s t : List ℕ) → digits_of (s ++ t) ≡ digits_of s ++ digits_of t
unfolding digits_of
digits_append [] t = refl
digits_append (o ∷ s) t = ap (λ (l : List ℕ). digit_of (o / 16) ∷ digit_of (o % 16) ∷ l) (digits_append s t)

length-text : (o : List ℕ) → length (text_of o) ≡ 1 + 2 * length o
length-text o = let a = length-append (digits_of o) (10 ∷ []) in let b = length-written o in omega arith

-- a line that was put finds room, or there was none
pub line-put : {room after : List ℕ} {n : ℕ} (line : List ℕ) → Put room 0 line after n → length line ≤ length room →
    PutsLine line room after (Some n)
line-put {room} {after} {n} line p h =
    let z : 0 + length line ≡ length line = omega arith in
    put-there n (put_next p (omega arith) ∙ z) h (put_whole p (omega arith) ∙ ap (λ (k : ℕ). line ++ drop k room) z)

-- ---- the line of an entry
module _ (key : List ℕ) (tick : ℕ) (frame : List ℕ) where
  pub length-of-entry : length (text_of (entry_octets key tick frame)) ≡ 2 * (5 + length key + length frame) + 1
  length-of-entry =
      let a = length-text (entry_octets key tick frame) in
      let b = length-entry key tick frame in
      omega arith

  parts : (t : List ℕ) →
      (((digits_of (length key ∷ []) ++ digits_of key) ++ digits_of t) ++ digits_of frame) ++ (10 ∷ [])
      ≡ text_of (length key ∷ (key ++ (t ++ frame)))
  parts t =
      let a = digits_append (length key ∷ []) (key ++ (t ++ frame)) in
      let b = digits_append key (t ++ frame) in
      let c = digits_append t frame in
      let d : (((digits_of (length key ∷ []) ++ digits_of key) ++ digits_of t) ++ digits_of frame) ≡
      digits_of (length key ∷ []) ++ (digits_of key ++ (digits_of t ++ digits_of frame)) = simp append_assoc in
      ap (λ (x : List ℕ). x ++ (10 ∷ [])) (d ∙ ap (λ (x : List ℕ). digits_of (length key ∷ []) ++ (digits_of key ++ x)) (sym c)
      ∙ ap (λ (x : List ℕ). digits_of (length key ∷ []) ++ x) (sym b) ∙ sym a)

  module _ {room r1 r2 r3 r4 after : List ℕ} {a b c d n : ℕ} where
    pub entry-put : (t : List ℕ) → t ≡ octets_of 4 tick → Put room 0 (digits_of (length key ∷ [])) r1 a → Put r1 a (digits_of key) r2 b →
        Put r2 b (digits_of t) r3 c → Put r3 c (digits_of frame) r4 d → Put r4 d (10 ∷ []) after n →
        2 * (5 + length key + length frame) + 1 ≤ length room → PutsLine (text_of (entry_octets key tick frame)) room after (Some n)
    entry-put t e p q r s u h =
        let z = length-of-entry in
        line-put (text_of (entry_octets key tick frame))
        (put_as (parts t ∙ ap (λ (x : List ℕ). text_of (length key ∷ (key ++ (x ++ frame)))) e)
        (put-append (put-append (put-append (put-append p q) r) s) u))
        (omega arith)

  pub entry-left-out : (room : List ℕ) → length room < 2 * (5 + length key + length frame) + 1 →
      PutsLine (text_of (entry_octets key tick frame)) room room None
  entry-left-out room h = let z = length-of-entry in left_out (omega arith) refl

-- ---- the lines of the steps
module _ (frame lent : List ℕ) (tick : ℕ) {room after : List ℕ} {n : Option ℕ} where
  pub frame-line : (key : List ℕ) → key_read frame lent ≡ key → PutsLine (text_of (entry_octets key tick frame)) room after n →
      PutsLine (line_of (handed frame lent tick)) room after n
  unfolding line_of event_octets
  frame-line key e p = rw e p

pub sweep-line : (tick : ℕ) {room after : List ℕ} {n : Option ℕ} → PutsLine (text_of (entry_octets [] tick [])) room after n →
    PutsLine (line_of (sweep tick)) room after n
unfolding line_of event_octets
sweep-line tick p = p

pub leaving-put : {room r1 after : List ℕ} {a n : ℕ} → Put room 0 (digits_of (255 ∷ [])) r1 a → Put r1 a (10 ∷ []) after n →
    3 ≤ length room → PutsLine (line_of leave) room after (Some n)
unfolding line_of event_octets
leaving-put p q h = let z = length-text (255 ∷ []) in line-put (text_of (255 ∷ [])) (put-append p q) (omega arith)

pub leaving-left-out : (room : List ℕ) → length room < 3 → PutsLine (line_of leave) room room None
unfolding line_of event_octets
leaving-left-out room h = let z = length-text (255 ∷ []) in left_out (omega arith) refl

-- the lent key of a frame, by its exchange
pub rekey-key : (frame lent : List ℕ) → oct frame 18 ≡ 41 → key_read frame lent ≡ []
rekey-key frame lent e = rw (eq-eqb (oct frame 18) 41 e)

pub other-rekey : (frame : List ℕ) → (oct frame 18 ≡ 41 → ⊥) → is_gsa_rekey frame ≡ false
other-rekey frame e = ne_eqb (oct frame 18) 41 e

pub other_key : (frame lent : List ℕ) → (oct frame 18 ≡ 41 → ⊥) → key_read frame lent ≡ lent
other_key frame lent e = rw (other-rekey frame e)

-- ---- what becomes of a step
module _ (m next : Member) (x : Event) (room after : List ℕ) (t : StepTaken m x next) where
  pub no-room-for : PutsLine (line_of x) room after None →
      JournalsStep m x room (record { entry = Err error.NoRoom; member = m }) after
  no-room-for (left_out h a) = rw a (too_small next.state t h)

  pub room_for : {n : ℕ} → PutsLine (line_of x) room after (Some n) → JournalsStep m x room (record { entry = Ok n; member = next }) after
  room_for (put-there n e h a) = rw (a, e) (wrote next.state t h)

pub swept_step : (m : Member) (tick : ℕ) (next : Member) → next ≡ swept_member tick m → StepTaken m (sweep tick) next
unfolding swept_member
swept_step m tick next e = ap (λ (x : Member). x.state) e

pub left_step : (m next : Member) → next ≡ left_member m → StepTaken m leave next
unfolding left_member
left_step m next e = ap (λ (x : Member). x.state) e

-- ---- a frame by the member's answer
module _ (m : Member) (tick : ℕ) (lent frame : List ℕ) (a : Answer) (next : Member) (r : Receives m tick lent frame a next) where
  pub accepted-step : number_of a ≡ 0 → StepTaken m (handed frame lent tick) next
  accepted-step e = subst (λ (n : ℕ). Outcome limits m.state tick lent frame n next.state) e r.outcome

  key-most : KeyFits lent → length lent ≤ 32
  key-most (inl e) = omega arith
  key-most (inr (inl e)) = omega arith
  key-most (inr (inr e)) = omega arith

  pub accepted-writable : number_of a ≡ 0 → Writable frame lent
  accepted-writable e =
      let f = accepted-frame limits m.state tick lent frame next.state (accepted-step e) in
      record { least = f.least; most = f.most; key = λ q. key-most (f.key q) }

  pub accepted-offset : number_of a ≡ 0 → 0 ≡ figure m.state.profile frame
  accepted-offset e = sym (others-0 m tick lent frame a next r (λ q. omega arith)) ∙ r.offset

  -- a refusal leaves room and member
  refused_as : (n : ℕ) → (n ≡ 0 → ⊥) → Outcome limits m.state tick lent frame n m.state → (room : List ℕ) →
      Journals limits m.state (handed frame lent tick) room (refused n) m.state room
  refused_as zero z o room = absurd (z refl)
  refused_as (suc n) z o room = turned-away frame lent tick n refl o

  pub refused-frame : (number_of a ≡ 0 → ⊥) → (room : List ℕ) →
      JournalsFrame m frame lent tick room (record { entry = Err (error.Refused a); member = m }) room
  refused-frame z room =
      let k = refusal-keeps limits m.state tick lent frame (number_of a) next.state r.outcome z in
      record {
        step = refused_as (number_of a) z (subst (λ (s : State). Outcome limits m.state tick lent frame (number_of a) s) k
            r.outcome) room;
        offset = r.offset;
      }
