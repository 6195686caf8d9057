-- One line: the reply to it.
use Rattle.std.proofs.Common.{◌≡◌, ℕ, ◌^◌, ◌<◌, ◌≤◌, Bool, true, false, List, length, take, sym, refl, ap, subst, arith}
use Rattle.text_rules.specs.Answer.{answer_text, bad_text}
use Rattle.text_rules.specs.Transcript.{Replies}
use Rattle.text_lines.specs.inner.Room.{reply_room, Put}
use Rattle.text_lines.specs.inner.Calls.{Asks}
use Rattle.text_lines.specs.declared.LineKey.{LineKey}
use Rattle.std.specs.Prelude.{Some, None}
use Rattle.text_lines.proofs.AnswerLaws.{answer-short}
use Rattle.text_lines.proofs.CallLaws.{reply-bad, reply-frame, key-short, given-length}
use Rattle.text_lines.proofs.RoomLaws.{length-put, put_as}
use Rattle.gikev2.specs.Receive.{number_of, figure_of, Receives}
use Rattle.gikev2.specs.declared.Member.{Member}
use Rattle.gikev2.specs.declared.call.Answer.{Answer}
use Rattle.member.specs.Program.{LineAnswers}
use Rattle.member.specs.inner.Reply.{key_in, LaterLine, Answered, LineReceived}
use Rattle.member.specs.declared.running.Running.{Running}

-- the text of a reply is short, and the number and the figure in it as they were computed
module _ (n : ℕ) (a : Answer) (sas held o : ℕ) (e : n ≡ number_of a) (f : o ≡ figure_of a) where
  pub told_is : {out after : List ℕ} {at next : ℕ} → Put out at (answer_text n sas held o) after next
      → Put out at (answer_text (number_of a) sas held (figure_of a)) after next
  told_is p = put_as (λ i. answer_text (e i) sas held (f i)) p

  pub told-short : n < 2 ^ 64 → sas < 2 ^ 64 → held < 2 ^ 64 → o < 2 ^ 64
      → length (answer_text (number_of a) sas held (figure_of a)) ≤ reply_room
  told-short h k l m = answer-short (number_of a) sas held (figure_of a) (omega arith) k l (omega arith)

-- the program's place after a later line
abbrev pub placed : Running → Member → ℕ → Running
placed r next at = record { member = next; key = r.key; keyed = r.keyed; len = 0; at = at }

module _ (r : Running) {out after : List ℕ} where
  pub received_is : {at : ℕ} (tick : ℕ) (octets : List ℕ) (a : Answer) (next : Member)
      → Receives r.member tick (key_in r.key) octets a next
      → Put out r.at (answer_text (number_of a) next.state.table.count next.state.held.count (figure_of a)) after at
      → length (answer_text (number_of a) next.state.table.count next.state.held.count (figure_of a)) ≤ reply_room
      → LineReceived r tick octets out after (placed r next at)
  received_is tick octets a next p q h =
      record {
        outcome =
            record {
              next = next;
              number = number_of a;
              sas = next.state.table.count;
              held = next.state.held.count;
              figure = figure_of a;
            };
        answers = record { answer = a; receives = p; number = refl; sas = refl; held = refl; figure = refl };
        next = refl;
        put = q;
        short = h;
        key = refl;
        keyed = refl;
        len = refl;
      }

  pub later-bad : {at : ℕ} (line : List ℕ) {room room' : List ℕ} → Asks line room room' None → Put out r.at bad_text after at
      → LaterLine r line out after (placed r r.member at)
  later-bad line p q =
      record {
        text = bad_text;
        replies = reply-bad LineAnswers (key_in r.key) r.member line p;
        put = q;
        short = omega arith;
        key = refl;
        keyed = refl;
        len = refl;
      }

  pub later-frame : (line : List ℕ) {room room' : List ℕ} {tick len : ℕ} (e : Running) → Asks line room room' (Some (record { tick = tick; len = len }))
      → 16384 ≤ length room → LineReceived r tick (take len room') out after e → LaterLine r line out after e
  later-frame line e p h q =
      let o = q.outcome in
      let text = answer_text o.number o.sas o.held o.figure in
      record {
        text = text;
        replies =
            subst (λ (m : Member). Replies LineAnswers (key_in r.key) r.member line (record { next = m; text = text })) q.next
            (reply-frame LineAnswers (key_in r.key) r.member line o p h q.answers);
        put = q.put;
        short = q.short;
        key = q.key;
        keyed = q.keyed;
        len = q.len;
      }

-- what every line leaves
module _ (r : Running) (line out after : List ℕ) (e : Running) where
  pub answered-as : (b : Bool) → r.keyed ≡ b → Answered b r line out after e → Answered r.keyed r line out after e
  answered-as b k p = subst (λ (x : Bool). Answered x r line out after e) (sym k) p

  pub answered-key : (b : Bool) → Answered b r line out after e → r.key.len ≤ 32 → e.key.len ≤ 32
  answered-key false p h = let l = given-length line p.key in let s = key-short line in omega arith
  answered-key true p h = let l = ap (λ (k : LineKey). k.len) p.key in omega arith

  pub answered-begun : (b : Bool) → Answered b r line out after e → e.len ≡ 0
  answered-begun false p = p.len
  answered-begun true p = p.len

  pub answered-output : (b : Bool) → Answered b r line out after e → length after ≡ length out
  answered-output false p = ap length p.nothing
  answered-output true p = length-put p.put

  pub answered-place : (b : Bool) → Answered b r line out after e → r.at ≤ length out → e.at ≤ length after
  answered-place false p h = let l = answered-output false p in omega (arith, p.at)
  answered-place true p h = let l = answered-output true p in omega (arith, p.put.place)
