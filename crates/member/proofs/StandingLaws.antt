-- Where the program stands: after a line, after a part of a block, after a block, at the end.
use Rattle.std.proofs.Common.{◌≡◌, ℕ, ◌<◌, ◌≤◌, Bool, true, false, List, [], ◌++◌, length, take, sym, refl, ap, ◌∙◌, subst, append_assoc, arith}
use Rattle.octets.specs.Walk.{part}
use Rattle.text_rules.specs.Transcript.{Reply, Replies}
use Rattle.text_lines.specs.inner.Calls.{Absorbs, KeyLineGives}
use Rattle.text_lines.specs.inner.Reading.{DefaultKey, awaited, given, TextState, keyed, replied, append_text, LineEnds, Finishes, LineKept}
use Rattle.text_lines.specs.declared.Absorbed.{Absorbed}
use Rattle.text_lines.specs.declared.LineKey.{LineKey}
use Rattle.text_lines.proofs.CallLaws.{given-key, given-length, key-short}
use Rattle.text_lines.proofs.RoomLaws.{length-put, put-taken}
use Rattle.text_lines.proofs.ProgramLaws.{kept-none, absorbed-inside, absorbed-some, absorbed-held}
use Rattle.text_lines.proofs.ProgramLaws.{longer, longer-kept, reads_on, reads_end}
use Rattle.text_lines.proofs.ProgramLaws.{finishes-none, finishes-line}
use Rattle.gikev2.specs.Member.{new_member}
use Rattle.gikev2.specs.declared.Member.{Member}
use Rattle.member.specs.Program.{LineAnswers}
use Rattle.member.specs.inner.Reply.{key_in, FirstLine, LaterLine, Answered}
use Rattle.member.specs.inner.Standing.{BuffersReady, ReplyFits, KeyStands, Stands, Starts, Goes, Passes}
use Rattle.member.specs.declared.running.Running.{Running}
use Rattle.member.proofs.ReplyLaws.{answered-key, answered-begun, answered-place}

-- no character of the next line is held
kept-anew : (line : List ℕ) {len : ℕ} → len ≡ 0 → LineKept line len []
kept-anew line e = subst (λ (n : ℕ). LineKept line n []) (sym e) (kept-none line)

-- before the first read
pub starts : (key : LineKey) (m : Member) → m ≡ new_member → KeyLineGives [] key
    → Starts (record { member = m; key = key; keyed = false; len = 0; at = 0 })
starts key m e p =
    let l = given-length [] p in
    let k = key-short [] in
    record {
      key = omega arith;
      len = refl;
      at = refl;
      stands = λ line out. record { key = refl; member = sym e; kept = kept-none line; output = refl };
    }

pub ready-first : {line room out : List ℕ} {r : Running} → Starts r → 32776 < length line → 16384 ≤ length room →
    BuffersReady line room out r
ready-first p h k =
    record { key = p.key; line-long = h; begun = omega (arith, p.len); room-long = k; place = omega (arith, p.at) }

-- the end of a line, and the program behind it
record Ended (printed : List ℕ) (k : DefaultKey) (m : Member) (held output line out : List ℕ) (e : Running) : Type 0 where
  then : TextState Member
  ends : LineEnds LineAnswers k m held output then
  stands : Stands printed then line out e

module _ (printed : List ℕ) (m : Member) (r : Running) (is : m ≡ r.member) (held line out after : List ℕ)
    (output : List ℕ) (o : output ≡ printed ++ take r.at out) (space : ReplyFits out r) (place : r.at ≤ length out) (e : Running) where
  ended-first : FirstLine r held out after e → Ended printed awaited m held output line after e
  ended-first p =
      record {
        then = keyed m held output;
        ends = refl;
        stands =
            record {
              key = (p.keyed, given-key held p.key);
              member = is ∙ sym p.member;
              kept = kept-anew line p.len;
              output =
                  o ∙ ap (λ (s : List ℕ). printed ++ take r.at s) (sym p.nothing)
                  ∙ ap (λ (n : ℕ). printed ++ take n after) (sym p.at);
            };
      }

  ended-later : (key : List ℕ) → KeyStands (given key) r → LaterLine r held out after e
      → Ended printed (given key) m held output line after e
  ended-later key k p =
      let a : Reply Member = record { next = e.member; text = p.text } in
      let right = subst (λ (x : List ℕ). Replies LineAnswers x r.member held a) k.1 p.replies in
      record {
        then = replied key output a;
        ends = (a, subst (λ (x : Member). Replies LineAnswers key x held a) (sym is) right, refl);
        stands =
            record {
              key = (p.keyed ∙ k.0, ap key_in p.key ∙ k.1);
              member = refl;
              kept = kept-anew line p.len;
              output =
                  ap (λ (s : List ℕ). s ++ p.text) o ∙ append_assoc printed (take r.at out) p.text
                  ∙ ap (λ (s : List ℕ). printed ++ s) (sym (put-taken p.put (omega (arith, p.short))));
            };
      }

  ended : (k : DefaultKey) → KeyStands k r → Answered r.keyed r held out after e → Ended printed k m held output line after e
  ended awaited k p = ended-first (subst (λ (b : Bool). Answered b r held out after e) k p)
  ended (given key) k p = ended-later key k (subst (λ (b : Bool). Answered b r held out after e) k.0 p)

-- a line of a block, or its beginning
module _ {block : List ℕ} {from : ℕ} {line room out : List ℕ} (r : Running) (ready : BuffersReady line room out r) (h : from < length block)
    {line' : List ℕ} {a : Absorbed} (q : Absorbs block from line r.len line' a) where
  -- the line ended and was answered
  module _ (space : ReplyFits out r) (t : a.ended ≡ true) (room' out' : List ℕ) (e : Running) (l : length room' ≡ length room)
      (p : Answered r.keyed r (take a.len line') out out' e) where
    goes-ended : (printed : List ℕ) (x : TextState Member) → Stands printed x line out r
        → Goes printed x (part block from a.next) line' out' e
    goes-ended printed x s =
        let held = take a.len line' in
        let o = x.output in
        let d = ended printed x.member r s.member held line' out out' o s.output space ready.place e x.key s.key p in
        record {
          then = d.then;
          reads = reads_end LineAnswers q x d.then t ready.line-long s.kept d.ends;
          stands = d.stands;
        }

    pub passes-ended : Passes block from line out r line' room' out' (record { running = e; next = a.next })
    passes-ended =
        let held = take a.len line' in
        let n = length-put q.kept in
        record {
          ready =
              record {
                key = answered-key r held out out' e r.keyed p ready.key;
                line-long = omega (arith, ready.line-long);
                begun = omega (arith, answered-begun r held out out' e r.keyed p);
                room-long = omega (arith, ready.room-long);
                place = answered-place r held out out' e r.keyed p ready.place;
              };
          next = omega (arith, absorbed-some q h);
          inside = absorbed-inside q (omega arith);
          goes = goes-ended;
        }

  -- the line has begun, and goes on in the next block
  abbrev pub begun : Running
  begun = record { member = r.member; key = r.key; keyed = r.keyed; len = a.len; at = r.at }

  key-stands : (k : DefaultKey) → KeyStands k r → KeyStands k begun
  key-stands awaited p = p
  key-stands (given key) p = p

  goes_on : a.ended ≡ false → (printed : List ℕ) (x : TextState Member) → Stands printed x line out r
      → Goes printed x (part block from a.next) line' out begun
  unfolding append_text
  goes_on t printed x s =
      record {
        then = longer LineAnswers q x;
        reads = reads_on LineAnswers q x t;
        stands =
            record {
              key = key-stands x.key s.key;
              member = s.member;
              kept = longer-kept LineAnswers q x s.kept;
              output = s.output;
            };
      }

  pub passes_on : a.ended ≡ false → Passes block from line out r line' room out (record { running = begun; next = a.next })
  passes_on t =
      let n = length-put q.kept in
      record {
        ready =
            record {
              key = ready.key;
              line-long = omega (arith, ready.line-long);
              begun = absorbed-held q ready.begun;
              room-long = ready.room-long;
              place = ready.place;
            };
        next = omega (arith, absorbed-some q h);
        inside = absorbed-inside q (omega arith);
        goes = goes_on t;
      }

-- the end of the input
module _ {line out : List ℕ} (r : Running) (long : 32776 < length line) where
  pub finished-none : r.len ≡ 0 → (printed : List ℕ) (x : TextState Member) → Stands printed x line out r
      → Finishes LineAnswers x (printed ++ take r.at out)
  finished-none n printed x s =
      subst (λ (o : List ℕ). Finishes LineAnswers x o) s.output
      (finishes-none LineAnswers x long (subst (λ (l : ℕ). LineKept line l x.line) n s.kept))

  pub finished-line : 0 < r.len → ReplyFits out r → r.at ≤ length out → (out' : List ℕ) (e : Running)
      → Answered r.keyed r (take r.len line) out out' e
      → (printed : List ℕ) (x : TextState Member) → Stands printed x line out r → Finishes LineAnswers x (printed ++ take e.at out')
  finished-line n space place out' e p printed x s =
      let held = take r.len line in
      let d = ended printed x.member r s.member held line out out' x.output s.output space place e x.key s.key p in
      subst (λ (o : List ℕ). Finishes LineAnswers x o) d.stands.output
      (finishes-line LineAnswers x long d.then n s.kept d.ends)
