-- What a program that holds a line in lent room may conclude from the calls: it goes with the reading of the input octet by octet.
--
use Prim.Native.Nat.{ℕ, suc, ◌+◌, ◌-◌, ◌<◌, ◌≤◌, min}
use mathlib.Core.Path.{◌≡◌, refl, ap, sym, subst, ◌∙◌}
use mathlib.Core.List.{List, [], ◌∷◌, ◌++◌, append_assoc, append-nil}
use mathlib.Core.Bool.{Bool, true, false, cond}
use native.Mathlib.Omega.{arith}
use lib.ListN.{length, take, drop, set, length-append, length-take, length-drop, length-set}
use lib.Seq.{sets, drop-drop, take-add, take_all, take-suc-set, take-append-le, take-append_seam, length-take-le}
use Rattle.lists.proofs.Cases.{lt-cases}
use Rattle.text_rules.specs.Lines.{Line, lines}
use Rattle.text_lines.specs.inner.First.{line_octets, first_of}
use Rattle.text_rules.specs.Input.{Asked, bad, line_key, asked_by}
use Rattle.text_rules.specs.Transcript.{CallRelation, RepliesTo}
use Rattle.text_lines.specs.inner.Room.{Put}
use Rattle.text_lines.specs.inner.Calls.{Absorbs}
use Rattle.text_lines.specs.inner.Reading.{awaited, given, DefaultKey, TextState, append_text, LineEnds, Closes, Reads}
use Rattle.text_lines.specs.inner.Reading.{FinishesBy, Finishes, LineKept}
use Rattle.text_lines.specs.declared.Absorbed.{Absorbed}
use Rattle.text_rules.proofs.InputLaws.{taken-long, key-other, asked-other}
use Rattle.text_lines.proofs.LineLaws.{NoNewline}
use Rattle.text_lines.proofs.SplitLaws.{joined, Last, Proper, joined-lines, lines-proper}
use Rattle.text_lines.proofs.ReadingLaws.{reads-characters, reads-line}
use Rattle.text_lines.proofs.RoomLaws.{sets-out, length-put}

pub kept-none : (room : List ℕ) → LineKept room 0 []
kept-none room = record { inside = omega arith; same = sym (take_all (length room) [] (omega arith)) }

module _ {room : List ℕ} {len : ℕ} {text : List ℕ} (p : LineKept room len text) where
  kept-length : len ≡ min (length room) (length text)
  kept-length = sym (length-take-le len room p.inside) ∙ ap length p.same ∙ length-take (length room) text

  -- with room left the whole text is there
  pub kept_whole : len < length room → take len room ≡ text
  kept_whole h = p.same ∙ take_all (length room) text (omega (arith, kept-length))

  kept_next : (c : ℕ) → len < length room → LineKept (set room len c) (suc len) (text ++ (c ∷ []))
  kept_next c h =
      let l = length-set room len c in
      let t = length-append text (c ∷ []) in
      let k = kept-length in
      record {
        inside = omega arith;
        same =
            take-suc-set room len c h ∙ ap (λ (x : List ℕ). x ++ (c ∷ [])) (kept_whole h)
            ∙ sym (take_all (length (set room len c)) (text ++ (c ∷ [])) (omega arith));
      }

  kept_full : length room ≤ len → (s : List ℕ) → LineKept room len (text ++ s)
  kept_full h s =
      let k = kept-length in
      record { inside = p.inside; same = p.same ∙ sym (take-append-le (length room) text s (omega arith)) }

kept_sets : (s room : List ℕ) (len : ℕ) (text : List ℕ) → LineKept room len text
    → LineKept (sets room len s) (len + min (length s) (length room - len)) (text ++ s)
kept_sets [] room len text p =
    let e : len + min 0 (length room - len) ≡ len = omega arith in
    rw (e, append-nil text) p
kept_sets (c ∷ s) room len text p =
    let more = kept_sets s (set room len c) (suc len) (text ++ (c ∷ [])) in
    lt-cases len (length room)
    (λ h.
    let l = length-set room len c in
    let e : suc len + min (length s) (length (set room len c) - suc len) ≡ len + min (suc (length s)) (length room - len) = omega arith in
    subst (λ (n : ℕ). LineKept (sets (set room len c) (suc len) s) n (text ++ (c ∷ s))) e
    (subst (λ (x : List ℕ). LineKept (sets (set room len c) (suc len) s) (suc len + min (length s) (length (set room len c) - suc len)) x)
    (append_assoc text (c ∷ []) s) (more (kept_next p c h))))
    (λ h.
    let e : len ≡ len + min (suc (length s)) (length room - len) = omega arith in
    subst (λ (n : ℕ). LineKept (sets room len (c ∷ s)) n (text ++ (c ∷ s))) e
    (subst (λ (x : List ℕ). LineKept x len (text ++ (c ∷ s))) (sym (sets-out (c ∷ s) room len h)) (kept_full p h (c ∷ s))))

-- characters put into a lent line go on with the line
pub kept_put : {room : List ℕ} {len : ℕ} {text s after : List ℕ} {next : ℕ}
    → LineKept room len text → Put room len s after next → LineKept after next (text ++ s)
kept_put {room} {len} {text} {s} {after} p q =
    subst (λ (n : ℕ). LineKept after n (text ++ s)) (sym q.place)
    (subst (λ (x : List ℕ). LineKept x (len + min (length s) (length room - len)) (text ++ s)) (sym q.octets)
    (kept_sets s room len text p))

-- nothing is held exactly when no character of the line was read
pub kept-empty : {room text : List ℕ} → 0 < length room → LineKept room 0 text → text ≡ []
kept-empty {room} {text} h p = sym (kept_whole p h)

pub kept-some : {room : List ℕ} {len : ℕ} {text : List ℕ} → 0 < len → LineKept room len text → text ≡ [] → ⊥
kept-some {room} {len} {text} h p e = let k = kept-length p in let z = ap length e in omega arith

-- a line that is too long for the room is too long for a key and for a frame
cut : (room : List ℕ) (text : List ℕ) → length room < length text → length (take (length room) text) ≡ length room
cut room text h = length-take-le (length room) text (omega arith)

module _ {room : List ℕ} {len : ℕ} {text : List ℕ} (p : LineKept room len text) where
  -- what is the same of all texts of more than `most` characters is told by the characters that are held
  kept_same : {A : Type 0} (f : List ℕ → A) (x : A) (most : ℕ) → ((l : List ℕ) → most < length l → f l ≡ x) → most < length room
      → f (take len room) ≡ f text
  kept_same f x most long h =
      lt-cases (length room) (length text)
      (λ l. let c = cut room text l in ap f p.same ∙ long (take (length room) text) (omega arith) ∙ sym (long text (omega arith)))
      (λ l. ap f (p.same ∙ take_all (length room) text l))

  pub key-kept : 64 < length room → line_key (take len room) ≡ line_key text
  key-kept h = kept_same line_key [] 64 (λ l m. key-other l (taken-long 0 64 l m)) h

  pub asked-kept : 32776 < length room → asked_by (take len room) ≡ asked_by text
  asked-kept h = kept_same asked_by bad 32776 (λ l m. asked-other l (taken-long 8 32776 l m)) h

-- the line that has begun ends: what the program does with the octets that it holds is what the whole line asks
module _ {S : Type 0} (step : CallRelation S) where
  pub ends-kept : (k : DefaultKey) (member : S) (output : List ℕ) (e : TextState S) {room : List ℕ} {len : ℕ} {text : List ℕ}
      → 32776 < length room → LineKept room len text → LineEnds step k member (take len room) output e →
      LineEnds step k member text output e
  ends-kept awaited member output e h p q =
      q ∙ ap (λ (x : List ℕ). record { key = given x; member = member; line = []; output = output }) (key-kept p (omega arith))
  ends-kept (given key) member output e h p q =
      (q.0, subst (λ (x : Asked). RepliesTo step key member x q.0) (asked-kept p h) q.1, q.2)

-- the first line of some octets: no newline stands in it, and the octets begin with it

first-proper : (ls : List Line) → Proper ls → NoNewline (first_of ls).text
first-proper [] p = tt
first-proper (l ∷ ls) p = p.0

first-written : (ls : List Line) (s : List ℕ) → joined ls ≡ s → take (length (line_octets (first_of ls))) s ≡ line_octets (first_of ls)
unfolding joined line_octets
first-written [] s e = refl
first-written (l ∷ ls) s e =
    ap (take (length (line_octets l))) (sym e) ∙ take-append_seam (line_octets l) (joined ls)

first_some : (ls : List Line) (s : List ℕ) → joined ls ≡ s → Proper ls → 0 < length s → 0 < length (line_octets (first_of ls))
unfolding joined line_octets
first_some [] s e p h = let z = ap length e in absurd (omega arith)
first_some (l ∷ ls) s e p h = some l.text l.ended p.1
  where
    some : (text : List ℕ) (b : Bool) → Last text b ls → 0 < length (text ++ cond b (10 ∷ []) [])
    some text true q = let l = length-append text (10 ∷ []) in omega arith
    some [] false q = absurd (q.0 refl)
    some (c ∷ text) false q = omega arith

-- parts of a block, one behind the other
pub part_join : (s : List ℕ) (a b c : ℕ) → a ≤ b → b ≤ c
    → take (b - a) (drop a s) ++ take (c - b) (drop b s) ≡ take (c - a) (drop a s)
part_join s a b c h k =
    let e : a + (b - a) ≡ b = omega arith in
    let n : (b - a) + (c - b) ≡ c - a = omega arith in
    ap (λ (x : List ℕ). take (b - a) (drop a s) ++ take (c - b) x) (ap (λ (i : ℕ). drop i s) (sym e) ∙ sym (drop-drop (b - a) a s))
    ∙ sym (take-add (b - a) (c - b) (drop a s)) ∙ ap (λ (i : ℕ). take i (drop a s)) n

-- what a call of `absorb` took is a part of the block, and not empty
module _ {block : List ℕ} {from : ℕ} {line : List ℕ} {len : ℕ} {after : List ℕ} {a : Absorbed}
    (q : Absorbs block from line len after a) where
  pub absorbed-inside : from ≤ length block → a.next ≤ length block
  absorbed-inside h =
      let s = drop from block in
      let l = length-drop from block in
      let n = length (line_octets (first_of (lines s))) in
      let t = ap length (first-written (lines s) s (joined-lines s)) in
      omega (arith, q.next, length-take n s)

  pub absorbed-held : len ≤ length line → a.len ≤ length after
  absorbed-held h = let l = length-put q.kept in omega (arith, q.kept.place)

  pub absorbed-some : from < length block → from < a.next
  absorbed-some h =
      let s = drop from block in
      let l = length-drop from block in
      omega (arith, q.next, first_some (lines s) s (joined-lines s) (lines-proper s) (omega arith))

-- what a call of `absorb` did: the line that has begun is longer
module _ {S : Type 0} (step : CallRelation S) {block : List ℕ} {from : ℕ} {line : List ℕ} {len : ℕ} {after : List ℕ} {a : Absorbed}
    (q : Absorbs block from line len after a) (r : TextState S) where
  abbrev first : Line
  first = first_of (lines (drop from block))

  abbrev pub longer : TextState S
  longer = append_text first.text r

  pub longer-kept : LineKept line len r.line → LineKept after a.len longer.line
  unfolding append_text
  longer-kept p = kept_put p q.kept

  -- what was taken of the block
  taken_is : (b : Bool) → a.ended ≡ b → take (a.next - from) (drop from block) ≡ first.text ++ cond b (10 ∷ []) []
  unfolding line_octets
  taken_is b e =
      let n : a.next - from ≡ length (line_octets first) = omega (arith, q.next) in
      ap (λ (k : ℕ). take k (drop from block)) n
      ∙ first-written (lines (drop from block)) (drop from block) (joined-lines (drop from block))
      ∙ ap (λ (x : Bool). first.text ++ cond x (10 ∷ []) []) (sym q.ended ∙ e)

  -- none was a newline: the line goes on in the next block
  pub reads_on : a.ended ≡ false → Reads step r (take (a.next - from) (drop from block)) longer
  reads_on e =
      subst (λ (s : List ℕ). Reads step r s longer) (sym (taken_is false e ∙ append-nil first.text))
      (reads-characters step first.text r (first-proper (lines (drop from block)) (lines-proper (drop from block))))

  -- the last was: the line that is held is answered, and the next one begins
  pub reads_end : (e : TextState S) → a.ended ≡ true → 32776 < length line → LineKept line len r.line
      → LineEnds step r.key r.member (take a.len after) r.output e
      → Reads step r (take (a.next - from) (drop from block)) e
  unfolding append_text
  reads_end e t h p c =
      let l = length-put q.kept in
      subst (λ (s : List ℕ). Reads step r s e) (sym (taken_is true t))
      (reads-line step first.text r e (first-proper (lines (drop from block)) (lines-proper (drop from block)))
      (ends-kept step r.key r.member r.output e (omega arith) (longer-kept p) c))

-- at the input's end a line that has begun is answered
module _ {S : Type 0} (step : CallRelation S) (r : TextState S) {room : List ℕ} (h : 32776 < length room) where
  pub finishes-none : LineKept room 0 r.line → Finishes step r r.output
  finishes-none p = subst (λ (l : List ℕ). FinishesBy step l r r.output) (sym (kept-empty (omega arith) p)) refl

  pub finishes-line : (e : TextState S) {len : ℕ} → 0 < len → LineKept room len r.line
      → LineEnds step r.key r.member (take len room) r.output e → Finishes step r e.output
  finishes-line e {len} l p c =
      some r.line (kept-some l p) (e, ends-kept step r.key r.member r.output e h p c, refl)
    where
      some : (line : List ℕ) → (line ≡ [] → ⊥) → (d : TextState S) × Closes step r d × (e.output ≡ d.output)
          → FinishesBy step line r e.output
      some [] n d = absurd (n refl)
      some (c ∷ line) n d = d
