-- A JOURNAL IN BLOCKS gives what the whole gives, however it is cut.
use Rattle.std.proofs.Common.{◌≡◌, ℕ, suc, ◌+◌, ◌%◌, ◌^◌, ◌<◌, ◌≤◌, Bool, true, false, eqb, List, [], ◌∷◌, ◌++◌, length, take, sym, refl, ap, ◌∙◌, subst, append_assoc, append-nil, arith, length-append, length-take-le, take_all, take-take}
use lib.Seq.{take-append-le}
use Rattle.state_keys.specs.Limits.{limits}
use Rattle.lists.proofs.Cases.{bool_cases, never, lt-cases}
use Rattle.text_rules.specs.Lines.{Line, prepend_character, lines}
use Rattle.text_lines.specs.inner.First.{line_octets}
use Rattle.text_lines.proofs.LineLaws.{NoNewline, lines-ended}
use Rattle.text_lines.proofs.SplitLaws.{joined, Last, Proper, joined-lines, lines-proper}
use Rattle.state.specs.declared.State.{State}
use Rattle.gikev2.specs.declared.Member.{Member}
use Rattle.state.specs.State.{new_state}
use Rattle.journal_rules.specs.Line.{read_line}
use Rattle.journal_rules.specs.Replay.{Replays, at-end, cut_short, goes_on, stops, ReadBack}
use Rattle.journal_rules.specs.inner.Longest.{longest_digits}
use Rattle.journal_rules.proofs.ReadsBack.{rest-unread}
use Rattle.journaling.specs.Reader.{kept_of, Consumes, none_left, has-begun, takes-line, is-stopped, BeginsReading}
use Rattle.journaling.specs.Reader.{Feeds, had-stopped, reads_on, Gives, FedWith, not-fed, then-fed, ReadInBlocks, GivesBack}
use Rattle.journaling.specs.inner.LineTaking.{LineTakes}
use Rattle.journaling.specs.declared.Replayed.{Replayed}
use Rattle.journaling.specs.declared.reading.ReaderPlace.{ReaderPlace}
use Rattle.journaling.specs.declared.reading.JournalReader.{JournalReader}
use Rattle.journaling.proofs.TakeLaws.{takes-as, takes-long}
use Rattle.journaling.proofs.BlockLaws.{no-newline-append}

-- ---- what a reader keeps of a line
kept-twice : (t : List ℕ) → kept_of (kept_of t) ≡ kept_of t
kept-twice t = take-take (longest_digits + 1) (longest_digits + 1) t (omega arith)

module _ (t x : List ℕ) where
  short-kept : length t ≤ longest_digits + 1 → kept_of t ≡ t
  short-kept h = take_all (longest_digits + 1) t h

  kept_append : kept_of (kept_of t ++ x) ≡ kept_of (t ++ x)
  kept_append =
      lt-cases (longest_digits + 1) (length t)
      (λ h.
      let l = length-take-le (longest_digits + 1) t (omega arith) in
      take-append-le (longest_digits + 1) (kept_of t) x (omega arith) ∙ kept-twice t
      ∙ sym (take-append-le (longest_digits + 1) t x (omega arith)))
      (λ h. ap (λ (y : List ℕ). kept_of (y ++ x)) (short-kept h))

  -- a line comes to the same by what is kept of its beginning
  kept-takes : (s : State) (b : Bool) (next : State) → LineTakes s (read_line (kept_of t ++ x)) b next → LineTakes s (read_line
      (t ++ x)) b next
  kept-takes s b next p =
      lt-cases (longest_digits + 1) (length t)
      (λ h.
      let l = length-take-le (longest_digits + 1) t (omega arith) in
      let m = length-append (kept_of t) x in
      let n = length-append t x in
      takes-long s (kept_of t ++ x) (t ++ x) (omega arith) (omega arith) b next p)
      (λ h. takes-as s next b (ap (λ (y : List ℕ). read_line (y ++ x)) (short-kept h)) p)

-- ---- where a reader stands, by all octets that it was fed with
-- a reader over the state `s` that took `n` lines and was fed with `t`, the beginning of a line, and then with `b`
data Fed (s : State) (n : ℕ) (t b : List ℕ) (p : ReaderPlace) (line : List ℕ) : Type 0 where
  over : p.stopped ≡ true → (k : ℕ) → p.taken % 2 ^ 64 ≡ k % 2 ^ 64 →
      ((rest : List ℕ) → Replays limits s (n + 1) (lines (t ++ (b ++ rest))) p.member.state (k + 1)) → Fed s n t b p line
  going : p.stopped ≡ false → (k : ℕ) (text : List ℕ) → p.taken % 2 ^ 64 ≡ k % 2 ^ 64 → NoNewline text →
      take p.len line ≡ kept_of text →
      ((rest : List ℕ) (e : State) (j : ℕ) → Replays limits p.member.state (k + 1) (lines (text ++ rest)) e j →
      Replays limits s (n + 1) (lines (t ++ (b ++ rest))) e j) → Fed s n t b p line

-- what leads from one state to another leads on
module _ {s s' : State} {n n' : ℕ} {t t' b b' : List ℕ} {p : ReaderPlace} {line : List ℕ}
    (f : (rest : List ℕ) (e : State) (j : ℕ) → Replays limits s (n + 1) (lines (t ++ (b ++ rest))) e j →
    Replays limits s' (n' + 1) (lines (t' ++ (b' ++ rest))) e j) where
  fed-from : Fed s n t b p line → Fed s' n' t' b' p line
  fed-from (over st k tk g) = over st k tk (λ rest. f rest p.member.state (k + 1) (g rest))
  fed-from (going st k text tk w h g) = going st k text tk w h (λ rest e j x. f rest e j (g rest e j x))

-- ---- one block
module _ (s : State) (n : ℕ) (t : List ℕ) (w : NoNewline t) (l : Line) (ls : List Line) where
  whole-line : l.ended ≡ true → NoNewline l.text → (rest : List ℕ) →
      lines (t ++ (joined (l ∷ ls) ++ rest)) ≡ record { text = t ++ l.text; ended = true } ∷ lines (joined ls ++ rest)
  unfolding joined line_octets
  whole-line e v rest =
      let x : t ++ (((l.text ++ (10 ∷ [])) ++ joined ls) ++ rest) ≡ (t ++ l.text) ++ (10 ∷ (joined ls ++ rest)) = simp append_assoc in
      rw e (ap lines x ∙ lines-ended (t ++ l.text) (joined ls ++ rest) (no-newline-append t l.text w v))

  begun-line : l.ended ≡ false → ls ≡ [] → (rest : List ℕ) → (t ++ l.text) ++ rest ≡ t ++ (joined (l ∷ ls) ++ rest)
  unfolding joined line_octets
  begun-line e z rest =
      let x : (t ++ l.text) ++ rest ≡ t ++ (((l.text ++ []) ++ []) ++ rest) = simp (append_assoc, append-nil) in
      rw (e, z) x

consumed : {s : State} {m : ℕ} {held : List ℕ} {ls : List Line} {p : ReaderPlace} {line : List ℕ} → Consumes s m held ls p line →
    (n : ℕ) (t : List ℕ) → m % 2 ^ 64 ≡ n % 2 ^ 64 → held ≡ kept_of t → NoNewline t → Proper ls → Fed s n t (joined ls) p line
unfolding joined
consumed (none_left s m held p line a) n t tk h w v =
    going a.stops n t (a.lines-taken ∙ tk) w (a.begun ∙ ap kept_of h ∙ kept-twice t)
    (λ rest e j x. subst (λ (y : State). Replays limits y (n + 1) (lines (t ++ rest)) e j) a.member x)
consumed (has-begun s m held l ls p line e a) n t tk h w v =
    let z = (subst (λ (b : Bool). Last l.text b ls) e v.1).1 in
    going a.stops n (t ++ l.text) (a.lines-taken ∙ tk) (no-newline-append t l.text w v.0)
    (a.begun ∙ ap (λ (y : List ℕ). kept_of (y ++ l.text)) h ∙ kept_append t l.text)
    (λ rest d j x.
    subst (λ (y : List ℕ). Replays limits s (n + 1) (lines y) d j) (begun-line s n t w l ls e z rest)
    (subst (λ (y : State). Replays limits y (n + 1) (lines ((t ++ l.text) ++ rest)) d j) a.member x))
consumed (takes-line s m held l ls x next p line e r d c) n t tk h w v =
    let y = kept-takes t l.text s true next (takes-as s next true (ap (λ (u : List ℕ). read_line (u ++ l.text)) h) (x, r, d)) in
    fed-from (λ rest f j g.
    subst (λ (u : List Line). Replays limits s (n + 1) u f j) (sym (whole-line s n t w l ls e v.0 rest))
    (goes_on s (n + 1) (record { text = t ++ l.text; ended = true }) (lines (joined ls ++ rest)) y.0 next f j refl y.1 y.2 g))
    (consumed c (n + 1) [] (omega arith) refl tt v.2)
consumed (is-stopped s m held l ls p line e q a) n t tk h w v =
    let y = kept-takes t l.text s false s (takes-as s s false (ap (λ (u : List ℕ). read_line (u ++ l.text)) h) (q, refl)) in
    over a.stops n (a.lines-taken ∙ tk) (λ rest.
    subst (λ (u : State). Replays limits s (n + 1) (lines (t ++ (joined (l ∷ ls) ++ rest))) u (n + 1)) (sym a.member)
    (subst (λ (u : List Line). Replays limits s (n + 1) u s (n + 1)) (sym (whole-line s n t w l ls e v.0 rest))
    (stops s (n + 1) (record { text = t ++ l.text; ended = true }) (lines (joined ls ++ rest)) refl y.0)))

-- ---- any blocks
module _ (profile : Bool) where
  abbrev first : State
  first = new_state limits profile

  started : (r : JournalReader) → BeginsReading profile r → Fed first 0 [] [] r.place r.line
  started r b =
      let a = b.place in
      going a.stops 0 [] a.lines-taken tt a.begun
      (λ rest e j x. subst (λ (y : State). Replays limits y 1 (lines rest) e j) a.member x)

  joins : (journal block rest : List ℕ) → (journal ++ block) ++ rest ≡ journal ++ (block ++ rest)
  joins journal block rest = append_assoc journal block rest

  on : (journal block : List ℕ) (r e : JournalReader) → Feeds r block e → Fed first 0 [] journal r.place r.line →
      Fed first 0 [] (journal ++ block) e.place e.line
  on journal block r e (had-stopped st q) (over x k tk g) =
      subst (λ (y : JournalReader). Fed first 0 [] (journal ++ block) y.place y.line) (sym q)
      (over x k tk (λ rest.
      subst (λ (u : List ℕ). Replays limits first 1 (lines u) r.place.member.state (k + 1)) (sym (joins journal block rest))
      (g (block ++ rest))))
  on journal block r e (had-stopped st q) (going x k text tk w h g) = never r.place.stopped st x
  on journal block r e (reads_on st c) (over x k tk g) = never r.place.stopped x st
  on journal block r e (reads_on st c) (going x k text tk w h g) =
      fed-from (λ rest d j y.
      subst (λ (u : List ℕ). Replays limits first 1 (lines u) d j) (sym (joins journal block rest))
      (g (block ++ rest) d j
      (subst (λ (u : List ℕ). Replays limits r.place.member.state (k + 1) (lines (text ++ (u ++ rest))) d j) (joined-lines block) y)))
      (consumed c k text tk h w (lines-proper block))

  fed : {journal : List ℕ} {r : JournalReader} → FedWith profile journal r → Fed first 0 [] journal r.place r.line
  fed (not-fed r b) = started r b
  fed (then-fed journal block r e f d) = on journal block r e d (fed f)

  at_once : (journal : List ℕ) (r : JournalReader) (e : Replayed) → Gives r e → Fed first 0 [] journal r.place r.line →
      ReadInBlocks profile journal e
  unfolding lines
  at_once journal r e g (over st k tk f) =
      record {
        line = k + 1;
        reads =
            subst (λ (y : State). Replays limits first 1 (lines journal) y (k + 1)) (sym (ap (λ (m : Member). m.state) g.member))
            (subst (λ (u : List ℕ). Replays limits first 1 (lines u) r.place.member.state (k + 1)) (append-nil journal) (f []));
        is = g.line ∙ rw st (omega (arith, tk));
      }
  at_once journal r e g (going st k text tk w h f) =
      record {
        line = 0;
        reads =
            subst (λ (y : State). Replays limits first 1 (lines journal) y 0) (sym (ap (λ (m : Member). m.state) g.member))
            (subst (λ (u : List ℕ). Replays limits first 1 (lines u) r.place.member.state 0) (append-nil journal)
            (f [] r.place.member.state 0
            (subst (λ (u : List ℕ). Replays limits r.place.member.state (k + 1) (lines u) r.place.member.state 0) (sym
            (append-nil text))
            (rest-unread limits r.place.member.state (k + 1) text w))));
        is = g.line ∙ rw st;
      }

  -- HOWEVER THE JOURNAL IS CUT INTO BLOCKS, what they give is what the whole gives
  pub blocks-same : (journal : List ℕ) (r : JournalReader) (e : Replayed) → FedWith profile journal r → Gives r e →
      ReadInBlocks profile journal e
  blocks-same journal r e f g = at_once journal r e g (fed f)

-- ---- the line number of a journal that fits a machine's memory
number-within : {s : State} {n : ℕ} {ls : List Line} {e : State} {k : ℕ} → Replays limits s n ls e k → 0 < n → k < n + length ls
number-within (at-end s n) z = omega arith
number-within (cut_short s n l ls p) z = omega arith
number-within (goes_on s n l ls x next e k p q d r) z = let h = number-within r (omega arith) in omega arith
number-within (stops s n l ls p q) z = omega arith

more-lines : (c : ℕ) (ls : List Line) (k : ℕ) → length ls ≤ k → length (prepend_character c ls) ≤ suc k
more-lines c [] k h = omega arith
more-lines c (l ∷ ls) k h = omega arith

few-lines : (s : List ℕ) → length (lines s) ≤ length s
unfolding lines
few-lines [] = omega arith
few-lines (c ∷ s) =
    let h = few-lines s in
    bool_cases (eqb c 10) (λ e. rw e (omega arith)) (λ e. rw e (more-lines c (lines s) (length s) h))

-- what `replay` promises, from one block
pub replayed : (profile : Bool) (journal : List ℕ) (e : Replayed) → length journal < 2 ^ 64 → ReadInBlocks profile journal e →
    GivesBack profile journal e
replayed profile journal e h p =
    let n = number-within p.reads (omega arith) in
    let m = few-lines journal in
    let q = p.is in
    let z : p.line ≡ e.line = omega arith in
    subst (λ (k : ℕ). ReadBack limits profile journal e.member.state k) z p.reads
