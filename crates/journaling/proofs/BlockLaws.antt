-- A reader over the lines of one block.
use Rattle.std.proofs.Common.{◌≡◌, ℕ, ◌+◌, ◌%◌, ◌^◌, ◌<◌, ◌≤◌, min, Bool, true, false, not, List, [], ◌∷◌, ◌++◌, length, take, drop, sym, refl, ap, ◌∙◌, subst, arith, length-drop, drop_of_length-le, length-take-le, take_all, take-take, drop-drop}
use lib.Seq.{drop-append_seam, take-nil}
use Rattle.lists.proofs.Cases.{lt-cases}
use Rattle.text_rules.specs.Lines.{Line, lines}
use Rattle.text_lines.specs.inner.First.{line_octets, first_of}
use Rattle.text_lines.specs.inner.Reading.{LineKept}
use Rattle.text_lines.specs.inner.Calls.{Absorbs}
use Rattle.text_lines.specs.declared.Absorbed.{Absorbed}
use Rattle.text_lines.proofs.RoomLaws.{length-put}
use Rattle.text_lines.proofs.LineLaws.{NoNewline}
use Rattle.text_lines.proofs.SplitLaws.{joined, Last, Proper, joined-lines, lines-proper, lines-joined}
use Rattle.text_lines.proofs.ProgramLaws.{kept-none, kept_put, absorbed-inside, absorbed-some}
use Rattle.state.specs.declared.State.{State}
use Rattle.gikev2.specs.Member.{member_with}
use Rattle.gikev2.specs.declared.Member.{Member}
use Rattle.journal_rules.specs.Line.{read_line}
use Rattle.journal_rules.specs.inner.Longest.{longest_digits}
use Rattle.journaling.specs.Reader.{Consumes, none_left, has-begun, takes-line, is-stopped, BeginsReading, Gives}
use Rattle.journaling.specs.inner.LineTaking.{LineTakes}
use Rattle.journaling.specs.inner.Advancing.{Ready, Far, going, over, EndedBy, LineEnded}
use Rattle.journaling.specs.declared.reading.ReaderPlace.{ReaderPlace}
use Rattle.journaling.specs.declared.reading.Advanced.{Advanced}
use Rattle.journaling.specs.declared.reading.JournalReader.{JournalReader}
use Rattle.journaling.proofs.TakeLaws.{takes-kept}

-- ---- the first line of some octets and the lines behind it
abbrev behind_first : List Line → List Line
behind_first [] = []
behind_first (l ∷ ls) = ls

first_then : (ls : List Line) (s : List ℕ) → joined ls ≡ s → 0 < length s → ls ≡ first_of ls ∷ behind_first ls
unfolding joined
first_then [] s e h = let z = ap length e in absurd (omega arith)
first_then (l ∷ ls) s e h = refl

behind-lines : (ls : List Line) (s : List ℕ) → joined ls ≡ s → Proper ls →
    lines (drop (length (line_octets (first_of ls))) s) ≡ behind_first ls
unfolding joined lines line_octets
behind-lines [] s e p = ap (λ (x : List ℕ). lines (drop 0 x)) (sym e)
behind-lines (l ∷ ls) s e p =
    ap (λ (x : List ℕ). lines (drop (length (line_octets l)) x)) (sym e)
    ∙ ap lines (drop-append_seam (line_octets l) (joined ls)) ∙ lines-joined ls p.2

last_none : (ls : List Line) → Proper ls → (first_of ls).ended ≡ false → behind_first ls ≡ []
last_none [] p e = refl
last_none (l ∷ ls) p e = (subst (λ (b : Bool). Last l.text b ls) e p.1).1

-- ---- a line that has ended
pub ended-taken : (p : ReaderPlace) (text : List ℕ) (next end : ℕ) (m : Member) (n : ℕ) →
    LineTakes p.member.state (read_line text) true m.state → n ≡ (p.taken + 1) % 2 ^ 64 →
    LineEnded p text next end (record { place = record { member = m; taken = n; stopped = false; len = 0 }; next = next })
ended-taken p text next end m n t k =
    record { taken = true; takes = t; stops = refl; len = refl; by = (omega arith, refl) }

pub ended-stopped : (p : ReaderPlace) (text : List ℕ) (next end : ℕ) → LineTakes p.member.state (read_line text) false p.member.state →
    LineEnded p text next end (record { place = record { member = p.member; taken = p.taken; stopped = true; len = 0 }; next = end })
ended-stopped p text next end t =
    record { taken = false; takes = t; stops = refl; len = refl; by = (refl, refl) }

-- ---- a part of a block was absorbed
module _ {block : List ℕ} {from : ℕ} {line : List ℕ} (p : ReaderPlace) (h : from < length block) {after : List ℕ} {a : Absorbed}
    (q : Absorbs block from line p.len after a) (keeps : length line ≡ longest_digits + 1) where
  abbrev first : Line
  first = first_of (lines (drop from block))

  rest-is : lines (drop a.next block) ≡ behind_first (lines (drop from block))
  rest-is =
      let s = drop from block in
      ap (λ (n : ℕ). lines (drop n block)) q.next
      ∙ ap lines (sym (drop-drop (length (line_octets first)) from block))
      ∙ behind-lines (lines s) s (joined-lines s) (lines-proper s)

  split : lines (drop from block) ≡ first ∷ lines (drop a.next block)
  split =
      let s = drop from block in
      let l = length-drop from block in
      first_then (lines s) s (joined-lines s) (omega arith) ∙ ap (λ (ls : List Line). first ∷ ls) (sym rest-is)

  kept_more : {held : List ℕ} → LineKept line p.len held → LineKept after a.len (held ++ first.text)
  kept_more k = kept_put k q.kept

  -- no newline stood in it: the line goes on
  abbrev pub longer : ReaderPlace
  longer = record { member = p.member; taken = p.taken; stopped = p.stopped; len = a.len }

  module _ (e : a.ended ≡ false) where
    none-behind : lines (drop a.next block) ≡ []
    none-behind =
        let s = drop from block in
        rest-is ∙ last_none (lines s) (lines-proper s) (sym q.ended ∙ e)

    begun-there : (s : State) (m : ℕ) (held : List ℕ) (r : ReaderPlace) (l : List ℕ) → Consumes s m (held ++ first.text) [] r l →
        Consumes s m held (lines (drop from block)) r l
    begun-there s m held r l (none_left _ _ _ _ _ w) =
        subst (λ (ls : List Line). Consumes s m held ls r l) (sym split)
        (has-begun s m held first (lines (drop a.next block)) r l (sym q.ended ∙ e) w)

    pub far-begun : (s : State) (n : ℕ) (text : List ℕ) → Far s n text block p line from → Far s n text block longer after a.next
    far-begun s n text (going st at m held tk kept f) =
        going st (absorbed-inside q (omega arith)) m (held ++ first.text) tk (kept_more kept)
        (λ r l c. f r l (begun-there p.member.state m held r l
        (subst (λ (ls : List Line). Consumes p.member.state m (held ++ first.text) ls r l) none-behind c)))
    far-begun s n text (over at c) = absurd (omega arith)

  -- a newline ended the line
  module _ (e : a.ended ≡ true) (x : Advanced) (d : LineEnded p (take a.len after) a.next (length block) x) where
    by-taken : (s : State) (n : ℕ) (text : List ℕ) (b : Bool) → LineTakes p.member.state (read_line (take a.len after)) b
        x.place.member.state →
        x.place.stopped ≡ not b → EndedBy b p a.next (length block) x → p.stopped ≡ false → (m : ℕ) (held : List ℕ) →
        p.taken % 2 ^ 64 ≡ m % 2 ^ 64 → LineKept line p.len held →
        ((r : ReaderPlace) (l : List ℕ) → Consumes p.member.state m held (lines (drop from block)) r l → Consumes s n text
        (lines block) r l) →
        Far s n text block x.place after x.next
    by-taken s n text true t z y st m held tk kept f =
        let i = absorbed-inside q (omega arith) in
        let w = takes-kept (kept_more kept) (length-put q.kept ∙ keeps) p.member.state true x.place.member.state t in
        going z (omega (arith, y.1)) (m + 1) [] (omega (arith, y.0))
        (subst (λ (k : ℕ). LineKept after k []) (sym d.len) (kept-none after))
        (λ r l c. f r l (subst (λ (ls : List Line). Consumes p.member.state m held ls r l) (sym split)
        (takes-line p.member.state m held first (lines (drop a.next block)) w.0 x.place.member.state r l
        (sym q.ended ∙ e) w.1 w.2
        (subst (λ (k : ℕ). Consumes x.place.member.state (m + 1) [] (lines (drop k block)) r l) y.1 c))))
    by-taken s n text false t z y st m held tk kept f =
        let w = takes-kept (kept_more kept) (length-put q.kept ∙ keeps) p.member.state false x.place.member.state t in
        over y.1 (f x.place after (subst (λ (ls : List Line). Consumes p.member.state m held ls x.place after) (sym split)
        (is-stopped p.member.state m held first (lines (drop a.next block)) x.place after (sym q.ended ∙ e) w.0
        (record {
          member = w.1;
          lines-taken = ap (λ (k : ℕ). k % 2 ^ 64) y.0 ∙ tk;
          stops = z;
          begun = ap (λ (k : ℕ). take k after) d.len ∙ sym (take-nil (longest_digits + 1));
        }))))

    pub far-ended : (s : State) (n : ℕ) (text : List ℕ) → Far s n text block p line from → Far s n text block x.place after x.next
    far-ended s n text (going st at m held tk kept f) = by-taken s n text d.taken d.takes d.stops d.by st m held tk kept f
    far-ended s n text (over at c) = absurd (omega arith)

    next-by : (b : Bool) → EndedBy b p a.next (length block) x → from < x.next
    next-by true y = let i = absorbed-some q h in omega (arith, y.1)
    next-by false y = omega (arith, y.1)

    pub ended-further : from < x.next
    ended-further = next-by d.taken d.by

-- ---- a whole block
module _ {block : List ℕ} (s : State) (n : ℕ) (text : List ℕ) where
  pub far-start : (p : ReaderPlace) (line : List ℕ) → p.stopped ≡ false → s ≡ p.member.state → n ≡ p.taken → LineKept line
      p.len text →
      Far s n text block p line 0
  far-start p line st e k kept =
      going st (omega arith) n text (ap (λ (x : ℕ). x % 2 ^ 64) (sym k)) kept
      (λ r l c. subst (λ (x : State). Consumes x n text (lines block) r l) (sym e) c)

  pub far-end : (p : ReaderPlace) (line : List ℕ) (at : ℕ) → length line ≡ longest_digits + 1 → length block ≤ at →
      Far s n text block p line at → Consumes s n text (lines block) p line
  unfolding lines
  far-end p line at keeps h (going st b m held tk kept f) =
      f p line (subst (λ (x : List ℕ). Consumes p.member.state m held (lines x) p line) (sym (drop_of_length-le block h))
      (none_left p.member.state m held p line (record {
        member = refl;
        lines-taken = tk;
        stops = st;
        begun = kept.same ∙ ap (λ (k : ℕ). take k held) keeps;
      })))
  far-end p line at keeps h (over b c) = c

-- what a reader holds at the start of a block, whatever length it names
pub kept-within : (line : List ℕ) (len : ℕ) → length line ≡ longest_digits + 1 → LineKept line (min len 33287) (take len line)
kept-within line len e =
    lt-cases len 33287
    (λ h.
    let z : min len 33287 ≡ len = omega arith in
    let k = length-take-le len line (omega arith) in
    rw z (record { inside = omega arith; same = sym (take_all (length line) (take len line) (omega arith)) }))
    (λ h.
    let z : min len 33287 ≡ 33287 = omega arith in
    rw z (record {
      inside = omega arith;
      same = ap (λ (k : ℕ). take k line) (sym e) ∙ sym (take-take (length line) len line
          (omega arith));
    }))

-- ---- the loop over a block
pub record Within (block line₀ room₀ : List ℕ) (p : ReaderPlace) (line room : List ℕ) (x : ReaderPlace) (at : ℕ) : Type 0 where
  pub ready : Ready line room x
  pub line_same : length line ≡ length line₀
  pub room-same : length room ≡ length room₀
  pub far : (s : State) (n : ℕ) (text : List ℕ) → Far s n text block p line₀ 0 → Far s n text block x line at

pub within-start : {block line room : List ℕ} {p : ReaderPlace} → Ready line room p → Within block line room p line room p 0
within-start r = record { ready = r; line_same = refl; room-same = refl; far = λ s n text f. f }

pub within_more : {block line₀ room₀ : List ℕ} {p : ReaderPlace} {line room : List ℕ} {x : ReaderPlace} {at : ℕ} {line' room' : List ℕ}
    {y : ReaderPlace} {next : ℕ} → Within block line₀ room₀ p line room x at → Ready line' room' y → length line' ≡ length line →
    length room' ≡ length room →
    ((s : State) (n : ℕ) (text : List ℕ) → Far s n text block x line at → Far s n text block y line' next) →
    Within block line₀ room₀ p line' room' y next
within_more w r k m f =
    record {
      ready = r;
      line_same = k ∙ w.line_same;
      room-same = m ∙ w.room-same;
      far = λ s n text g. f s n text (w.far s n text g);
    }

-- ---- before the first block, and at the end
pub begins : {line : List ℕ} (profile : Bool) (m : Member) → m ≡ member_with profile →
    BeginsReading profile (record { place = record { member = m; taken = 0; stopped = false; len = 0 }; line = line })
unfolding member_with
begins profile m e =
    record {
      place =
          record {
            member = ap (λ (x : Member). x.state) e;
            lines-taken = refl;
            stops = refl;
            begun = sym (take-nil (longest_digits + 1));
          };
    }

module _ (r : JournalReader) where
  pub gives-stopped : (n : ℕ) → r.place.stopped ≡ true → n ≡ (r.place.taken + 1) % 2 ^ 64 →
      Gives r (record { member = r.place.member; line = n })
  gives-stopped n e k = record { member = refl; line = rw e k }

  pub gives_whole : r.place.stopped ≡ false → Gives r (record { member = r.place.member; line = 0 })
  gives_whole e = record { member = refl; line = rw e }

-- ---- lines without a newline
pub no-newline-append : (s t : List ℕ) → NoNewline s → NoNewline t → NoNewline (s ++ t)
no-newline-append [] t p q = q
no-newline-append (c ∷ s) t p q = (p.0, no-newline-append s t p.1 q)
