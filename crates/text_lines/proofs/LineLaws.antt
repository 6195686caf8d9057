-- Laws of lines: the first one of what is left of a block, and what a call that takes it promises.
use Prim.Native.Nat.{ℕ, ◌+◌, ◌<◌, ◌≤◌, max}
use mathlib.Core.Path.{◌≡◌, refl, ap, sym, ◌∙◌}
use mathlib.Core.List.{List, [], ◌∷◌, ◌++◌}
use mathlib.Core.Bool.{true, false}
use native.Mathlib.Omega.{arith}
use lib.ListN.{length, drop, get_or, drop_of_length-le}
use borrow.Author.Tests.{eq-eqb, ne_eqb}
use Rattle.lists.proofs.Cases.{lt-cases}
use Rattle.text_rules.specs.Lines.{Line, prepend_character, lines}
use Rattle.text_lines.specs.inner.First.{line_octets, first_of}
use Rattle.text_lines.specs.inner.Room.{Put}
use Rattle.text_lines.specs.inner.Calls.{Absorbs}
use Rattle.text_rules.proofs.Cases.{at_place}
use Rattle.text_lines.proofs.RoomLaws.{Puts, puts-start, puts-more, puts-done}

pub lines-newline : (c : ℕ) (s : List ℕ) → c ≡ 10 → lines (c ∷ s) ≡ record { text = []; ended = true } ∷ lines s
unfolding lines
lines-newline c s e = rw (eq-eqb c 10 e)

pub lines_other : (c : ℕ) (s : List ℕ) → (c ≡ 10 → ⊥) → lines (c ∷ s) ≡ prepend_character c (lines s)
unfolding lines
lines_other c s e = rw (ne_eqb c 10 e)

-- lines of a text with a beginning in which no newline stands

abbrev pub NoNewline : List ℕ → Type 0
NoNewline [] = Unit {0}
NoNewline (c ∷ s) = (c ≡ 10 → ⊥) × NoNewline s

pub no-newline-snoc : (s : List ℕ) (c : ℕ) → NoNewline s → (c ≡ 10 → ⊥) → NoNewline (s ++ (c ∷ []))
no-newline-snoc [] c p n = (n, tt)
no-newline-snoc (a ∷ s) c p n = (p.0, no-newline-snoc s c p.1 n)

pub lines-ended : (s rest : List ℕ) → NoNewline s → lines (s ++ (10 ∷ rest)) ≡ record { text = s; ended = true } ∷ lines rest
lines-ended [] rest p = lines-newline 10 rest refl
lines-ended (c ∷ s) rest p = lines_other c (s ++ (10 ∷ rest)) p.0 ∙ ap (prepend_character c) (lines-ended s rest p.1)

-- a beginning that is not empty is a line that no newline ended
abbrev pub begun : List ℕ → List Line
begun [] = []
begun (c ∷ s) = record { text = c ∷ s; ended = false } ∷ []

before-begun : (c : ℕ) (s : List ℕ) → prepend_character c (begun s) ≡ begun (c ∷ s)
before-begun c [] = refl
before-begun c (a ∷ s) = refl

pub lines-begun : (s : List ℕ) → NoNewline s → lines s ≡ begun s
unfolding lines
lines-begun [] p = refl
lines-begun (c ∷ s) p = lines_other c s p.0 ∙ ap (prepend_character c) (lines-begun s p.1) ∙ before-begun c s

pub first-before : (c : ℕ) (ls : List Line) →
    first_of (prepend_character c ls) ≡ record { text = c ∷ (first_of ls).text; ended = (first_of ls).ended }
first-before c [] = refl
first-before c (l ∷ ls) = refl

-- the first line of what is left of a block
abbrev pub first : List ℕ → ℕ → Line
first block at = first_of (lines (drop at block))

module _ (block : List ℕ) (at : ℕ) where
  first-newline : at < length block → get_or block at 0 ≡ 10 → first block at ≡ record { text = []; ended = true }
  first-newline h e =
      ap (λ (l : List ℕ). first_of (lines l)) (at_place block at h)
      ∙ ap first_of (lines-newline (get_or block at 0) (drop (at + 1) block) e)

  first-other : at < length block → (get_or block at 0 ≡ 10 → ⊥)
      → first block at ≡ record { text = get_or block at 0 ∷ (first block (at + 1)).text; ended = (first block (at + 1)).ended }
  first-other h e =
      ap (λ (l : List ℕ). first_of (lines l)) (at_place block at h)
      ∙ ap first_of (lines_other (get_or block at 0) (drop (at + 1) block) e)
      ∙ first-before (get_or block at 0) (lines (drop (at + 1) block))

  first-none : length block ≤ at → first block at ≡ record { text = []; ended = false }
  unfolding lines
  first-none h = ap (λ (l : List ℕ). first_of (lines l)) (drop_of_length-le block h)

length-longer : (c : ℕ) (l : Line) → length (line_octets (record { text = c ∷ l.text; ended = l.ended })) ≡ 1 + length (line_octets l)
unfolding line_octets
length-longer c l = omega arith

-- a loop that takes a line: what stands in the lent line so far, and where the loop stands
pub record Takes (block : List ℕ) (from : ℕ) (line : List ℕ) (len : ℕ) (now : List ℕ) (at held : ℕ) : Type 0 where
  pub text : Puts line len (first block from).text now held (first block at).text
  pub ended : (first block at).ended ≡ (first block from).ended
  pub next : at + length (line_octets (first block at)) ≡ from + length (line_octets (first block from))

pub takes-start : (block : List ℕ) (from : ℕ) (line : List ℕ) (len : ℕ) → Takes block from line len line from len
takes-start block from line len = record { text = puts-start line len (first block from).text; ended = refl; next = refl }

module _ {block : List ℕ} {from : ℕ} {line : List ℕ} {len : ℕ} {now : List ℕ} {at held : ℕ}
    (p : Takes block from line len now at held) where
  pub takes-more : at < length block → (get_or block at 0 ≡ 10 → ⊥) → {now' : List ℕ} {held' : ℕ}
      → Put now held (get_or block at 0 ∷ []) now' held' → Takes block from line len now' (at + 1) held'
  takes-more h n q =
      let e = first-other block at h n in
      let s = ap (λ (l : Line). length (line_octets l)) e ∙ length-longer (get_or block at 0) (first block (at + 1)) in
      record {
        text = puts-more (get_or block at 0 ∷ []) p.text (ap (λ (l : Line). l.text) e) q;
        ended = sym (ap (λ (l : Line). l.ended) e) ∙ p.ended;
        next = omega (arith, p.next);
      }

  pub takes-newline : at < length block → get_or block at 0 ≡ 10
      → Absorbs block from line len now (record { next = at + 1; len = held; ended = true })
  unfolding line_octets
  takes-newline h n =
      let e = first-newline block at h n in
      let s = ap (λ (l : Line). length (line_octets l)) e in
      record {
        ended = sym (ap (λ (l : Line). l.ended) e) ∙ p.ended;
        next = omega (arith, p.next);
        kept = puts-done p.text (ap (λ (l : Line). l.text) e);
      }

  pub takes-end : length block ≤ at → Absorbs block from line len now (record { next = at; len = held; ended = false })
  unfolding line_octets
  takes-end h =
      let e = first-none block at h in
      let s = ap (λ (l : Line). length (line_octets l)) e in
      record {
        ended = sym (ap (λ (l : Line). l.ended) e) ∙ p.ended;
        next = omega (arith, p.next);
        kept = puts-done p.text (ap (λ (l : Line). l.text) e);
      }

  -- where the loop has come to at the block's end
  pub ends-at : length block ≤ at → (from ≤ length block → at ≤ length block) → (m : ℕ) → m ≡ max from (length block) → m ≡ at
  unfolding line_octets
  ends-at h b m e =
      lt-cases from (length block) (λ l. let k : at ≤ length block = b (omega arith) in omega (arith, e))
      (λ g.
      let x = ap (λ (l : Line). length (line_octets l)) (first-none block at h) in
      let y = ap (λ (l : Line). length (line_octets l)) (first-none block from g) in
      omega (arith, p.next, e))
