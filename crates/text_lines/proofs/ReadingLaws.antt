-- The whole input read octet by octet, in any blocks, gives the transcript.
use Prim.Native.Nat.{ℕ}
use mathlib.Core.Path.{◌≡◌, refl, ap, sym, subst, ◌∙◌}
use mathlib.Core.List.{List, [], ◌∷◌, ◌++◌, append_assoc, append-nil, flatten}
use mathlib.Core.Bool.{Bool, true, false}
use lib.Dec.{eqb}
use borrow.Author.Tests.{eq-eqb, ne_eqb}
use Rattle.text_rules.specs.Lines.{Line, lines}
use Rattle.text_rules.specs.Transcript.{CallRelation, Later, OutputOf, Transcript}
use Rattle.text_lines.specs.inner.Reading.{DefaultKey, awaited, given, TextState, text_start, append_text}
use Rattle.text_lines.specs.inner.Reading.{LineEnds, Closes, FeedsBy, Reads, FinishesBy, Finishes}
use Rattle.text_rules.proofs.Cases.{by-same}
use Rattle.text_lines.proofs.LineLaws.{NoNewline, no-newline-snoc, lines-ended, lines-begun}

module _ {S : Type 0} where
  extend-none : (r : TextState S) → append_text [] r ≡ r
  unfolding append_text
  extend-none r = λ i. record { key = r.key; member = r.member; line = append-nil r.line i; output = r.output }

  extend-more : (s t : List ℕ) (r : TextState S) → append_text t (append_text s r) ≡ append_text (s ++ t) r
  unfolding append_text
  extend-more s t r = λ i. record { key = r.key; member = r.member; line = append_assoc r.line s t i; output = r.output }

module _ {S : Type 0} (step : CallRelation S) where
  -- one octet

  module _ (r : TextState S) (c : ℕ) (e : TextState S) where
    feed-newline : c ≡ 10 → Closes step r e → FeedsBy step (eqb c 10) r c e
    feed-newline n p = subst (λ (b : Bool). FeedsBy step b r c e) (sym (eq-eqb c 10 n)) p

    fed-newline : c ≡ 10 → FeedsBy step (eqb c 10) r c e → Closes step r e
    fed-newline n p = subst (λ (b : Bool). FeedsBy step b r c e) (eq-eqb c 10 n) p

    feed-other : (c ≡ 10 → ⊥) → e ≡ append_text (c ∷ []) r → FeedsBy step (eqb c 10) r c e
    feed-other n p = subst (λ (b : Bool). FeedsBy step b r c e) (sym (ne_eqb c 10 n)) p

    fed-other : (c ≡ 10 → ⊥) → FeedsBy step (eqb c 10) r c e → e ≡ append_text (c ∷ []) r
    fed-other n p = subst (λ (b : Bool). FeedsBy step b r c e) (ne_eqb c 10 n) p

  -- octets of one block behind the other

  pub reads-append : (s t : List ℕ) (r m e : TextState S) → Reads step r s m → Reads step m t e → Reads step r (s ++ t) e
  reads-append [] t r m e p q = subst (λ (x : TextState S). Reads step x t e) p q
  reads-append (c ∷ s) t r m e p q = (p.0, p.1, reads-append s t p.0 m e p.2 q)

  -- characters of one line
  pub reads-characters : (s : List ℕ) (r : TextState S) → NoNewline s → Reads step r s (append_text s r)
  reads-characters [] r p = extend-none r
  reads-characters (c ∷ s) r p =
      let m = append_text (c ∷ []) r in
      let q = reads-characters s m p.1 in
      (m, feed-other r c m p.0 refl, subst (λ (x : TextState S). Reads step m s x) (extend-more (c ∷ []) s r) q)

  -- characters of a line, and the newline that ends it
  pub reads-line : (s : List ℕ) (r e : TextState S) → NoNewline s → Closes step (append_text s r) e → Reads step r (s ++ (10 ∷ [])) e
  reads-line s r e p q =
      let m = append_text s r in
      reads-append s (10 ∷ []) r m e (reads-characters s r p) (e, feed-newline m 10 e refl q, refl)

  -- the output for lines, the first of which is the key's where that is awaited

  abbrev FromBy : DefaultKey → S → List Line → List ℕ → Type 0
  FromBy awaited member ls output = OutputOf step member ls output
  FromBy (given key) member ls output = Later step key member ls output

  -- the same behind what was printed before
  record From (k : DefaultKey) (member : S) (ls : List Line) (before output : List ℕ) : Type 0 where
    rest : List ℕ
    by : FromBy k member ls rest
    all : output ≡ before ++ rest

  from-none : (k : DefaultKey) (member : S) (before output : List ℕ) → output ≡ before → From k member [] before output
  from-none awaited member before output e = record { rest = []; by = refl; all = e ∙ sym (append-nil before) }
  from-none (given key) member before output e = record { rest = []; by = refl; all = e ∙ sym (append-nil before) }

  -- one line, then the others
  from-line : (k : DefaultKey) (member : S) (l : Line) (before : List ℕ) (ls : List Line) (e : TextState S) (output : List ℕ)
      → LineEnds step k member l.text before e → From e.key e.member ls e.output output → From k member (l ∷ ls) before output
  from-line awaited member l before ls e output p q =
      let f : From (given _) member ls before output = subst (λ (x : TextState S). From x.key x.member ls x.output output) p q in
      record { rest = f.rest; by = f.by; all = f.all }
  from-line (given key) member l before ls e output p q =
      let a = p.0 in
      let f : From (given key) a.next ls (before ++ a.text) output =
      subst (λ (x : TextState S). From x.key x.member ls x.output output) p.2 q in
      record {
        rest = a.text ++ f.rest;
        by = (a, p.1, f.rest, f.by, refl);
        all = f.all ∙ append_assoc before a.text f.rest;
      }

  pub closed-line : (k : DefaultKey) (member : S) (line output : List ℕ) (e : TextState S) → LineEnds step k member line output e
      → e.line ≡ []
  closed-line awaited member line output e p = ap (λ (x : TextState S). x.line) p
  closed-line (given key) member line output e p = ap (λ (x : TextState S). x.line) p.2

  at-end : (r : TextState S) (line output : List ℕ) → r.line ≡ line → NoNewline line → FinishesBy step line r output
      → From r.key r.member (lines (line ++ [])) r.output output
  unfolding lines
  at-end r [] output e p q = from-none r.key r.member r.output output q
  at-end r (c ∷ line) output e p q =
      let d = q.0 in
      let l : Line = record { text = c ∷ line; ended = false } in
      let ends = subst (λ (x : List ℕ). LineEnds step r.key r.member x r.output d) e q.1 in
      subst (λ (ls : List Line). From r.key r.member ls r.output output)
      (sym (ap lines (append-nil (c ∷ line)) ∙ lines-begun (c ∷ line) p))
      (from-line r.key r.member l r.output [] d output ends (from-none d.key d.member d.output output q.2))

  fed : (s : List ℕ) (r e : TextState S) (output : List ℕ) → NoNewline r.line → Reads step r s e → Finishes step e output
      → From r.key r.member (lines (r.line ++ s)) r.output output
  unfolding append_text
  fed [] r e output p q f = at-end r r.line output refl p (subst (λ (x : TextState S). Finishes step x output) q f)
  fed (c ∷ s) r e output p q f =
      let m = q.0 in
      let more : NoNewline m.line → From m.key m.member (lines (m.line ++ s)) m.output output =
      λ n. fed s m e output n q.2 f in
      by-same c 10
      (λ n.
      let ends = fed-newline r c m n q.1 in
      let z = closed-line r.key r.member r.line r.output m ends in
      let rest = subst (λ (x : List ℕ). From m.key m.member (lines (x ++ s)) m.output output) z (more (rw z tt)) in
      subst (λ (ls : List Line). From r.key r.member ls r.output output)
      (sym (ap (λ (x : ℕ). lines (r.line ++ (x ∷ s))) n ∙ lines-ended r.line s p))
      (from-line r.key r.member (record { text = r.line; ended = true }) r.output (lines s) m output ends rest))
      (λ n.
      let is = fed-other r c m n q.1 in
      let rest =
      subst (λ (y : TextState S). NoNewline y.line → From y.key y.member (lines (y.line ++ s)) y.output output) is more
      (no-newline-snoc r.line c p n) in
      subst (λ (l : List ℕ). From r.key r.member (lines l) r.output output) (append_assoc r.line (c ∷ []) s) rest)

  -- the program that reads octet by octet prints the transcript
  pub whole : (member : S) (input : List ℕ) (e : TextState S) (output : List ℕ) → Reads step (text_start member) input e →
      Finishes step e output
      → Transcript step member input output
  whole member input e output p f =
      let w = fed input (text_start member) e output tt p f in
      subst (λ (x : List ℕ). Transcript step member input x) (sym w.all) w.by

  -- a reading that goes from block to block
  pub data InBlocks : TextState S → List (List ℕ) → TextState S → Type 0 where
    no_block : (r : TextState S) → InBlocks r [] r
    one_more : {r m e : TextState S} {b : List ℕ} {bs : List (List ℕ)} → Reads step r b m → InBlocks m bs e → InBlocks r (b ∷ bs) e

  blocks-joined : {r e : TextState S} {bs : List (List ℕ)} → InBlocks r bs e → Reads step r (flatten bs) e
  unfolding flatten
  blocks-joined (no_block r) = refl
  blocks-joined (one_more {r} {m} {e} {b} {bs} p q) = reads-append b (flatten bs) r m e p (blocks-joined q)

  -- and so does one that reads the same input in any blocks
  pub any-blocks : (member : S) (bs : List (List ℕ)) (e : TextState S) (output : List ℕ) → InBlocks (text_start member) bs e
      → Finishes step e output → Transcript step member (flatten bs) output
  any-blocks member bs e output p f = whole member (flatten bs) e output (blocks-joined p) f
