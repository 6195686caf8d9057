-- Lines are the one way to split an input: written one behind the other they are the input again, and any lines that could stand in an
-- input are what their octets split into.
use Prim.Native.Nat.{ℕ}
use mathlib.Core.Path.{◌≡◌, refl, ap, sym, subst, ◌∙◌}
use mathlib.Core.List.{List, [], ◌∷◌, ◌++◌, append_assoc, append-nil}
use mathlib.Core.Bool.{Bool, true, false}
use native.Mathlib.Omega.{arith}
use Rattle.text_rules.specs.Lines.{Line, prepend_character, lines}
use Rattle.text_lines.specs.inner.First.{line_octets}
use Rattle.text_rules.proofs.Cases.{by-same}
use Rattle.text_lines.proofs.LineLaws.{NoNewline, lines-newline, lines_other, lines-ended, lines-begun}

unfoldable pub joined : List Line → List ℕ
joined [] = []
joined (l ∷ ls) = line_octets l ++ joined ls

-- the lines of an input: no newline stands in a line; a line that none ended is the last, and not empty
abbrev pub Last : List ℕ → Bool → List Line → Type 0
Last text true ls = Unit {0}
Last text false ls = (text ≡ [] → ⊥) × (ls ≡ [])

abbrev pub Proper : List Line → Type 0
Proper [] = Unit {0}
Proper (l ∷ ls) = NoNewline l.text × Last l.text l.ended ls × Proper ls

join-before : (c : ℕ) (ls : List Line) → joined (prepend_character c ls) ≡ c ∷ joined ls
unfolding joined line_octets
join-before c [] = refl
join-before c (l ∷ ls) = refl

pub joined-lines : (s : List ℕ) → joined (lines s) ≡ s
unfolding joined line_octets lines
joined-lines [] = refl
joined-lines (c ∷ s) =
    let r = joined-lines s in
    by-same c 10
    (λ e. ap joined (lines-newline c s e) ∙ ap (λ (l : List ℕ). 10 ∷ l) r ∙ ap (λ (x : ℕ). x ∷ s) (sym e))
    (λ n. ap joined (lines_other c s n) ∙ join-before c (lines s) ∙ ap (λ (l : List ℕ). c ∷ l) r)

not-empty : (c : ℕ) (s : List ℕ) → c ∷ s ≡ [] → ⊥
not-empty c s e = let z : ◌≡◌ {A = ℕ} 0 1 = cc in omega arith

last-before : (c : ℕ) (text : List ℕ) (e : Bool) (ls : List Line) → Last text e ls → Last (c ∷ text) e ls
last-before c text true ls p = tt
last-before c text false ls p = (not-empty c text, p.1)

proper-before : (c : ℕ) (ls : List Line) → (c ≡ 10 → ⊥) → Proper ls → Proper (prepend_character c ls)
proper-before c [] n p = ((n, tt), (not-empty c [], refl), tt)
proper-before c (l ∷ ls) n p = ((n, p.0), last-before c l.text l.ended ls p.1, p.2)

pub lines-proper : (s : List ℕ) → Proper (lines s)
unfolding lines
lines-proper [] = tt
lines-proper (c ∷ s) =
    let r = lines-proper s in
    by-same c 10
    (λ e. subst Proper (sym (lines-newline c s e)) (tt, tt, r))
    (λ n. subst Proper (sym (lines_other c s n)) (proper-before c (lines s) n r))

last-alone : (text : List ℕ) → NoNewline text → (text ≡ [] → ⊥) → lines ((text ++ []) ++ []) ≡ record { text = text; ended = false } ∷ []
last-alone [] p n = absurd (n refl)
last-alone (c ∷ text) p n = ap lines (append-nil ((c ∷ text) ++ []) ∙ append-nil (c ∷ text)) ∙ lines-begun (c ∷ text) p

first-joined : (text : List ℕ) (e : Bool) (ls : List Line) → NoNewline text → Last text e ls → lines (joined ls) ≡ ls
    → lines (line_octets (record { text = text; ended = e }) ++ joined ls) ≡ record { text = text; ended = e } ∷ ls
unfolding line_octets joined
first-joined text true ls p l r =
    ap lines (append_assoc text (10 ∷ []) (joined ls)) ∙ lines-ended text (joined ls) p
    ∙ ap (λ (x : List Line). record { text = text; ended = true } ∷ x) r
first-joined text false ls p l r =
    ap (λ (x : List Line). lines ((text ++ []) ++ joined x)) l.1 ∙ last-alone text p l.0
    ∙ ap (λ (x : List Line). record { text = text; ended = false } ∷ x) (sym l.1)

pub lines-joined : (ls : List Line) → Proper ls → lines (joined ls) ≡ ls
unfolding lines joined
lines-joined [] p = refl
lines-joined (l ∷ ls) p = first-joined l.text l.ended ls p.0 p.1 (lines-joined ls p.2)
