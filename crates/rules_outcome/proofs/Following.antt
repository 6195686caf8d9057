-- Two lists of conditions of which the second's hold where the first's do, and only there, but for one number: the first that holds has the
-- same number in both, unless it is that one.
use Prim.Native.Nat.{ℕ}
use mathlib.Core.Path.{◌≡◌, refl, sym, ◌∙◌, subst}
use mathlib.Core.Logic.{inl, inr}
use mathlib.Core.List.{List, [], ◌∷◌}
use Rattle.rules_outcome.specs.Answer.{RefusalCase, First}

pub record Follows (k : ℕ) (c d : RefusalCase) : Type 1 where
  pub number : c.number ≡ d.number
  pub holds : (c.number ≡ k → ⊥) → c.holds → d.holds
  pub fails : (c.holds → ⊥) → d.holds → ⊥

pub data Follow (k : ℕ) : List RefusalCase → List RefusalCase → Type 1 where
  none : Follow k [] []
  more : {c d : RefusalCase} {l m : List RefusalCase} → Follows k c d → Follow k l m → Follow k (c ∷ l) (d ∷ m)

pub first-kept : (k : ℕ) {l m : List RefusalCase} → Follow k l m → (n : ℕ) → (n ≡ k → ⊥) → First l n → First m n
first-kept k none n q h = h
first-kept k (more x r) n q (inl h) = inl (x.holds (λ e. q (h.1 ∙ e)) h.0, h.1 ∙ x.number)
first-kept k (more x r) n q (inr h) = inr (x.fails h.0, first-kept k r n q h.1)

over : {A B : Type 0} → A ≡ B → A → B
over e x = subst (λ (X : Type 0). X) e x

-- conditions that are equal
pub alike : (k n : ℕ) {A B : Type 0} → A ≡ B → Follows k (record { number = n; holds = A }) (record { number = n; holds = B })
alike k n e = record { number = refl; holds = λ q h. over e h; fails = λ none h. none (over (sym e) h) }
