-- The number judged first, from the answers on each number.
use Prim.Native.Nat.{ℕ, ◌≤◌}
use mathlib.Core.Path.{◌≡◌, refl, ap, ◌∙◌}
use mathlib.Core.Bool.{Bool, true, false, cond}
use mathlib.Core.List.{List, [], ◌∷◌}
use lib.ListN.{length}
use Rattle.state_keys.specs.Limits.{Limits}
use Rattle.state_table.specs.declared.Table.{Table}
use Rattle.state_table.specs.Table.{sas_of, table_of, not_due, swept}
use Rattle.state_table.specs.inner.Changes.{standing_count}
use Rattle.state_table.proofs.Laws.{changed-in}
use Rattle.rules_refusals.specs.Refusals.{Number, applies, judged}

-- it applies
pub applying : (n : Number) (l : List Number) → true ≡ applies n → n.number ≡ judged (n ∷ l)
unfolding judged
applying n l e = ap (λ (b : Bool). cond b n.number (judged l)) e

-- it does not, so those after it are judged
pub passing : (n : Number) (l : List Number) (k : ℕ) → false ≡ applies n → k ≡ judged l → k ≡ judged (n ∷ l)
unfolding judged
passing n l k e g = g ∙ ap (λ (b : Bool). cond b n.number (judged l)) e

pub none-judged : 0 ≡ judged []
unfolding judged
none-judged = refl

-- SAs that stand at the tick
pub stand : (limits : Limits) (tick : ℕ) (t : Table) → t.count ≤ limits.sas → standing_count limits tick t ≡ length (not_due tick (sas_of t))
unfolding standing_count swept table_of
stand limits tick t h = ap (λ (x : Table). x.count) (changed-in limits t (not_due tick) h)
