-- A selector as a view shows it.
use Prim.Native.Nat.{ℕ, ◌+◌, ◌<◌, ◌≤◌}
use mathlib.Core.Path.{◌≡◌, ◌∙◌}
use mathlib.Core.List.{List}
use mathlib.Core.Bool.{Bool, true, false, cond}
use native.Mathlib.Omega.{arith}
use lib.Dec.{eqb}
use lib.ListN.{length}
use Rattle.octets.specs.Numbers.{oct}
use Rattle.octets.specs.Walk.{be16}
use Rattle.wire_policies.specs.Selector.{Selector, selector_size}
use Rattle.wire_policies.specs.Grammar.{IsSelector}
use Rattle.wire_view.specs.View.{shown_selector}
use Rattle.wire_view.specs.declared.items.Item.TheVariants as item

least_size : (t : ℕ) → 0 < selector_size t → 16 ≤ selector_size t
least_size t = go (eqb t 7) (eqb t 8)
  where
    go : (u v : Bool) → 0 < cond u 16 (cond v 40 0) → 16 ≤ cond u 16 (cond v 40 0)
    go true v h = omega arith
    go false true h = omega arith
    go false false h = absurd (omega arith)

module _ (s : List ℕ) (x : Selector) (i : IsSelector s x) where
  pub selector-room : 16 ≤ length s
  selector-room = omega (arith, least_size x.kind i.known, i.all)

  pub selector-is : (base k p a e : ℕ) → k ≡ oct s 0 → p ≡ oct s 1 → a ≡ be16 s 4 → e ≡ be16 s 6
      → item.Selector k p a e (base + 8) (base + length s) ≡ shown_selector base x
  selector-is base k p a e kq pq aq eq = λ j.
      item.Selector ((kq ∙ i.kind) j) ((pq ∙ i.protocol) j) ((aq ∙ i.start_port) j) ((eq ∙ i.end_port) j) (base + 8) (base + i.all j)
