-- Names that an SA of the table has.
use Prim.Native.Nat.{ℕ}
use mathlib.Core.Path.{◌≡◌, ap, sym, ◌∙◌}
use mathlib.Core.List.{List}
use mathlib.Core.Bool.{false, ◌&&◌}
use lib.ListN.{take}
use lib.Dec.{ltb}
use Rattle.lists.specs.Lists.{any, count}
use Rattle.state_sa.specs.Entry.{named, due, sa_spi, sa_spi_size}
use Rattle.state_sa.specs.declared.entry.Sa.{Sa}
use Rattle.state_table.specs.Table.{stays, not_due}
use Rattle.rules_refusals.proofs.FlatMap.{any-count}
use Rattle.check_pairing.specs.inner.Names.{Name, is_named, is_announced}
use Rattle.check_pairing.proofs.ListLaws.{same-swap, eqb_swap, any-keep, any_swap}

module _ (now : ℕ) (s : Sa) (l : List Name) where
  such-names : (n : Name) → is_named s.protocol (sa_spi s) n ≡ named n.protocol n.spi s
  unfolding named
  such-names n = λ i. eqb_swap n.protocol s.protocol i && same-swap n.spi (sa_spi s) i

  module _ (m p n : ℕ) (e : due now s ≡ false) (f : p ≡ s.protocol) (g : n ≡ sa_spi_size s.protocol) where
    pub announced-counted : m ≡ count (is_named p (take n s.spi)) l → ltb 0 m ≡ is_announced now l s
    announced-counted h =
        ap (ltb 0) (h ∙ (λ i. count (is_named (f i) (take (g i) s.spi)) l))
        ∙ sym (any-count (is_named s.protocol (sa_spi s)) l) ∙ (λ i. any (λ (x : Name). such-names x i) l) ∙ rw e

-- ---- the same from the names: one that an SA has which is not due
pub in_table : (now : ℕ) (l : List Name) (m : List Sa) →
    any (λ (n : Name). any (named n.protocol n.spi) (not_due now m)) l ≡ any (is_announced now l) m
in_table now l m =
    any_swap (λ (n : Name) (s : Sa). named n.protocol n.spi s) l (not_due now m)
    ∙ any-keep (λ (s : Sa). any (λ (n : Name). named n.protocol n.spi s) l) (stays now) m
