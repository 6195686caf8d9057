use mathlib.Core.Path.{ap₂, ◌∙◌}
use mathlib.Core.List.{List, [], ◌∷◌, ◌++◌}
use Prim.Native.Nat.{ℕ}
use borrow.Rule.Slice.PartMut.{put_mid}
use Rattle.octets.specs.Numbers.{octets_of}
use Rattle.octets.proofs.registers.block_of.Goals as goal

pub returns : goal.returns
unfolding octets_of
returns c =
    ap₂ {C = List ℕ} (λ (h l : List ℕ). put_mid 8 8 (h ++ (0 ∷ 0 ∷ 0 ∷ 0 ∷ 0 ∷ 0 ∷ 0 ∷ 0 ∷ [])) l)
    (c.copy_from_slice.ensures.after ∙ c.octets_of.ensures) (c.copy_from_slice-2.ensures.after ∙ c.octets_of-2.ensures)
