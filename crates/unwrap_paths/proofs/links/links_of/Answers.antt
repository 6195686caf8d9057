use Rattle.std.proofs.Common.{refl, length, subst}
use mathlib.Core.List.{List, map-id}
use Rattle.unwrap_paths.specs.declared.levels.Mark.{Mark}
use Rattle.unwrap_paths.specs.inner.Code.{HasLevels}
use Rattle.unwrap_paths.proofs.links.links_of.Goals as goal

-- `unwrap_paths::links::links_of` meets its contract.

pub returns : goal.returns
returns c =
    let r = c.numbers_of.result in
    record {
      count-is = refl;
      marks = r.marks;
      linked = c.numbers_of.ensures.linked;
      levels =
          subst (λ (m : List Mark). HasLevels (length c.args.entries.now) r.ids r.kwks m c.levels-levels.result) (map-id r.marks)
          (c.levels-levels.ensures (λ m. m) (λ x y e. e));
    }
