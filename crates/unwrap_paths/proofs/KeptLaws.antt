-- Links that were kept of a search: they fit, whatever the search was.
use native.Mathlib.Omega.{arith}
use Prim.Native.Nat.{ℕ, ◌≤◌, ◌<◌}
use mathlib.Core.Path.{subst, sym}
use mathlib.Core.List.{List}
use Rattle.state_keys.specs.Limits.{limits}
use Rattle.unwrap_search.specs.declared.open.Entry.{Entry}
use Rattle.unwrap_search.specs.declared.open.Cell.{Cell}
use Rattle.unwrap_paths.specs.declared.links.Links.{Links}
use Rattle.unwrap_paths.specs.inner.Kept.{LinksKept, LinksFit}

module _ (n : ℕ) (entries : List Entry) (cells : List Cell) (links : Links) (kept : LinksKept n entries cells links) where
  pub links-fit : n ≤ limits.wrap_keys → LinksFit links
  links-fit h =
      record {
        few = omega (arith, kept.count-is);
        within = λ i g. let w : i < n = omega (arith, kept.count-is) in omega (arith, kept.levels.within i w);
      }

  -- they are as many as they say
  pub links-own : LinksKept links.count entries cells links
  links-own = subst (λ (m : ℕ). LinksKept m entries cells links) (sym kept.count-is) kept
