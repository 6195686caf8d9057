-- What is kept of a search: links, which the path is read off, and the keys that are reached, which the held list is made of. Inner.
use Rattle.std.specs.Prelude.{ℕ, ◌≤◌, ◌<◌, ◌≡◌, true, List}
use Rattle.octets.specs.Numbers.{oct}
use Rattle.wire_attributes.specs.Tree.{WrapKey}
use Rattle.rules_chains.specs.Chain.{Root}
use Rattle.rules_chains.specs.Refusals.{EntriesConflict, Value}
use Rattle.state_keys.specs.Limits.{limits}
use Rattle.state_keys.specs.Kinds.{wrapping_of}
use Rattle.state.specs.Held.{held_key}
use Rattle.state.specs.declared.held.Held.{Held}
use Rattle.unwrap_search.specs.declared.open.Entry.{Entry}
use Rattle.unwrap_search.specs.declared.open.Cell.{Cell}
use Rattle.unwrap_search.specs.inner.Entries.{Lists}
use Rattle.unwrap_search.specs.inner.Search.{Searched, Nonzero, RootsFit}
use Rattle.unwrap_paths.specs.declared.levels.Mark.{Mark}
use Rattle.unwrap_paths.specs.declared.links.Links.{Links}
use Rattle.unwrap_paths.specs.inner.Code.{HasLevels}
use Rattle.unwrap_paths.specs.inner.Links.{LinksAre}
use Rattle.std.specs.Prelude.{Some}

-- the links are the numbers and levels of the first n entries, by the marks of their cells
pub record LinksKept (n : ℕ) (entries : List Entry) (cells : List Cell) (links : Links) : Type 0 where
  pub count-is : links.count ≡ n
  pub marks : List Mark
  pub linked : LinksAre n n entries cells links.ids links.kwks marks
  pub levels : HasLevels n links.ids links.kwks marks links.levels

-- links that a way back can be read off: they are within their arrays, and no level is over the most entries that there are
pub record LinksFit (links : Links) : Type 0 where
  pub few : links.count ≤ limits.wrap_keys
  pub within : (i : ℕ) → i < links.count → oct links.levels i ≤ limits.wrap_keys

-- the list `reached` gives each key on which a chain of one or more entries ends, with the value that every such chain gives
abbrev pub GivesReached : List Root → List WrapKey → ℕ → Held → Type 0
GivesReached roots l size reached =
    (i : ℕ) (x : List ℕ) → Value roots l size i x → held_key limits i reached ≡ Some (wrapping_of x)

-- links and reached keys of a search over the entries l from these roots, where number 8 does not hold of them
pub record SearchKept (roots : List Root) (l : List WrapKey) (size : ℕ) (links : Links) (reached : Held) : Type 0 where
  pub frame : List ℕ
  pub entries : List Entry
  pub cells : List Cell
  pub lists : Lists frame entries links.count l
  pub searched : Searched roots l size cells
  pub linked : LinksKept links.count entries cells links
  pub nonzero : Nonzero l
  pub fit : RootsFit roots l
  pub agree : EntriesConflict roots l size → ⊥
  pub gives : GivesReached roots l size reached
