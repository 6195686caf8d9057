-- The theorems that docs/CLAIMS.md cites under "Document 01: how a frame is laid out".
use Rattle.std.specs.Prelude.{Option}
use Rattle.std.specs.Iterator.{YieldsFirst, MakesProgress, item_count}
use Prim.Native.Nat.{ℕ, suc}
use mathlib.Core.List.{List, map, ◌∷◌, ◌++◌}
use mathlib.Core.Path.{◌≡◌}
use mathlib.Core.Bool.{true}
use lib.ListN.{take, length}
use Rattle.wire_policies.specs.Grammar.{IsGroupSa, IsGroupWide}
use Rattle.wire_policies.specs.Policy.{GroupSaPolicy, GroupWidePolicy}
use Rattle.wire_policies.specs.Selector.{Selector}
use Rattle.wire_view.proofs.Cuts.{stretch, addresses, no-stretch, value}
use Rattle.wire_view.specs.View.{shown_items, shown_in, is_at_end, next_after, items_left}
use Rattle.wire_view.specs.declared.items.Item.{Item}
use Rattle.wire_view.specs.declared.View.{View}
use Rattle.rules_outcome.proofs.Needs.{Needs}
use Rattle.wire_view.proofs.Cuts as ofCuts
use Rattle.wire_view.proofs.WalkLaws as ofWalkLaws
use Rattle.wire_view.proofs.LeftLaws as ofLeftLaws
use Rattle.rules_outcome.proofs.Needs as goal
pub use Rattle.wire_attributes.proofs.AttributeTable.{table-meanings, table-places, table-forms}
pub use Rattle.state_keys.proofs.Rows.{table-lines}

pub cuts-sa : (s : List ℕ) (x : GroupSaPolicy) (i : IsGroupSa s x) → map (stretch s) (shown_items s) ≡ addresses x.source ∷ addresses
    x.destination ∷ (map no-stretch x.transforms ++ map value i.body.suite.attributes)
cuts-sa = ofCuts.cuts-sa

pub cuts-wide : (s : List ℕ) (x : GroupWidePolicy) (i : IsGroupWide s x) → map (stretch s) (shown_items s) ≡ map value i.attributes
cuts-wide = ofCuts.cuts-wide

pub walk-shows : (s : List ℕ) (n : ℕ) → shown_in n s 0 ≡ take n (shown_items s)
walk-shows = ofWalkLaws.walk-shows

pub end_stays : (s : List ℕ) (c : ℕ) → is_at_end s c ≡ true → next_after s c ≡ c
end_stays = ofWalkLaws.end_stays

pub new-shows : (s : List ℕ) → shown_in (suc (length s)) s 0 ≡ shown_items s
new-shows = ofLeftLaws.new-shows

pub progress : {can : View → Type 0} → ((v : View) → can v) → (v w : View) (r : Option Item) → YieldsFirst items_left v r w
    → MakesProgress can (item_count items_left) v r w
progress = ofLeftLaws.progress

pub policies-need : (spi : List ℕ) (from to : Selector) (ids seconds : List ℕ) → Needs spi from to ids seconds
policies-need = goal.policies-need
