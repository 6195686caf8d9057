-- The table of a fragment's cases without a test, in the customer's words. No contract cites this file.
use Rattle.std.specs.Prelude.{◌<◌, ◌≡◌, true, false, ◌⊎◌}
use Rattle.fragments.specs.declared.Names.{Names}
use Rattle.fragments.specs.Collection.{Waiting}
use Rattle.fragments.specs.Gathering.{is_kept}

-- "of one Rekey SA and Message ID"
pub record OfOneRekey (w : Waiting) (f : Names) : Type 0 where
  pub spis : w.spis ≡ f.spis
  pub id : w.id ≡ f.id

-- "A larger total starts the collection anew ..; another Rekey SA or Message ID starts anew"
abbrev pub StartsAnew : Waiting → Names → Type 0
StartsAnew w f = (OfOneRekey w f → ⊥) ⊎ (w.total < f.total)

-- "A copy, by number and total, of one already kept is passed over"; "a smaller one is passed over"
pub record IsPassedOver (w : Waiting) (f : Names) : Type 0 where
  pub of_one : OfOneRekey w f
  pub smaller-or-copy : (f.total < w.total) ⊎ ((f.total ≡ w.total) × (is_kept f.number w.kept ≡ true))

-- else it is kept beside the others
pub record IsKeptBeside (w : Waiting) (f : Names) : Type 0 where
  pub of_one : OfOneRekey w f
  pub same_total : f.total ≡ w.total
  pub not_there : is_kept f.number w.kept ≡ false
