-- The held list under a record of seven figures that differ. The held list and a frame's WRAP_KEYs have limits of one figure, 128, so these
-- figures cannot tell the two limits apart.
use Prim.Native.Nat.{ℕ}
use mathlib.Core.Path.{◌≡◌, refl}
use mathlib.Core.Bool.{true, false}
use mathlib.Core.List.{[], ◌∷◌}
use lib.ListN.{replicate}
use Rattle.lists.specs.Lists.{all, any, insert}
use Rattle.state_keys.specs.Limits.{Limits}
use Rattle.state_keys.specs.Algorithms.{size_of}
use Rattle.std.specs.Prelude.{is_some}
use Rattle.state_keys.specs.Kinds.{wrapping_of}
use Rattle.state.specs.declared.held.Held.{Held}
use Rattle.state.specs.declared.held.HeldKey.{HeldKey}
use Rattle.state.specs.Held.{blank_key, held_of, key_formed, distinct, held_formed, without_key, key_with, held_key}
use Rattle.state.specs.inner.Entering.{entered_key}

abbrev pub apart : Limits
apart = record { held_keys = 2; esp_policies = 3; wrap_keys = 4; sa_keys = 5; deleted_spis = 6; sas = 7; fresh_keys = 8 }

abbrev key : ℕ → HeldKey
key i = record { id = i; key = wrapping_of (replicate 16 1) }

-- lists of two keys and of three
abbrev two : Held
two = held_of apart (key 1 ∷ key 2 ∷ [])

abbrev three : Held
three = held_of apart (key 1 ∷ key 2 ∷ key 3 ∷ [])

-- "a held list of at most 32 wrapping keys" (T-01: 128), of which there are 2 here
pub record HeldWithin : Type 0 where
  -- it has so many places
  pub places : held_of apart [] ≡ record { keys = blank_key ∷ blank_key ∷ []; count = 0 }
  -- so many keys are fit, one more is not
  pub taken : held_formed apart two ≡ true
  pub over : held_formed apart three ≡ false
  -- a list of so many has its keys, one of one more has none
  pub found : is_some (held_key apart 2 two) ≡ true
  pub not_found : held_key apart 2 three ≡ without_key
  -- so many enter, one more does not
  pub enters : entered_key apart (key 2) (held_of apart (key 1 ∷ [])) ≡ two
  pub full : entered_key apart (key 3) two ≡ two

pub held-within : HeldWithin
unfolding held_of held_formed key_formed distinct key_with held_key entered_key size_of all any insert
held-within = record { places = refl; taken = refl; over = refl; found = refl; not_found = refl; enters = refl; full = refl }
