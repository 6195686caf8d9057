-- The entries of a KD body, and where they stand. Inner.
use Rattle.std.specs.Prelude.{ℕ, ◌≤◌, ◌≡◌, true, List, map, length}
use Rattle.octets.specs.Walk.{part}
use Rattle.wire_attributes.specs.Tree.{WrapKey, wrap_key_of}
use Rattle.wire_attributes.specs.Place.{key_value_sized}
use Rattle.wire_attributes.specs.Layout.{attributes}
use Rattle.wire_attributes.specs.declared.tables.Place.{Place}
use Rattle.wire_attributes.specs.declared.tables.Meaning.{Meaning}
use Rattle.wire_readers.specs.inner.Values.{is_whole, values_in, value_size}
use Rattle.wire_readers.specs.declared.Stretch.{Stretch}

-- the entries of a bag with the attributes s: those that mean m in the place p
abbrev pub bag_keys : Meaning → Place → List ℕ → List WrapKey
bag_keys m p s = map wrap_key_of (values_in m p s)

-- the stretch x of the KD body k has the attributes of a bag of the place p, or none, and l are its attributes that mean m; these have the
-- layout of a WRAP_KEY
pub record HoldsEntries (m : Meaning) (p : Place) (k : List ℕ) (x : Stretch) (l : List WrapKey) : Type 0 where
  pub order : x.start ≤ x.end
  pub inside : x.end ≤ length k
  pub held : is_whole (attributes p 0 (part k x.start x.end)) ≡ true
  pub keys : l ≡ bag_keys m p (part k x.start x.end)
  pub wrapped : (n : ℕ) → value_size m n ≡ key_value_sized n
