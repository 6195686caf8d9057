-- The numbers in the attributes of a policy (GSA_INITIAL_MESSAGE_ID, GSA_KEY_LIFETIME or the deactivation delay): how many there are, and
-- the greatest.
use Rattle.std.specs.Prelude.{ℕ, ◌+◌, List, [], ◌∷◌, map, Bool, true, false, cond, length, ltb}
use Rattle.wire_attributes.specs.Tree.{number16, number32}
use Rattle.wire_attributes.specs.declared.tables.Meaning.{Meaning}
use Rattle.wire_attributes.specs.declared.tables.Meaning.TheVariants as meaning
use Rattle.check_composition.specs.declared.numbers.Numbers.{Numbers}

abbrev pub greater : ℕ → ℕ → ℕ
greater a b = cond (ltb a b) b a

unfoldable pub greatest : List ℕ → ℕ
greatest [] = 0
greatest (n ∷ l) = greater n (greatest l)

-- an attribute with this meaning gives a number, which `number_by` reads from its value; `most` is the greatest it can be
abbrev pub is_number : Meaning → Bool
is_number meaning.Skipped = false
is_number meaning.KeyLength = false
is_number meaning.InitialMessageId = true
is_number meaning.DeactivationDelay = true
is_number meaning.KeyLifetime = true
is_number meaning.SaKey = false
is_number meaning.WrapKey = false
is_number meaning.FreshKey = false

abbrev pub number_by : Meaning → List ℕ → ℕ
number_by meaning.Skipped v = 0
number_by meaning.KeyLength v = 0
number_by meaning.InitialMessageId v = number32 v
number_by meaning.DeactivationDelay v = number16 v
number_by meaning.KeyLifetime v = number32 v
number_by meaning.SaKey v = 0
number_by meaning.WrapKey v = 0
number_by meaning.FreshKey v = 0

abbrev pub most : Meaning → ℕ
most meaning.Skipped = 0
most meaning.KeyLength = 0
most meaning.InitialMessageId = 4294967295
most meaning.DeactivationDelay = 65535
most meaning.KeyLifetime = 4294967295
most meaning.SaKey = 0
most meaning.WrapKey = 0
most meaning.FreshKey = 0

-- the numbers of the values `l`
abbrev pub numbers_by : Meaning → List (List ℕ) → Numbers
numbers_by m l = record { count = length l; greatest = greatest (map (number_by m) l) }

abbrev pub with_number : Meaning → Numbers → List ℕ → Numbers
with_number m n v = record { count = n.count + 1; greatest = greater n.greatest (number_by m v) }
