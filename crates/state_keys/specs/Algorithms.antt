-- "The algorithm table: AES-GCM-16 (type 1, ID 20, Key Length attribute 14 in bits: 128, 192, 256) needs 20, 28, 36 octets;
-- KW_5649_128, _192, _256 (type 13) need 16, 24, 32." The IDs of type 13 are those of RFC 9838, section 9.
use Rattle.std.specs.Prelude.{ℕ, Bool, cond, not, ◌&&◌, ◌||◌, List, [], ◌∷◌, eqb, Option, Some, None}
use Rattle.ikev2_numbers.specs.Codes.{transform_encr, transform_kwa}
use Rattle.lists.specs.Lists.{any}
use Rattle.state_keys.specs.declared.algorithms.AlgorithmRow.{AlgorithmRow}

-- transform type, transform ID, key bits, octets needed
abbrev algorithm_row : ℕ → ℕ → ℕ → ℕ → AlgorithmRow
algorithm_row k i b o = record { kind = k; id = i; bits = b; octets = o }

abbrev pub algorithms : List AlgorithmRow
algorithms =
    algorithm_row 1 20 128 20 ∷ algorithm_row 1 20 192 28 ∷ algorithm_row 1 20 256 36
    ∷ algorithm_row 13 1 128 16 ∷ algorithm_row 13 2 192 24 ∷ algorithm_row 13 3 256 32 ∷ []

-- r is the row of the transform with type k, ID i and Key Length b. The Key Length is read in type 1 alone
unfoldable pub is_row_of : ℕ → ℕ → ℕ → AlgorithmRow → Bool
is_row_of k i b r = eqb r.kind k && (eqb r.id i && (not (eqb k transform_encr) || eqb r.bits b))

unfoldable pub needed_in : ℕ → ℕ → ℕ → List AlgorithmRow → Option ℕ
needed_in k i b [] = None
needed_in k i b (r ∷ l) = cond (is_row_of k i b r) (Some r.octets) (needed_in k i b l)

-- the octets that the transform needs, if the table has it
unfoldable pub needed_by : ℕ → ℕ → ℕ → Option ℕ
needed_by k i b = needed_in k i b algorithms

-- some row of transform type k needs n octets
unfoldable pub size_of : ℕ → ℕ → Bool
size_of k n = any (λ (r : AlgorithmRow). eqb r.kind k && eqb n r.octets) algorithms

-- a wrapping key can have n octets: "need 16, 24, 32"
abbrev pub is_wrapping_size : ℕ → Bool
is_wrapping_size n = size_of transform_kwa n

-- an encryption key can: "needs 20, 28, 36 octets"
abbrev pub is_encryption_size : ℕ → Bool
is_encryption_size n = size_of transform_encr n
