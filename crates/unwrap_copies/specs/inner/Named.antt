-- The key that a copy names, and the tries of a list of copies. Inner.
use Rattle.std.specs.Prelude.{ℕ, cond, List, [], ◌∷◌, ◌++◌, eqb, length}
use Rattle.wire_attributes.specs.Tree.{SaKey}
use Rattle.state.specs.declared.held.HeldKey.{HeldKey}
use Rattle.unwrap_lending.specs.inner.Named.{octets_named}
use Rattle.unwrap_copies.specs.inner.Tries.{Try}

-- the try of copy c under the key of value v
abbrev pub try_of : List ℕ → SaKey → Try
try_of v c = record { key = v; wrapped = c.wrapped }

-- the try of copy c under the key of value v, if it has octets
abbrev pub under_named : List ℕ → SaKey → List Try
under_named v c = cond (eqb (length v) 0) [] (try_of v c ∷ [])

-- "the key their KWK ID names": key 0, of value v, or one of the frame's keys or of the held ones; a copy that names none is not tried
abbrev pub try_for : List ℕ → List HeldKey → List HeldKey → SaKey → List Try
try_for v fresh held c = cond (eqb c.kwk_id 0) (try_of v c ∷ []) (under_named (octets_named c.kwk_id fresh held) c)

-- the tries of all these copies
unfoldable pub tries_of_all : List ℕ → List HeldKey → List HeldKey → List SaKey → List Try
tries_of_all v fresh held [] = []
tries_of_all v fresh held (c ∷ l) = try_for v fresh held c ++ tries_of_all v fresh held l
