-- The path on samples. Nothing is assumed to open: an entry is any octets of the lent key's size, wrapped by RFC 5649 under a key of that
-- size, and a copy is whatever opens under the key that it names. This file stands before the laws that make a path: a wrong choice
-- among paths is refused here.
use native.Mathlib.Omega.{arith}
use Prim.Native.Nat.{ℕ}
use mathlib.Core.Path.{◌≡◌, refl}
use mathlib.Core.Logic.{inl, inr}
use mathlib.Core.List.Memᴰ
use mathlib.Core.List.{List, [], ◌∷◌}
use lib.ListN.{length}
use Rattle.fips197.specs.Key.{Key}
use Rattle.rfc5649.specs.Opens.{Opens}
use Rattle.wire_attributes.specs.Tree.{WrapKey, SaKey}
use Rattle.rules_chains.specs.Chain.{Root, Chain}
use Rattle.rules_chains.specs.Path.{KeyPath}
use Rattle.rules_chains.proofs.KeyIdLists.{entry}
pub use Rattle.rules_chains.proofs.KeyIdLists.{written_back, smaller, first-decides}
use Rattle.rules_chains.proofs.OnePath.{path-one}
use Rattle.rules_chains.proofs.Samples.{Fit, lent, under}
use Rattle.rules_chains.proofs.Ways.{PathTo, path-by, opener, start, next}

-- a copy under key k
abbrev copy : ℕ → List ℕ → SaKey
copy k w = record { key_id = 0; kwk_id = k; wrapped = w }

abbrev key : ℕ → List ℕ → Root
key k v = record { id = k; value = v }

module _ (zero-key : List ℕ) (is : Key zero-key) where
  abbrev L : List Root
  L = lent zero-key is

  abbrev by-lent : (entries : List WrapKey) → Chain L entries (length zero-key) [] 0 zero-key
  by-lent entries = start zero-key is L entries (key 0 zero-key) (Memᴰ.head refl)

  module _ (one three seven five nine : List ℕ) (fit-one : Fit zero-key is one) (fit-three : Fit zero-key is three)
      (fit-seven : Fit zero-key is seven) (fit-five : Fit zero-key is five) (fit-nine : Fit zero-key is nine) (lost w x : List ℕ) where
    -- ---- a registration: chains start with key 0 alone, which every path ends on
    -- (1 under 3), (3 under 0), (1 under 7), (7 under 0), and (1 under 2), which no entry gives
    abbrev tree : List WrapKey
    tree =
        under zero-key is 1 3 three one ∷ under zero-key is 3 0 zero-key three ∷ under zero-key is 1 7 seven one
        ∷ under zero-key is 7 0 zero-key seven ∷ entry 1 2 lost ∷ []

    to-three : Chain L tree (length zero-key) (under zero-key is 3 0 zero-key three ∷ []) 3 three
    to-three = next zero-key is L tree [] 3 0 zero-key three (by-lent tree) tt fit-three (Memᴰ.tail (Memᴰ.head refl))

    -- to 1 it is 1, 3
    pub path-smallest : Opens one w x → PathTo zero-key is L tree (copy 1 w) (1 ∷ 3 ∷ []) 0
    path-smallest o =
        path-by zero-key is L tree (copy 1 w) (under zero-key is 1 3 three one ∷ under zero-key is 3 0 zero-key three ∷ [])
        (opener zero-key is L tree (copy 1 w) _ one x
        (next zero-key is L tree _ 1 3 three one to-three fit-three.size fit-one (Memᴰ.head refl)) o)
        (refl, (refl, tt))
        ((inr (refl, inr (refl, tt)), λ e. omega arith), ((inr (refl, inl (omega arith)), λ e. omega arith), tt))

    -- and nothing else
    pub smallest-alone : Opens one w x → (ids : List ℕ) (end : ℕ) → PathTo zero-key is L tree (copy 1 w) ids end → ids ≡ 1 ∷ 3 ∷ []
    smallest-alone o ids end p =
        (path-one L tree (length zero-key) (copy 1 w ∷ []) ids (1 ∷ 3 ∷ []) end 0 p (path-smallest o)).0

    -- with (1 under 0) it is 1
    abbrev short : List WrapKey
    short = under zero-key is 1 0 zero-key one ∷ tree

    pub path-fewest : Opens one w x → PathTo zero-key is L short (copy 1 w) (1 ∷ []) 0
    path-fewest o =
        path-by zero-key is L short (copy 1 w) (under zero-key is 1 0 zero-key one ∷ [])
        (opener zero-key is L short (copy 1 w) _ one x
        (next zero-key is L short [] 1 0 zero-key one (by-lent short) tt fit-one (Memᴰ.head refl)) o)
        (refl, tt) ((inr (refl, tt), λ e. omega arith), tt)

    -- (5 under 0), (9 under 5): to 9 it is 9, 5, which does not rise
    abbrev falling : List WrapKey
    falling = under zero-key is 5 0 zero-key five ∷ under zero-key is 9 5 five nine ∷ []

    pub path-falling : Opens nine w x → PathTo zero-key is L falling (copy 9 w) (9 ∷ 5 ∷ []) 0
    path-falling o =
        path-by zero-key is L falling (copy 9 w) (under zero-key is 9 5 five nine ∷ under zero-key is 5 0 zero-key five ∷ [])
        (opener zero-key is L falling (copy 9 w) _ nine x
        (next zero-key is L falling _ 9 5 five nine
        (next zero-key is L falling [] 5 0 zero-key five (by-lent falling) tt fit-five (Memᴰ.head refl)) fit-five.size
        fit-nine (Memᴰ.tail (Memᴰ.head refl))) o)
        (refl, (refl, tt)) ((inr (refl, inr (refl, tt)), λ e. omega arith), tt)

    -- "No Rekey SA, or one opened by the default key: empty"
    pub path_empty : Opens zero-key w x → PathTo zero-key is L tree (copy 0 w) [] 0
    path_empty o =
        path-by zero-key is L tree (copy 0 w) [] (opener zero-key is L tree (copy 0 w) [] zero-key x (by-lent tree) o) tt
        ((tt, λ e. omega arith), tt)

    -- any of the copies counts: with one under 1 and one under key 0 the path is empty
    pub path-of-any : (other : List ℕ) → Opens zero-key w x → KeyPath L tree (length zero-key) (copy 1 other ∷ copy 0 w ∷ []) [] 0
    path-of-any other o =
        record {
          passed = [];
          opener = record {
            copy = copy 0 w;
            stands = record { place = 1; inside = omega arith; is = refl };
            value = zero-key;
            chain = by-lent tree;
            octets = x;
            opens = o;
          };
          written = refl;
          ends = refl;
          fewest = λ q p. omega arith;
          smallest = λ q p e. tt;
          lowest = λ q p e. omega arith;
        }

    -- ---- a rekey with fresh keys (document 02, T-11): chains start with key 0 or with the held keys 5 and 7
    abbrev held : List Root
    held = key 0 zero-key ∷ key 5 five ∷ key 7 seven ∷ []

    -- (1 under 7), (1 under 5): "equal paths are chosen by the smaller Key ID they end on": 1, which ends on 5
    abbrev fresh : List WrapKey
    fresh = under zero-key is 1 7 seven one ∷ under zero-key is 1 5 five one ∷ []

    pub path-lowest : Opens one w x → PathTo zero-key is held fresh (copy 1 w) (1 ∷ []) 5
    path-lowest o =
        path-by zero-key is held fresh (copy 1 w) (under zero-key is 1 5 five one ∷ [])
        (opener zero-key is held fresh (copy 1 w) _ one x
        (next zero-key is held fresh [] 1 5 five one
        (start zero-key is held fresh (key 5 five) (Memᴰ.tail (Memᴰ.head refl))) tt fit-one
        (Memᴰ.tail (Memᴰ.head refl))) o)
        (refl, tt) ((inr (refl, tt), λ e. omega arith), ((inr (refl, tt), λ e. omega arith), tt))

    -- and on nothing else
    pub lowest-alone : Opens one w x → (ids : List ℕ) (end : ℕ) → PathTo zero-key is held fresh (copy 1 w) ids end → end ≡ 5
    lowest-alone o ids end p =
        (path-one held fresh (length zero-key) (copy 1 w ∷ []) ids (1 ∷ []) end 5 p (path-lowest o)).1

    -- "the default key being 0": with (1 under 0) beside them it ends on key 0
    abbrev under-default : List WrapKey
    under-default = under zero-key is 1 0 zero-key one ∷ fresh

    pub path-to-default : Opens one w x → PathTo zero-key is held under-default (copy 1 w) (1 ∷ []) 0
    path-to-default o =
        path-by zero-key is held under-default (copy 1 w) (under zero-key is 1 0 zero-key one ∷ [])
        (opener zero-key is held under-default (copy 1 w) _ one x
        (next zero-key is held under-default [] 1 0 zero-key one
        (start zero-key is held under-default (key 0 zero-key) (Memᴰ.head refl)) tt fit-one (Memᴰ.head refl)) o)
        (refl, tt)
        ((inr (refl, tt), λ e. omega arith), ((inr (refl, tt), λ e. omega arith), ((inr (refl, tt), λ e. omega arith), tt)))

    -- "counting fresh keys only": a copy under the held key 7 has the empty path, and ends on 7
    pub path-of-held : Opens seven w x → PathTo zero-key is held fresh (copy 7 w) [] 7
    path-of-held o =
        path-by zero-key is held fresh (copy 7 w) []
        (opener zero-key is held fresh (copy 7 w) [] seven x
        (start zero-key is held fresh (key 7 seven) (Memᴰ.tail (Memᴰ.tail (Memᴰ.head refl)))) o)
        tt ((tt, λ e. omega arith), tt)
