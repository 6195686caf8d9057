-- WHAT IS READ OF OCTETS. Document 01: "Flags, minor version and RESERVED octets are ignored." A mask says for each octet which of its bits
-- are read.
use Rattle.std.specs.Prelude.{ℕ, ◌/◌, ◌≡◌, Bool, List, [], ◌∷◌, ◌++◌, length, get_or}
use Rattle.octets.specs.Numbers.{oct}
use Rattle.octets.specs.Walk.{Spans, none, more, Row, no-more, then}

-- the bits of an octet that are read: all eight; the high four (the major version, without the minor one); the top one (the critical bit,
-- without the seven reserved ones); none
pub data Mask : Type 0 where
  all : Mask
  high : Mask
  top : Mask
  ignored : Mask

-- the value of the bits of an octet that are read
abbrev pub seen : Mask → ℕ → ℕ
seen all x = x
seen high x = x / 16
seen top x = x / 128
seen ignored x = 0

-- s and t are alike under the mask m: both have its length, and they differ in nothing that is read
pub record Alike (m : List Mask) (s t : List ℕ) : Type 0 where
  pub size : length s ≡ length m
  pub same : length t ≡ length m
  pub each : (i : ℕ) → seen (get_or m i ignored) (oct s i) ≡ seen (get_or m i ignored) (oct t i)

-- a mask of the length of s that reads all of each octet, and one that reads nothing
abbrev pub all_of : List ℕ → List Mask
all_of [] = []
all_of (x ∷ s) = all ∷ all_of s

abbrev pub none_of : List ℕ → List Mask
none_of [] = []
none_of (x ∷ s) = ignored ∷ none_of s

-- the mask of a row: the masks of its items one after the other. The mask of a chain ends with `tail`, the mask of the octets behind it
unfoldable pub row_mask : {A : Type 0} {Is : List ℕ → A → Type 0} → ((o : List ℕ) (a : A) → Is o a → List Mask)
    → {s : List ℕ} {l : List A} → Row Is s l → List Mask
row_mask mask no-more = []
row_mask mask (then o s {a = a} i r) = mask o a i ++ row_mask mask r

unfoldable pub chain_mask : {S A : Type 0} {stop : S → List ℕ → Bool} {Is : S → List ℕ → A → S → Type 0}
    → ((o : List ℕ) (a : A) (st st' : S) → Is st o a st' → List Mask) → List Mask
    → {st : S} {s : List ℕ} {l : List A} {rest : List ℕ} → Spans stop Is st s l rest → List Mask
chain_mask mask tail (none e) = tail
chain_mask mask tail {st = st} (more {st' = st'} o s {a = a} e i r) = mask o a st st' i ++ chain_mask mask tail r
