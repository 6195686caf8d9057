-- What the steps of the search for levels and of the way back do. Inner.
use Rattle.std.specs.Prelude.{ℕ, ◌+◌, ◌<◌, ◌≤◌, ◌≡◌, Bool, true, false, cond, ◌&&◌, List, Option, Some, None, eqb, take, get_or}
use Rattle.octets.specs.Numbers.{oct}
use Rattle.state_keys.specs.Limits.{limits}
use Rattle.unwrap_paths.specs.declared.levels.Mark.{Mark}
use Rattle.unwrap_paths.specs.declared.levels.Mark.TheVariants.{NotOpened, Opened, OpenedFirst}
use Rattle.unwrap_paths.specs.inner.Levels.{Levelled, Distance, ReadOff}

-- ---- marks
-- the mark that an octet stands for: 0 and 2 have marks of their own, and any other octet is that of an entry which opened
abbrev pub mark_of_octet : ℕ → Mark
mark_of_octet octet = cond (eqb octet 0) NotOpened (cond (eqb octet 2) OpenedFirst Opened)

abbrev pub mark_at : List Mark → ℕ → Mark
mark_at marks i = get_or marks i NotOpened

-- the mark is that of an entry which opened
abbrev pub opens : Mark → Bool
opens NotOpened = false
opens Opened = true
opens OpenedFirst = true

-- the mark is that of an entry which opened under a key that chains start with
abbrev pub opens_first : Mark → Bool
opens_first NotOpened = false
opens_first Opened = false
opens_first OpenedFirst = true

abbrev pub is_opened : List Mark → ℕ → Bool
is_opened marks i = opens (mark_at marks i)

-- the marks say which entries opened under a key that chains start with
abbrev pub Roots : ℕ → List ℕ → List Mark → (ℕ → Bool) → Type 0
Roots n kwks marks is_root = (i : ℕ) → i < n → is_opened marks i ≡ true → is_root (oct kwks i) ≡ opens_first (mark_at marks i)

-- ---- levels
abbrev pub is_tried : List Bool → ℕ → Bool
is_tried tried i = get_or tried i false

abbrev pub first_level : Mark → ℕ
first_level NotOpened = 0
first_level Opened = 0
first_level OpenedFirst = 1

-- an entry of the lowest level that was not tried, or each with a level was
pub record LeastAt (n : ℕ) (levels : List ℕ) (tried : List Bool) (j : ℕ) : Type 0 where
  pub inside : j < n
  pub untried : is_tried tried j ≡ false
  pub some : 0 < oct levels j
  pub least : (i : ℕ) → i < n → is_tried tried i ≡ false → 0 < oct levels i → (oct levels i < oct levels j → ⊥)

abbrev pub FindsLeast : ℕ → List ℕ → List Bool → Option ℕ → Type 0
FindsLeast n levels tried (Some j) = LeastAt n levels tried j
FindsLeast n levels tried None = (i : ℕ) → i < n → is_tried tried i ≡ false → 0 < oct levels i → ⊥

abbrev pub next_level : ℕ → Mark → ℕ → ℕ → ℕ → ℕ
next_level level mark kwk id of = cond (eqb level 0 && (opens mark && eqb kwk id)) (of + 1) level

-- the levels of n entries with these numbers and marks
pub record HasLevels (n : ℕ) (ids kwks : List ℕ) (marks : List Mark) (levels : List ℕ) : Type 0 where
  pub within : (i : ℕ) → i < n → oct levels i ≤ n
  pub levelled : (is_root : ℕ → Bool) → Roots n kwks marks is_root →
      Levelled n (oct ids) (oct kwks) (is_opened marks) is_root (oct levels)

-- ---- the level of a key: that of the lowest entry which gives it, 0 if none does
pub record HasLevel (n : ℕ) (ids levels : List ℕ) (id level : ℕ) : Type 0 where
  pub none : level ≡ 0 → (j : ℕ) → j < n → oct ids j ≡ id → 0 < oct levels j → ⊥
  pub some : 0 < level → (j : ℕ) × (j < n) × (oct ids j ≡ id) × (oct levels j ≡ level)
  pub least : 0 < level → (j : ℕ) → j < n → oct ids j ≡ id → 0 < oct levels j → level ≤ oct levels j

-- ---- the way back: of the entries with a Key ID and a level, one with the lowest KWK ID
pub record PickedAt (n : ℕ) (ids kwks levels : List ℕ) (id level i : ℕ) : Type 0 where
  pub inside : i < n
  pub id-is : oct ids i ≡ id
  pub level-is : oct levels i ≡ level
  pub lowest : (j : ℕ) → j < n → oct ids j ≡ id → oct levels j ≡ level → oct kwks i ≤ oct kwks j

abbrev pub Picks : ℕ → List ℕ → List ℕ → List ℕ → ℕ → ℕ → Option ℕ → Type 0
Picks n ids kwks levels id level (Some i) = PickedAt n ids kwks levels id level i
Picks n ids kwks levels id level None = (j : ℕ) → j < n → oct ids j ≡ id → oct levels j ≡ level → ⊥

-- the first `count` places are inside; where the levels are those of n entries and `level` is that of the key, they are its path
pub record GoesBack (n : ℕ) (ids kwks levels : List ℕ) (id level : ℕ) (places : List ℕ) (count : ℕ) : Type 0 where
  pub few : count ≤ limits.wrap_keys
  pub inside : (i : ℕ) → i < count → oct places i < n
  pub reads : (mark_opened is_root : ℕ → Bool) → Levelled n (oct ids) (oct kwks) mark_opened is_root (oct levels) →
      Distance n (oct ids) is_root (oct levels) id level →
      ReadOff n (oct ids) (oct kwks) mark_opened is_root (oct levels) id level (take count places)
