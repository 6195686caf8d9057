-- "A member value that breaks this list is swept to itself and answers none to every question": a value for each way to break it, computed,
-- and values that do not break it though they look so.
use Prim.Native.Nat.{ℕ, ◌+◌}
use mathlib.Core.Path.{◌≡◌, refl}
use mathlib.Core.Bool.{Bool, true, false}
use mathlib.Core.List.{List, [], ◌∷◌, map}
use lib.ListN.{replicate}
use Rattle.octets.specs.Compare.{order_of, less}
use Rattle.lists.specs.Lists.{all, any, count, heads, rising}
use Rattle.state_keys.specs.Limits.{limits}
use Rattle.state_keys.specs.Algorithms.{size_of}
use Rattle.state_keys.specs.Kinds.{padded, wrapping_of, rekey_sizes}
use Rattle.state_sa.specs.Entry.{esp_protocol, rekey_protocol, make_sa, sa_before, sa_sized, sa_formed, live_rekey}
use Rattle.state_sa.specs.declared.entry.Condition.{Condition}
use Rattle.state_sa.specs.declared.entry.Condition.TheVariants.{Live, Retiring}
use Rattle.state_sa.specs.declared.entry.Lifetime.TheVariants.{Unlimited, Limited}
use Rattle.state_sa.specs.declared.entry.Sa.{Sa}
use Rattle.state_table.specs.Table.{table_of, table_formed, none}
use Rattle.state_table.specs.declared.Table.{Table}
use Rattle.state.specs.declared.State.{State}
use Rattle.state.specs.declared.held.Held.{Held}
use Rattle.state.specs.declared.held.HeldKey.{HeldKey}
use Rattle.state.specs.declared.least.Least.TheVariants.{Id}
use Rattle.state.specs.Held.{held_of, key_formed, distinct, held_formed}
use Rattle.state.specs.State.{state_formed, swept_state, asked_sa}

-- ---- SAs: of a protocol, with an SPI that ends in n, so many keying octets, and parts of e and w octets
abbrev sa : ℕ → ℕ → ℕ → ℕ → ℕ → Condition → Sa
sa p n count e w c = make_sa p (padded 16 (0 ∷ 0 ∷ 0 ∷ n ∷ [])) (replicate 68 5) count e w c Unlimited

-- an SA that a sweep would take from its table, so that a value is seen to be kept
abbrev retiring : Condition
retiring = Retiring 0 1

abbrev esp_sa : ℕ → Sa
esp_sa n = sa esp_protocol n 20 0 0 retiring

abbrev rekey_sa : ℕ → Condition → Sa
rekey_sa n c = sa rekey_protocol n 36 20 16 c

-- an ESP SA with a lifetime of so many seconds
abbrev lasting : ℕ → Sa
lasting n = make_sa esp_protocol (padded 16 (0 ∷ 0 ∷ 0 ∷ 1 ∷ [])) (replicate 68 5) 20 0 0 retiring (Limited 0 n)

-- a Rekey SA of 44 octets in parts of e and w
abbrev cut : ℕ → ℕ → Sa
cut e w = sa rekey_protocol 1 44 e w retiring

-- ---- held keys: a Key ID and a value of n octets
abbrev key : ℕ → ℕ → HeldKey
key i n = record { id = i; key = wrapping_of (replicate n 1) }

-- ---- values
abbrev value : Table → Held → State
value t h = record { table = t; held = h; least = Id 0; profile = true }

abbrev of_sas : List Sa → State
of_sas l = value (table_of limits l) (held_of limits [])

abbrev of_keys : List HeldKey → State
of_keys l = value (table_of limits (esp_sa 1 ∷ [])) (held_of limits l)

abbrev pub broken_values : List State
broken_values =
    -- "a table of at most 16 SAs" (T-01: 64): a count above the places
    value (record { sas = (table_of limits (esp_sa 1 ∷ [])).sas; count = limits.sas + 1 }) (held_of limits []) ∷
    -- "protocol (3 or 6)"
    of_sas (sa 0 1 20 0 0 retiring ∷ []) ∷
    of_sas (sa 2 1 20 0 0 retiring ∷ []) ∷
    of_sas (sa 4 1 20 0 0 retiring ∷ []) ∷
    -- "strictly rising by protocol, then SPI octets": a name twice, falling SPIs, Rekey before ESP
    of_sas (esp_sa 1 ∷ esp_sa 1 ∷ []) ∷
    of_sas (rekey_sa 1 retiring ∷ rekey_sa 1 Live ∷ []) ∷
    of_sas (esp_sa 2 ∷ esp_sa 1 ∷ []) ∷
    of_sas (rekey_sa 1 retiring ∷ esp_sa 1 ∷ []) ∷
    -- "keying octets of a size the table below needs": an ESP SA's of a wrapping key's size, or of a Rekey SA's
    of_sas (sa esp_protocol 1 24 0 0 retiring ∷ []) ∷
    of_sas (sa esp_protocol 1 36 20 16 retiring ∷ sa esp_protocol 2 44 28 16 retiring ∷ []) ∷
    -- "a Rekey SA also the octet counts of their two parts": parts that do not sum, parts exchanged, one part alone, none
    of_sas (cut 20 16 ∷ []) ∷
    of_sas (cut 28 24 ∷ []) ∷
    of_sas (cut 24 20 ∷ []) ∷
    of_sas (cut 16 28 ∷ []) ∷
    of_sas (sa rekey_protocol 1 36 36 0 retiring ∷ []) ∷
    of_sas (sa rekey_protocol 1 0 0 0 retiring ∷ []) ∷
    -- "at most one Rekey SA is live"
    of_sas (esp_sa 1 ∷ rekey_sa 1 Live ∷ rekey_sa 2 Live ∷ []) ∷
    -- a lifetime of "at most 2,000,000 seconds" (document 02, T-07)
    of_sas (lasting 2000001 ∷ []) ∷
    of_sas (lasting 4294967295 ∷ rekey_sa 1 Live ∷ []) ∷
    -- "a held list of at most 32 wrapping keys" (T-01: 128): a count above the places
    value (table_of limits (esp_sa 1 ∷ [])) (record { keys = (held_of limits []).keys; count = limits.held_keys + 1 }) ∷
    -- Key IDs "distinct" (document 02, T-04), "none 0": one twice, side by side and apart, with one value and with two; 0
    of_keys (key 5 16 ∷ key 5 16 ∷ []) ∷
    of_keys (key 9 16 ∷ key 5 16 ∷ key 9 24 ∷ []) ∷
    of_keys (key 5 16 ∷ key 0 16 ∷ []) ∷
    -- "values of 16, 24 or 32 octets"
    of_keys (key 5 20 ∷ []) ∷
    of_keys (key 5 16 ∷ key 9 0 ∷ []) ∷
    []

-- 44 octets are 20 + 24 and 28 + 16; a Rekey SA that retires beside one that is live; the longest lifetime; values of different sizes; Key
-- IDs "no longer rising" (T-04); what stands past a count is not looked at
abbrev pub fit_values : List State
fit_values =
    of_sas (cut 20 24 ∷ []) ∷
    of_sas (cut 28 16 ∷ []) ∷
    of_sas (esp_sa 1 ∷ rekey_sa 1 retiring ∷ rekey_sa 2 Live ∷ []) ∷
    of_sas (lasting 2000000 ∷ []) ∷
    of_keys (key 5 16 ∷ key 9 24 ∷ key 10 32 ∷ []) ∷
    of_keys (key 9 16 ∷ key 5 16 ∷ key 7 16 ∷ []) ∷
    value (record { sas = (table_of limits (esp_sa 2 ∷ esp_sa 1 ∷ sa 4 1 1 1 1 Live ∷ [])).sas; count = 1 })
    (record { keys = (held_of limits (key 5 16 ∷ key 5 16 ∷ key 0 20 ∷ [])).keys; count = 1 }) ∷
    []

-- ---- the claims
abbrev pub Formed : Bool → List State → Type 0
Formed b l = map (state_formed limits) l ≡ map (λ (s : State). b) l

pub record BrokenKept (l : List State) : Type 0 where
  pub broken : Formed false l
  -- "is swept to itself", at every tick
  pub swept : (now : ℕ) → map (swept_state limits now) l ≡ l
  -- "and answers none to every question": of every protocol and SPI
  pub asked : (p : ℕ) (x : List ℕ) → map (asked_sa limits p x) l ≡ map (λ (s : State). none) l

pub broken-kept : BrokenKept broken_values
unfolding state_formed swept_state asked_sa table_of table_formed held_of held_formed key_formed distinct sa_formed sa_sized sa_before less order_of
    live_rekey rekey_sizes size_of all any count heads rising
broken-kept = record { broken = refl; swept = λ now. refl; asked = λ p x. refl }

pub fit-formed : Formed true fit_values
unfolding state_formed table_of table_formed held_of held_formed key_formed distinct sa_formed sa_sized sa_before less order_of live_rekey rekey_sizes
    size_of all any count heads rising
fit-formed = refl
