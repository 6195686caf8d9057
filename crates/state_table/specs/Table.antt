-- "A table of at most 16 SAs, strictly rising by protocol (3 or 6), then SPI octets ... At most one Rekey SA is live." By document 02,
-- T-01, at most 64.
use Rattle.std.specs.Prelude.{ℕ, ◌-◌, Bool, cond, not, ◌&&◌, List, ◌++◌, leb, length, take, replicate, Option, None, option_and_then}
use Rattle.std.specs.List.{find}
use Rattle.lists.specs.Lists.{all, count, keep, rising}
use Rattle.state_keys.specs.Limits.{Limits}
use Rattle.state_keys.specs.Kinds.{key_wrap_part}
use Rattle.state_keys.specs.declared.kinds.WrappingKey.{WrappingKey}
use Rattle.state_sa.specs.Entry.{sa_before, named, sa_formed, live_rekey, due, retired, keying_of, blank_sa}
use Rattle.state_sa.specs.declared.entry.Sa.{Sa}
use Rattle.state_table.specs.declared.Table.{Table}

-- the SAs of the table: the first places, as many as its count says
abbrev pub sas_of : Table → List Sa
sas_of t = take t.count t.sas

-- the table of these SAs, with blank places behind them
unfoldable pub table_of : Limits → List Sa → Table
table_of limits l = record { sas = l ++ replicate (limits.sas - length l) blank_sa; count = length l }

-- the table is as a member's must be
unfoldable pub table_formed : Limits → Table → Bool
table_formed limits t =
    leb t.count limits.sas && (all sa_formed (sas_of t) && (rising sa_before (sas_of t) && leb (count live_rekey (sas_of t)) 1))

-- the table with f applied to its SAs; a table whose count is over the limit stays as it is
unfoldable pub changed : Limits → (List Sa → List Sa) → Table → Table
changed limits f t = cond (leb t.count limits.sas) (table_of limits (f (sas_of t))) t

-- "SAs due at the tick go", the others stay
abbrev pub stays : ℕ → Sa → Bool
stays now s = not (due now s)

abbrev pub not_due : ℕ → List Sa → List Sa
not_due now l = keep (stays now) l

unfoldable pub swept : Limits → ℕ → Table → Table
swept limits now t = changed limits (not_due now) t

-- "A member is empty when every SA in its table, if any, is due at the tick"
unfoldable pub empty_at : Limits → ℕ → Table → Bool
empty_at limits now t = leb t.count limits.sas && all (due now) (sas_of t)

-- an SA that passes the test p retires at the tick now with a delay; another stays as it is
unfoldable pub retired_if : (Sa → Bool) → ℕ → ℕ → Sa → Sa
retired_if p now delay s = cond (p s) (retired now delay s) s

-- the answer where no SA is found
abbrev pub none : Option Sa
none = None

-- the first SA of a list that passes the test p, or none
unfoldable pub the_one : (Sa → Bool) → List Sa → Option Sa
the_one p l = find p l

-- the same in a table; one whose count is over the limit has none
unfoldable pub found_in_table : Limits → (Sa → Bool) → Table → Option Sa
found_in_table limits p t = cond (leb t.count limits.sas) (the_one p (sas_of t)) none

-- "the SA with a given protocol and SPI, or none"
unfoldable pub found_sa : Limits → ℕ → List ℕ → Table → Option Sa
found_sa limits p x t = found_in_table limits (named p x) t

-- "the live Rekey SA", and "the default key of the live Rekey SA: the key wrap part of its keying octets"
unfoldable pub found_rekey : Limits → Table → Option Sa
found_rekey limits t = found_in_table limits live_rekey t

unfoldable pub key_wrap_part_of : Option Sa → Option WrappingKey
key_wrap_part_of f = option_and_then (λ (s : Sa). key_wrap_part (keying_of s)) f

unfoldable pub default_key : Limits → Table → Option WrappingKey
default_key limits t = key_wrap_part_of (found_rekey limits t)
