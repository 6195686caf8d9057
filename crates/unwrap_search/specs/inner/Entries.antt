-- An array of places in a frame stands for a list of WRAP_KEY entries.
use Rattle.std.specs.Prelude.{ℕ, ◌≤◌, ◌<◌, ◌≡◌, List, [], length, get_or}
use Rattle.octets.specs.Walk.{part}
use Rattle.wire_attributes.specs.Tree.{WrapKey}
use Rattle.state_keys.specs.Limits.{limits}
use Rattle.unwrap_search.specs.declared.open.Entry.{Entry}

abbrev pub no_entry : Entry
no_entry = record { id = 0; kwk = 0; start = 0; end = 0 }

abbrev pub no_wrap_key : WrapKey
no_wrap_key = record { key_id = 0; kwk_id = 0; wrapped = [] }

-- c has the Key ID and the KWK ID of e, and the wrapped octets of e stand in the frame from `start` up to `end`
pub record IsEntry (frame : List ℕ) (c : Entry) (e : WrapKey) : Type 0 where
  pub id : c.id ≡ e.key_id
  pub kwk : c.kwk ≡ e.kwk_id
  pub starts : c.start ≤ c.end
  pub ends : c.end ≤ length frame
  pub octets : part frame c.start c.end ≡ e.wrapped

-- the first n of the array `cells` stand for `entries`, in their order
pub record Lists (frame : List ℕ) (cells : List Entry) (n : ℕ) (entries : List WrapKey) : Type 0 where
  pub count : length entries ≡ n
  pub within : n ≤ limits.wrap_keys
  pub at : (i : ℕ) → i < n → IsEntry frame (get_or cells i no_entry) (get_or entries i no_wrap_key)
