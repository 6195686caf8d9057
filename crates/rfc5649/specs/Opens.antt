-- Document 01, "Which keys a chain reaches": "An entry or copy opens under a key to given octets exactly when wrapping those octets, 1 to
-- 256, by RFC 5649 under that key yields its wrapped ones."
use Rattle.std.specs.Prelude.{◌≡◌, ℕ, ◌≤◌, List, length}
use Rattle.octets.specs.Octets.{Octets}
use Rattle.rfc5649.specs.Wrap.{wrap_of}

-- `wrapped` opens under `key` to x
pub record Opens (key wrapped x : List ℕ) : Type 0 where
  pub least : 1 ≤ length x
  pub most : length x ≤ 256
  pub octets : Octets x
  pub wraps : wrap_of key x ≡ wrapped
