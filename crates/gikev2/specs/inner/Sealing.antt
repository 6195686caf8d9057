-- The key that a sealed frame is opened under, as the code finds it. Inner.
use Rattle.std.specs.Prelude.{◌≡◌, true}
use Rattle.state_keys.specs.Limits.{limits}
use Rattle.state_keys.specs.Algorithms.{is_encryption_size}
use Rattle.state_keys.specs.declared.kinds.EncryptionKey.{EncryptionKey}
use Rattle.state_table.specs.declared.Table.{Table}
use Rattle.state_table.specs.Table.{found_rekey}
use Rattle.rules_sealed.specs.SealingKey.{encryption_of_found}
use Rattle.state_keys.specs.Kinds.{encryption_or_blank}

pub record IsSealingKey (t : Table) (k : EncryptionKey) : Type 0 where
  pub is : k ≡ encryption_or_blank (encryption_of_found (found_rekey limits t))
  pub sized : is_encryption_size k.count ≡ true
