-- The theorems that docs/CLAIMS.md cites under "Document 01: after acceptance".
use Prim.Native.Nat.{ℕ}
use mathlib.Core.Bool.{true, false}
use mathlib.Core.List.{Memᴰ}
use mathlib.Core.Path.{◌≡◌}
use Rattle.state_keys.specs.Limits.{Limits}
use Rattle.state_sa.specs.Entry.{due}
use Rattle.state_sa.specs.declared.entry.Sa.{Sa}
use Rattle.state_table.specs.Table.{table_formed, sas_of, swept}
use Rattle.state_table.specs.declared.Table.{Table}
use Rattle.state_table.proofs.Exactly as ofExactly

pub sweep-leaves : (limits : Limits) (t : Table) (f : table_formed limits t ≡ true) (now : ℕ) (s : Sa) →
    Memᴰ s (sas_of (swept limits now t)) → Memᴰ s (sas_of t) × (due now s ≡ false)
sweep-leaves = ofExactly.sweep-leaves

pub sweep-keeps : (limits : Limits) (t : Table) (f : table_formed limits t ≡ true) (now : ℕ) (s : Sa) → Memᴰ s (sas_of t) →
    due now s ≡ false → Memᴰ s (sas_of (swept limits now t))
sweep-keeps = ofExactly.sweep-keeps
