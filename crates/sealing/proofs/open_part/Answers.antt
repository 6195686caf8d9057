use borrow.Author.Rules.{rules}
use mathlib.Core.Path.{refl, subst}
use mathlib.Core.List.{List}
use Prim.Native.Nat.{ℕ, ◌-◌}
use native.Mathlib.Omega.{arith}
use lib.ListN.{length}
use Rattle.aes.specs.inner.Schedule.{Expands}
use Rattle.rfc5282.specs.Number10.{short-body}
use Rattle.rfc5282.proofs.OuterLaws.{outer-is}
use Rattle.sealing.proofs.UnderLaws.{from_start, key-size}
use Rattle.sealing.proofs.open_part.Goals as goal

-- `sealing::open_part` meets its contract.

pub returns-then-frame-lt-CIPHERTEXT_AT : goal.returns-then-frame-lt-CIPHERTEXT_AT
returns-then-frame-lt-CIPHERTEXT_AT c =
    let o = outer-is c.args.frame.now c.requires.frame_value in
    record { clause = short-body (omega (arith, o.least, c.if-frame-lt-CIPHERTEXT_AT.true)); room-is = refl }

pub expand-schedule-requires : goal.expand-schedule-requires
expand-schedule-requires c =
    record {
      tables_value = c.tables-tables.ensures;
      t = key-size c.args.part.now c.requires.salt_octets_in_bounds.0 c.requires.salt_octets_in_bounds.1;
    }

pub open_under-requires : goal.open_under-requires
open_under-requires c =
    record {
      tables_value = (c.tables-tables.ensures, record { key = _; expands = c.expand-schedule.ensures });
      nonce_len = (search rules, c.requires.frame_value);
    }

pub returns : goal.returns
returns c =
    let a = c.args in
    c.open_under.ensures a.part.now c.make_nonce-nonce.ensures
    (subst (λ (k : List ℕ). Expands k c.expand-schedule.result.words) (from_start a.part.now (length a.part.now - 4))
    c.expand-schedule.ensures)
