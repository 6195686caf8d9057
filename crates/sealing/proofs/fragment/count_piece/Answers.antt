use borrow.Author.Rules.{rules}
use mathlib.Core.Path.{subst}
use mathlib.Core.List.{List}
use Prim.Native.Nat.{ℕ, ◌-◌}
use native.Mathlib.Omega.{arith}
use lib.ListN.{length}
use Rattle.aes.specs.inner.Schedule.{Expands}
use Rattle.rfc5282.specs.Number10.{short-body}
use Rattle.rfc5282.proofs.FragmentLaws.{fragment-is}
use Rattle.sealing.proofs.UnderLaws.{from_start, key-size}
use Rattle.sealing.proofs.fragment.count_piece.Goals as goal

-- `sealing::fragment::count_piece` meets its contract.

pub returns-then-frame : goal.returns-then-frame
returns-then-frame c =
    let f = fragment-is c.args.frame.now c.requires.frame_value in
    λ room. short-body (omega (arith, f.body, c.if-frame.true))

pub expand-schedule-requires : goal.expand-schedule-requires
expand-schedule-requires c =
    record {
      tables_value = c.tables-tables.ensures;
      t = key-size c.args.part.now c.requires.salt_octets_in_bounds.0 c.requires.salt_octets_in_bounds.1;
    }

pub judge_body-requires : goal.judge_body-requires
judge_body-requires c =
    let f = fragment-is c.args.frame.now c.requires.frame_value in
    record {
      tables_value = (c.tables-tables.ensures, record { key = _; expands = c.expand-schedule.ensures });
      nonce_len = (search rules, f.body, f.frame.most);
    }

pub returns : goal.returns
returns c =
    let a = c.args in
    c.judge_body.ensures.1 a.part.now c.make_nonce-nonce.ensures
    (subst (λ (k : List ℕ). Expands k c.expand-schedule.result.words) (from_start a.part.now (length a.part.now - 4))
    c.expand-schedule.ensures)
