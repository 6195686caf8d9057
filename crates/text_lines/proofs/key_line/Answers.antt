use mathlib.Core.Path.{sym}
use lib.ListN.{replicate}
use Rattle.text_rules.proofs.InputLaws.{key-taken, key-other}
use Rattle.text_lines.proofs.RoomLaws.{put_as, put-none}
use Rattle.text_lines.proofs.key_line.Goals as goal

-- `text_lines::key_line` meets its contract.

pub returns-then-not-is_taken : goal.returns-then-not-is_taken
returns-then-not-is_taken c =
    put_as (sym (key-other c.args.line.now (sym c.if-not-is_taken.ensures))) (put-none (replicate 32 0) 0)

pub returns : goal.returns
returns c = put_as (sym (key-taken c.args.line.now (sym c.if-not-is_taken.ensures))) c.put_octets-len.ensures
