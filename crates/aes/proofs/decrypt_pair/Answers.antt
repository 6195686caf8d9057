use mathlib.Core.Path.{ap, ◌∙◌}
use native.Mathlib.Omega.{arith}
use Rattle.fips197.specs.Cipher.{inv_cipher}
use Rattle.aes.specs.inner.Rounds.{state_octets, split_of, swapped_of, run_of}
use Rattle.aes.proofs.Pairs.{halved, united}
use Rattle.aes.proofs.Deciphering.{deciphered, its-inverse-rounds}
use borrow.Author.Rules.{rules}
use Rattle.aes.proofs.decrypt_pair.Goals as goal

-- `aes::decrypt_pair` meets its contract.

pub run-requires : goal.run-requires
run-requires c =
    let b = its-inverse-rounds c.requires.expanded_inverse in
    (search rules, omega (arith, b.0), b.1)

pub returns : goal.returns
returns c = λ key x.
    let e = c.args in
    united c.reverse_columns-2.result c.unite.ensures
    ∙ ap state_octets
    (c.reverse_columns-2.ensures
    ∙ ap swapped_of
    (c.run.ensures
    ∙ ap (run_of e.tables.now e.schedule.now)
    (c.reverse_columns.ensures ∙ ap swapped_of c.split.ensures)))
    ∙ deciphered c.requires.tables_value x (split_of e.hi e.lo) ∙ ap (inv_cipher key) (halved e.hi e.lo)
