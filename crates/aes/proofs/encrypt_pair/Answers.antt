use mathlib.Core.Path.{ap, ◌∙◌}
use native.Mathlib.Omega.{arith}
use Rattle.fips197.specs.Cipher.{cipher}
use Rattle.aes.specs.inner.Rounds.{state_octets, split_of, run_of}
use Rattle.aes.proofs.Pairs.{halved, united}
use Rattle.aes.proofs.Enciphering.{enciphered, its-rounds}
use borrow.Author.Rules.{rules}
use Rattle.aes.proofs.encrypt_pair.Goals as goal

-- `aes::encrypt_pair` meets its contract.

pub run-requires : goal.run-requires
run-requires c =
    let b = its-rounds c.requires.expanded in
    (search rules, omega (arith, b.0), b.1)

pub returns : goal.returns
returns c = λ key x.
    let e = c.args in
    united c.run.result c.unite.ensures
    ∙ ap state_octets (c.run.ensures ∙ ap (run_of e.tables.now e.schedule.now) c.split.ensures)
    ∙ enciphered c.requires.tables_value x (split_of e.hi e.lo) ∙ ap (cipher key) (halved e.hi e.lo)
