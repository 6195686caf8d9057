use mathlib.Core.Path.{ap, ◌∙◌}
use Prim.Native.Nat.{ℕ, ◌<◌}
use native.Mathlib.Omega.{arith}
use lib.ListN.{get_or}
use mir.Syntax.{w8}
use mir.Val.{Fits}
use Rattle.octets.specs.Numbers.{oct}
use Rattle.fips197.specs.Cipher.{inv_cipher}
use Rattle.aes.specs.inner.Rounds.{state_octets, load_of, swapped_of, run_of}
use Rattle.aes.proofs.Enciphering.{loaded}
use Rattle.aes.proofs.Deciphering.{deciphered, its-inverse-rounds}
use borrow.Author.Rules.{rules}
use Rattle.aes.proofs.decrypt.Goals as goal

-- `aes::decrypt` meets its contract.

pub run-requires : goal.run-requires
run-requires c =
    let b = its-inverse-rounds c.requires.expanded_inverse in
    (search rules, omega (arith, b.0), b.1)

pub returns : goal.returns
returns c = λ key x.
    let s = c.args.block in
    let l : (i : ℕ) → oct s i < 256 = λ i. let f : Fits w8 (get_or s i 0) = search rules in f.fits in
    c.store.ensures
    ∙ ap state_octets
    (c.reverse_columns-2.ensures
    ∙ ap swapped_of
    (c.run.ensures
    ∙ ap (run_of c.args.tables.now c.args.schedule.now)
    (c.reverse_columns.ensures ∙ ap swapped_of c.load.ensures)))
    ∙ deciphered c.requires.tables_value x (load_of s) ∙ ap (inv_cipher key) (loaded s (record { size = search rules; small = l }))
