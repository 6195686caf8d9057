use mathlib.Core.Path.{ap, ◌∙◌}
use Prim.Native.Nat.{ℕ, ◌<◌}
use native.Mathlib.Omega.{arith}
use lib.ListN.{get_or}
use mir.Syntax.{w8}
use mir.Val.{Fits}
use Rattle.octets.specs.Numbers.{oct}
use Rattle.fips197.specs.Cipher.{cipher}
use Rattle.aes.specs.inner.Rounds.{state_octets, load_of, run_of}
use Rattle.aes.proofs.Enciphering.{loaded, enciphered, its-rounds}
use borrow.Author.Rules.{rules}
use Rattle.aes.proofs.encrypt.Goals as goal

-- `aes::encrypt` meets its contract.

pub run-requires : goal.run-requires
run-requires c =
    let b = its-rounds c.requires.expanded in
    (search rules, omega (arith, b.0), b.1)

pub returns : goal.returns
returns c = λ key x.
    let s = c.args.block in
    let l : (i : ℕ) → oct s i < 256 = λ i. let f : Fits w8 (get_or s i 0) = search rules in f.fits in
    c.store.ensures
    ∙ ap state_octets
    (c.run.ensures ∙ ap (run_of c.args.tables.now c.args.schedule.now) c.load.ensures)
    ∙ enciphered c.requires.tables_value x (load_of s) ∙ ap (cipher key) (loaded s (record { size = search rules; small = l }))
