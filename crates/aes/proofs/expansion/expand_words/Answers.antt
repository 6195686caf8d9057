use mathlib.Core.Path.{refl}
use Prim.Native.Nat.{◌/◌, ◌%◌, ◌<◌}
use lib.ListN.{length}
use native.Mathlib.Omega.{arith}
use native.Mathlib.Nat.{mod-lt}
use Rattle.fips197.proofs.Expansion.{sizes}
use Rattle.aes.proofs.Growing.{first-place, grown-more, from-words, all_words}
use Rattle.aes.proofs.expansion.expand_words.Goals as goal

-- `aes::expansion::expand_words` meets its contract. The words of the key stand in the array, then those up to i.

pub loop-i-init : goal.loop-i-init
loop-i-init c =
    let k = c.args.key.now in
    let z = sizes (length k) c.requires.t in (
      omega (arith, z.least),
      omega (arith, z.most),
      c.key_words-w.ensures,
      first-place (length k / 4) (omega (arith, z.least)),
    )

pub next_place-p-requires : goal.next_place-p-requires
next_place-p-requires c =
    let nk = length c.args.key.now / 4 in
    let h : c.loop-i.i % nk < nk = mod-lt c.loop-i.i (omega arith) in
    omega (arith, c.loop-i.invariant.3.among, h)

pub loop-i-preserved : goal.loop-i-preserved
loop-i-preserved c =
    let k = c.args.key.now in
    let g = c.loop-i.invariant.2 in (
      c.loop-i.invariant.0,
      c.loop-i.invariant.1,
      grown-more k _ g (omega arith)
          (from-words k c.requires.t (λ i. (c.shared_slice_known-2-1.given i).fits) c.loop-i.i (length k / 4) refl
          (omega arith) c.loop-i-test.true g c.temp_at.result
          (λ e. c.temp_at.ensures e c.loop-i.i c.loop-i.invariant.3)),
      c.next_place-p.ensures c.loop-i.i (omega arith) c.loop-i.invariant.3,
    )

pub returns : goal.returns
returns c =
    let k = c.args.key.now in
    all_words k c.requires.t (λ i. (c.shared_slice_known-2-1.given i).fits) (length k / 4) c.loop-i.i refl
    c.loop-i-test.false (omega arith) (omega arith) c.loop-i.invariant.2
