use mathlib.Core.Path.{◌≡◌, subst}
use Prim.Native.Nat.{◌/◌}
use lib.ListN.{length}
use native.Mathlib.Omega.{arith}
use Rattle.fips197.proofs.Expansion.{sizes}
use Rattle.aes.specs.inner.Expanding.{ExpandedTo}
use Rattle.aes.proofs.Growing.{grown-none, grown-more, from_key}
use Rattle.aes.proofs.expansion.key_words.Goals as goal

-- `aes::expansion::key_words` meets its contract.

pub loop-j-init : goal.loop-j-init
loop-j-init c =
    let z = sizes (length c.args.key.now) c.requires in
    (omega (arith, z.least), omega (arith, z.most), grown-none c.args.key.now)

pub loop-j-preserved : goal.loop-j-preserved
loop-j-preserved c =
    let k = c.args.key.now in (
      c.loop-j.invariant.0,
      c.loop-j.invariant.1,
      grown-more k c.join.result c.loop-j.invariant.2 (omega arith)
          (from_key k c.requires (λ i. (c.shared_slice_known-1.given i).fits) c.loop-j.j c.join.result
          (omega arith) c.join.ensures),
    )

pub returns : goal.returns
returns c =
    let k = c.args.key.now in
    let e : c.loop-j.j ≡ length k / 4 = omega arith in
    subst (ExpandedTo k c.loop-j.w) e c.loop-j.invariant.2
