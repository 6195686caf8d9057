use mathlib.Core.Path.{sym, ap, ◌∙◌}
use mathlib.Core.List.{List}
use Prim.Native.Nat.{ℕ}
use mir.Val.{Fits}
use mir.Syntax.{w64}
use lib.Bits.{bit_xor}
use Rattle.octets.specs.Numbers.{number}
use Rattle.octets.specs.Octets.{Octets}
use Rattle.fips197.specs.Cipher.{cipher}
use Rattle.sp800_38d.specs.Encryption.{hash_subkey}
use Rattle.gcm.specs.inner.Halves.{pair_number}
use Rattle.gcm.proofs.HashLaws.{added-blocks}
use Rattle.gcm.proofs.JoinLaws.{pair_is}
use Rattle.gcm.proofs.StreamLaws.{first-is}
use Rattle.gcm.proofs.TagLaws.{tag-number}
use Rattle.gcm.proofs.make_tag.Goals as goal

-- `gcm::make_tag` meets its contract.

pub returns : goal.returns
unfolding pair_number
returns c = λ key e.
    let a = c.args in
    let x = c.hash_all-s.result in
    let y = c.encipher_counter-m.result in
    let xh : Fits w64 x.hi = c.struct_known-1.given.0 in
    let yh : Fits w64 y.hi = c.struct_known-2-1.given.0 in
    let xl : Fits w64 x.lo = c.struct_known-3-1.given.1.0 in
    let yl : Fits w64 y.lo = c.struct_known-4-1.given.1.0 in
    let o : Octets a.nonce.now = λ i. (c.shared_slice_known-1.given i).fits in
    added-blocks x.hi x.lo y.hi y.lo xl.fits yl.fits
    ∙ ap (bit_xor (pair_number x)) (pair_is y.hi y.lo yh.fits yl.fits (c.encipher_counter-m.ensures key e)
    ∙ ap (λ (b : List ℕ). number 16 (cipher key b)) (sym (first-is a.nonce.now c.requires.nonce_len.0)))
    ∙ sym (tag-number key a.nonce.now e.key-is c.requires.nonce_len.0 o a.a.now a.c.now x.hi x.lo xh.fits xl.fits
    (c.hash_all-s.ensures (hash_subkey key) (c.make_subkey-w.ensures key e)))
