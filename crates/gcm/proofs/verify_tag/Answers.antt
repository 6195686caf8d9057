use mathlib.Core.Path.{ap, ap₂, ◌∙◌}
use mathlib.Core.List.{List}
use Prim.Native.Nat.{ℕ, ◌-◌}
use lib.Dec.{eqb}
use lib.ListN.{length}
use Rattle.octets.specs.Numbers.{number}
use Rattle.octets.specs.Octets.{Octets}
use Rattle.sp800_38d.specs.Encryption.{tag}
use Rattle.gcm.proofs.TagLaws.{judged, from_start}
use Rattle.gcm.proofs.verify_tag.Goals as goal

-- `gcm::verify_tag` meets its contract.

pub returns : goal.returns
returns c = λ key e.
    let a = c.args in
    let x = a.octets.now in
    let o : Octets a.nonce.now = λ i. (c.shared_slice_known-1.given i).fits in
    let p : Octets x = λ i. (c.shared_slice_known-3-1.given i).fits in
    judged key a.nonce.now e.key-is c.requires.nonce_len.0 o a.a.now x p c.requires.tag_octets_in_bounds.0 c.is_same.result
    (c.is_same.ensures
    ∙ ap₂ eqb (c.make_tag-made.ensures key e
    ∙ ap (λ (l : List ℕ). number 16 (tag key a.nonce.now a.a.now l)) (from_start x (length x - 16)))
    c.block_at-given.ensures)
