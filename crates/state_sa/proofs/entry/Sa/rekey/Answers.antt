use Rattle.std.proofs.Common.{◌+◌, arith}
use Rattle.state_keys.proofs.Sizes.{rekey-le}
use Rattle.state_sa.specs.Entry.{make_sa, rekey_protocol, rekey_sa}
use Rattle.state_sa.proofs.entry.Sa.rekey.Goals as goal

pub overflow_add-result : goal.overflow_add-result
overflow_add-result c = let b = rekey-le _ _ c.requires.1 in record { fits = omega arith }

pub returns : goal.returns
unfolding rekey_sa
returns c =
    let k = c.args.key in
    let b = c.blank.ensures in
    λ i. make_sa rekey_protocol (c.padded.ensures i) k.octets (k.encryption + k.wrapping) k.encryption k.wrapping
    (b i).condition c.args.lifetime
