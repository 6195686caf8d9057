use Rattle.sealing.proofs.CopyLaws.{nonce-made}
use Rattle.sealing.proofs.body.make_nonce.Goals as goal

-- `sealing::body::make_nonce` meets its contract.

pub returns : goal.returns
returns c =
    let a = c.args in
    nonce-made a.at a.part.now a.frame.now c.requires.0 c.requires.1 c.copy.ensures.1 c.copy-2.ensures.1
