use native.Mathlib.Omega.{arith}
use mathlib.Core.Path.{◌∙◌}
use Rattle.octets.proofs.RoundTrip.{high-first}
use Rattle.sealing.proofs.CopyLaws.{header_made}
use Rattle.sealing.proofs.writing.make_header.Goals as goal

-- `sealing::writing::make_header` meets its contract.

pub returns : goal.returns
returns c =
    let a = c.args in
    header_made a.frame.now (omega (arith, c.requires.0)) a.size c.copy.ensures.1
    (c.copy_from_slice.ensures.after ∙ c.to_be_bytes.ensures ∙ high-first 4 a.size)
