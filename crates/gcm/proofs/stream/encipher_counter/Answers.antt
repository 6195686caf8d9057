use mathlib.Core.Path.{refl, ap, ◌∙◌}
use Rattle.fips197.specs.Cipher.{cipher}
use Rattle.gcm.proofs.StreamLaws.{block_made}
use Rattle.gcm.proofs.stream.encipher_counter.Goals as goal

-- `gcm::stream::encipher_counter` meets its contract.

pub returns : goal.returns
returns c = λ key e.
    let a = c.args in
    c.encrypt_pair.ensures key e
    ∙ ap (cipher key)
    (block_made a.nonce.now c.requires.nonce_len.0 a.n c.requires.nonce_len.1 (λ i. (c.shared_slice_known-1.given i).fits) c.be64_at-high.ensures
    c.be32_at.ensures refl refl)
