use Rattle.state_sa.specs.Entry.{make_sa, esp_protocol, esp_sa}
use Rattle.state_sa.proofs.entry.Sa.esp.Goals as goal

pub returns : goal.returns
unfolding esp_sa
returns c =
    let a = c.args in
    let b = c.blank.ensures in
    λ i. make_sa esp_protocol (c.padded.ensures i) (c.padded-2.ensures i) a.key.count (b i).encryption (b i).wrapping
    (b i).condition a.lifetime
