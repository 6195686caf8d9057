use Rattle.text_refusals.proofs.WholeLaws.{is-whole}
use Rattle.text_refusals.proofs.put_applying.Goals as goal

pub of_frame-requires : goal.of_frame-requires
of_frame-requires g c =
    let r = c.frame_layout in
    is-whole _ r.result r.ensures.layout c.in-Ok.is
