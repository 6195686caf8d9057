use Rattle.rules_refusals.specs.Contents.{deletes_of}
use Rattle.apply.proofs.NextLaws.{gone-is}
use Rattle.apply.proofs.next.old_sas.Goals as goal

pub keep_standing-stand-requires : goal.keep_standing-stand-requires
keep_standing-stand-requires c = c.requires.count_le_sas

pub retired_by_frame-requires : goal.retired_by_frame-requires
retired_by_frame-requires c = let p = c.requires.told in (deletes_of p.0, p.1.deletes)

pub returns : goal.returns
returns c =
    let a = c.args in
    λ f m q k.
    gone-is a.s.now a.tick a.x a.t c.keep_standing-stand.result c.retired_by_frame.result c.requires.count_le_sas
    c.keep_standing-stand.ensures
    c.retired_by_frame.ensures f m q k
