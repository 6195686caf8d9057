use native.Mathlib.Omega.{arith}
use mathlib.Core.Path.{sym, ◌∙◌}
use Rattle.fragments.specs.Collection.{counted}
use Rattle.fragments.specs.inner.FitWaiting.{LongCollection}
use Rattle.fragments.proofs.PlaceLaws.{told-anew, kept-few, kept_small, told-kept}
use Rattle.fragments.proofs.Collection.place.Goals as goal

pub shared_ref_as_front-frame_octets : goal.shared_ref_as_front-frame_octets
shared_ref_as_front-frame_octets c =
    let a = c.args.self in
    omega (arith, kept-few a c.args.f c.requires (sym c.in-Kept.is ∙ c.case-case.ensures))

pub by_size-requires-in-Kept : goal.by_size-requires-in-Kept
by_size-requires-in-Kept c =
    kept_small c.args.self c.args.f c.requires
    (sym c.in-Kept.is ∙ c.case-case.ensures) c.frame_octets-octets.result c.frame_octets-octets.ensures

pub returns-in-Anew : goal.returns-in-Anew
returns-in-Anew c =
    λ piece z.
    let a = c.args in
    told-anew (counted a.self) a.f piece a.size c.by_size.result (sym c.in-Anew.is ∙ c.case-case.ensures) z
    c.by_size.ensures

pub returns-in-Kept : goal.returns-in-Kept
returns-in-Kept c =
    λ piece z.
    let a = c.args.self in
    let long : LongCollection a = record { spis-size = omega arith; pieces-size = omega arith; octets-size = omega arith } in
    told-kept a c.args.f c.requires (sym c.in-Kept.is ∙ c.case-case.ensures) long piece
    c.frame_octets-octets.result c.args.size c.by_size-in-Kept.result c.frame_octets-octets.ensures z c.by_size-in-Kept.ensures
