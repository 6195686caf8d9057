use native.Mathlib.Omega.{arith}
use mathlib.Core.Path.{ap, sym, ◌∙◌}
use mathlib.Core.Bool.{false}
use mathlib.Core.List.{[]}
use Rattle.wire_frames.specs.Exchange.{exchange_of}
use Rattle.wire_frames.proofs.FrameGrammar.{read-frame}
use Rattle.check_payloads.proofs.FrameLaws.{reads-to, long}
use Rattle.check_payloads.proofs.FoundLaws.{OfFrame, facts-of}
use Rattle.check_pairing.proofs.NamesOf.{policy-names, bag-names}
use Rattle.check_judging.specs.declared.facts.Facts.{Facts}
use borrow.Author.Rules.{rules}
use Rattle.text_refusals.proofs.of_frame.Statement.{statement}
use Rattle.text_refusals.proofs.of_frame.Tie as tie

shared-slice-read-wide : tie.Need-bounds-s-18
shared-slice-read-wide c = let l = long false c.args.s.now c.requires in omega arith

wide-requires : tie.Need-wide-requires
wide-requires c κs = search rules

exchange-of-requires : tie.Need-exchange_of-row-requires
exchange-of-requires c κs = search rules

facts-of-requires : tie.Need-facts_of-x-requires
facts-of-requires c κs = (
  c.requires,
  λ f q.
      sym (c.exchange_of-row.ensures
      ∙ ap exchange_of (c.wide.ensures.0 ∙ (read-frame false c.args.s.now f [] q).exchange)),
)

-- the bodies of GSA and KD
own : (c : tie.After-k-1)
    → OfFrame false c.args.s.now (reads-to false c.args.s.now c.requires).0 c.facts_of-x.result.payloads
own c =
    let f = reads-to false c.args.s.now c.requires in
    facts-of false c.args.s.now c.facts_of-x.result.payloads (ap (λ (y : Facts). y.payloads) c.facts_of-x.ensures) f.0 f.1

sub-any-unpaired : tie.Need-slice_bounds-any_unpaired-count
sub-any-unpaired c = (own c).gsa_order

part-any-unpaired-start : tie.Need-slice_bounds-any_unpaired-start
part-any-unpaired-start c = (own c).gsa_order

part-any-unpaired-end : tie.Need-slice_bounds-any_unpaired-end
part-any-unpaired-end c = (own c).gsa_inside

sub-any-unpaired-2 : tie.Need-slice_bounds-any_unpaired-count-2
sub-any-unpaired-2 c = (own c.before).kd_order

part-any-unpaired-start-2 : tie.Need-slice_bounds-any_unpaired-start-2
part-any-unpaired-start-2 c = (own c.before).kd_order

part-any-unpaired-end-2 : tie.Need-slice_bounds-any_unpaired-end-2
part-any-unpaired-end-2 c = (own c.before).kd_inside

any-unpaired-requires : tie.Need-any_unpaired-policies-requires
any-unpaired-requires c κs = let i = own c.before.before in ((_, policy-names _ i.gsa_whole), (_, bag-names _ _ i.kd_whole))

sub-any-unpaired-3 : tie.Need-slice_bounds-any_unpaired-count-3
sub-any-unpaired-3 c = (own c.before.before.before).kd_order

part-any-unpaired-start-3 : tie.Need-slice_bounds-any_unpaired-start-3
part-any-unpaired-start-3 c = (own c.before.before.before).kd_order

part-any-unpaired-end-3 : tie.Need-slice_bounds-any_unpaired-end-3
part-any-unpaired-end-3 c = (own c.before.before.before).kd_inside

sub-any-unpaired-4 : tie.Need-slice_bounds-any_unpaired-count-4
sub-any-unpaired-4 c = (own c.before.before.before.before).gsa_order

part-any-unpaired-start-4 : tie.Need-slice_bounds-any_unpaired-start-4
part-any-unpaired-start-4 c = (own c.before.before.before.before).gsa_order

part-any-unpaired-end-4 : tie.Need-slice_bounds-any_unpaired-end-4
part-any-unpaired-end-4 c = (own c.before.before.before.before).gsa_inside

any-unpaired-requires-2 : tie.Need-any_unpaired-bags-requires
any-unpaired-requires-2 c κs =
    let i = own c.before.before.before.before.before in
    ((_, bag-names _ _ i.kd_whole), (_, policy-names _ i.gsa_whole))

by-facts-requires : tie.Need-by_facts-requires
by-facts-requires c κs = search rules

returns : tie.Need-returns
returns c = search rules

pub of_frame_spec : {M : Type 1} → statement M
of_frame_spec =
    tie.close
    (tie.spec
    shared-slice-read-wide
    wide-requires
    exchange-of-requires
    facts-of-requires
    sub-any-unpaired
    part-any-unpaired-start
    part-any-unpaired-end
    sub-any-unpaired-2
    part-any-unpaired-start-2
    part-any-unpaired-end-2
    any-unpaired-requires
    sub-any-unpaired-3
    part-any-unpaired-start-3
    part-any-unpaired-end-3
    sub-any-unpaired-4
    part-any-unpaired-start-4
    part-any-unpaired-end-4
    any-unpaired-requires-2
    by-facts-requires
    returns)
