use mathlib.Core.Path.{◌≡◌, refl}
use Rattle.state_keys.specs.Limits.{limits}
use Rattle.wire_frames.specs.Frame.{Frame}
use Rattle.state_table.specs.Table.{table_of}
use Rattle.rules_outcome.specs.After.{old_sas}
use Rattle.apply.specs.inner.Following.{Told}
use Rattle.apply.proofs.NextLaws.{least-told, old-made, old-room, entered-old}
use borrow.Author.Rules.{rules}
use Rattle.apply.proofs.next.next.Statement.{statement}
use Rattle.apply.proofs.next.next.Tie as tie

old-sas-requires : tie.Need-old_sas-old-requires
old-sas-requires c κs = let p = c.requires in (p.0, p.1.0)

-- the old SAs, for every frame that says this
old-is : (c : tie.After-old_sas-old) (f : Frame) →
    let a = c.args in
    Told a.s.now a.x f → c.old_sas-old.result ≡ table_of limits (old_sas a.state a.tick f)
old-is c f t = c.old_sas-old.ensures f c.args.state t refl

enter-all-requires : tie.Need-enter_all-table-requires
enter-all-requires c κs =
    let a = c.args in
    let f = c.requires.0 in
    let e = old-is c f.0 f.1 in (
      old-room a.state a.tick f.0 c.old_sas-old.result a.n e c.requires.1.1,
      old-made a.state a.tick f.0 c.old_sas-old.result e,
      c.requires.1.2,
    )

least-by-requires : tie.Need-least_by-least-requires
least-by-requires c κs = search rules

returns : tie.Need-returns
returns c =
    let a = c.args in
    λ f t. record {
      table = entered-old a.state a.tick f _ _ _ (old-is c.before.before f t) c.enter_all-table.ensures;
      held-is = refl;
      least = least-told a.x a.state a.s.now f t _ c.least_by-least.ensures;
      profile = refl;
    }

pub next_spec : {M : Type 1} → statement M
next_spec = tie.close (tie.spec old-sas-requires enter-all-requires least-by-requires returns)
