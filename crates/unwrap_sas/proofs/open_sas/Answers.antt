use mathlib.Core.Path.{◌≡◌}
use lib.ListN.{length}
use Rattle.state_keys.specs.Kinds.{value_of}
use Rattle.unwrap_lending.specs.inner.Lending.{key_octets}
use Rattle.unwrap_copies.proofs.Opening.{key-inside, key-count, key_fits}
use borrow.Author.Rules.{rules}
use Rattle.unwrap_sas.proofs.open_sas.Goals as goal

pub slice_bounds-octets-end : goal.slice_bounds-octets-end
slice_bounds-octets-end c =
    let e : length c.args.zero.octets ≡ key_octets = search rules in
    key-inside c.args.zero e c.requires.count_value

pub slice_bounds-expand_inverse-end : goal.slice_bounds-expand_inverse-end
slice_bounds-expand_inverse-end c =
    let e : length c.args.zero.octets ≡ key_octets = search rules in
    key-count c.args.zero e c.requires.count_value

pub expand_inverse-schedule-requires-clause-t : goal.expand_inverse-schedule-requires-clause-t
expand_inverse-schedule-requires-clause-t c =
    let e : length c.args.zero.octets ≡ key_octets = search rules in key_fits c.args.zero e c.requires.count_value

pub walk-requires-clause-opens_by : goal.walk-requires-clause-opens_by
walk-requires-clause-opens_by c =
    record {
      whole = c.requires.kd_value;
      tables-is = c.inverse_tables-tables.ensures;
      expanded = record { key = value_of c.args.zero; expands = c.expand_inverse-schedule.ensures };
      lends = c.requires.lends_two;
    }

pub returns : goal.returns
returns c roots entries size f new old y lends agrees =
    let a = c.args in
    c.walk.ensures roots entries size f y
    (record { zero = a.zero; new = new; old = old; expands = c.expand_inverse-schedule.ensures; lends = lends; agrees = agrees })
