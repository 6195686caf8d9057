use Rattle.std.proofs.Common.{◌≡◌, ◌≤◌, ◌*◌, false, sym, length, arith, rules}
use lib.Seq.{length-take-le}
use Rattle.state_keys.specs.Limits.{limits}
use Rattle.rules_outcome.specs.Roots.{roots_of, entries_of, wrapping_size}
use Rattle.unwrap_lending.specs.inner.Lending.{place_octets}
use Rattle.receive.proofs.EntryLaws.{entries-few, entries-nonzero}
use Rattle.receive.proofs.AfterLaws.{two_lent, each_opens, some-opener}
use Rattle.receive.proofs.OpeningLaws.{named_of, named-lent, sourced-by, checked-by, formed-by, reached-by, told-by}
use Rattle.receive.proofs.opening.open_keys.Goals as goal

-- `receive::opening::open_keys` meets its contract.

pub entries_at-source-requires-clause-sourced : goal.entries_at-source-requires-clause-sourced
entries_at-source-requires-clause-sourced c =
    let p = c.requires.by_index in (p.2, sourced-by p.3)

pub lend_keys-requires-clause-held_value : goal.lend_keys-requires-clause-held_value
lend_keys-requires-clause-held_value c =
    formed-by c.requires.by_index.3

pub reach_any-found-requires-clause-entries_of : goal.reach_any-found-requires-clause-entries_of
reach_any-found-requires-clause-entries_of c =
    let a = c.args in
    let p = c.requires.by_index in
    let f = p.2 in
    let o = p.3 in
    (entries_of f, c.entries_at-source.ensures f (sourced-by o), entries-few o.bagged, entries-nonzero o.bagged)

pub reach_any-found-requires-clause-lends_held : goal.reach_any-found-requires-clause-lends_held
reach_any-found-requires-clause-lends_held c =
    let a = c.args in
    (named_of a.row a.held, named-lent a.row.names_held_keys a.held c.named_count-m.ensures c.lend_keys.ensures)

pub slice_bounds-carried-end : goal.slice_bounds-carried-end
slice_bounds-carried-end c =
    let a = c.args in
    let p = c.requires.by_index in
    let f = p.2 in
    let o = p.3 in
    let t = reached-by o _ _ _ (c.entries_at-source.ensures f (sourced-by o))
    (named-lent a.row.names_held_keys a.held c.named_count-m.ensures c.lend_keys.ensures) c.reach_any-found.result
    c.reach_any-found.ensures in
    let long : length c.reach_any-found.result.links.ids ≡ limits.wrap_keys = search rules in
    let few = t.fit.few in
    omega (arith, long, few)

pub slice_bounds-carried-end-2 : goal.slice_bounds-carried-end-2
slice_bounds-carried-end-2 c =
    let a = c.args in
    let p = c.requires.by_index in
    let f = p.2 in
    let o = p.3 in
    let t = reached-by o _ _ _ (c.entries_at-source.ensures f (sourced-by o))
    (named-lent a.row.names_held_keys a.held c.named_count-m.ensures c.lend_keys.ensures) c.reach_any-found.result
    c.reach_any-found.ensures in
    let long : length c.reach_any-found.result.links.ids ≡ limits.wrap_keys = search rules in
    let few = t.fit.few in
    omega (arith, long, few)

pub slice_bounds-lend_named-end : goal.slice_bounds-lend_named-end
slice_bounds-lend_named-end c =
    let a = c.args in
    let p = c.requires.by_index in
    let f = p.2 in
    let o = p.3 in
    let t = reached-by o _ _ _ (c.entries_at-source.ensures f (sourced-by o))
    (named-lent a.row.names_held_keys a.held c.named_count-m.ensures c.lend_keys.ensures) c.reach_any-found.result
    c.reach_any-found.ensures in
    let long : length c.reach_any-found.result.links.ids ≡ limits.wrap_keys = search rules in
    let few = t.fit.few in
    let listed = length-take-le c.reach_any-found.result.links.count c.reach_any-found.result.links.ids (omega (arith, long, few)) in
    sym listed

pub slice_bounds-open_sas-end : goal.slice_bounds-open_sas-end
slice_bounds-open_sas-end c =
    let a = c.args in
    let p = c.requires.by_index in
    let f = p.2 in
    let o = p.3 in
    let t = reached-by o _ _ _ (c.entries_at-source.ensures f (sourced-by o))
    (named-lent a.row.names_held_keys a.held c.named_count-m.ensures c.lend_keys.ensures) c.reach_any-found.result
    c.reach_any-found.ensures in
    let long : length c.reach_any-found.result.links.ids ≡ limits.wrap_keys = search rules in
    let few = t.fit.few in
    let listed = length-take-le c.reach_any-found.result.links.count c.reach_any-found.result.links.ids (omega (arith, long, few)) in
    sym listed

pub lend_named-requires-clause-reached_value : goal.lend_named-requires-clause-reached_value
lend_named-requires-clause-reached_value c =
    let a = c.args in
    let p = c.requires.by_index in
    let f = p.2 in
    let o = p.3 in
    let t = reached-by o _ _ _ (c.entries_at-source.ensures f (sourced-by o))
    (named-lent a.row.names_held_keys a.held c.named_count-m.ensures c.lend_keys.ensures) c.reach_any-found.result
    c.reach_any-found.ensures in
    t.formed

pub overflow_mul-end : goal.overflow_mul-end
overflow_mul-end c =
    let a = c.args in
    let p = c.requires.by_index in
    let f = p.2 in
    let o = p.3 in
    let t = reached-by o _ _ _ (c.entries_at-source.ensures f (sourced-by o))
    (named-lent a.row.names_held_keys a.held c.named_count-m.ensures c.lend_keys.ensures) c.reach_any-found.result
    c.reach_any-found.ensures in
    let few = t.fit.few in record { fits = omega (arith, few) }

pub slice_bounds-fresh-end : goal.slice_bounds-fresh-end
slice_bounds-fresh-end c =
    let a = c.args in
    let p = c.requires.by_index in
    let f = p.2 in
    let o = p.3 in
    let t = reached-by o _ _ _ (c.entries_at-source.ensures f (sourced-by o))
    (named-lent a.row.names_held_keys a.held c.named_count-m.ensures c.lend_keys.ensures) c.reach_any-found.result
    c.reach_any-found.ensures in
    let few = t.fit.few in
    let n : place_octets * c.reach_any-found.result.links.count ≤ place_octets * limits.held_keys = omega (arith, few) in
    omega (arith, n, c.lend_named.ensures.block-length)

pub slice_bounds-open_sas-end-2 : goal.slice_bounds-open_sas-end-2
slice_bounds-open_sas-end-2 c =
    let a = c.args in
    let p = c.requires.by_index in
    let f = p.2 in
    let o = p.3 in
    let t = reached-by o _ _ _ (c.entries_at-source.ensures f (sourced-by o))
    (named-lent a.row.names_held_keys a.held c.named_count-m.ensures c.lend_keys.ensures) c.reach_any-found.result
    c.reach_any-found.ensures in
    let few = t.fit.few in
    let n : place_octets * c.reach_any-found.result.links.count ≤ place_octets * limits.held_keys = omega (arith, few) in
    sym (length-take-le _ _ (omega (arith, n, c.lend_named.ensures.block-length)))

pub open_sas-keyed-requires-clause-lends_two : goal.open_sas-keyed-requires-clause-lends_two
open_sas-keyed-requires-clause-lends_two c =
    let a = c.args in
    let p = c.requires.by_index in
    let f = p.2 in
    let o = p.3 in
    let t = reached-by o _ _ _ (c.entries_at-source.ensures f (sourced-by o))
    (named-lent a.row.names_held_keys a.held c.named_count-m.ensures c.lend_keys.ensures) c.reach_any-found.result
    c.reach_any-found.ensures in
    let long : length c.reach_any-found.result.links.ids ≡ limits.wrap_keys = search rules in
    let few = t.fit.few in
    let listed = length-take-le c.reach_any-found.result.links.count c.reach_any-found.result.links.ids (omega (arith, long, few)) in (
      _,
      _,
      two_lent _ _ _ _ _ _ _ c.lend_named.ensures listed
          (named-lent a.row.names_held_keys a.held c.named_count-m.ensures c.lend_keys.ensures),
    )

pub open_sas-keyed-requires-clause-checks_passed : goal.open_sas-keyed-requires-clause-checks_passed
open_sas-keyed-requires-clause-checks_passed c =
    let p = c.requires.by_index in (p.2, checked-by p.3)

pub held_after-after-requires-clause-links_fit : goal.held_after-after-requires-clause-links_fit
held_after-after-requires-clause-links_fit c =
    let a = c.args in
    let p = c.requires.by_index in
    let f = p.2 in
    let o = p.3 in
    let t = reached-by o _ _ _ (c.entries_at-source.ensures f (sourced-by o))
    (named-lent a.row.names_held_keys a.held c.named_count-m.ensures c.lend_keys.ensures) c.reach_any-found.result
    c.reach_any-found.ensures in
    t.fit

pub returns : goal.returns
returns c m lent f o =
    let a = c.args in
    let t = reached-by o _ _ _ (c.entries_at-source.ensures f (sourced-by o))
    (named-lent a.row.names_held_keys a.held c.named_count-m.ensures c.lend_keys.ensures) c.reach_any-found.result
    c.reach_any-found.ensures in
    let long : length c.reach_any-found.result.links.ids ≡ limits.wrap_keys = search rules in
    let few = t.fit.few in
    let listed = length-take-le c.reach_any-found.result.links.count c.reach_any-found.result.links.ids (omega (arith, long, few)) in
    let named = named-lent a.row.names_held_keys a.held c.named_count-m.ensures c.lend_keys.ensures in
    let k = λ (e : c.reach_any-found.result.conflict ≡ false). c.open_sas-keyed.ensures (roots_of limits m a.tick lent f) (entries_of f)
    (wrapping_size limits m a.tick lent f) f _ _ (checked-by o) (two_lent _ _ _ _ _ _ _ c.lend_named.ensures listed named) (t.agrees e) in
    let h = c.held_after-after in
    record {
      conflict = t.conflict;
      keys = k;
      held = λ e g.
          told-by o h.result
          (h.ensures (roots_of limits m a.tick lent f) (entries_of f) (wrapping_size limits m a.tick lent f) f (t.kept e)
          ((k e).openers g) (some-opener _ _ _ f (each_opens _ _ _ f a.tick c.open_sas-keyed.result (k e) g)));
    }
