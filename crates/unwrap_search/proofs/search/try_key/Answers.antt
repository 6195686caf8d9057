use native.Mathlib.Omega.{arith}
use Prim.Native.Nat.{ℕ}
use mathlib.Core.Path.{◌≡◌, sym, subst}
use lib.Dec.{T}
use lib.ListN.{length, take}
use lib.Seq.{length-take-le}
use Rattle.fips197.specs.Key.{is_key}
use Rattle.state_keys.proofs.Sizes.{wrapping-le}
use Rattle.unwrap_search.proofs.Loops.{unnamed-all}
use Rattle.unwrap_search.proofs.Searching.{is-key-size}
use borrow.Author.Rules.{rules}
use Rattle.unwrap_search.proofs.search.try_key.Goals as goal

pub slice_bounds-octets-end : goal.slice_bounds-octets-end
slice_bounds-octets-end c =
    let h = wrapping-le c.args.key.count c.requires.tables_value.1 in
    let e : length c.args.key.octets ≡ 32 = search rules in
    omega arith

pub slice_bounds-expand_inverse-end : goal.slice_bounds-expand_inverse-end
slice_bounds-expand_inverse-end c =
    let h = wrapping-le c.args.key.count c.requires.tables_value.1 in
    let e : length c.args.key.octets ≡ 32 = search rules in
    sym (length-take-le c.args.key.count c.args.key.octets (omega arith))

pub expand_inverse-schedule-requires-clause-t : goal.expand_inverse-schedule-requires-clause-t
expand_inverse-schedule-requires-clause-t c =
    let h = wrapping-le c.args.key.count c.requires.tables_value.1 in
    let e : length c.args.key.octets ≡ 32 = search rules in
    let n : length (take c.args.key.count c.args.key.octets) ≡ c.args.key.count =
    length-take-le c.args.key.count c.args.key.octets (omega arith) in
    subst (λ (m : ℕ). T (is_key m)) (sym n) (is-key-size c.args.key.count c.requires.tables_value.1)

pub returns-then-is_named : goal.returns-then-is_named
returns-then-is_named c l h =
    let a = c.args in
    c.try_on_all.ensures l (take a.key.count a.key.octets) h c.expand_inverse-schedule.ensures

pub returns-else-is_named : goal.returns-else-is_named
returns-else-is_named c l h =
    let a = c.args in
    unnamed-all a.id (take a.key.count a.key.octets) a.size l a.cells.now a.frame.now a.entries.now _ h
    (c.is_named.ensures c.if-is_named.false)
