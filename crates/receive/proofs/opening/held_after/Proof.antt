use native.Mathlib.Omega.{arith}
use Prim.Native.Nat.{ℕ, ◌<◌}
use mathlib.Core.Path.{◌≡◌, ap, sym, ◌∙◌, subst}
use mathlib.Core.Bool.{true, false}
use lib.ListN.{length, take}
use lib.Seq.{length-take-le}
use Rattle.state_keys.specs.Limits.{limits}
use Rattle.state.specs.Held.{held_formed}
use Rattle.state.specs.declared.held.Held.{Held}
use Rattle.rules_outcome.specs.Holding.{new_rekey, rekey_copies}
use Rattle.unwrap_copies.specs.inner.Openers.{openers_of, OpenersAre}
use Rattle.receive.specs.inner.Opening.{NextTold}
use Rattle.receive.proofs.AfterLaws.{before-formed, no-opener, by-openers}
use borrow.Author.Rules.{rules}
use Rattle.receive.proofs.opening.held_after.Statement.{statement}
use Rattle.receive.proofs.opening.held_after.Tie as tie

-- `receive::opening::held_after` meets its contract.

held-before-requires : tie.Need-held_before-old-requires
held-before-requires c κs = search rules

openers-listed-requires : tie.Need-openers_listed-n-requires
openers-listed-requires c κs = search rules

-- the list that the frame finds
formed : (c : tie.After-held_before-old) → held_formed limits c.held_before-old.result ≡ true
formed c =
    ap (held_formed limits) c.held_before-old.ensures ∙ before-formed c.args.registers c.args.held c.requires.1

returns : tie.Need-returns-then-n-eq0
returns c roots l size f kept openers some =
    let n = c.openers_listed-n in
    let o = c.held_before-old in
    let a = c.args in
    let none = sym n.ensures.1 ∙ ap (λ (x : ℕ). take x a.openers.ids) c.if-n-eq0.true in
    subst (λ (x : Held). NextTold roots l size (new_rekey f) (rekey_copies f) x (record { over = false; held = o.result })) o.ensures
    (no-opener roots l size f (openers_of a.openers) openers some o.result (formed c.before.before) none)

-- the KWK IDs that are lent
long : (c : tie.After-kwks-1) → length c.args.openers.ids ≡ 32
long c = search rules

array-share-prefix-kwks : tie.Need-slice_bounds-kwks-end
array-share-prefix-kwks c = omega (arith, long c, c.openers_listed-n.ensures.0)

slice-aggregate-held-by-path : tie.Need-slice_bounds-held_by_path-end
slice-aggregate-held-by-path c =
    let n = c.openers_listed-n in
    let a = c.args in
    sym (length-take-le n.result a.openers.ids (omega (arith, long c.before, n.ensures.0)))

some-listed : (c : tie.After-kwks-2-1) →
    0 < length (take c.openers_listed-n.result c.args.openers.ids)
some-listed c =
    let n = c.openers_listed-n in
    let a = c.args in
    let e = length-take-le n.result a.openers.ids (omega (arith, long c.before, n.ensures.0)) in
    let z = c.if-n-eq0.false in
    omega (arith, e, z)

held-by-path-requires : tie.Need-held_by_path-requires
held-by-path-requires c κs =
    (c.requires.0, (formed c.before.before.before.before, some-listed c))

returns-2 : tie.Need-returns
returns-2 c roots l size f kept openers some =
    let n = c.openers_listed-n in
    let o = c.held_before-old in
    let a = c.args in
    let listed = subst (OpenersAre roots l size (rekey_copies f)) (sym n.ensures.1) openers in
    subst (λ (x : Held). NextTold roots l size (new_rekey f) (rekey_copies f) x c.held_by_path.result) o.ensures
    (by-openers roots l size f _ listed some o.result (formed c.before.before.before.before.before) (some-listed c.before)
    c.held_by_path.result (c.held_by_path.ensures roots l size (rekey_copies f) kept listed))

pub held_after_spec : {M : Type 1} → statement M
held_after_spec =
    tie.close
    (tie.spec
    held-before-requires
    openers-listed-requires
    returns
    array-share-prefix-kwks
    slice-aggregate-held-by-path
    held-by-path-requires
    returns-2)
