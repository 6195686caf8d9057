use Rattle.std.proofs.Common.{◌≡◌, rules, ap, sym, subst, ◌∙◌}
use Rattle.check_bagkeys.specs.inner.Facts.{with_key}
use Rattle.check_bagkeys.specs.declared.wrapped.KeyFacts.{KeyFacts}
use Rattle.check_bagkeys.proofs.KeyLaws.{no_keys, KeyWalk, keys-start, keys-end, keys-next}
use Rattle.check_bagkeys.proofs.wrapped.keys_of.Goals as goal

pub loop-x-init : goal.loop-x-init
loop-x-init c =
    let a = c.args in
    let none : c.default-f.result ≡ no_keys = search rules in
    (c.requires.0, subst (λ (f : KeyFacts). KeyWalk a.m a.place a.a.now f 0) (sym none) (keys-start a.m a.place a.a.now c.requires.1))

pub loop-x-preserved : goal.loop-x-preserved
loop-x-preserved c =
    let l = c.loop-x in
    let m = c.in-Some.ensures in (
      l.invariant.0,
      keys-next _ _ _ l.f l.at l.invariant.1 _ _ m.value _
          (c.with_key-f.ensures ∙ ap (with_key l.f) (c.attribute_value.ensures.result_value ∙ m.octets)),
    )

pub returns : goal.returns
returns c =
    let l = c.loop-x in
    keys-end _ _ _ l.f l.at l.invariant.1 c.in_default.ensures.0
