use mathlib.Core.Path.{◌∙◌}
use Rattle.wire_view.proofs.TransformLaws.{key-there, key-is, key-none}
use Rattle.wire_view.proofs.items.key_length.Goals as goal

pub returns-then-v-eq0 : goal.returns-then-v-eq0
returns-then-v-eq0 c =
    let a = c.args in
    key-none a.place a.s.now c.value_of-v.result.now c.value_of-v.ensures.result_value.0 c.if-v-eq0.true

pub be16_at-requires : goal.be16_at-requires
be16_at-requires c = key-there c.value_of-v.result.now c.value_of-v.ensures.result_value.1 c.if-v-eq0.false

pub returns : goal.returns
returns c =
    let a = c.args in
    let v = c.value_of-v in
    c.be16_at.ensures.0 ∙ key-is a.place a.s.now v.result.now v.ensures.result_value.0
