use Rattle.std.proofs.Common.{◌≡◌, length, rules, sym, ◌∙◌, ap}
use Rattle.state_keys.specs.Kinds.{key_wrap_part}
use Rattle.receive.proofs.ZeroLaws.{rekey-stands, part-stands, default-is}
use Rattle.receive.proofs.zero.default_key.Goals as goal

pub unwrap-s-requires : goal.unwrap-s-requires
unwrap-s-requires c = rekey-stands c.args.t c.requires.0 c.requires.1 c.live_rekey.result c.live_rekey.ensures

pub unwrap-requires : goal.unwrap-requires
unwrap-requires c =
    let s = c.unwrap-s.result in
    let long : length s.octets ≡ 68 = search rules in
    part-stands c.args.t c.requires.0 c.requires.1 s (sym c.live_rekey.ensures ∙ c.unwrap-s.ensures) long c.key_wrap_part.result
    (c.key_wrap_part.ensures ∙ ap key_wrap_part c.rekey_key.ensures)

pub returns : goal.returns
returns c =
    let s = c.unwrap-s.result in
    let long : length s.octets ≡ 68 = search rules in
    default-is c.args.t c.requires.0 c.requires.1 s (sym c.live_rekey.ensures ∙ c.unwrap-s.ensures) long c.unwrap.result
    (sym (c.key_wrap_part.ensures ∙ ap key_wrap_part c.rekey_key.ensures) ∙ c.unwrap.ensures)
